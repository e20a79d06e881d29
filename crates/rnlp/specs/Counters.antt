-- The counters that watch for the program.
use Rattle.std.specs.Prelude.{List, [], ◌∷◌, None, map}
use Rattle.rwatch.specs.Seen.{Seen}
use Rattle.rwatch.specs.declared.kinds.WatchKind.{WatchKind}
use Rattle.rwatch.specs.declared.kinds.WatchKind.TheVariants.{Issues, Finishes, Rises, Asks, Entitled, Satisfied, Grants}

-- a counter that has seen nothing
abbrev pub fresh : WatchKind → Seen
fresh kind = record { kind = kind; count = 0; room = 0; kept = None }

-- all kinds, in their order
abbrev pub kinds : List WatchKind
kinds = Issues ∷ Finishes ∷ Rises ∷ Asks ∷ Entitled ∷ Satisfied ∷ Grants ∷ []

-- a counter of each kind
abbrev pub counters : List Seen
counters = map fresh kinds
