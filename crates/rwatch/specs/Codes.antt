-- How what is seen of watchers is coded.
use Rattle.std.specs.Prelude.{◌≡◌, ℕ, ◌==◌, Option, List, refl, if◌then◌else◌}
use Rattle.std.specs.Coded.{Coded, code_by, coded_ℕ, coded×, coded_list, coded_option}
use Rattle.rclaim.specs.EventCodes.{event_code}
use Rattle.rclaim.specs.declared.event.Event.{Event}
use Rattle.rwatch.specs.Seen.{Seen}
use Rattle.rwatch.specs.declared.kinds.WatchKind.{WatchKind}
use Rattle.rwatch.specs.declared.kinds.WatchKind.TheVariants.{Issues, Finishes, Rises, Asks, Entitled, Satisfied, Grants}

-- a kind is coded as a number
abbrev pub kind_number : WatchKind → ℕ
kind_number Issues = 0
kind_number Finishes = 1
kind_number Rises = 2
kind_number Asks = 3
kind_number Entitled = 4
kind_number Satisfied = 5
kind_number Grants = 6

abbrev pub kind_from : ℕ → WatchKind
kind_from n =
    if n == 0 then Issues else (if n == 1 then Finishes else (if n == 2 then Rises else (if n == 3 then Asks else (if n == 4 then Entitled else (if n == 5 then Satisfied else Grants)))))

pub kind_from-kind_number : (k : WatchKind) → kind_from (kind_number k) ≡ k
kind_from-kind_number Issues = refl
kind_from-kind_number Finishes = refl
kind_from-kind_number Rises = refl
kind_from-kind_number Asks = refl
kind_from-kind_number Entitled = refl
kind_from-kind_number Satisfied = refl
kind_from-kind_number Grants = refl

-- a watcher is coded as the tuple of what is seen of it
abbrev pub seen_code : Coded Seen
seen_code =
    code_by (WatchKind × (ℕ × (ℕ × Option (List Event)))) (coded× (code_by ℕ coded_ℕ kind_number kind_from kind_from-kind_number) (coded× coded_ℕ (coded× coded_ℕ (coded_option (coded_list event_code)))))
    (λ w. (w.kind, (w.count, (w.room, w.kept))))
    (λ p. record { kind = p.0; count = p.1.0; room = p.1.1.0; kept = p.1.1.1 })
    (λ _. refl)

-- those who watch, if there are any
abbrev pub watched_code : Coded (Option (List Seen))
watched_code = coded_option (coded_list seen_code)
