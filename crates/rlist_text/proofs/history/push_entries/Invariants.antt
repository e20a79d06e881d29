use Rattle.std.proofs.Common.{◌≡◌, ◌++◌, take}
use Rattle.std.specs.Prelude.{flat_map}
use Rattle.rlist_text.specs.Histories.{entry_text}
use Rattle.rlist_text.proofs.history.push_entries.Given as goal

-- the lines of the entries so far were appended
abbrev pub invariant-loop-entry : goal.invariant-loop-entry
invariant-loop-entry g l = l.page ≡ l.fn.page ++ flat_map (entry_text g.T.Worded.words l.names l.resources) (take l.entry-index l.entries)
