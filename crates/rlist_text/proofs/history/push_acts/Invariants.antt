use Rattle.std.proofs.Common.{◌≡◌, ◌++◌, take}
use Rattle.std.specs.Prelude.{flat_map}
use Rattle.rlist_text.specs.Histories.{act_text}
use Rattle.rlist_text.proofs.history.push_acts.Given as goal

-- the lines of the acts so far were appended
abbrev pub invariant-loop-act : goal.invariant-loop-act
invariant-loop-act g l = l.page ≡ l.fn.page ++ flat_map (act_text g.T.Worded.words l.resources) (take l.act-index l.acts)
