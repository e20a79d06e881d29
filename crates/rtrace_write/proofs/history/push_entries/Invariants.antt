use Rattle.std.proofs.Common.{◌≡◌, ◌++◌, [], true, take}
use Rattle.rtrace_form.specs.Reports.{history_lines}
use Rattle.rtrace_form.specs.Waits.{no_bounds, all_ended}
use Rattle.rtrace_write.specs.Behind.{past_in}
use Rattle.rtrace_write.specs.Gathered.{KnowsGathered}
use Rattle.rtrace_write.specs.Open.{open_told}
use Rattle.rtrace_write.specs.Stepped.{AreBehind}
use Rattle.rtrace_write.specs.Report.{told_by}
use Rattle.rtrace_write.proofs.history.push_entries.Given as goal

-- the machine and the follower are where the entries so far lead, their waits were gathered, and their lines were appended
abbrev pub invariant-loop-entry : goal.invariant-loop-entry
invariant-loop-entry l = record {
  behind : AreBehind l.machine.state l.following (past_in (told_by l.report).head (take l.entry-index l.entries));
  gathered : KnowsGathered l.gathered (past_in (told_by l.report).head (take l.entry-index l.entries)) (all_ended (told_by l.report).head (take l.entry-index l.entries));
  text : l.text ≡ l.fn.text ++ open_told l.names (history_lines true no_bounds (told_by l.report).head [] (take l.entry-index l.entries));
}
