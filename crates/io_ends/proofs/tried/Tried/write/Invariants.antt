use Rattle.std.proofs.Common.{◌≡◌, ◌≤◌, ◌<◌, ◌-◌, ◌^◌}
use Rattle.std.specs.Io.KnownBytes.{Keeps}
use Rattle.io_ends.proofs.tried.Tried.write.Given as goal

abbrev pub invariant-loop-self : goal.invariant-loop-self
invariant-loop-self g l = record {
  kept : Keeps (g.W.Write.contents l.initial.self.device) (g.W.Write.contents l.self.device);
  quiet : l.self.faults ≡ l.initial.self.faults;
  unanswered : l.self.answers ≡ l.initial.self.answers;
  last : l.self.interruptions < 2 ^ 64;
  more : l.initial.self.interruptions ≤ l.self.interruptions;
}

-- each repeated try adds one interruption
abbrev pub decreases-loop-self : goal.decreases-loop-self
decreases-loop-self g l = 2 ^ 64 - 1 - l.self.interruptions
