use Rattle.std.proofs.Common.{◌≡◌}
use Rattle.rguard.specs.declared.kind.GuardKind.TheVariants as kinds
use Rattle.rguard.specs.Resting.{IsAt, all_with}
use Rattle.tests_on_threads.specs.Waiting.{WaitsToRead}
use Rattle.tests_on_threads.proofs.looks.wait_to_read.Given as goal

abbrev pub invariant-loop : goal.invariant-loop
invariant-loop g l = IsAt (all_with l.group) l.lock l.waiting.seat × (l.waiting.kind ≡ kinds.Read) × WaitsToRead l.group l.waiting.seat
