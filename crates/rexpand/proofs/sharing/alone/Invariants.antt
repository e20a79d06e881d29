use Rattle.std.proofs.Common.{◌≡◌, ℕ, ◌<◌, get_or, vec_len}
use Rattle.std.specs.FinSet.{empty, insert}
use Rattle.rexpand.proofs.sharing.alone.Given as goal

abbrev pub invariant-loop-l : goal.invariant-loop-l
invariant-loop-l l = (vec_len l.shared ≡ l.l) × ((k : ℕ) → k < l.l → get_or l.shared.items k empty ≡ insert empty k)
