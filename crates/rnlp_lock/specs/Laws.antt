-- Laws over the values of a lock.
use Rattle.std.specs.Prelude.{ℕ, List}
use Rattle.rvalue.specs.Lawful.{AreOpenings}
use Rattle.rstate.specs.Histories.{IsListed}

-- The law holds of values that begin with these; what is taken to stand after the last is no matter
pub record HoldsOf {V : Type 0} (holds : (ℕ → V) → Type 0) (values : List V) : Type 0 where
  pub all : ℕ → V
  pub are : AreOpenings (IsListed values) all
  pub held : holds all
