-- What contracts see of a machine: the lock state, and the changes of the last accepted step.
use Rattle.std.specs.Prelude.{refl}
use Rattle.std.specs.Coded.{Coded, code_by, coded×}
use Rattle.rclaim.specs.Changes.{ChangeLists, changes_code}
use Rattle.rmodel.specs.State.{LockState}
use Rattle.rmodel.specs.Codes.{state_code}

-- the lock state, and the changes of the last accepted step
pub record Standing : Type 0 where
  pub state : LockState
  pub last : ChangeLists

abbrev pub standing_code : Coded Standing
standing_code = code_by (LockState × ChangeLists) (coded× state_code changes_code) (λ m. (m.state, m.last)) (λ p. record { state = p.0; last = p.1 }) (λ _. refl)
