-- What contracts see of a machine that is watched.
use Rattle.std.specs.Prelude.{Option, List, refl}
use Rattle.std.specs.Coded.{Coded, code_by, coded×}
use Rattle.rclaim.specs.Changes.{ChangeLists, changes_code}
use Rattle.rmodel.specs.Codes.{state_code}
use Rattle.rmodel.specs.State.{LockState}
use Rattle.rwatch.specs.Codes.{watched_code}
use Rattle.rwatch.specs.Seen.{Seen}

-- the lock state, the changes of the last accepted step, and what the watchers have seen, if there are any
pub record WatchedMachine : Type 0 where
  pub state : LockState
  pub last : ChangeLists
  pub watched : Option (List Seen)

abbrev pub machine_code : Coded WatchedMachine
machine_code =
    code_by (LockState × (ChangeLists × Option (List Seen))) (coded× state_code (coded× changes_code watched_code)) (λ m. (m.state, (m.last, m.watched)))
    (λ p. record { state = p.0; last = p.1.0; watched = p.1.1 }) (λ _. refl)
