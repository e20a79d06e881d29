-- A finish and a rise leave the claims of a settled list, without some of them.
use Rattle.std.proofs.Common.{◌≡◌, Bool, not, filter, List, subst}
use Rattle.rset.specs.Sets.{Set}
use Rattle.rclaim.specs.declared.event.Event.{Event}
use Rattle.rmodel.specs.declared.claimed.Claimed.{Claimed}
use Rattle.rmodel.specs.Reached.{IsReached, KeptBehind}
use Rattle.rmodel.specs.Settling.{settled}
use Rattle.rmodel.specs.State.{LockState}
use Rattle.rmodel.specs.Steps.{changed, Comes}
use Rattle.rplain.specs.Sweep.{left_by, AreReadWithin, IsLeft}
use Rattle.rmodel.specs.WellFormed.{EachPair, AreWellFormed}
use Rattle.rmodel.proofs.ListFacts.{all_filter}
use Rattle.rmodel.proofs.reaching.Reached.{behind_next}
use Rattle.rplain.proofs.settling.Removed.{is_left}
use Rattle.rmodel.proofs.reaching.Soundness.{sound_changed}

pub is_left_by : (s : LockState) (e : Event) (goes : Claimed → Bool) (read : Set) → IsReached s → AreReadWithin read s.claims → Comes s e → (changed s e).claims ≡ filter (λ x. not (goes x)) s.claims
    → IsLeft (filter (λ x. not (goes x)) s.claims) (left_by goes read s.claims)
is_left_by s e goes read reached within comes is =
    is_left s.groups.groups goes read s.claims reached.stable (record { well_formed = reached.sound.well_formed; entered = reached.entered; apart = reached.apart }) reached.admitted
    (subst AreWellFormed is (sound_changed s e reached.sound comes).well_formed)
    (all_filter _ (λ x. not (goes x)) s.claims within)
    (subst (λ (xs : List Claimed). EachPair KeptBehind (settled xs)) is (behind_next s e reached comes))
