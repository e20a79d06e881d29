-- What seats may do after they have waited.
use Rattle.std.proofs.Common.{◌≡◌, ℕ, true, Bool, [], refl, subst}
use Rattle.std.specs.FinSet.{contains}
use Rattle.rset.specs.Sets.{Set}
use Rattle.rclaim.specs.Requests.{normalised}
use Rattle.rclaim.specs.declared.request.Kind.TheVariants as kinds
use Rattle.tests_on_threads.specs.Waiting.{WaitsToRead}
use Rattle.rguard.specs.declared.guard.Guard.{Guard}
use Rattle.rguard.specs.declared.guard.Guard.TheVariants.{Read}
use Rattle.rguard.specs.declared.pending.Looked.{Looked}
use Rattle.rguard.specs.declared.pending.Looked.TheVariants.{Ready}
use Rattle.rguard.specs.Guards.{GuardFields, WaitFields, HasSeenLawful, HasSeenOwn, Holding}
use Rattle.rguard.specs.Looks.{LooksAt}
use Rattle.rguard.proofs.Going.{goes_on}
use Rattle.rguard.proofs.Held.{may_read}

-- a seat that waited to read may read
module _ {V E : Type 0} (after : V → E → V) (taken : V → E → Bool) (number : V → ℕ) where
  pub reads_looked : {M : Type 0} (set : Set) (wait : WaitFields V E) (guard : GuardFields V E) (looked : Looked V M E) (ready : Guard V M E) (l : ℕ) → WaitsToRead set wait.seat → ready ≡ Read guard → looked ≡ Ready ready → LooksAt wait looked
      → HasSeenLawful after taken number guard.seat → HasSeenOwn guard.seat → contains set l ≡ true → Holding guard.seat l
  reads_looked {M} set wait guard looked ready l waits is_read is looks lawful own there =
      let now : LooksAt wait (Ready (Read guard)) = subst (λ (x : Guard V M E). LooksAt wait (Ready x)) is_read (subst (λ (x : Looked V M E). LooksAt wait x) is looks) in
      may_read after taken number waits.before guard.seat (normalised kinds.Read set set set 1 0) l refl (goes_on waits.before wait.seat guard.seat _ [] waits.goes now.1) lawful own now.3 there
