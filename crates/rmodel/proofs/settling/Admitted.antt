-- Claims stay such as groups admit: those that an event brings are, and settling changes no claim.
use Rattle.std.proofs.Common.{◌≡◌, ℕ, ◌==◌, true, not, ◌&&◌, ◌||◌, List, map, refl, sym, subst}
use Rattle.std.specs.List.{AllZip}
use Rattle.rexpand.specs.Groups.{is_declared}
use Rattle.std.proofs.lemmas.Bool.{true≢false}
use Rattle.rset.specs.Sets.{Set}
use Rattle.rclaim.specs.declared.request.Kind.{Kind}
use Rattle.rclaim.specs.declared.request.Kind.TheVariants.{Read, Write, Mixed, Upgrade, Nested}
use Rattle.rclaim.specs.declared.claim.Claim.{Claim}
use Rattle.rclaim.specs.declared.event.Event.{Event}
use Rattle.rclaim.specs.declared.event.Event.TheVariants.{Issue, Finish, Rise, Ask}
use Rattle.rmodel.specs.declared.claimed.Claimed.{Claimed}
use Rattle.rmodel.specs.Claims.{needs_declared, claims_by, claims_of, waiting}
use Rattle.rmodel.specs.Rules.{Settles}
use Rattle.rmodel.specs.State.{LockState}
use Rattle.rmodel.specs.Steps.{Fits, changed, asking, given}
use Rattle.rmodel.specs.WellFormed.{IsAdmittedBy, AreAdmittedBy}
use Rattle.rmodel.proofs.ListFacts.{all_append, all_filter, all_of_zip}
use Rattle.rmodel.proofs.reaching.Soundness.{SameClaim, same_claims, asking_same, given_same}

-- the claims of a request that is admitted
admitted_claims : (groups : List Set) (k : Kind) (stamp seat : ℕ) (reads writes first : Set) → (not (needs_declared k) || is_declared groups reads) ≡ true
    → AreAdmittedBy groups (map (waiting first) (claims_by groups k stamp seat reads writes))
admitted_claims groups Read stamp seat reads writes first admitted = (record { declared = λ _. admitted; expanded = λ w. absurd (true≢false (sym w)) }, tt)
admitted_claims groups Write stamp seat reads writes first admitted = (record { declared = λ w. absurd (true≢false w); expanded = λ _. refl }, tt)
admitted_claims groups Mixed stamp seat reads writes first admitted = (record { declared = λ w. absurd (true≢false w); expanded = λ _. refl }, tt)
admitted_claims groups Upgrade stamp seat reads writes first admitted = (
  record { declared = λ _. admitted; expanded = λ w. absurd (true≢false (sym w)) },
  (record { declared = λ w. absurd (true≢false w); expanded = λ _. refl }, tt),
)
admitted_claims groups Nested stamp seat reads writes first admitted = (record { declared = λ w. absurd (true≢false w); expanded = λ _. refl }, tt)

-- the same claims are admitted
same_admitted : (groups : List Set) (s t : List Claimed) → AreAdmittedBy groups s → AllZip SameClaim s t → AreAdmittedBy groups t
same_admitted groups s t admitted same =
    all_of_zip (λ x. IsAdmittedBy groups x.claim) SameClaim (λ y. IsAdmittedBy groups y.claim) (λ x y is e. subst (λ (c : Claim). IsAdmittedBy groups c) (sym e) is) s t admitted same

pub admitted_changed : (s : LockState) (e : Event) → Fits s e → AreAdmittedBy s.groups.groups s.claims → AreAdmittedBy (changed s e).groups.groups (changed s e).claims
admitted_changed s (Issue seat r) fits had =
    all_append (λ x. IsAdmittedBy s.groups.groups x.claim) s.claims (map (waiting r.first) (claims_of s.groups.groups s.issued seat r)) had
    (admitted_claims s.groups.groups r.kind s.issued seat r.reads r.writes r.first fits.admitted)
admitted_changed s (Finish seat) fits had = all_filter (λ x. IsAdmittedBy s.groups.groups x.claim) (λ x. not (x.claim.seat == seat)) s.claims had
admitted_changed s (Rise seat) fits had = all_filter (λ x. IsAdmittedBy s.groups.groups x.claim) (λ x. not ((x.claim.seat == seat) && not x.claim.write_half)) s.claims had
admitted_changed s (Ask seat part) fits had = same_admitted s.groups.groups s.claims (map (asking seat part) s.claims) had (asking_same seat part s.claims)

pub admitted_settled : (groups : List Set) (s t : List Claimed) → AreAdmittedBy groups s → Settles s t → AreAdmittedBy groups t
admitted_settled groups s t admitted settles = same_admitted groups s t admitted (same_claims s t settles)

pub admitted_given : (groups : List Set) (s : List Claimed) → AreAdmittedBy groups s → AreAdmittedBy groups (given s)
admitted_given groups s admitted = same_admitted groups s (given s) admitted (given_same s)
