-- Each claim is of the request that its seat issued last.
use Rattle.std.proofs.Common.{◌≡◌, ℕ, ◌==◌, ◌&&◌, Bool, true, false, not, cond, List, [], ◌∷◌, ◌++◌, map, Some, None, inl, inr, refl, sym, ap, subst, ◌∙◌}
use Rattle.std.proofs.lemmas.Bool.{eq-eqb, eqb-true}
use Rattle.std.proofs.lemmas.List.Sums.{fold_push}
use Rattle.std.specs.List.{AllByRecursion}
use Rattle.rset.specs.Sets.{Set}
use Rattle.rclaim.specs.Requests.{RequestFields}
use Rattle.rclaim.specs.declared.claim.Claim.{Claim}
use Rattle.rclaim.specs.declared.event.Event.{Event}
use Rattle.rclaim.specs.declared.event.Event.TheVariants.{Issue, Finish, Rise, Ask}
use Rattle.rclaim.specs.declared.request.Kind.{Kind}
use Rattle.rclaim.specs.declared.request.Kind.TheVariants.{Read, Write, Mixed, Upgrade, Nested}
use Rattle.rmodel.specs.declared.claimed.Claimed.{Claimed}
use Rattle.rmodel.specs.Changes.{SameClaim}
use Rattle.rmodel.specs.Claims.{claims_by, claims_of, waiting}
use Rattle.rmodel.specs.Reached.{IsReached}
use Rattle.rmodel.specs.State.{LockState}
use Rattle.rmodel.specs.Steps.{Comes, changed, next, asking}
use Rattle.rmodel.specs.WellFormed.{Among}
use Rattle.rmodel.specs.Settling.{settled}
use Rattle.rmodel.proofs.ListFacts.{contrary, false_from, none_among, among_append, among_filter, all_at, all_from, all_of_zip}
use Rattle.rmodel.proofs.settling.Giving.{same_given}
use Rattle.rmodel.proofs.settling.Settlement.{settles_settled}
use Rattle.rmodel.proofs.reaching.Came.{among_map}
use Rattle.rmodel.proofs.reaching.Soundness.{seat_is_idle, same_claims, sound_changed}
use Rattle.rdrill.specs.Drill.{latest_after, latest_of}

-- the claim is of this request: it has its kind and, for a nested request, its sets
pub record IsClaimOf (r : RequestFields) (c : Claim) : Type 0 where
  pub kind : c.kind ≡ r.kind
  pub sets : r.kind ≡ Nested → (c.reads ≡ r.reads) × (c.writes ≡ r.writes)

-- the claim is of the request that its seat issued last
pub record HasLatest (es : List Event) (c : Claim) : Type 0 where
  pub request : RequestFields
  pub latest : latest_of es c.seat ≡ Some request
  pub of : IsClaimOf request c

-- ---- the claims of a request

module _ (groups : List Set) (stamp seat : ℕ) (r : RequestFields) where
  abbrev IsIts : Claim → Type 0
  IsIts c = (c.seat ≡ seat) × IsClaimOf r c

  read_is : {P : Type 0} → Read ≡ Nested → P
  read_is h = cc

  write_is : {P : Type 0} → Write ≡ Nested → P
  write_is h = cc

  mixed_is : {P : Type 0} → Mixed ≡ Nested → P
  mixed_is h = cc

  upgrade_is : {P : Type 0} → Upgrade ≡ Nested → P
  upgrade_is h = cc

  its_claims_by : (k : Kind) → r.kind ≡ k → AllByRecursion IsIts (claims_by groups k stamp seat r.reads r.writes)
  its_claims_by Read is = ((refl, record { kind = sym is; sets = λ n. read_is (sym is ∙ n) }), tt)
  its_claims_by Write is = ((refl, record { kind = sym is; sets = λ n. write_is (sym is ∙ n) }), tt)
  its_claims_by Mixed is = ((refl, record { kind = sym is; sets = λ n. mixed_is (sym is ∙ n) }), tt)
  its_claims_by Upgrade is = ((refl, record { kind = sym is; sets = λ n. upgrade_is (sym is ∙ n) }), ((refl, record { kind = sym is; sets = λ n. upgrade_is (sym is ∙ n) }), tt))
  its_claims_by Nested is = ((refl, record { kind = sym is; sets = λ n. (refl, refl) }), tt)

  its_claims : AllByRecursion IsIts (claims_of groups stamp seat r)
  its_claims = its_claims_by r.kind refl

-- ---- one more event

pub latest_push : (es : List Event) (e : Event) (seat : ℕ) → latest_of (es ++ e ∷ []) seat ≡ latest_after seat (latest_of es seat) e
latest_push es e seat = fold_push (latest_after seat) None es e

same_seat : (a b : ℕ) → a ≡ b → (a == b) ≡ true
same_seat a b h = eq-eqb a b h

turned : (m n : ℕ) → (n == m) ≡ false → (m == n) ≡ false
turned m n other = false_from (m == n) (λ h. contrary (n == m) (eq-eqb n m (sym (eqb-true m n h))) other)

-- an event that is not an issue of the seat leaves its latest request
still : (es : List Event) (e : Event) (c : Claim) → latest_after c.seat (latest_of es c.seat) e ≡ latest_of es c.seat → HasLatest es c → HasLatest (es ++ e ∷ []) c
still es e c same has = record { request = has.request; latest = latest_push es e c.seat ∙ same ∙ has.latest; of = has.of }

module _ (s : LockState) (es : List Event) (has : AllByRecursion (λ x. HasLatest es x.claim) s.claims) where
  old_at : (x : Claimed) → Among x s.claims → HasLatest es x.claim
  old_at x there = all_at (λ (x : Claimed). HasLatest es x.claim) s.claims x has there

  latest_changed : (e : Event) → Comes s e → (x : Claimed) → Among x (changed s e).claims → HasLatest (es ++ e ∷ []) x.claim
  latest_changed (Issue seat r) comes x there =
      let ns = map (waiting r.first) (claims_of s.groups.groups s.issued seat r) in
      elim (among_append s.claims ns x there) [
        | inl old ↦
            still es (Issue seat r) x.claim
            (ap (λ b. cond b (Some r) (latest_of es x.claim.seat)) (turned seat x.claim.seat (none_among (λ (x : Claimed). x.claim.seat == seat) s.claims x (seat_is_idle s seat r comes.accepted) old)))
            (old_at x old)
        | inr new ↦
            let c = among_map (waiting r.first) (claims_of s.groups.groups s.issued seat r) x new in
            let its = all_at (IsIts s.groups.groups s.issued seat r) (claims_of s.groups.groups s.issued seat r) c.0 (its_claims s.groups.groups s.issued seat r) c.1 in
            subst (λ (z : Claimed). HasLatest (es ++ Issue seat r ∷ []) z.claim) (sym c.2)
            (record {
              request = r;
              latest = latest_push es (Issue seat r) c.0.seat ∙ ap (λ b. cond b (Some r) (latest_of es c.0.seat)) (same_seat seat c.0.seat (sym its.0));
              of = its.1;
            })
      ]
  latest_changed (Finish seat) comes x there = still es (Finish seat) x.claim refl (old_at x (among_filter (λ x. not (x.claim.seat == seat)) s.claims x there).0)
  latest_changed (Rise seat) comes x there = still es (Rise seat) x.claim refl (old_at x (among_filter (λ x. not ((x.claim.seat == seat) && not x.claim.write_half)) s.claims x there).0)
  latest_changed (Ask seat part) comes x there =
      let found = among_map (asking seat part) s.claims x there in
      still es (Ask seat part) x.claim refl (subst (HasLatest es) (sym (ap (λ (z : Claimed). z.claim) found.2 ∙ asking_claim seat part found.0)) (old_at found.0 found.1))
    where
      asking_claim : (seat : ℕ) (part : Set) (x : Claimed) → (asking seat part x).claim ≡ x.claim
      asking_claim seat part x = at (x.claim.seat == seat)
        where
          at : (b : Bool) → (cond b (record x { asked = part }) x).claim ≡ x.claim
          at true = refl
          at false = refl

  -- each claim after the event is of the latest request of its seat
  pub latest_next : (e : Event) → IsReached s → Comes s e → AllByRecursion (λ x. HasLatest (es ++ e ∷ []) x.claim) (next s e).claims
  latest_next e reached comes =
      let xs = (changed s e).claims in
      all_of_zip (λ (x : Claimed). HasLatest (es ++ e ∷ []) x.claim) SameClaim (λ (x : Claimed). HasLatest (es ++ e ∷ []) x.claim) (λ x y h same. subst (HasLatest (es ++ e ∷ [])) (sym same) h) xs (next s e).claims
      (all_from (λ (x : Claimed). HasLatest (es ++ e ∷ []) x.claim) xs (latest_changed e comes))
      (same_given xs (settled xs) (same_claims xs (settled xs) (settles_settled xs (sound_changed s e reached.sound comes).well_formed)))
