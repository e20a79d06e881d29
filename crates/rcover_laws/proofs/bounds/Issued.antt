-- Each claim of a state belongs to a request that the history issues, and the history gives its number and its length.
use Rattle.std.proofs.Common.{◌≡◌, ℕ, zero, suc, ◌+◌, ◌==◌, Bool, true, false, not, ◌&&◌, cond, List, [], ◌∷◌, ◌++◌, map, refl, sym, ap, subst, ◌∙◌, inl, inr, arith}
use Rattle.std.proofs.lemmas.Bool.{eq-eqb}
use Rattle.std.specs.List.{AllByRecursion}
use Rattle.rset.specs.Sets.{Set}
use Rattle.rclaim.specs.Requests.{RequestFields}
use Rattle.rclaim.specs.declared.claim.Claim.{Claim}
use Rattle.rclaim.specs.declared.event.Event.{Event}
use Rattle.rclaim.specs.declared.event.Event.TheVariants.{Issue, Finish, Rise, Ask}
use Rattle.rmodel.specs.declared.claimed.Claimed.{Claimed}
use Rattle.rmodel.specs.Claims.{claims_of, waiting}
use Rattle.rmodel.specs.Reached.{IsReached}
use Rattle.rmodel.specs.State.{LockState}
use Rattle.rmodel.specs.Steps.{changed, next, after, asking, Comes, AreAccepted}
use Rattle.rmodel.proofs.ListFacts.{Among, all_at, among_append, among_filter}
use Rattle.rmodel.proofs.reaching.Came.{among_map, came}
use Rattle.rmodel.proofs.reaching.Histories.{sizes_next}
use Rattle.rmodel.proofs.reaching.NewClaims.{IsNew, new_claims}
use Rattle.rmodel.proofs.reaching.Reached.{reached_next}
use Rattle.rbound.specs.Needs.{length_of}
use Rattle.rcover_laws.specs.History.{asks_of, requests_of, length_from, number_from}
use Rattle.rcover_laws.specs.Moments.{moments}
use Rattle.rcover_laws.proofs.bounds.Finding.{HasAt}

-- the issue of a number is by this seat, of this request
abbrev pub IsIssueAt : List Event → ℕ → ℕ → RequestFields → Type 0
IsIssueAt [] k seat r = ⊥
IsIssueAt (Issue t q ∷ es) zero seat r = (t ≡ seat) × (q ≡ r)
IsIssueAt (Issue t q ∷ es) (suc k) seat r = IsIssueAt es k seat r
IsIssueAt (Finish t ∷ es) k seat r = IsIssueAt es k seat r
IsIssueAt (Rise t ∷ es) k seat r = IsIssueAt es k seat r
IsIssueAt (Ask t part ∷ es) k seat r = IsIssueAt es k seat r

pub length_is : (es : List Event) (k seat : ℕ) (r : RequestFields) (c : Claim) → IsIssueAt es k seat r → length_from es k c ≡ length_of r c
length_is [] k seat r c at = absurd at
length_is (Issue t q ∷ es) zero seat r c at = ap (λ x. length_of x c) at.1
length_is (Issue t q ∷ es) (suc k) seat r c at = length_is es k seat r c at
length_is (Finish t ∷ es) k seat r c at = length_is es k seat r c at
length_is (Rise t ∷ es) k seat r c at = length_is es k seat r c at
length_is (Ask t part ∷ es) k seat r c at = length_is es k seat r c at

pub request_is : (es : List Event) (k seat : ℕ) (r : RequestFields) → IsIssueAt es k seat r → HasAt (requests_of seat es) (number_from es k seat) r
request_is [] k seat r at = absurd at
request_is (Issue t q ∷ es) zero seat r at =
    subst (λ (b : Bool). HasAt (cond b (record { request = q; asks = asks_of seat es } ∷ requests_of seat es) (requests_of seat es)) 0 r) (sym (eq-eqb t seat at.0)) at.1
request_is (Issue t q ∷ es) (suc k) seat r at = case (t == seat) (request_is es k seat r at)
  where
    case : (b : Bool) → HasAt (requests_of seat es) (number_from es k seat) r
        → HasAt (cond b (record { request = q; asks = asks_of seat es } ∷ requests_of seat es) (requests_of seat es)) (cond b (suc (number_from es k seat)) (number_from es k seat)) r
    case true h = h
    case false h = h
request_is (Finish t ∷ es) k seat r at = request_is es k seat r at
request_is (Rise t ∷ es) k seat r at = request_is es k seat r at
request_is (Ask t part ∷ es) k seat r at = request_is es k seat r at

-- ---- the claims of states

module _ (history : List Event) (groups : List Set) where
  -- a claim belongs to a request of the history
  pub record IsIssued (c : Claim) : Type 0 where
    pub request : RequestFields
    pub at : IsIssueAt history c.stamp c.seat request
    pub among : Among c (claims_of groups c.stamp c.seat request)

  -- the issues that are left come after those of the state
  abbrev pub AreLeft : LockState → List Event → Type 0
  AreLeft s left = (k seat : ℕ) (r : RequestFields) → IsIssueAt left k seat r → IsIssueAt history (s.issued + k) seat r

  abbrev pub AreIssued : LockState → Type 0
  AreIssued s = (x : Claimed) → Among x s.claims → IsIssued x.claim

  left_next : (s : LockState) (e : Event) (left : List Event) → AreLeft s (e ∷ left) → AreLeft (next s e) left
  left_next s (Issue t q) left all k seat r at = subst (λ (n : ℕ). IsIssueAt history n seat r) (same s.issued k) (all (suc k) seat r at)
    where
      same : (m k : ℕ) → m + suc k ≡ (m + 1) + k
      same m k = omega arith
  left_next s (Finish t) left all k seat r at = all k seat r at
  left_next s (Rise t) left all k seat r at = all k seat r at
  left_next s (Ask t part) left all k seat r at = all k seat r at

  issued_changed : (s : LockState) (e : Event) (left : List Event) → s.groups.groups ≡ groups → Comes s e → AreLeft s (e ∷ left) → AreIssued s → (x : Claimed) → Among x (changed s e).claims → IsIssued x.claim
  issued_changed s (Issue seat r) left same comes all each x there =
      let news = map (waiting r.first) (claims_of s.groups.groups s.issued seat r) in
      elim (among_append s.claims news x there) [
        | inl old ↦ each x old
        | inr new ↦
            let c = among_map (waiting r.first) (claims_of s.groups.groups s.issued seat r) x new in
            let is = all_at (IsNew s.issued seat) news x (new_claims s.groups.groups s.issued seat r comes.normal).each new in
            let is_c : x.claim ≡ c.0 = ap (λ (z : Claimed). z.claim) c.2 in
            let first : IsIssueAt history s.issued seat r = subst (λ (n : ℕ). IsIssueAt history n seat r) (omega arith) (all 0 seat r (refl, refl)) in
            record {
              request = r;
              at = subst (λ (p : ℕ × ℕ). IsIssueAt history p.0 p.1 r) (λ i. (sym is.stamped i, sym is.seated i)) first;
              among = subst (λ (p : Claim × List Set × ℕ × ℕ). Among p.0 (claims_of p.1 p.2 p.3 r)) (λ i. (sym is_c i, same i, sym is.stamped i, sym is.seated i)) c.1;
            }
      ]
  issued_changed s (Finish seat) left same comes all each x there = each x (among_filter (λ x. not (x.claim.seat == seat)) s.claims x there).0
  issued_changed s (Rise seat) left same comes all each x there = each x (among_filter (λ x. not ((x.claim.seat == seat) && not x.claim.write_half)) s.claims x there).0
  issued_changed s (Ask seat part) left same comes all each x there =
      let was = among_map (asking seat part) s.claims x there in
      subst IsIssued (sym (ap (λ (z : Claimed). z.claim) was.2 ∙ same_claim was.0 (was.0.claim.seat == seat))) (each was.0 was.1)
    where
      same_claim : (z : Claimed) (b : Bool) → (cond b (record z { asked = part }) z).claim ≡ z.claim
      same_claim z true = refl
      same_claim z false = refl

  issued_next : (s : LockState) (e : Event) (left : List Event) → IsReached s → s.groups.groups ≡ groups → Comes s e → AreLeft s (e ∷ left) → AreIssued s → AreIssued (next s e)
  issued_next s e left reached same comes all each y there =
      let m = came s e reached comes y there in
      subst IsIssued (sym (m.1.given.claim ∙ m.1.by_rule.same)) (issued_changed s e left same comes all each m.0 m.1.in_changed)

  -- what a run of events leaves
  pub record AreIssuedFrom (s : LockState) (left : List Event) : Type 0 where
    pub issued : AreIssued s
    pub left_over : AreLeft s left
    pub same : s.groups.groups ≡ groups

  pub issued_from : (s : LockState) (e : Event) (left : List Event) → IsReached s → Comes s e → AreIssuedFrom s (e ∷ left) → AreIssuedFrom (next s e) left
  issued_from s e left reached comes h = record {
    issued = issued_next s e left reached h.same comes h.left_over h.issued;
    left_over = left_next s e left h.left_over;
    same = ap (λ g. g.groups) (sizes_next s e).groups ∙ h.same;
  }

  pub issued_after : (s : LockState) (es left : List Event) → IsReached s → AreAccepted s es → AreIssuedFrom s (es ++ left) → AreIssuedFrom (after s es) left
  issued_after s [] left reached accepted h = h
  issued_after s (e ∷ es) left reached accepted h = issued_after (next s e) es left (reached_next s e reached accepted.0) accepted.1 (issued_from s e (es ++ left) reached accepted.0 h)

  pub issued_moments : (s : LockState) (es left : List Event) → IsReached s → AreAccepted s es → AreIssuedFrom s (es ++ left) → AllByRecursion (λ m. (x : Claimed) → Among x m → IsIssued x.claim) (moments s es)
  issued_moments s [] left reached accepted h = (h.issued, tt)
  issued_moments s (e ∷ es) left reached accepted h =
      (h.issued, issued_moments (next s e) es left (reached_next s e reached accepted.0) accepted.1 (issued_from s e (es ++ left) reached accepted.0 h))
