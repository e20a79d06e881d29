-- What is noted of requests gives the lengths of claims, whatever events follow.
use Rattle.std.proofs.Common.{◌≡◌, ℕ, zero, suc, ◌+◌, ◌≤◌, ◌==◌, Bool, true, false, not, ◌&&◌, cond, List, [], ◌∷◌, ◌++◌, length, fold, map, refl, sym, ap, subst, ◌∙◌, inl, inr, arith}
use Rattle.std.proofs.lemmas.Bool.{eq-eqb}
use Rattle.std.proofs.lemmas.List.Sums.{fold-append}
use Rattle.std.specs.List.{AllByRecursion}
use Rattle.rclaim.specs.Requests.{RequestFields}
use Rattle.rclaim.specs.declared.claim.Claim.{Claim}
use Rattle.rclaim.specs.declared.event.Event.{Event}
use Rattle.rclaim.specs.declared.event.Event.TheVariants.{Issue, Finish, Rise, Ask}
use Rattle.rmodel.specs.declared.claimed.Claimed.{Claimed}
use Rattle.rmodel.specs.Claims.{claims_of, waiting}
use Rattle.rmodel.specs.Reached.{IsReached}
use Rattle.rmodel.specs.State.{LockState}
use Rattle.rmodel.specs.Steps.{changed, next, after, asking, Comes}
use Rattle.rmodel.proofs.ListFacts.{Among, all_at, all_from, among_append, among_filter, none_among}
use Rattle.rmodel.proofs.reaching.Came.{among_map, came}
use Rattle.rmodel.proofs.reaching.NewClaims.{IsNew, new_claims}
use Rattle.rmodel.proofs.reaching.Soundness.{seat_is_idle}
use Rattle.rbound.specs.Needs.{length_of}
use Rattle.rcover_laws.specs.History.{length_from, length_in, count_ask, asks_since}
use Rattle.rcover.specs.Past.{noted}

-- the number of issues only grows
grows : (s : LockState) (es : List Event) → s.issued ≤ (after s es).issued
grows s [] = omega arith
grows s (Issue seat r ∷ es) = let h = grows (next s (Issue seat r)) es in omega arith
grows s (Finish seat ∷ es) = grows (next s (Finish seat)) es
grows s (Rise seat ∷ es) = grows (next s (Rise seat)) es
grows s (Ask seat part ∷ es) = grows (next s (Ask seat part)) es

-- an issue after some events has the number of those before it
new_length : (s : LockState) (es rest : List Event) (seat : ℕ) (r : RequestFields) (c : Claim) (k : ℕ) → k + s.issued ≡ (after s es).issued → length_from (es ++ Issue seat r ∷ rest) k c ≡ length_of r c
new_length s [] rest seat r c zero is = refl
new_length s [] rest seat r c (suc k) is = absurd (omega arith)
new_length s (Issue t q ∷ es) rest seat r c zero is = (let h = grows (next s (Issue t q)) es in absurd (omega arith))
new_length s (Issue t q ∷ es) rest seat r c (suc k) is = new_length (next s (Issue t q)) es rest seat r c k (omega arith)
new_length s (Finish t ∷ es) rest seat r c k is = new_length (next s (Finish t)) es rest seat r c k is
new_length s (Rise t ∷ es) rest seat r c k is = new_length (next s (Rise t)) es rest seat r c k is
new_length s (Ask t part ∷ es) rest seat r c k is = new_length (next s (Ask t part)) es rest seat r c k is

asking_claim : (seat : ℕ) (x : Claimed) → (part : _) → (asking seat part x).claim ≡ x.claim
asking_claim seat x part = at (x.claim.seat == seat)
  where
    at : (b : Bool) → (cond b (record x { asked = part }) x).claim ≡ x.claim
    at true = refl
    at false = refl

-- the claims that an event leaves have their lengths by what is noted then
module _ (s : LockState) (reached : IsReached s) (by len : Claim → ℕ) (are : AllByRecursion (λ x. by x.claim ≡ len x.claim) s.claims) where
  old : (x : Claimed) → Among x s.claims → by x.claim ≡ len x.claim
  old x there = all_at (λ y. by y.claim ≡ len y.claim) s.claims x are there

  noted_changed : (e : Event) → Comes s e → ((seat : ℕ) (r : RequestFields) (c : Claim) → e ≡ Issue seat r → c.stamp ≡ s.issued → len c ≡ length_of r c) → (x : Claimed) → Among x (changed s e).claims → noted e by x.claim ≡ len x.claim
  noted_changed (Issue seat r) comes new x there =
      let news = map (waiting r.first) (claims_of s.groups.groups s.issued seat r) in
      elim (among_append s.claims news x there) [
        | inl was ↦
            let off = none_among (λ y. y.claim.seat == seat) s.claims x (seat_is_idle s seat r comes.accepted) was in
            ap (λ b. cond b (length_of r x.claim) (by x.claim)) off ∙ old x was
        | inr brought ↦
            let is = all_at (IsNew s.issued seat) news x (new_claims s.groups.groups s.issued seat r comes.normal).each brought in
            ap (λ b. cond b (length_of r x.claim) (by x.claim)) (eq-eqb x.claim.seat seat is.seated) ∙ sym (new seat r x.claim refl is.stamped)
      ]
  noted_changed (Finish seat) comes new x there = old x (among_filter (λ x. not (x.claim.seat == seat)) s.claims x there).0
  noted_changed (Rise seat) comes new x there = old x (among_filter (λ x. not ((x.claim.seat == seat) && not x.claim.write_half)) s.claims x there).0
  noted_changed (Ask seat part) comes new x there =
      let was = among_map (asking seat part) s.claims x there in
      let same : x.claim ≡ was.0.claim = ap (λ (z : Claimed). z.claim) was.2 ∙ asking_claim seat was.0 part in
      subst (λ (d : Claim). by d ≡ len d) (sym same) (old was.0 was.1)

  pub noted_next : (e : Event) → Comes s e → ((seat : ℕ) (r : RequestFields) (c : Claim) → e ≡ Issue seat r → c.stamp ≡ s.issued → len c ≡ length_of r c) → AllByRecursion (λ x. noted e by x.claim ≡ len x.claim) (next s e).claims
  noted_next e comes new =
      all_from (λ x. noted e by x.claim ≡ len x.claim) (next s e).claims
      (λ y there.
      let m = came s e reached comes y there in
      subst (λ (d : Claim). noted e by d ≡ len d) (sym (m.1.given.claim ∙ m.1.by_rule.same)) (noted_changed e comes new m.0 m.1.in_changed))

-- the claims of the state after some events have their lengths by what is noted, with one more event
pub lengths_next : (o : LockState) (es : List Event) (e : Event) → o.issued ≡ 0 → IsReached (after o es) → Comes (after o es) e → (by : Claim → ℕ) → (rest : List Event)
    → AllByRecursion (λ x. by x.claim ≡ length_in (es ++ e ∷ rest) x.claim) (after o es).claims → AllByRecursion (λ x. noted e by x.claim ≡ length_in (es ++ e ∷ rest) x.claim) (next (after o es) e).claims
lengths_next o es e none reached comes by rest are =
    noted_next (after o es) reached by (length_in (es ++ e ∷ rest)) are e comes
    (λ seat r c is stamped. ap (λ d. length_from (es ++ d ∷ rest) c.stamp c) is ∙ new_length o es rest seat r c c.stamp (omega arith))

-- the claims that were there keep theirs
pub lengths_stay : (s : LockState) (e : Event) (by len : Claim → ℕ) → Comes s e → AllByRecursion (λ x. by x.claim ≡ len x.claim) s.claims → AllByRecursion (λ x. noted e by x.claim ≡ len x.claim) s.claims
lengths_stay s (Issue seat r) by len comes are =
    all_from (λ x. noted (Issue seat r) by x.claim ≡ len x.claim) s.claims
    (λ x there.
    let off = none_among (λ y. y.claim.seat == seat) s.claims x (seat_is_idle s seat r comes.accepted) there in
    ap (λ b. cond b (length_of r x.claim) (by x.claim)) off ∙ all_at (λ y. by y.claim ≡ len y.claim) s.claims x are there)
lengths_stay s (Finish seat) by len comes are = are
lengths_stay s (Rise seat) by len comes are = are
lengths_stay s (Ask seat part) by len comes are = are

-- ---- asks

pub asks_more : (seat : ℕ) (es : List Event) (e : Event) → asks_since seat (es ++ e ∷ []) ≡ count_ask seat (asks_since seat es) e
asks_more seat es e = fold-append (count_ask seat) 0 es (e ∷ [])

few_asks : (seat : ℕ) (n : ℕ) (es : List Event) → fold (count_ask seat) n es ≤ n + length es
few_asks seat n [] = omega arith
few_asks seat n (e ∷ es) = let h = few_asks seat (count_ask seat n e) es in let k = one_more n e in omega arith
  where
    issued : (b : Bool) (n : ℕ) → cond b 0 n ≤ n + 1
    issued true n = omega arith
    issued false n = omega arith

    asked : (b : Bool) (n : ℕ) → cond b (n + 1) n ≤ n + 1
    asked true n = omega arith
    asked false n = omega arith

    one_more : (n : ℕ) (e : Event) → count_ask seat n e ≤ n + 1
    one_more n (Issue t r) = issued (t == seat) n
    one_more n (Finish t) = omega arith
    one_more n (Rise t) = omega arith
    one_more n (Ask t part) = asked (t == seat) n

pub asks_at_most : (seat : ℕ) (es : List Event) → asks_since seat es ≤ length es
asks_at_most seat es = let h = few_asks seat 0 es in omega arith
