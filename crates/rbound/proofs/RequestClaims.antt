-- The claims of a request are found among all that are needed.
use Rattle.std.proofs.Common.{◌≡◌, ◌<◌, ◌&&◌, ◌==◌, ℕ, zero, suc, Bool, true, cond, List, [], ◌∷◌, length, slice_get, Option, Some, None, option_to_list, refl, sym, ap, subst, ◌∙◌, inl, inr, arith}
use Rattle.std.specs.Prelude.{find}
use Rattle.std.proofs.lemmas.Bool.{eq-eqb, and_parts, and_from}
use Rattle.rset.specs.Sets.{Set}
use Rattle.rclaim.specs.declared.claim.Claim.{Claim}
use Rattle.rclaim.specs.declared.request.Kind.{Kind}
use Rattle.rclaim.specs.declared.request.Kind.TheVariants.{Read, Write, Mixed, Upgrade, Nested}
use Rattle.rmodel.specs.WellFormed.{Among}
use Rattle.rbound.specs.Needs.{Needed, Needs, RequestNeeds, needed_of, all_needed, is_of_request, first_need, write_need, length_of}
use Rattle.rbound.specs.TaskNeeds.{TaskNeeds, requests_of, needed_in}
use Rattle.rbound.specs.Kept.{AreClaimsOf, write_among}
use Rattle.rbound.proofs.ClaimFacts.{made_by, marked, find_needed}

-- a request is there
pub request_there : (needs : Needs) (task number : ℕ) → number < length (requests_of needs task) → (x : RequestNeeds) × (slice_get (requests_of needs task) number ≡ Some x)
request_there needs task number h = at (requests_of needs task) number h
  where
    at : (ns : List RequestNeeds) (k : ℕ) → k < length ns → (x : RequestNeeds) × (slice_get ns k ≡ Some x)
    at [] k h = absurd (omega arith)
    at (n ∷ ns) zero h = (n, refl)
    at (n ∷ ns) (suc k) h = at ns k (omega arith)

-- a second claim is a write half
second_writes : (groups : List Set) (k : Kind) (len : Claim → ℕ) (task number : ℕ) (reads writes : Set) (first v : Needed) → first ∷ v ∷ [] ≡ made_by groups k len task number reads writes → v.claim.write_half ≡ true
second_writes groups Read len task number reads writes first v is = absurd cc
second_writes groups Write len task number reads writes first v is = absurd cc
second_writes groups Mixed len task number reads writes first v is = absurd cc
second_writes groups Upgrade len task number reads writes first v is = ap (λ (ns : List Needed). second_half ns) is
  where
    second_half : List Needed → Bool
    second_half [] = true
    second_half (n ∷ []) = true
    second_half (n ∷ m ∷ ns) = m.claim.write_half
second_writes groups Nested len task number reads writes first v is = absurd cc

module _ (groups : List Set) (needs : Needs) (task number : ℕ) (x : RequestNeeds) (at : slice_get (requests_of needs task) number ≡ Some x) (first : Needed) (second : Option Needed) (are : first ∷ option_to_list second ≡ needed_of groups task number x.request) where
  is_marked : (n : Needed) → Among n (first ∷ option_to_list second) → (n.claim.seat ≡ task) × (n.claim.stamp ≡ number)
  is_marked n there = marked groups task number x.request n (subst (λ (claims : List Needed). Among n claims) are there)

  is_of : (n : Needed) → Among n (first ∷ option_to_list second) → is_of_request task number n ≡ true
  is_of n there = let m = is_marked n there in and_from (n.claim.seat == task) (n.claim.stamp == number) (eq-eqb n.claim.seat task m.0) (eq-eqb n.claim.stamp number m.1)

  pub first_is : first_need (all_needed groups needs) task number ≡ Some first
  first_is =
      find_needed groups (is_of_request task number) task number (λ n h. h) needs x at
      ∙ ap (find (is_of_request task number)) (sym are)
      ∙ ap (λ b. cond b (Some first) (find (is_of_request task number) (option_to_list second))) (is_of first (inl refl))

  pub write_is : write_need (all_needed groups needs) task number ≡ write_among first second
  write_is =
      find_needed groups (λ n. is_of_request task number n && n.claim.write_half) task number (λ n h. (and_parts (is_of_request task number n) n.claim.write_half h).0) needs x at
      ∙ ap (find (λ n. is_of_request task number n && n.claim.write_half)) (sym are)
      ∙ ap (λ b. cond (b && first.claim.write_half) (Some first) (find (λ n. is_of_request task number n && n.claim.write_half) (option_to_list second))) (is_of first (inl refl))
      ∙ ap (cond first.claim.write_half (Some first)) (rest second refl)
    where
      rest : (o : Option Needed) → second ≡ o → find (λ n. is_of_request task number n && n.claim.write_half) (option_to_list o) ≡ o
      rest None is = refl
      rest (Some v) is =
          let there : Among v (first ∷ option_to_list second) = inr (subst (λ (o : Option Needed). Among v (option_to_list o)) (sym is) (inl refl)) in
          let made = ap (λ o. first ∷ option_to_list o) (sym is) ∙ are in
          (λ i. cond (is_of v there i && second_writes groups x.request.kind (length_of x.request) task number x.request.reads x.request.writes first v made i) (Some v) None)

-- ---- by what is kept of the needs

module _ (v n : TaskNeeds) (same : v ≡ n) (task k : ℕ) (number : k < length (requests_of n.tasks task)) (first : Needed) (second : Option Needed) (are : AreClaimsOf v.groups.groups v.tasks task k (first ∷ option_to_list second)) where
  are_here : AreClaimsOf n.groups.groups n.tasks task k (first ∷ option_to_list second)
  are_here = subst (λ (u : TaskNeeds). AreClaimsOf u.groups.groups u.tasks task k (first ∷ option_to_list second)) same are

  pub first_found : first_need (needed_in n) task k ≡ Some first
  first_found = let x = request_there n.tasks task k number in first_is n.groups.groups n.tasks task k x.0 x.1 first second (are_here x.0 x.1)

  pub write_found : write_need (needed_in n) task k ≡ write_among first second
  write_found = let x = request_there n.tasks task k number in write_is n.groups.groups n.tasks task k x.0 x.1 first second (are_here x.0 x.1)
