-- The passes of a gate: those of its seats, and after them that of its scribe.
use Rattle.std.proofs.Common.{◌≡◌, ℕ, zero, suc, ◌+◌, ◌<◌, ◌≤◌, List, [], ◌∷◌, ◌++◌, length, Some, refl, sym, ap, subst, ◌∙◌, inl, inr, ◌⊎◌, arith, length-append}
use Rattle.std.specs.Prelude.{slice_get, All, Any}
use Rattle.std.proofs.lemmas.Bool.{cases_lt}
use Rattle.std.proofs.lemmas.Option.{get_or_from_slice_get}
use Rattle.rlock.specs.Known.{GateId, Site, newcomer}
use Rattle.rstate.specs.Contents.{Contents}
use Rattle.rstate.proofs.homes.Lists.{same_item}
use Rattle.rguard.specs.Scribes.{IsScribeOf}
use Rattle.rguard.specs.Seats.{SeatOf, IsOf, IsIdle}

get_front : {X : Type 0} (xs ys : List X) (k : ℕ) → k < length xs → slice_get xs k ≡ slice_get (xs ++ ys) k
get_front [] ys k less = absurd (omega arith)
get_front (x ∷ xs) ys zero less = refl
get_front (x ∷ xs) ys (suc k) less = get_front xs ys k (omega arith)

get_last : {X : Type 0} (xs : List X) (y : X) → slice_get (xs ++ y ∷ []) (length xs) ≡ Some y
get_last [] y = refl
get_last (x ∷ xs) y = get_last xs y

-- all passes but the last one, and the last one
module _ {X : Type 0} (all first : List X) (last : X) (is : all ≡ first ++ last ∷ []) (n : ℕ) (count : length all ≡ n + 1) where
  pub first_count : length first ≡ n
  first_count = omega (arith, count, ap length is, length-append first (last ∷ []))

  pub first_each : (f : ℕ → X) → ((k : ℕ) → k < n + 1 → slice_get all k ≡ Some (f k)) → (k : ℕ) → k < n → slice_get first k ≡ Some (f k)
  first_each f each k less =
      get_front first (last ∷ []) k (subst (λ m. k < m) (sym first_count) less) ∙ ap (λ xs. slice_get xs k) (sym is) ∙ each k (omega arith)

  pub last_is : (x : X) → slice_get all n ≡ Some x → last ≡ x
  last_is x there = same_item last x (sym (get_last first last) ∙ (λ i. slice_get (sym is i) (first_count i)) ∙ there)

-- a new gate with so many seats and one more pass: its seats, and its scribe
module _ {V E : Type 0} (site : Site) (all first : List (SeatOf V E)) (last : SeatOf V E) (n : ℕ) (gate : GateId) (passes : ℕ) (state c : Contents V E)
    (is : all ≡ first ++ last ∷ []) (count : length all ≡ n + 1) (each : (k : ℕ) → k < n + 1 → slice_get all k ≡ Some (newcomer gate k state.beginning state)) (state_is : state ≡ c)
    (site_is : site ≡ record { gate = gate; seats = n; passes = passes }) (passes_are : passes ≡ n + 1) where
  abbrev fresh : ℕ → SeatOf V E
  fresh k = newcomer site.gate k c.beginning c

  each_fresh : (k : ℕ) → k < n + 1 → slice_get all k ≡ Some (fresh k)
  each_fresh k less = each k less ∙ (λ i. let x : SeatOf V E = newcomer ((sym site_is i).gate) k (state_is i).beginning (state_is i) in Some x)

  pub each_new : (k : ℕ) → k < n → slice_get first k ≡ Some (fresh k)
  each_new = first_each all first last is n count fresh each_fresh

  pub last_new : last ≡ fresh n
  last_new = last_is all first last is n count (fresh n) (each_fresh n (omega arith))

  module _ (seats : c.beginning.seats ≡ n) where
    all_seats : c.beginning.seats ≡ site.seats
    all_seats = seats ∙ ap (λ (s : Site). s.seats) (sym site_is)

    all_within : site.seats ≤ site.passes
    all_within = subst (λ (s : Site). s.seats ≤ s.passes) (sym site_is) (omega (arith, passes_are))

    pub is_scribe : IsScribeOf site last
    is_scribe = subst (λ (x : SeatOf V E). IsScribeOf site x) (sym last_new) (record {
      gate = refl;
      began = c.beginning;
      opening = refl;
      all = all_seats;
      behind = ap (λ (s : Site). s.seats) (sym site_is);
      only = ap (λ (s : Site). s.passes) site_is ∙ passes_are ∙ ap (λ (s : Site). s.seats + 1) (sym site_is);
      nothing = refl;
    })

    pub are_seats : c.beginning.seats ≤ c.beginning.cap → All (λ seat. IsOf site seat × IsIdle seat) first
    are_seats enough k d less =
        let below : k < n = subst (λ m. k < m) (first_count all first last is n count) less in
        subst (λ (x : SeatOf V E). IsOf site x × IsIdle x) (sym (get_or_from_slice_get first k (fresh k) d (each_new k below))) (
          record { gate = refl; began = c.beginning; opening = refl; there = subst (λ m. k < m) (sym seats) below; all = all_seats; within = all_within; enough = enough },
          refl,
        )

-- each pass is that of a seat, or that of the scribe
pub seat_or_scribe : {V E : Type 0} (site : Site) (seats : List (SeatOf V E)) (scribe : SeatOf V E) → IsScribeOf site scribe → ((n : ℕ) → n < site.seats → Any (λ k. k.number ≡ n) seats)
    → (passes : ℕ) → passes ≡ site.passes → (n : ℕ) → n < passes → Any (λ k. k.number ≡ n) seats ⊎ (scribe.number ≡ n)
seat_or_scribe {V} {E} site seats scribe of all passes same n low = by_size (cases_lt n site.seats)
  where
    last : (n s p q : ℕ) → n < p → p ≡ q → q ≡ s + 1 → s ≤ n → s ≡ n
    last n s p q low same only above = omega arith

    by_size : (n < site.seats) ⊎ (site.seats ≤ n) → Any (λ (k : SeatOf V E). k.number ≡ n) seats ⊎ (scribe.number ≡ n)
    by_size (inl less) = inl (all n less)
    by_size (inr above) = inr (of.behind ∙ last n site.seats passes site.passes low same of.only above)
