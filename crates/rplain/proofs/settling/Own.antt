-- The claims of one seat: the first of them decides what the seat holds, and mostly it is the only one.
use Rattle.std.proofs.Common.{◌≡◌, ℕ, suc, ◌+◌, ◌<◌, ◌==◌, nat_lt, Bool, true, false, not, ◌&&◌, ◌||◌, cond, List, [], ◌∷◌, ◌++◌, filter, find, fold, length, get_or, take, drop, Option, Some, None, refl, sym, ap, subst, ◌∙◌, arith, add-one}
use Rattle.std.proofs.lemmas.Bool.{eqb-true, eq-eqb}
use Rattle.std.proofs.lemmas.List.Elements.{filter-append}
use Rattle.std.proofs.lemmas.List.Sums.{fold-append}
use Rattle.std.specs.List.{position_or_len, remove, AllByRecursion}
use Rattle.std.specs.Option.{option_map}
use Rattle.std.specs.Prelude.{unwrap_or}
use Rattle.std.specs.FinSet.{empty, len, len-empty}
use Rattle.std.specs.Ordering.{nat_cmp}
use Rattle.rset.specs.Sets.{Set}
use Rattle.rmodel.specs.declared.claimed.Claimed.{Claimed}
use Rattle.rmodel.specs.declared.granted.Granted.{Granted}
use Rattle.rplain.specs.declared.left.Left.{Left}
use Rattle.rmodel.specs.Claims.{is_read_half}
use Rattle.rmodel.specs.Holds.{nothing, both, is_nothing, held_by, lacks, holds_of, has_ask, Alone}
use Rattle.rmodel.specs.Steps.{is_not_holding}
use Rattle.rplain.specs.Sweep.{none_gone, with_left, left_by, is_of, IsLone}
use Rattle.rmodel.specs.WellFormed.{EachPair, Distinct}
use Rattle.rplain.proofs.settling.Barred.{between}
use Rattle.rmodel.proofs.ListFacts.{contrary, false_from, all_at, all_from}
use Rattle.rplain.proofs.settling.OneSwept.{pairs_at}
use Rattle.rmodel.proofs.reaching.OneOfSeat.{nothing_both, rest_holds}

module _ (seat : ℕ) where
  rest_asks : (xs : List Claimed) → AllByRecursion (λ y. (y.claim.seat == seat) ≡ true → y.asked ≡ empty) xs → has_ask xs seat ≡ false
  rest_asks [] none = refl
  rest_asks (y ∷ ys) none = (λ i. at (y.claim.seat == seat) refl i || rest_asks ys none.1 i)
    where
      at : (b : Bool) → (y.claim.seat == seat) ≡ b → (b && nat_lt 0 (len y.asked)) ≡ false
      at true is = ap (λ s. nat_lt 0 (len s)) (none.0 is) ∙ ap (nat_lt 0) (len-empty nat_cmp)
      at false is = refl

  or_none : (b : Bool) → (b || false) ≡ b
  or_none true = refl
  or_none false = refl

  none_some : {P : Type 0} → (x : Claimed) → None ≡ Some x → P
  none_some x h = cc

  some_none : {P : Type 0} → (x : Claimed) → Some x ≡ None → P
  some_none x h = cc

  -- what is held by a seat, and whether it asks, from here on
  abbrev step : Granted → Claimed → Granted
  step all x = cond (x.claim.seat == seat) (both all (held_by x)) all

  record Tells (xs : List Claimed) (x : Claimed) : Type 0 where
    holds : fold step nothing xs ≡ held_by x
    asks : has_ask xs seat ≡ nat_lt 0 (len x.asked)

  found_here : (z x : Claimed) (zs : List Claimed) → AllByRecursion (Alone z) zs → (z.claim.seat == seat) ≡ true → z ≡ x → Tells (z ∷ zs) x
  found_here z x zs alone is same =
      let of_seat : (y : Claimed) → (y.claim.seat == seat) ≡ true → z.claim.seat ≡ y.claim.seat
      = λ y is_y. eqb-true z.claim.seat seat is ∙ sym (eqb-true y.claim.seat seat is_y) in
      record {
        holds = ap (λ b. fold step (cond b (both nothing (held_by z)) nothing) zs) is
            ∙ rest_holds seat (both nothing (held_by z)) zs (all_from _ zs (λ y there is_y. (all_at (Alone z) zs y alone there (of_seat y is_y)).0))
            ∙ nothing_both seat (held_by z) ∙ ap held_by same;
        asks = ap (λ b. (b && nat_lt 0 (len z.asked)) || has_ask zs seat) is
            ∙ ap (λ b. nat_lt 0 (len z.asked) || b) (rest_asks zs (all_from _ zs (λ y there is_y. (all_at (Alone z) zs y alone there (of_seat y is_y)).1)))
            ∙ or_none (nat_lt 0 (len z.asked)) ∙ ap (λ (y : Claimed). nat_lt 0 (len y.asked)) same;
      }

  found_later : (z x : Claimed) (zs : List Claimed) → (z.claim.seat == seat) ≡ false → Tells zs x → Tells (z ∷ zs) x
  found_later z x zs is later = record {
    holds = ap (λ b. fold step (cond b (both nothing (held_by z)) nothing) zs) is ∙ later.holds;
    asks = ap (λ b. (b && nat_lt 0 (len z.asked)) || has_ask zs seat) is ∙ later.asks;
  }

  first_holds : (xs : List Claimed) (x : Claimed) → EachPair Alone xs → find (λ x. x.claim.seat == seat) xs ≡ Some x → Tells xs x
  first_holds [] x alone found = none_some x found
  first_holds (z ∷ zs) x alone found = at (z.claim.seat == seat) refl found (first_holds zs x alone.1)
    where
      at : (b : Bool) → (z.claim.seat == seat) ≡ b → cond b (Some z) (find (λ x. x.claim.seat == seat) zs) ≡ Some x
          → (find (λ x. x.claim.seat == seat) zs ≡ Some x → Tells zs x) → Tells (z ∷ zs) x
      at true is found later = found_here z x zs alone.0 is (the_same found)
        where
          the_same : Some z ≡ Some x → z ≡ x
          the_same h = cc
      at false is found later = found_later z x zs is (later found)

  none_holds : (xs : List Claimed) → find (λ x. x.claim.seat == seat) xs ≡ None → fold step nothing xs ≡ nothing
  none_holds [] found = refl
  none_holds (z ∷ zs) found = at (z.claim.seat == seat) found (none_holds zs)
    where
      at : (b : Bool) → cond b (Some z) (find (λ x. x.claim.seat == seat) zs) ≡ None → (find (λ x. x.claim.seat == seat) zs ≡ None → fold step nothing zs ≡ nothing)
          → fold step (cond b (both nothing (held_by z)) nothing) zs ≡ nothing
      at true found later = some_none z found
      at false found later = later found

  pub first_tells : (xs : List Claimed) → EachPair Alone xs → is_not_holding xs seat ≡ unwrap_or (option_map lacks (find (λ x. x.claim.seat == seat) xs)) true
  unfolding holds_of
  first_tells xs alone = at (find (λ x. x.claim.seat == seat) xs) refl
    where
      zero_members : (len (empty {R = nat_cmp}) == 0) ≡ true
      zero_members = eq-eqb _ 0 (len-empty nat_cmp)

      at : (o : Option Claimed) → find (λ x. x.claim.seat == seat) xs ≡ o → (is_nothing (fold step nothing xs) || has_ask xs seat) ≡ unwrap_or (option_map lacks o) true
      at None found = ap (λ g. is_nothing g || has_ask xs seat) (none_holds xs found) ∙ (λ i. (zero_members i && zero_members i) || has_ask xs seat)
      at (Some x) found = let told = first_holds xs x alone found in (λ i. is_nothing (told.holds i) || told.asks i)

-- ---- a claim that is not a read half is the only one of its seat

module _ (p : Claimed → Bool) where
  abbrev q : Claimed → Bool
  q y = not (p y)

  pub record First (xs : List Claimed) (n : ℕ) (d : Claimed) : Type 0 where
    pub before : AllByRecursion (λ y. p y ≡ false) (take n xs)
    pub here : p (get_or xs n d) ≡ true

  pub first_at : (n : ℕ) (xs : List Claimed) (d : Claimed) → n ≡ position_or_len p xs → n < length xs → First xs n d
  first_at n [] d is h = absurd (omega arith)
  first_at n (x ∷ xs) d is h = at (p x) refl is (λ less. first_at (position_or_len p xs) xs d refl less)
    where
      at : (b : Bool) → p x ≡ b → n ≡ cond (not b) (1 + position_or_len p xs) 0 → (position_or_len p xs < length xs → First xs (position_or_len p xs) d) → First (x ∷ xs) n d
      at true here is later = subst (λ m. First (x ∷ xs) m d) (sym is) (record { before = tt; here = here })
      at false here is later =
          let next : suc (position_or_len p xs) ≡ n = omega arith in
          let first = later (omega arith) in
          subst (λ m. First (x ∷ xs) m d) next (record { before = (here, first.before); here = first.here })

  all_left : (xs : List Claimed) → AllByRecursion (λ y. p y ≡ false) xs → filter q xs ≡ xs
  all_left [] none = refl
  all_left (x ∷ xs) none = ap (λ b. cond (not b) (x ∷ filter q xs) (filter q xs)) none.0 ∙ ap (λ l. x ∷ l) (all_left xs none.1)

  none_gone_of : (all : Left) (xs : List Claimed) → AllByRecursion (λ y. p y ≡ false) xs → fold (λ all x. cond (p x) (with_left all x) all) all xs ≡ all
  none_gone_of all [] none = refl
  none_gone_of all (x ∷ xs) none = ap (λ b. fold (λ all x. cond (p x) (with_left all x) all) (cond b (with_left all x) all) xs) none.0 ∙ none_gone_of all xs none.1

  module _ (xs : List Claimed) (n : ℕ) (d : Claimed) (h : n < length xs) (first : First xs n d) (behind : AllByRecursion (λ y. p y ≡ false) (drop (n + 1) xs)) where
    abbrev x : Claimed
    x = get_or xs n d

    pub one_goes : filter q xs ≡ remove xs n
    one_goes =
        ap (filter q) (sym (between xs n d h))
        ∙ filter-append q (take n xs) (x ∷ drop (n + 1) xs)
        ∙ ap (λ b. filter q (take n xs) ++ cond (not b) (x ∷ filter q (drop (n + 1) xs)) (filter q (drop (n + 1) xs))) first.here
        ∙ (λ i. all_left (take n xs) first.before i ++ all_left (drop (n + 1) xs) behind i)
        ∙ ap (λ m. take n xs ++ drop m xs) (add-one n)

    pub one_leaves : (read : Set) → left_by p read xs ≡ with_left (none_gone read) x
    unfolding left_by
    one_leaves read =
        let none = none_gone read in
        ap (fold (λ all x. cond (p x) (with_left all x) all) none) (sym (between xs n d h))
        ∙ fold-append (λ all x. cond (p x) (with_left all x) all) none (take n xs) (x ∷ drop (n + 1) xs)
        ∙ ap (λ a. fold (λ all x. cond (p x) (with_left all x) all) a (x ∷ drop (n + 1) xs)) (none_gone_of none (take n xs) first.before)
        ∙ ap (λ b. fold (λ all x. cond (p x) (with_left all x) all) (cond b (with_left none x) none) (drop (n + 1) xs)) first.here
        ∙ none_gone_of (with_left none x) (drop (n + 1) xs) behind

-- no claim of a seat comes after one that is not a read half
pub behind_whole : (seat n : ℕ) (xs : List Claimed) (d : Claimed) → n < length xs → EachPair Distinct xs → (get_or xs n d).claim.seat ≡ seat → is_read_half (get_or xs n d).claim ≡ false
    → AllByRecursion (λ y. is_of seat y ≡ false) (drop (n + 1) xs)
behind_whole seat n xs d h distinct of_seat whole =
    let pairs : EachPair Distinct (take n xs ++ (get_or xs n d ∷ drop (n + 1) xs)) = subst (λ (l : List Claimed). EachPair Distinct l) (sym (between xs n d h)) distinct in
    all_from _ (drop (n + 1) xs) (λ y there. false_from (y.claim.seat == seat) (λ is_y.
    contrary (is_read_half (get_or xs n d).claim)
    (all_at (Distinct (get_or xs n d)) (drop (n + 1) xs) y (pairs_at Distinct (take n xs) (get_or xs n d) (drop (n + 1) xs) pairs) there (of_seat ∙ sym (eqb-true y.claim.seat seat is_y))).reads whole))

module _ (seat : ℕ) (xs : List Claimed) (i : ℕ) (d : Claimed) (distinct : EachPair Distinct xs) (lone : IsLone (is_of seat) xs i) where
  first_lone : First (is_of seat) xs i d
  first_lone = first_at (is_of seat) i xs d lone.first lone.within

  behind_lone : AllByRecursion (λ y. is_of seat y ≡ false) (drop (i + 1) xs)
  behind_lone = behind_whole seat i xs d lone.within distinct (eqb-true (get_or xs i d).claim.seat seat first_lone.here) (lone.whole d)

  pub lone_goes : filter (λ x. not (is_of seat x)) xs ≡ remove xs i
  lone_goes = one_goes (is_of seat) xs i d lone.within first_lone behind_lone

  pub lone_leaves : (read : Set) → left_by (is_of seat) read xs ≡ with_left (none_gone read) (get_or xs i d)
  lone_leaves = one_leaves (is_of seat) xs i d lone.within first_lone behind_lone
