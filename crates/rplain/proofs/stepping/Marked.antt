-- The marks of the seats, the count of read halves and the place of a seat's first claim: what they say, and that they stay right.
use Rattle.std.proofs.Common.{◌≡◌, ◌≢◌, ℕ, ◌+◌, ◌-◌, ◌<◌, ◌≤◌, ◌==◌, nat_lt, Bool, true, false, not, ◌&&◌, ◌||◌, cond, List, [], ◌∷◌, ◌++◌, map, filter, find, length, get_or, Option, Some, None, refl, sym, ap, subst, ◌∙◌, arith}
use mir.Val.{bool_byte}
use Rattle.std.proofs.Math.ListN.{set}
use Rattle.std.proofs.lemmas.Bool.{true≢false, eqb-true, eq-eqb, and_parts, ltb-true, ltb-false, lt-ltb, le-ltb}
use Rattle.std.proofs.lemmas.List.{get_or-set_same, get_or-set_other}
use Rattle.std.proofs.lemmas.List.Folds.{find_at}
use Rattle.std.proofs.lemmas.List.Sums.{sum_by-append}
use Rattle.std.proofs.lemmas.Option.{slice_get_read, slice_get_past}
use Rattle.std.specs.List.{count_by, position, position_or_len, slice_get, list_any, AllByRecursion, AllZip}
use Rattle.std.specs.Prelude.{unwrap_or}
use Rattle.rclaim.specs.declared.claim.Claim.{Claim}
use Rattle.std.specs.Option.{option_map, is_some}
use Rattle.rclaim.specs.Events.{seat_of}
use Rattle.rclaim.specs.Requests.{RequestFields}
use Rattle.rclaim.specs.declared.event.Event.{Event}
use Rattle.rclaim.specs.declared.event.Event.TheVariants.{Issue, Rise}
use Rattle.rclaim.specs.declared.request.Kind.{Kind}
use Rattle.rclaim.specs.declared.request.Kind.TheVariants.{Read, Write, Mixed, Upgrade, Nested}
use Rattle.rset.specs.Sets.{Set}
use Rattle.rmodel.specs.declared.claimed.Claimed.{Claimed}
use Rattle.rmodel.specs.declared.refused.Refused.TheVariants.{SeatBusy, Full}
use Rattle.rmodel.specs.Changes.{SameClaim}
use Rattle.rmodel.specs.Claims.{claims_by, claims_of, is_read_half, is_upgrade, waiting}
use Rattle.rmodel.specs.Holds.{lacks, may_rise, Alone}
use Rattle.rplain.specs.Plain.{AreMarked}
use Rattle.rmodel.specs.State.{LockState}
use Rattle.rmodel.specs.Steps.{Accepts, Comes, changed, next, incomplete_of, is_not_holding, refusal}
use Rattle.rmodel.specs.Settling.{settled}
use Rattle.rplain.specs.Sweep.{is_of, is_read_of}
use Rattle.rmodel.specs.WellFormed.{EachPair, Distinct, IsSound}
use Rattle.rmodel.proofs.ListFacts.{contrary, false_from, all_append, all_at, all_of_zip, none_from}
use Rattle.rmodel.proofs.settling.Giving.{same_given}
use Rattle.rmodel.proofs.settling.Settlement.{settles_settled}
use Rattle.rplain.proofs.settling.Own.{first_tells}
use Rattle.rmodel.proofs.reaching.Soundness.{count_first, passed, same_claims, sound_changed, read_of_half}

pub unequal : (m n : ℕ) → (m == n) ≡ false → m ≢ n
unequal m n h e = true≢false (sym (eq-eqb m n e) ∙ h)

and_true : (b : Bool) → (b && true) ≡ b
and_true true = refl
and_true false = refl

and_false : (b : Bool) → (b && false) ≡ false
and_false true = refl
and_false false = refl

-- ---- marks

pub none_marked : (marks : List Bool) (xs : List Claimed) → xs ≡ [] → AreMarked marks xs
none_marked marks xs none = subst (λ (l : List Claimed). AreMarked marks l) (sym none) tt

-- a seat that is not marked has no claim
pub unmarked : (marks : List Bool) (xs : List Claimed) (seat : ℕ) → AreMarked marks xs → get_or marks seat false ≡ false → list_any (is_of seat) xs ≡ false
unmarked marks [] seat marked none = refl
unmarked marks (x ∷ xs) seat marked none =
    let other : (x.claim.seat == seat) ≡ false = false_from (x.claim.seat == seat) (λ is.
    true≢false (sym marked.0 ∙ ap (λ k. get_or marks k false) (eqb-true x.claim.seat seat is) ∙ none)) in
    (λ i. other i || unmarked marks xs seat marked.1 none i)

-- one more mark
pub still_marked : (marks : List Bool) (xs : List Claimed) (seat : ℕ) → seat < length marks → AreMarked marks xs → AreMarked (set marks seat true) xs
still_marked marks [] seat h marked = tt
still_marked marks (x ∷ xs) seat h marked = (at (x.claim.seat == seat) refl, still_marked marks xs seat h marked.1)
  where
    at : (b : Bool) → (x.claim.seat == seat) ≡ b → get_or (set marks seat true) x.claim.seat false ≡ true
    at true is = ap (λ k. get_or (set marks seat true) k false) (eqb-true x.claim.seat seat is) ∙ get_or-set_same marks seat true false h
    at false is = get_or-set_other marks seat x.claim.seat true false (unequal x.claim.seat seat is) ∙ marked.0

-- an issue marks its seat
pub issued_marked : (marks : List Bool) (xs : List Claimed) (groups : List Set) (stamp seat : ℕ) (r : RequestFields) → seat < length marks → AreMarked marks xs
    → AreMarked (set marks seat true) (xs ++ map (waiting r.first) (claims_of groups stamp seat r))
issued_marked marks xs groups stamp seat r h marked =
    all_append (λ x. get_or (set marks seat true) x.claim.seat false ≡ true) xs (map (waiting r.first) (claims_of groups stamp seat r)) (still_marked marks xs seat h marked) (by r.kind)
  where
    here : get_or (set marks seat true) seat false ≡ true
    here = get_or-set_same marks seat true false h

    by : (k : Kind) → AreMarked (set marks seat true) (map (waiting r.first) (claims_by groups k stamp seat r.reads r.writes))
    by Read = (here, tt)
    by Write = (here, tt)
    by Mixed = (here, tt)
    by Upgrade = (here, (here, tt))
    by Nested = (here, tt)

-- a finish unmarks its seat
pub finished_marked : (marks : List Bool) (xs : List Claimed) (seat : ℕ) → AreMarked marks xs → AreMarked (set marks seat false) (filter (λ x. not (is_of seat x)) xs)
finished_marked marks [] seat marked = tt
finished_marked marks (x ∷ xs) seat marked = at (x.claim.seat == seat) refl (finished_marked marks xs seat marked.1)
  where
    at : (b : Bool) → (x.claim.seat == seat) ≡ b → AreMarked (set marks seat false) (filter (λ x. not (is_of seat x)) xs)
        → AreMarked (set marks seat false) (cond (not b) (x ∷ filter (λ x. not (is_of seat x)) xs) (filter (λ x. not (is_of seat x)) xs))
    at true is rest = rest
    at false is rest = (get_or-set_other marks seat x.claim.seat false false (unequal x.claim.seat seat is) ∙ marked.0, rest)

-- ---- the first claim of a seat

placed : (p : Claimed → Bool) (xs : List Claimed) (i : ℕ) → position p xs ≡ Some i → (i ≡ position_or_len p xs) × (i < length xs)
placed p xs i is = at (nat_lt (position_or_len p xs) (length xs)) refl is
  where
    same : (m n : ℕ) → Some m ≡ Some n → n ≡ m
    same m n h = cc

    none : (n : ℕ) → None ≡ Some n → ⊥
    none n h = cc

    at : (b : Bool) → nat_lt (position_or_len p xs) (length xs) ≡ b → cond b (Some (position_or_len p xs)) None ≡ Some i → (i ≡ position_or_len p xs) × (i < length xs)
    at true less is = let e = same (position_or_len p xs) i is in (e, subst (λ (n : ℕ). n < length xs) (sym e) (ltb-true (position_or_len p xs) (length xs) less))
    at false less is = absurd (none i is)

not_placed : (p : Claimed → Bool) (xs : List Claimed) → position p xs ≡ None → length xs ≤ position_or_len p xs
not_placed p xs is = at (nat_lt (position_or_len p xs) (length xs)) refl is
  where
    some : (n : ℕ) → Some n ≡ None → ⊥
    some n h = cc

    at : (b : Bool) → nat_lt (position_or_len p xs) (length xs) ≡ b → cond b (Some (position_or_len p xs)) None ≡ None → length xs ≤ position_or_len p xs
    at true less is = absurd (some (position_or_len p xs) is)
    at false less is = ltb-false (position_or_len p xs) (length xs) less

some_stands : (p : Claimed → Bool) (xs : List Claimed) → nat_lt (position_or_len p xs) (length xs) ≡ list_any p xs
some_stands p [] = refl
some_stands p (x ∷ xs) = at (p x) (some_stands p xs)
  where
    later : (n l k : ℕ) → k ≡ 1 + l → nat_lt (1 + n) k ≡ nat_lt n l
    later n l k e = by (nat_lt n l) refl
      where
        by : (b : Bool) → nat_lt n l ≡ b → nat_lt (1 + n) k ≡ b
        by true h = let less = ltb-true n l h in lt-ltb (1 + n) k (omega (arith, less, e))
        by false h = let more = ltb-false n l h in le-ltb (1 + n) k (omega (arith, more, e))

    at : (b : Bool) → nat_lt (position_or_len p xs) (length xs) ≡ list_any p xs → nat_lt (cond (not b) (1 + position_or_len p xs) 0) (length (x ∷ xs)) ≡ (b || list_any p xs)
    at true rest = lt-ltb 0 (length (x ∷ xs)) (omega arith)
    at false rest = later (position_or_len p xs) (length xs) (length (x ∷ xs)) (omega arith) ∙ rest

-- a seat has a place exactly where it has a request
pub placed_where : (p : Claimed → Bool) (xs : List Claimed) → is_some (position p xs) ≡ list_any p xs
placed_where p xs = filled (nat_lt (position_or_len p xs) (length xs)) ∙ some_stands p xs
  where
    filled : (b : Bool) → is_some (cond b (Some (position_or_len p xs)) None) ≡ b
    filled true = refl
    filled false = refl

-- an issue is refused where its seat has a place, or where there are as many requests as the cap
pub issue_refused : (s : LockState) (e : Event) (seat : ℕ) (r : RequestFields) (place : Option ℕ) → e ≡ Issue seat r → place ≡ position (is_of (seat_of e)) s.claims
    → cond (is_some place) (Some SeatBusy) (cond (incomplete_of s == s.cap) (Some Full) None) ≡ refusal s e
issue_refused s e seat r place is placed =
    let there = placed ∙ ap (λ (e : Event). position (is_of (seat_of e)) s.claims) is in
    ap (λ b. cond b (Some SeatBusy) (cond (incomplete_of s == s.cap) (Some Full) None)) (ap is_some there ∙ placed_where (is_of seat) s.claims)
    ∙ ap (refusal s) (sym is)

-- a seat that is not marked has no place
pub none_placed : (marks : List Bool) (xs : List Claimed) (seat : ℕ) → AreMarked marks xs → get_or marks seat false ≡ false → None ≡ position (is_of seat) xs
none_placed marks xs seat marked none = sym (ap (λ b. cond b (Some (position_or_len (is_of seat) xs)) None) (some_stands (is_of seat) xs ∙ unmarked marks xs seat marked none))

module _ (seat : ℕ) (xs : List Claimed) where
  found : (i : ℕ) (x : Claimed) → position (is_of seat) xs ≡ Some i → x ≡ get_or xs i x → find (is_of seat) xs ≡ Some x
  found i x is here =
      let at = placed (is_of seat) xs i is in
      find_at (is_of seat) xs ∙ ap (slice_get xs) (sym at.0) ∙ slice_get_read xs (length xs) i x refl at.1 here

  not_found : position (is_of seat) xs ≡ None → find (is_of seat) xs ≡ None
  not_found is = find_at (is_of seat) xs ∙ slice_get_past xs (position_or_len (is_of seat) xs) (not_placed (is_of seat) xs is)

  pub first_lacks : (i : ℕ) (x : Claimed) → EachPair Alone xs → position (is_of seat) xs ≡ Some i → x ≡ get_or xs i x → lacks x ≡ is_not_holding xs seat
  first_lacks i x alone is here = sym (first_tells seat xs alone ∙ ap (λ o. unwrap_or (option_map lacks o) true) (found i x is here))

  pub none_lacks : EachPair Alone xs → position (is_of seat) xs ≡ None → true ≡ is_not_holding xs seat
  none_lacks alone is = sym (first_tells seat xs alone ∙ ap (λ o. unwrap_or (option_map lacks o) true) (not_found is))

-- the read half of an upgrade of this seat
abbrev half_of : ℕ → Claimed → Bool
half_of seat x = (x.claim.seat == seat) && is_read_half x.claim

-- no read half of a seat comes after a claim of that seat
no_half_behind : (seat : ℕ) (x : Claimed) (xs : List Claimed) → AllByRecursion (Distinct x) xs → (x.claim.seat == seat) ≡ true → list_any (half_of seat) xs ≡ false
no_half_behind seat x xs distinct is =
    none_from (half_of seat) xs (λ y there. false_from (half_of seat y) (λ half.
    let parts = and_parts (y.claim.seat == seat) (is_read_half y.claim) half in
    contrary y.claim.write_half
    (all_at (Distinct x) xs y distinct there (eqb-true x.claim.seat seat is ∙ sym (eqb-true y.claim.seat seat parts.0))).writes
    (read_of_half y.claim parts.1)))

first_half : (seat : ℕ) (xs : List Claimed) (x : Claimed) → EachPair Distinct xs → find (is_of seat) xs ≡ Some x → is_read_half x.claim ≡ may_rise xs seat
first_half seat [] x distinct is = absurd (none x is)
  where
    none : (x : Claimed) → None ≡ Some x → ⊥
    none x h = cc
first_half seat (z ∷ zs) x distinct is = at (z.claim.seat == seat) refl is (first_half seat zs x distinct.1)
  where
    the_same : Some z ≡ Some x → z ≡ x
    the_same h = cc

    or_none : (b : Bool) → (b || false) ≡ b
    or_none true = refl
    or_none false = refl

    at : (b : Bool) → (z.claim.seat == seat) ≡ b → cond b (Some z) (find (is_of seat) zs) ≡ Some x → (find (is_of seat) zs ≡ Some x → is_read_half x.claim ≡ may_rise zs seat)
        → is_read_half x.claim ≡ ((z.claim.seat == seat) && is_read_half z.claim) || may_rise zs seat
    at true of_seat is rest =
        ap (λ (y : Claimed). is_read_half y.claim) (sym (the_same is)) ∙ sym (or_none (is_read_half z.claim))
        ∙ (λ i. (sym of_seat i && is_read_half z.claim) || sym (no_half_behind seat z zs distinct.0 of_seat) i)
    at false of_seat is rest = rest is ∙ ap (λ b. (b && is_read_half z.claim) || may_rise zs seat) (sym of_seat)

none_half : (seat : ℕ) (xs : List Claimed) → find (is_of seat) xs ≡ None → false ≡ may_rise xs seat
none_half seat [] is = refl
none_half seat (z ∷ zs) is = at (z.claim.seat == seat) refl is (none_half seat zs)
  where
    some : Some z ≡ None → ⊥
    some h = cc

    at : (b : Bool) → (z.claim.seat == seat) ≡ b → cond b (Some z) (find (is_of seat) zs) ≡ None → (find (is_of seat) zs ≡ None → false ≡ may_rise zs seat)
        → false ≡ ((z.claim.seat == seat) && is_read_half z.claim) || may_rise zs seat
    at true of_seat is rest = absurd (some is)
    at false of_seat is rest = rest is ∙ ap (λ b. (b && is_read_half z.claim) || may_rise zs seat) (sym of_seat)

module _ (seat : ℕ) (xs : List Claimed) where
  pub first_rises : (i : ℕ) (x : Claimed) → EachPair Distinct xs → position (is_of seat) xs ≡ Some i → x ≡ get_or xs i x → is_read_half x.claim ≡ may_rise xs seat
  first_rises i x distinct is here = first_half seat xs x distinct (found seat xs i x is here)

  pub none_rises : position (is_of seat) xs ≡ None → false ≡ may_rise xs seat
  none_rises is = none_half seat xs (not_found seat xs is)

-- ---- read halves

-- a truth value as a number
pub as_number : (b : Bool) → bool_byte b ≡ cond b 1 0
as_number true = refl
as_number false = refl

abbrev half : Claimed → Bool
half x = is_read_half x.claim

-- the claims that are not read halves are the rest
pub whole_are : (xs : List Claimed) → length xs - count_by half xs ≡ count_by (λ x. not (is_read_half x.claim)) xs
whole_are xs = let both = sum xs in omega arith
  where
    sum : (xs : List Claimed) → count_by half xs + count_by (λ x. not (is_read_half x.claim)) xs ≡ length xs
    sum [] = refl
    sum (x ∷ xs) = at (half x) refl (sum xs)
      where
        at : (b : Bool) → half x ≡ b → count_by half xs + count_by (λ x. not (is_read_half x.claim)) xs ≡ length xs
            → count_by half (x ∷ xs) + count_by (λ x. not (is_read_half x.claim)) (x ∷ xs) ≡ length (x ∷ xs)
        at b is rest =
            let one = count_first half x xs ∙ ap (λ b. (0 + cond b 1 0) + count_by half xs) is in
            let other = count_first (λ x. not (is_read_half x.claim)) x xs ∙ ap (λ b. (0 + cond (not b) 1 0) + count_by (λ x. not (is_read_half x.claim)) xs) is in
            by b one other
          where
            by : (b : Bool) → count_by half (x ∷ xs) ≡ (0 + cond b 1 0) + count_by half xs
                → count_by (λ x. not (is_read_half x.claim)) (x ∷ xs) ≡ (0 + cond (not b) 1 0) + count_by (λ x. not (is_read_half x.claim)) xs
                → count_by half (x ∷ xs) + count_by (λ x. not (is_read_half x.claim)) (x ∷ xs) ≡ length (x ∷ xs)
            by true one other = omega (arith, one, other, rest)
            by false one other = omega (arith, one, other, rest)

-- an issue of an upgrade adds one
pub issued_halves : (xs : List Claimed) (groups : List Set) (stamp seat : ℕ) (r : RequestFields)
    → count_by half (xs ++ map (waiting r.first) (claims_of groups stamp seat r)) ≡ count_by half xs + cond (is_upgrade r.kind) 1 0
issued_halves xs groups stamp seat r = sum_by-append (λ x. cond (half x) 1 0) xs (map (waiting r.first) (claims_of groups stamp seat r)) ∙ ap (λ n. count_by half xs + n) (by r.kind)
  where
    by : (k : Kind) → count_by half (map (waiting r.first) (claims_by groups k stamp seat r.reads r.writes)) ≡ cond (is_upgrade k) 1 0
    by Read = refl
    by Write = refl
    by Mixed = refl
    by Upgrade = refl
    by Nested = refl

-- a seat has one where its upgrade may rise
one_half : (seat : ℕ) (xs : List Claimed) → EachPair Distinct xs → count_by (half_of seat) xs ≡ cond (may_rise xs seat) 1 0
one_half seat [] distinct = refl
one_half seat (x ∷ xs) distinct =
    at (half_of seat x) refl (count_first (half_of seat) x xs) (one_half seat xs distinct.1)
  where
    at : (b : Bool) → half_of seat x ≡ b → count_by (half_of seat) (x ∷ xs) ≡ (0 + cond (half_of seat x) 1 0) + count_by (half_of seat) xs
        → count_by (half_of seat) xs ≡ cond (may_rise xs seat) 1 0 → count_by (half_of seat) (x ∷ xs) ≡ cond (half_of seat x || may_rise xs seat) 1 0
    at true is first rest =
        let none = no_half_behind seat x xs distinct.0 (and_parts (x.claim.seat == seat) (is_read_half x.claim) is).0 in
        first ∙ (λ i. (0 + cond (is i) 1 0) + (rest ∙ ap (λ b. cond b 1 0) none) i) ∙ sym (λ i. cond (is i || none i) 1 0)
    at false is first rest = first ∙ (λ i. (0 + cond (is i) 1 0) + rest i) ∙ sum_none (cond (may_rise xs seat) 1 0) ∙ sym (ap (λ b. cond (b || may_rise xs seat) 1 0) is)
      where
        sum_none : (n : ℕ) → (0 + 0) + n ≡ n
        sum_none n = omega arith

-- where those of a seat are removed
halves_gone : (seat : ℕ) (goes : Claimed → Bool) → ((x : Claimed) → half x ≡ true → goes x ≡ is_of seat x) → (xs : List Claimed)
    → count_by half xs ≡ count_by half (filter (λ x. not (goes x)) xs) + count_by (half_of seat) xs
halves_gone seat goes same [] = refl
halves_gone seat goes same (x ∷ xs) =
    at (half x) (goes x) refl refl (halves_gone seat goes same xs)
  where
    stay : List Claimed → List Claimed
    stay = filter (λ x. not (goes x))

    at : (h g : Bool) → half x ≡ h → goes x ≡ g → count_by half xs ≡ count_by half (stay xs) + count_by (half_of seat) xs
        → count_by half (x ∷ xs) ≡ count_by half (cond (not (goes x)) (x ∷ stay xs) (stay xs)) + count_by (half_of seat) (x ∷ xs)
    at h g is_half is_gone rest =
        let all = count_first half x xs ∙ ap (λ b. (0 + cond b 1 0) + count_by half xs) is_half in
        let left = count_first half x (stay xs) ∙ ap (λ b. (0 + cond b 1 0) + count_by half (stay xs)) is_half in
        let of_seat = count_first (half_of seat) x xs in
        by h g is_half is_gone all left of_seat
      where
        by : (h g : Bool) → half x ≡ h → goes x ≡ g → count_by half (x ∷ xs) ≡ (0 + cond h 1 0) + count_by half xs
            → count_by half (x ∷ stay xs) ≡ (0 + cond h 1 0) + count_by half (stay xs)
            → count_by (half_of seat) (x ∷ xs) ≡ (0 + cond (half_of seat x) 1 0) + count_by (half_of seat) xs
            → count_by half (x ∷ xs) ≡ count_by half (cond (not (goes x)) (x ∷ stay xs) (stay xs)) + count_by (half_of seat) (x ∷ xs)
        by true g is_half is_gone all left first =
            let here : half_of seat x ≡ g = (λ i. sym (same x is_half) i && is_half i) ∙ and_true (goes x) ∙ is_gone in
            last g (first ∙ ap (λ b. (0 + cond b 1 0) + count_by (half_of seat) xs) here)
            ∙ ap (λ b. count_by half (cond (not b) (x ∷ stay xs) (stay xs)) + count_by (half_of seat) (x ∷ xs)) (sym is_gone)
          where
            last : (g : Bool) → count_by (half_of seat) (x ∷ xs) ≡ (0 + cond g 1 0) + count_by (half_of seat) xs
                → count_by half (x ∷ xs) ≡ count_by half (cond (not g) (x ∷ stay xs) (stay xs)) + count_by (half_of seat) (x ∷ xs)
            last true one = omega (arith, one, all, rest)
            last false one = omega (arith, one, all, left, rest)
        by false g is_half is_gone all left first =
            let here : half_of seat x ≡ false = ap (λ b. (x.claim.seat == seat) && b) is_half ∙ and_false (x.claim.seat == seat) in
            last g (first ∙ ap (λ b. (0 + cond b 1 0) + count_by (half_of seat) xs) here)
            ∙ ap (λ b. count_by half (cond (not b) (x ∷ stay xs) (stay xs)) + count_by (half_of seat) (x ∷ xs)) (sym is_gone)
          where
            last : (g : Bool) → count_by (half_of seat) (x ∷ xs) ≡ (0 + 0) + count_by (half_of seat) xs
                → count_by half (x ∷ xs) ≡ count_by half (cond (not g) (x ∷ stay xs) (stay xs)) + count_by (half_of seat) (x ∷ xs)
            last true one = omega (arith, one, all, rest)
            last false one = omega (arith, one, all, left, rest)

pub finished_halves : (seat : ℕ) (xs : List Claimed) → EachPair Distinct xs → count_by half xs ≡ count_by half (filter (λ x. not (is_of seat x)) xs) + cond (may_rise xs seat) 1 0
finished_halves seat xs distinct =
    halves_gone seat (is_of seat) (λ x h. refl) xs ∙ ap (λ n. count_by half (filter (λ x. not (is_of seat x)) xs) + n) (one_half seat xs distinct)

pub risen_halves : (seat : ℕ) (xs : List Claimed) → EachPair Distinct xs → may_rise xs seat ≡ true → count_by half xs ≡ count_by half (filter (λ x. not (is_read_of seat x)) xs) + 1
risen_halves seat xs distinct rises =
    halves_gone seat (is_read_of seat) (λ x h. ap (λ b. (x.claim.seat == seat) && not b) (read_of_half x.claim h) ∙ and_true (x.claim.seat == seat)) xs
    ∙ ap (λ n. count_by half (filter (λ x. not (is_read_of seat x)) xs) + n) (one_half seat xs distinct ∙ ap (λ b. cond b 1 0) rises)

-- an accepted rise is that of an upgrade that may rise
pub rises : (s : LockState) (seat : ℕ) → Accepts s (Rise seat) → may_rise s.claims seat ≡ true
rises s seat accepted = from_not (may_rise s.claims seat) (passed _ _ _ (passed _ _ _ accepted).1).0
  where
    from_not : (b : Bool) → not b ≡ false → b ≡ true
    from_not true h = refl
    from_not false h = sym h

-- ---- what an event leaves settles to the same claims

pub next_same : (s : LockState) (e : Event) → IsSound s → Comes s e → AllZip SameClaim (changed s e).claims (next s e).claims
next_same s e sound comes =
    let ys = (changed s e).claims in
    same_given ys (settled ys) (same_claims ys (settled ys) (settles_settled ys (sound_changed s e sound comes).well_formed))

pub same_halves : (xs ys : List Claimed) → AllZip SameClaim xs ys → count_by half xs ≡ count_by half ys
same_halves [] [] zip = refl
same_halves [] (y ∷ ys) zip = absurd zip
same_halves (x ∷ xs) [] zip = absurd zip
same_halves (x ∷ xs) (y ∷ ys) zip = count_first half x xs ∙ (λ i. (0 + cond (is_read_half (sym zip.0 i)) 1 0) + same_halves xs ys zip.1 i) ∙ sym (count_first half y ys)

pub halves_next : (s : LockState) (e : Event) → IsSound s → Comes s e → count_by half (changed s e).claims ≡ count_by half (next s e).claims
halves_next s e sound comes = same_halves (changed s e).claims (next s e).claims (next_same s e sound comes)

pub marked_next : (s : LockState) (e : Event) → IsSound s → Comes s e → (marks : List Bool) → AreMarked marks (changed s e).claims → AreMarked marks (next s e).claims
marked_next s e sound comes marks marked =
    all_of_zip (λ x. get_or marks x.claim.seat false ≡ true) SameClaim (λ y. get_or marks y.claim.seat false ≡ true) (λ x y h same. ap (λ (c : Claim). get_or marks c.seat false) same ∙ h)
    (changed s e).claims (next s e).claims marked (next_same s e sound comes)
