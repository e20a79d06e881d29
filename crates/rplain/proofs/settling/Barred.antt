-- A write that has a place among the bars of earlier writes has no way.
use Rattle.std.proofs.Common.{◌≡◌, ℕ, ◌+◌, ◌<◌, ◌≤◌, ◌==◌, Bool, true, false, not, ◌&&◌, ◌||◌, cond, List, [], ◌∷◌, ◌++◌, length, get_or, take, drop, nat_lt, refl, sym, ap, ◌∙◌, arith, add-one, true≢false}
use Rattle.std.proofs.Math.Seq.{drop-cons}
use Rattle.std.proofs.lemmas.Bool.{eqb-true}
use Rattle.std.proofs.lemmas.Bool.Decides.{nat_tests}
use Rattle.std.proofs.lemmas.List.{take-append-drop}
use Rattle.std.proofs.lemmas.List.Folds.{list_all-append}
use Rattle.std.specs.List.{list_all, list_any, AllByRecursion}
use Rattle.std.specs.FinSet.{empty, len, empty_of_len}
use Rattle.rset.specs.Sets.{Set, meets}
use Rattle.rset.proofs.SetLemmas.{meets_within_left, meets_empty_right}
use Rattle.rclaim.specs.declared.claim.Claim.{Claim}
use Rattle.rmodel.specs.declared.claimed.Claimed.{Claimed}
use Rattle.rmodel.specs.Claims.{share_place, is_satisfied}
use Rattle.rplain.specs.NewClaim.{is_past}
use Rattle.rmodel.specs.Rules.{is_earlier_write}
use Rattle.rmodel.specs.Settling.{bars_of, is_clear, has_way, read_near}
use Rattle.rmodel.specs.WellFormed.{EachPair, Rises, IsClaim, AreWellFormed}
use Rattle.rmodel.proofs.ListFacts.{all_weaker}
use Rattle.rmodel.proofs.settling.Settlement.{gathered}

both_of : (a b : Bool) → (a && b) ≡ true → (a ≡ true) × (b ≡ true)
both_of true b h = (refl, h)
both_of false b h = absurd (true≢false (sym h))

and_false : (a b : Bool) → b ≡ false → (a && b) ≡ false
and_false true b h = h
and_false false b h = refl

-- what each claim before c must satisfy for c to have way
clear_at : Claim → Set → Claimed → Bool
clear_at c away v = not (is_earlier_write c v.claim && share_place v.claim c) || (is_satisfied v && not (meets v.claim.writes away))

-- the resources by which a claim bars later ones, if it is a write
bars_with : Claimed → Set
bars_with v = cond (is_satisfied v) v.claim.writes v.claim.places

-- a claim is a write before c, and bars it
bars : Claimed → Claimed → Bool
bars c v = v.claim.write_half && meets (bars_with v) c.claim.places

fails_by : (e m p s : Bool) → e ≡ true → p ≡ true → (s ≡ true → m ≡ true) → (not (e && p) || (s && not m)) ≡ false
fails_by true m true false a b h = refl
fails_by true true true true a b h = refl
fails_by true false true true a b h = absurd (true≢false (sym (h refl)))
fails_by true m false s a b h = absurd (true≢false (sym b))
fails_by false m p s a b h = absurd (true≢false (sym a))

-- a write before c that bars it fails this test
fails_at : (v : Claimed) (c : Claimed) → Rises v c → IsClaim v.claim → bars c v ≡ true → clear_at c.claim c.claim.places v ≡ false
unfolding clear_at bars bars_with
fails_at v c rises is h =
    let parts = both_of v.claim.write_half (meets (bars_with v) c.claim.places) h in
    let below : nat_lt v.claim.stamp c.claim.stamp ≡ true = (let less = rises.after_write parts.0 in grind (arith, nat_tests)) in
    fails_by (v.claim.write_half && nat_lt v.claim.stamp c.claim.stamp) (meets v.claim.writes c.claim.places) (share_place v.claim c.claim) (is_satisfied v)
    ((λ i. parts.0 i && below i))
    (shares (is_satisfied v) parts.1)
    (λ sat. ap (λ b. meets (cond b v.claim.writes v.claim.places) c.claim.places) (sym sat) ∙ parts.1)
  where
    shares : (s : Bool) → meets (cond s v.claim.writes v.claim.places) c.claim.places ≡ true → share_place v.claim c.claim ≡ true
    shares true m = meets_within_left v.claim.writes v.claim.places c.claim.places (is.writes_placed (both_of v.claim.write_half (meets (bars_with v) c.claim.places) h).0) m
    shares false m = m

fails_among : (done : List Claimed) (c : Claimed) → AllByRecursion (λ v. Rises v c) done → AllByRecursion (λ v. IsClaim v.claim) done
    → list_any (bars c) done ≡ true → list_all (clear_at c.claim c.claim.places) done ≡ false
fails_among [] c rises are h = absurd (true≢false (sym h))
fails_among (v ∷ done) c rises are h = at (bars c v) refl (λ later. fails_among done c rises.1 are.1 later)
  where
    at : (b : Bool) → bars c v ≡ b
        → (list_any (bars c) done ≡ true → list_all (clear_at c.claim c.claim.places) done ≡ false)
        → (clear_at c.claim c.claim.places v && list_all (clear_at c.claim c.claim.places) done) ≡ false
    at true e among = ap (λ t. t && list_all (clear_at c.claim c.claim.places) done) (fails_at v c rises.0 are.0 e)
    at false e among =
        and_false (clear_at c.claim c.claim.places v) _ (among (ap (λ t. t || list_any (bars c) done) (sym e) ∙ h))

-- the claims before one in a well-formed list rise to it
pub rise_to : (done rest : List Claimed) (x : Claimed) → EachPair Rises (done ++ x ∷ rest) → AllByRecursion (λ v. Rises v x) done
rise_to [] rest x h = tt
rise_to (v ∷ done) rest x h = (here done h.0, rise_to done rest x h.1)
  where
    here : (ys : List Claimed) → AllByRecursion (Rises v) (ys ++ x ∷ rest) → Rises v x
    here [] a = a.0
    here (y ∷ ys) a = here ys a.1

pub front : (done rest : List Claimed) → AllByRecursion (λ v. IsClaim v.claim) (done ++ rest) → AllByRecursion (λ v. IsClaim v.claim) done
front [] rest h = tt
front (v ∷ done) rest h = (h.0, front done rest h.1)

pub barred_in : (done rest : List Claimed) (x : Claimed) → AreWellFormed (done ++ x ∷ rest) → meets (bars_of done) x.claim.places ≡ true → has_way (done ++ x ∷ rest) x.claim ≡ false
unfolding bars_of has_way is_clear clear_at bars bars_with
barred_in done rest x well h =
    let some : list_any (bars x) done ≡ true = sym (gathered (λ v. v.claim.write_half) bars_with x.claim.places done) ∙ h in
    let none : list_all (clear_at x.claim x.claim.places) done ≡ false = fails_among done x (rise_to done rest x well.rising) (front done (x ∷ rest) well.claims) some in
    ap (λ b. b && list_all (clear_at x.claim (read_near (done ++ x ∷ rest) x.claim.places)) (done ++ x ∷ rest))
    (list_all-append (clear_at x.claim x.claim.places) done (x ∷ rest) ∙ ap (λ b. b && list_all (clear_at x.claim x.claim.places) (x ∷ rest)) none)

-- a claim at a place, between those before and after it
pub between : (xs : List Claimed) (i : ℕ) (d : Claimed) → i < length xs → take i xs ++ (get_or xs i d ∷ drop (i + 1) xs) ≡ xs
between xs i d h = ap (λ r. take i xs ++ r) (sym (drop-cons xs i d h ∙ ap (λ n. get_or xs i d ∷ drop n xs) (sym (add-one i)))) ∙ take-append-drop i xs

-- ---- a write that has no place among the bars

clear_by : (w l s : Bool) (writes places away : Set) → (w && meets (cond s writes places) away) ≡ false → (not ((w && l) && meets places away) || (s && not (meets writes away))) ≡ true
clear_by false l s writes places away h = refl
clear_by true l true writes places away h = ap (λ m. not (l && meets places away) || not m) h ∙ or_true (not (l && meets places away))
  where
    or_true : (b : Bool) → (b || true) ≡ true
    or_true true = refl
    or_true false = refl
clear_by true l false writes places away h = ap (λ m. not (l && m) || false) h ∙ none l
  where
    none : (b : Bool) → (not (b && false) || false) ≡ true
    none true = refl
    none false = refl

clear_among : (done : List Claimed) (c : Claimed) → list_any (bars c) done ≡ false → list_all (clear_at c.claim c.claim.places) done ≡ true
unfolding clear_at bars bars_with
clear_among [] c h = refl
clear_among (v ∷ done) c h =
    let parts = neither (bars c v) (list_any (bars c) done) h in
    (λ i.
    clear_by v.claim.write_half (nat_lt v.claim.stamp c.claim.stamp) (is_satisfied v) v.claim.writes v.claim.places c.claim.places parts.0 i
    && clear_among done c parts.1 i)
  where
    neither : (a b : Bool) → (a || b) ≡ false → (a ≡ false) × (b ≡ false)
    neither true b h = absurd (true≢false h)
    neither false b h = (refl, h)

-- a claim whose stamp is not below that of c passes
clear_later : (v c : Claimed) → c.claim.stamp ≤ v.claim.stamp → clear_at c.claim c.claim.places v ≡ true
unfolding clear_at
clear_later v c late =
    let not_below : nat_lt v.claim.stamp c.claim.stamp ≡ false = grind (arith, nat_tests) in
    ap (λ l. not ((v.claim.write_half && l) && share_place v.claim c.claim) || (is_satisfied v && not (meets v.claim.writes c.claim.places))) not_below
    ∙ ap (λ e. not (e && share_place v.claim c.claim) || (is_satisfied v && not (meets v.claim.writes c.claim.places))) (and_false v.claim.write_half false refl)

clear_behind : (rest : List Claimed) (c : Claimed) → AllByRecursion (Rises c) rest → list_all (clear_at c.claim c.claim.places) rest ≡ true
clear_behind [] c rises = refl
clear_behind (v ∷ rest) c rises = (λ i. clear_later v c rises.0.not_above i && clear_behind rest c rises.1 i)

pub rise_from : (done rest : List Claimed) (x : Claimed) → EachPair Rises (done ++ x ∷ rest) → AllByRecursion (Rises x) rest
rise_from [] rest x h = h.0
rise_from (v ∷ done) rest x h = rise_from done rest x h.1

-- what is clear of the places of c is clear of nothing
pub clear_of_none : (xs : List Claimed) (c : Claim) → is_clear xs c c.places ≡ true → is_clear xs c empty ≡ true
unfolding is_clear
clear_of_none xs c clear =
    all_weaker _ _
    (λ v h. passes (is_earlier_write c v.claim && share_place v.claim c) (is_satisfied v) (meets v.claim.writes c.places) (meets v.claim.writes empty) (meets_empty_right v.claim.writes) h) xs clear
  where
    passes : (e q m n : Bool) → n ≡ false → (not e || (q && not m)) ≡ true → (not e || (q && not n)) ≡ true
    passes false q m n none h = refl
    passes true true m n none h = ap not none
    passes true false m n none h = absurd (true≢false (sym h))

pub past_is : (xs : List Claimed) (c : Claim) (near : Set) → is_clear xs c c.places ≡ true → is_past xs c near ≡ is_clear xs c near
past_is xs c near clear = at (len near == 0) refl
  where
    at : (b : Bool) → (len near == 0) ≡ b → (b || is_clear xs c near) ≡ is_clear xs c near
    at true none = sym (ap (is_clear xs c) (empty_of_len near (eqb-true (len near) 0 none)) ∙ clear_of_none xs c clear)
    at false some = refl

pub clear_in : (done rest : List Claimed) (x : Claimed) → AreWellFormed (done ++ x ∷ rest) → meets (bars_of done) x.claim.places ≡ false → is_clear (done ++ x ∷ rest) x.claim x.claim.places ≡ true
unfolding bars_of is_clear clear_at bars bars_with
clear_in done rest x well h =
    let none : list_any (bars x) done ≡ false = sym (gathered (λ v. v.claim.write_half) bars_with x.claim.places done) ∙ h in
    let self : x.claim.stamp ≤ x.claim.stamp = omega arith in
    list_all-append (clear_at x.claim x.claim.places) done (x ∷ rest)
    ∙ (λ i. clear_among done x none i && (clear_later x x self i && clear_behind rest x (rise_from done rest x well.rising) i))
