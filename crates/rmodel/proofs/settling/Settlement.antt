-- The settled list is one to which the list settles: each pass gives what its rule says.
use Rattle.std.proofs.Common.{◌≡◌, ℕ, ◌<◌, ◌≤◌, Bool, true, false, not, ◌&&◌, ◌||◌, nat_lt, List, [], ◌∷◌, ◌++◌, map, fold, cond, refl, sym, ap, subst, ◌∙◌, append_assoc, inl, inr, arith}
use Rattle.std.proofs.lemmas.Bool.{ltb-true, or_cases, true≢false}
use Rattle.std.proofs.lemmas.Bool.Decides.{nat_tests}
use Rattle.std.specs.List.{list_any, list_all, AllZip, AllByRecursion}
use Rattle.std.specs.FinSet.{empty, union}
use Rattle.rset.specs.Sets.{Set, meets}
use Rattle.rset.proofs.SetLemmas.{meets_symmetric, meets_empty_left, meets_empty_right, meets_union_left}
use Rattle.rclaim.specs.declared.claim.Claim.{Claim}
use Rattle.rclaim.specs.declared.claim.Status.{Status}
use Rattle.rclaim.specs.declared.claim.Status.TheVariants.{Waiting, Entitled, Satisfied}
use Rattle.rmodel.specs.declared.claimed.Claimed.{Claimed}
use Rattle.rmodel.specs.Claims.{conflicts, touches, share_place, is_satisfied, is_active, satisfied_by, active_by}
use Rattle.rmodel.specs.Rules.{is_earlier_write, is_kept_out, has_read_between, makes_way, may_enter, is_held_up, is_kept, SettlesAt, Settles}
use Rattle.rmodel.specs.WellFormed.{EachPair, Rises, IsClaim, AreWellFormed}
use Rattle.rmodel.specs.Settling.{with_status, written_by_active, written_by_satisfied, read_near, read_status, is_clear, has_way, entered_status, write_status, kept_status, settle_reads, settle_rest, settle_kept, settled}
use Rattle.rmodel.proofs.ListFacts.{zip_same, zip_append, zip_all, zip_map_left, zip_map_right, all_append, all_of_zip, pairs_of_zip, contrary}
use Rattle.rmodel.proofs.settling.Alike.{counts, Alike, SameSatisfied, may_enter_alike, is_held_up_alike, same_satisfied_alike, is_kept_same}

-- each read of the list writes nothing
abbrev pub ReadsOnly : Claimed → Type 0
ReadsOnly x = x.claim.write_half ≡ false → x.claim.writes ≡ empty

-- ---- the sets that a pass gathers

meets_gathered : (p : Claimed → Bool) (of : Claimed → Set) (s : Set) (all : Set) (xs : List Claimed)
    → meets (fold (λ a x. cond (p x) (union a (of x)) a) all xs) s ≡ (meets all s || list_any (λ x. p x && meets (of x) s) xs)
meets_gathered p of s all [] = or_none (meets all s)
  where
    or_none : (b : Bool) → b ≡ (b || false)
    or_none true = refl
    or_none false = refl
meets_gathered p of s all (x ∷ xs) =
    meets_gathered p of s (cond (p x) (union all (of x)) all) xs ∙ ap (λ b. b || list_any (λ x. p x && meets (of x) s) xs) (at (p x)) ∙ regroup (meets all s) _ _
  where
    or_none : (b : Bool) → b ≡ (b || false)
    or_none true = refl
    or_none false = refl

    at : (b : Bool) → meets (cond b (union all (of x)) all) s ≡ (meets all s || (b && meets (of x) s))
    at true = meets_union_left all (of x) s
    at false = or_none (meets all s)

    regroup : (a b c : Bool) → ((a || b) || c) ≡ (a || (b || c))
    regroup true b c = refl
    regroup false b c = refl

pub gathered : (p : Claimed → Bool) (of : Claimed → Set) (s : Set) (xs : List Claimed)
    → meets (fold (λ a x. cond (p x) (union a (of x)) a) empty xs) s ≡ list_any (λ x. p x && meets (of x) s) xs
gathered p of s xs = meets_gathered p of s empty xs ∙ ap (λ b. b || list_any (λ x. p x && meets (of x) s) xs) (meets_empty_left s)

-- two tests that agree on each element of a list find the same
pub any_agree : (P : Claimed → Type 0) (p q : Claimed → Bool) → ((x : Claimed) → P x → p x ≡ q x) → (xs : List Claimed) → AllByRecursion P xs → list_any p xs ≡ list_any q xs
any_agree P p q same [] all = refl
any_agree P p q same (x ∷ xs) all = (λ i. same x all.0 i || any_agree P p q same xs all.1 i)

all_and : (p q r : Claimed → Bool) → ((x : Claimed) → (p x && q x) ≡ r x) → (xs : List Claimed) → (list_all p xs && list_all q xs) ≡ list_all r xs
all_and p q r same [] = refl
all_and p q r same (x ∷ xs) = swap (p x) (q x) (list_all p xs) (list_all q xs) ∙ (λ i. same x i && all_and p q r same xs i)
  where
    swap : (a b c d : Bool) → ((a && c) && (b && d)) ≡ ((a && b) && (c && d))
    swap true true c d = refl
    swap true false true d = refl
    swap true false false d = refl
    swap false b c d = refl

-- a claim that writes nothing conflicts with what writes what it reads
pub conflicts_with_read : (v c : Claim) → c.writes ≡ empty → conflicts v c ≡ meets v.writes c.reads
conflicts_with_read v c none =
    ap (λ w. (meets c.reads v.writes || meets w v.writes) || (meets v.reads w || meets v.writes w)) none
    ∙ (λ i. (meets_symmetric c.reads v.writes i || meets_empty_left v.writes i) || (meets_empty_right v.reads i || meets_empty_right v.writes i))
    ∙ or_none (meets v.writes c.reads)
  where
    or_none : (b : Bool) → ((b || false) || (false || false)) ≡ b
    or_none true = refl
    or_none false = refl

touches_by_read : (c : Claim) (s : Set) → c.writes ≡ empty → touches c s ≡ meets c.reads s
touches_by_read c s none = ap (λ w. meets c.reads s || meets w s) none ∙ ap (λ b. meets c.reads s || b) (meets_empty_left s) ∙ or_none (meets c.reads s)
  where
    or_none : (b : Bool) → (b || false) ≡ b
    or_none true = refl
    or_none false = refl

pub conflict_of_read : (r v : Claim) → r.writes ≡ empty → conflicts r v ≡ meets r.reads v.writes
conflict_of_read r v none =
    ap (λ w. (meets v.reads w || meets v.writes w) || (meets r.reads v.writes || meets w v.writes)) none
    ∙ (λ i. (meets_empty_right v.reads i || meets_empty_right v.writes i) || (meets r.reads v.writes || meets_empty_left v.writes i))
    ∙ or_none (meets r.reads v.writes)
  where
    or_none : (b : Bool) → ((false || false) || (b || false)) ≡ b
    or_none true = refl
    or_none false = refl

-- what the first pass asks is whether the read is kept out
pub kept_out_is : (xs : List Claimed) (c : Claim) → c.writes ≡ empty → meets (written_by_active xs) c.reads ≡ is_kept_out xs c
unfolding written_by_active
kept_out_is xs c none =
    gathered (λ x. x.claim.write_half && is_active x) (λ x. x.claim.writes) c.reads xs
    ∙ any_agree (λ x. Unit {0}) _ _ (λ x u. ap (λ m. x.claim.write_half && is_active x && m) (sym (conflicts_with_read x.claim c none))) xs (each xs)
  where
    each : (xs : List Claimed) → AllByRecursion (λ x. Unit {0}) xs
    each [] = tt
    each (x ∷ xs) = (tt, each xs)

-- what the third pass asks is whether the read is kept for
pub kept_is : (xs : List Claimed) (c : Claim) → c.writes ≡ empty → meets (written_by_satisfied xs) c.reads ≡ is_kept xs c
unfolding written_by_satisfied
kept_is xs c none =
    gathered (λ x. x.claim.write_half && is_satisfied x) (λ x. x.claim.writes) c.reads xs
    ∙ any_agree (λ x. Unit {0}) _ _ (λ x u. ap (λ m. x.claim.write_half && is_satisfied x && m) (sym (conflicts_with_read x.claim c none))) xs (each xs)
  where
    each : (xs : List Claimed) → AllByRecursion (λ x. Unit {0}) xs
    each [] = tt
    each (x ∷ xs) = (tt, each xs)

-- what is read near c meets what v writes exactly where a read stands between them
read_near_is : (xs : List Claimed) (v c : Claim) → AllByRecursion ReadsOnly xs → meets v.writes (read_near xs c.places) ≡ has_read_between xs v c
unfolding read_near
read_near_is xs v c only =
    meets_symmetric v.writes _
    ∙ gathered (λ x. not x.claim.write_half && not (is_satisfied x) && meets x.claim.reads c.places) (λ x. x.claim.reads) v.writes xs
    ∙ any_agree ReadsOnly _ _ (λ x read_only. at x x.claim.write_half refl read_only) xs only
  where
    swap : (a p q : Bool) → ((a && p) && q) ≡ ((a && q) && p)
    swap true true true = refl
    swap true true false = refl
    swap true false true = refl
    swap true false false = refl
    swap false p q = refl

    at : (x : Claimed) (w : Bool) → x.claim.write_half ≡ w → ReadsOnly x
        → (not x.claim.write_half && not (is_satisfied x) && meets x.claim.reads c.places && meets x.claim.reads v.writes)
        ≡ (not x.claim.write_half && not (is_satisfied x) && conflicts x.claim v && touches x.claim c.places)
    at x true is read_only =
        ap (λ w. not w && not (is_satisfied x) && meets x.claim.reads c.places && meets x.claim.reads v.writes) is
        ∙ sym (ap (λ w. not w && not (is_satisfied x) && conflicts x.claim v && touches x.claim c.places) is)
    at x false is read_only =
        swap (not x.claim.write_half && not (is_satisfied x)) (meets x.claim.reads c.places) (meets x.claim.reads v.writes)
        ∙ (λ i. not x.claim.write_half && not (is_satisfied x) && sym (conflict_of_read x.claim v (read_only is)) i && sym (touches_by_read x.claim c.places (read_only is)) i)

-- what the second pass asks is whether the write may enter
pub has_way_is : (xs : List Claimed) (c : Claim) → AllByRecursion ReadsOnly xs → has_way xs c ≡ may_enter xs c
unfolding has_way is_clear
has_way_is xs c only =
    all_and _ _ (λ v. not (is_earlier_write c v.claim && share_place v.claim c) || makes_way xs c v)
    (λ v.
    join (is_earlier_write c v.claim && share_place v.claim c) (is_satisfied v) (meets v.claim.writes c.places) (meets v.claim.writes (read_near xs c.places))
    ∙ ap (λ r. not (is_earlier_write c v.claim && share_place v.claim c) || (is_satisfied v && not (meets v.claim.writes c.places) && not r)) (read_near_is xs v.claim c only))
    xs
  where
    join : (e s m r : Bool) → ((not e || (s && not m)) && (not e || (s && not r))) ≡ (not e || (s && not m && not r))
    join false s m r = refl
    join true true m r = refl
    join true false m r = refl

-- ---- the passes, claim by claim

-- what the first pass makes of a claim
abbrev pub first_pass : Set → Claimed → Claimed
first_pass busy x = with_status x (read_status busy x)

-- what the third pass makes of a claim
abbrev pub third_pass : Set → Claimed → Claimed
third_pass busy x = with_status x (kept_status busy x)

-- what the second pass makes of a claim, in the list that it leaves
record Enters (w : List Claimed) (x y : Claimed) : Type 0 where
  same : y.claim ≡ x.claim
  asked : y.asked ≡ x.asked
  granted : y.granted ≡ x.granted
  reads : x.claim.write_half ≡ false → y.status ≡ x.status
  active : x.claim.write_half ≡ true → is_active y ≡ (is_active x || may_enter w x.claim)
  satisfied : x.claim.write_half ≡ true → is_satisfied y ≡ (is_satisfied x || (is_active y && not (is_held_up w x.claim)))

first_satisfied : (w m : Bool) (a : Status) → w ≡ false → satisfied_by (cond (not w && not m) Satisfied a) ≡ (satisfied_by a || not m)
first_satisfied true m a is = absurd (true≢false is)
first_satisfied false true Waiting is = refl
first_satisfied false true Entitled is = refl
first_satisfied false true Satisfied is = refl
first_satisfied false false Waiting is = refl
first_satisfied false false Entitled is = refl
first_satisfied false false Satisfied is = refl

first_write : (w m : Bool) (a : Status) → w ≡ true → cond (not w && not m) Satisfied a ≡ a
first_write true m a is = refl
first_write false m a is = absurd (true≢false (sym is))

pub third_satisfied : (w m : Bool) (a : Status) → satisfied_by (cond (w || satisfied_by a) a (cond m Entitled Waiting)) ≡ satisfied_by a
third_satisfied true m a = refl
third_satisfied false true Waiting = refl
third_satisfied false true Entitled = refl
third_satisfied false true Satisfied = refl
third_satisfied false false Waiting = refl
third_satisfied false false Entitled = refl
third_satisfied false false Satisfied = refl

third_active : (w m : Bool) (a : Status) → w ≡ false → active_by (cond (w || satisfied_by a) a (cond m Entitled Waiting)) ≡ (satisfied_by a || m)
third_active true m a is = absurd (true≢false is)
third_active false true Waiting is = refl
third_active false true Entitled is = refl
third_active false true Satisfied is = refl
third_active false false Waiting is = refl
third_active false false Entitled is = refl
third_active false false Satisfied is = refl

pub third_write : (w m : Bool) (a : Status) → w ≡ true → cond (w || satisfied_by a) a (cond m Entitled Waiting) ≡ a
third_write true m a is = refl
third_write false m a is = absurd (true≢false (sym is))

second_read : (w e h : Bool) (a : Status) → w ≡ false → cond (not w || satisfied_by a) a (entered_status (active_by a || e) h) ≡ a
second_read true e h a is = absurd (true≢false is)
second_read false e h a is = refl

second_active : (w e h : Bool) (a : Status) → w ≡ true → active_by (cond (not w || satisfied_by a) a (entered_status (active_by a || e) h)) ≡ (active_by a || e)
second_active false e h a is = absurd (true≢false (sym is))
second_active true true true Waiting is = refl
second_active true true false Waiting is = refl
second_active true false h Waiting is = refl
second_active true e true Entitled is = refl
second_active true e false Entitled is = refl
second_active true e h Satisfied is = refl

second_satisfied : (w e h : Bool) (a : Status) → w ≡ true → satisfied_by (cond (not w || satisfied_by a) a (entered_status (active_by a || e) h)) ≡ (satisfied_by a || ((active_by a || e) && not h))
second_satisfied false e h a is = absurd (true≢false (sym is))
second_satisfied true true true Waiting is = refl
second_satisfied true true false Waiting is = refl
second_satisfied true false h Waiting is = refl
second_satisfied true e true Entitled is = refl
second_satisfied true e false Entitled is = refl
second_satisfied true e h Satisfied is = refl

-- ---- the second pass

-- a claim comes after a stamp: its own is not below
abbrev NotBelow : ℕ → Claimed → Type 0
NotBelow n x = n ≤ x.claim.stamp

-- claims from a stamp on, of which the reads stay as they are, are alike below that stamp
rest_alike : (w : List Claimed) (n : ℕ) (rest tail : List Claimed) → AllByRecursion (NotBelow n) rest → AllZip (Enters w) rest tail → AllZip (Alike n) rest tail
rest_alike w n rest tail late zip =
    zip_all (NotBelow n) (Enters w) (Alike n)
    (λ x y from e. record {
      claim = sym e.same;
      satisfied = λ h. elim (or_cases (not y.claim.write_half) (nat_lt y.claim.stamp n) h) [
        | inl read ↦ sym (ap satisfied_by (e.reads (ap (λ c. c.write_half) (sym e.same) ∙ read_of y.claim.write_half read)))
        | inr low ↦ absurd (none_below y.claim.stamp n (subst (λ (c : Claim). n ≤ c.stamp) (sym e.same) from) (ltb-true y.claim.stamp n low))
      ];
    })
    rest tail late zip
  where
    read_of : (w : Bool) → not w ≡ true → w ≡ false
    read_of true h = sym h
    read_of false h = refl

    none_below : (m n : ℕ) → n ≤ m → m < n → ⊥
    none_below m n a b = omega arith

-- a write that is settled among those before it and the rest as it was is settled as in the whole outcome
enters_from : (xs w : List Claimed) (x : Claimed) → AllByRecursion ReadsOnly xs → (x.claim.write_half ≡ true → AllZip (Alike x.claim.stamp) xs w)
    → Enters w x (with_status x (write_status xs x))
unfolding write_status
enters_from xs w x only alike = record {
  same = refl;
  asked = refl;
  granted = refl;
  reads = second_read x.claim.write_half (has_way xs x.claim) (is_held_up xs x.claim) x.status;
  active = λ is.
      second_active x.claim.write_half (has_way xs x.claim) (is_held_up xs x.claim) x.status is
      ∙ ap (λ e. is_active x || e) (has_way_is xs x.claim only ∙ may_enter_alike x.claim.stamp xs w (alike is) x.claim refl);
  satisfied = λ is.
      second_satisfied x.claim.write_half (has_way xs x.claim) (is_held_up xs x.claim) x.status is
      ∙ ap (λ h. is_satisfied x || ((is_active x || has_way xs x.claim) && not h)) (is_held_up_alike x.claim.stamp xs w (alike is) x.claim refl)
      ∙ ap (λ a. is_satisfied x || (a && not (is_held_up w x.claim))) (sym (second_active x.claim.write_half (has_way xs x.claim) (is_held_up xs x.claim) x.status is));
}

-- each claim of the rest is settled as in the whole outcome
rest_enters : (done rest : List Claimed) → AllByRecursion ReadsOnly done → AllByRecursion ReadsOnly rest → EachPair Rises rest
    → AllZip (Enters (done ++ settle_rest done rest)) rest (settle_rest done rest)
unfolding settle_rest
rest_enters done [] a b rising = tt
rest_enters done (x ∷ rest) a b rising =
    let xs = done ++ x ∷ rest in
    let y = with_status x (write_status xs x) in
    let tail = settle_rest (done ++ y ∷ []) rest in
    let w = done ++ (y ∷ tail) in
    let others : AllZip (Enters w) rest tail =
    subst (λ (v : List Claimed). AllZip (Enters v) rest tail) (append_assoc done (y ∷ []) tail)
    (rest_enters (done ++ y ∷ []) rest (all_append ReadsOnly done (y ∷ []) a (b.0, tt)) b.1 rising.1) in
    let alike : x.claim.write_half ≡ true → AllZip (Alike x.claim.stamp) xs w =
    λ is. zip_append (Alike x.claim.stamp) done done (x ∷ rest) (y ∷ tail) (zip_same (Alike x.claim.stamp) (λ z. record { claim = refl; satisfied = λ _. refl }) done) (
      record { claim = refl; satisfied = λ h. contrary (counts x.claim.stamp x.claim) h (not_counted x.claim is) },
      rest_alike w x.claim.stamp rest tail (late x rest rising.0) others,
    ) in
    (enters_from xs w x (all_append ReadsOnly done (x ∷ rest) a b) alike, others)
  where
    late : (x : Claimed) (rest : List Claimed) → AllByRecursion (Rises x) rest → AllByRecursion (NotBelow x.claim.stamp) rest
    late x [] h = tt
    late x (z ∷ zs) h = (h.0.not_above, late x zs h.1)

    not_below_self : (m : ℕ) → nat_lt m m ≡ false
    not_below_self m = grind (arith, nat_tests)

    not_counted : (c : Claim) → c.write_half ≡ true → counts c.stamp c ≡ false
    not_counted c is = ap (λ b. not b || nat_lt c.stamp c.stamp) is ∙ not_below_self c.stamp

-- ---- the whole

module _ (s : List Claimed) (well : AreWellFormed s) where
  abbrev after_reads : List Claimed
  after_reads = map (first_pass (written_by_active s)) s

  abbrev after_writes : List Claimed
  after_writes = settle_rest [] after_reads

  abbrev outcome : List Claimed
  outcome = map (third_pass (written_by_satisfied after_writes)) after_writes

  reads_only : AllByRecursion ReadsOnly after_reads
  reads_only = all_of_zip (λ x. IsClaim x.claim) (λ x y. y.claim ≡ x.claim) ReadsOnly (λ x y c same r. ap (λ k. k.writes) same ∙ c.read_only (ap (λ k. k.write_half) (sym same) ∙ r))
      s after_reads well.claims (zip_map_right (first_pass (written_by_active s)) (λ x y. x ≡ y) (λ x y. y.claim ≡ x.claim) (λ x y e. ap (λ z. z.claim) (sym e)) s s (zip_same (λ x y. x ≡ y) (λ x. refl) s))

  rising : EachPair Rises after_reads
  rising = pairs_of_zip Rises (λ x y. y.claim ≡ x.claim) Rises
      (λ x x' y y' r e e'. record {
        not_above = subst (λ (c : Claim). c.stamp ≤ y'.claim.stamp) (sym e) (subst (λ (c : Claim). x.claim.stamp ≤ c.stamp) (sym e') r.not_above);
        after_write = λ w. subst (λ (c : Claim). c.stamp < y'.claim.stamp) (sym e) (subst (λ (c : Claim). x.claim.stamp < c.stamp) (sym e') (r.after_write (ap (λ c. c.write_half) (sym e) ∙ w)));
      })
      s after_reads well.rising (zip_map_right (first_pass (written_by_active s)) (λ x y. x ≡ y) (λ x y. y.claim ≡ x.claim) (λ x y e. ap (λ z. z.claim) (sym e)) s s (zip_same (λ x y. x ≡ y) (λ x. refl) s))

  entered : AllZip (Enters after_writes) after_reads after_writes
  entered = rest_enters [] after_reads tt reads_only rising

  same_at_end : AllZip SameSatisfied after_writes outcome
  same_at_end =
      zip_map_right (third_pass (written_by_satisfied after_writes)) (λ x y. x ≡ y) SameSatisfied
      (λ x y e. record {
        claim = ap (λ z. z.claim) e;
        satisfied = ap is_satisfied e ∙ sym (third_satisfied y.claim.write_half (meets (written_by_satisfied after_writes) y.claim.reads) y.status);
      })
      after_writes after_writes (zip_same (λ x y. x ≡ y) (λ x. refl) after_writes)

  -- a claim through the three passes
  at_claim : (x y : Claimed) → IsClaim x.claim → Enters after_writes (first_pass (written_by_active s) x) y
      → SettlesAt s outcome x (third_pass (written_by_satisfied after_writes) y)
  at_claim x y c e =
      let busy = written_by_active s in
      let kept = written_by_satisfied after_writes in
      let z = third_pass kept y in
      let one : y.claim ≡ x.claim = e.same in
      let to_x : (b : Bool) → y.claim.write_half ≡ b → x.claim.write_half ≡ b = λ b h. ap (λ k. k.write_half) (sym one) ∙ h in
      let final : is_satisfied z ≡ is_satisfied y = third_satisfied y.claim.write_half (meets kept y.claim.reads) y.status in
      record {
        same = one;
        asked = e.asked;
        granted = e.granted;
        reads = λ r.
            final
            ∙ ap satisfied_by (e.reads (to_x false r))
            ∙ first_satisfied x.claim.write_half (meets busy x.claim.reads) x.status (to_x false r)
            ∙ ap (λ m. is_satisfied x || not m) (kept_out_is s x.claim (c.read_only (to_x false r)))
            ∙ ap (λ k. is_satisfied x || not (is_kept_out s k)) (sym one);
        entitlement = λ w.
            ap active_by (third_write y.claim.write_half (meets kept y.claim.reads) y.status w)
            ∙ e.active (to_x true w)
            ∙ ap (λ a. active_by a || may_enter after_writes x.claim) (first_write x.claim.write_half (meets busy x.claim.reads) x.status (to_x true w))
            ∙ ap (λ m. is_active x || m) (may_enter_alike x.claim.stamp after_writes outcome (same_satisfied_alike x.claim.stamp after_writes outcome same_at_end) x.claim refl)
            ∙ ap (λ k. is_active x || may_enter outcome k) (sym one);
        satisfaction = λ w.
            final
            ∙ e.satisfied (to_x true w)
            ∙ ap (λ a. satisfied_by a || (is_active y && not (is_held_up after_writes x.claim))) (first_write x.claim.write_half (meets busy x.claim.reads) x.status (to_x true w))
            ∙ ap (λ a. is_satisfied x || (active_by a && not (is_held_up after_writes x.claim))) (sym (third_write y.claim.write_half (meets kept y.claim.reads) y.status w))
            ∙ ap (λ h. is_satisfied x || (is_active z && not h)) (is_held_up_alike x.claim.stamp after_writes outcome (same_satisfied_alike x.claim.stamp after_writes outcome same_at_end) x.claim refl)
            ∙ ap (λ k. is_satisfied x || (is_active z && not (is_held_up outcome k))) (sym one);
        kept_reads = λ r.
            third_active y.claim.write_half (meets kept y.claim.reads) y.status r
            ∙ ap (λ m. is_satisfied y || m) (kept_is after_writes y.claim (ap (λ k. k.writes) one ∙ c.read_only (to_x false r)) ∙ is_kept_same after_writes outcome same_at_end y.claim)
            ∙ ap (λ a. a || is_kept outcome y.claim) (sym final);
      }

  settles_to_outcome : Settles s outcome
  settles_to_outcome =
      zip_map_right (third_pass (written_by_satisfied after_writes)) (λ x y. IsClaim x.claim × Enters after_writes (first_pass (written_by_active s) x) y) (SettlesAt s outcome)
      (λ x y h. at_claim x y h.0 h.1) s after_writes
      (zip_all (λ x. IsClaim x.claim) (λ x y. Enters after_writes (first_pass (written_by_active s) x) y) (λ x y. IsClaim x.claim × Enters after_writes (first_pass (written_by_active s) x) y)
      (λ x y c e. (c, e)) s after_writes well.claims (zip_map_left (first_pass (written_by_active s)) (Enters after_writes) s after_writes entered))

-- a well-formed list settles to the settled list
pub settles_settled : (s : List Claimed) → AreWellFormed s → Settles s (settled s)
unfolding settled settle_reads settle_kept
settles_settled s well = settles_to_outcome s well
