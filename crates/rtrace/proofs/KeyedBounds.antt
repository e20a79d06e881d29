-- What is kept of each key gives the first wrong bound of all, however many were reported: one more bound adds at most one number.
use Rattle.std.proofs.Common.{◌≡◌, ℕ, ◌<◌, Bool, true, false, cond, nat_le, List, [], ◌∷◌, ◌++◌, map, Option, Some, None, refl, sym, ap, ◌∙◌, arith, true≢false}
use Rattle.std.specs.Prelude.{IfSome}
use Rattle.std.specs.List.{AllByRecursion}
use Rattle.std.specs.Map.{lookup}
use Rattle.std.proofs.lemmas.Bool.{le-leb}
use Rattle.std.proofs.lemmas.Bool.Decides.{nat_tests}
use Rattle.indexmap.specs.IndexMap.{insert_entry}
use Rattle.rbound.specs.Bounds.{Numbers, numbers_in}
use Rattle.rbound.specs.declared.bound.Bound.{Bound}
use Rattle.rcover_laws.specs.declared.wait_end.WaitEnd.{WaitEnd}
use Rattle.rtrace_form.specs.Walks.{or_else}
use Rattle.rtrace_form.specs.Faults.{same_numbers}
use Rattle.rtrace_form.specs.WrongBounds.{first_other}
use Rattle.rtrace_form.proofs.lists.SameLines.{numbers_are, numbers_itself}
use Rattle.rbound_history.specs.declared.key.BoundKey.{BoundKey}
use Rattle.rtrace.specs.Told.{said, AreBefore}
use Rattle.rtrace.specs.Keys.{same_key}
use Rattle.rtrace.specs.KeyFacts.{same_key-true}
use Rattle.rtrace.specs.Kept.{Keyed, told_in, first_kept, more_kept, lesser, wrong_by, least_wrong, IsBelow, Tells}
use Rattle.rtrace.specs.declared.key.Key.{Key}
use Rattle.rtrace.specs.declared.kept_bounds.Kept.{Kept}

-- what is kept of a key with one more bound, where this was kept before
abbrev pub kept_with : Option Kept → ℕ → Bound → Kept
kept_with None number bound = first_kept number bound
kept_with (Some kept) number bound = more_kept kept number bound

-- what is kept of all keys with one more bound
abbrev pub noted : Key → ℕ → Bound → List (Key × Kept) → List (Key × Kept)
noted key number bound [] = (key, first_kept number bound) ∷ []
noted key number bound (e ∷ es) = cond (same_key key e.0) ((e.0, more_kept e.1 number bound) ∷ es) (e ∷ noted key number bound es)

-- it is put where the key is, and else after the others
pub inserted : (key : Key) (number : ℕ) (bound : Bound) (es : List (Key × Kept)) → insert_entry same_key es key (kept_with (lookup (same_key key) es) number bound) ≡ noted key number bound es
inserted key number bound [] = refl
inserted key number bound (e ∷ es) = at (same_key key e.0) (inserted key number bound es)
  where
    at : (b : Bool) → insert_entry same_key es key (kept_with (lookup (same_key key) es) number bound) ≡ noted key number bound es
        → cond b ((e.0, kept_with (cond b (Some e.1) (lookup (same_key key) es)) number bound) ∷ es) (e ∷ insert_entry same_key es key (kept_with (cond b (Some e.1) (lookup (same_key key) es)) number bound))
        ≡ cond b ((e.0, more_kept e.1 number bound) ∷ es) (e ∷ noted key number bound es)
    at true rest = refl
    at false rest = ap (λ later. e ∷ later) rest

-- all numbers that are kept are below this one
abbrev pub AreBelow : ℕ → List (Key × Kept) → Type 0
AreBelow n es = AllByRecursion (λ (e : Key × Kept). IsBelow n e.1) es

-- ---- the lesser of two

two_below : (n : ℕ) (a b : Option ℕ) → IfSome a (λ m. m < n) → IfSome b (λ m. m < n) → IfSome (lesser a b) (λ m. m < n)
two_below n None b p q = q
two_below n (Some a) None p q = p
two_below n (Some a) (Some b) p q = at (nat_le a b)
  where
    at : (t : Bool) → cond t a b < n
    at true = p
    at false = q

-- a number and no number: the lesser is the number
pub lesser_alone : (o : Option ℕ) → lesser o None ≡ o
lesser_alone None = refl
lesser_alone (Some m) = refl

-- ---- the lesser of three
pub lesser_of_three : (a b d : Option ℕ) → lesser a (lesser b d) ≡ lesser (lesser a b) d
lesser_of_three None b d = refl
lesser_of_three (Some a) None d = refl
lesser_of_three (Some a) (Some b) None = refl
lesser_of_three (Some a) (Some b) (Some d) = ap (λ n. Some n) (least_of a b d)
  where
    least_of : (a b d : ℕ) → cond (nat_le a (cond (nat_le b d) b d)) a (cond (nat_le b d) b d) ≡ cond (nat_le (cond (nat_le a b) a b) d) (cond (nat_le a b) a b) d
    least_of a b d = grind (arith, nat_tests)

-- a number above another, or none, comes after it
behind : (n : ℕ) (a b : Option ℕ) (w : Bool) → IfSome a (λ m. m < n) → lesser a (or_else b (cond w None (Some n))) ≡ or_else (lesser a b) (cond w None (Some n))
behind n None b w below = refl
behind n (Some m) (Some k) w below = refl
behind n (Some m) None true below = refl
behind n (Some m) None false below = ap (λ t. Some (cond t m n)) (le-leb m n (omega (arith, below)))

last_behind : (n : ℕ) (b : Option ℕ) → IfSome b (λ m. m < n) → lesser (Some n) b ≡ or_else b (Some n)
last_behind n None below = refl
last_behind n (Some m) below = ap (λ t. Some (cond t n m)) (above n m below)
  where
    above : (n m : ℕ) → m < n → nat_le n m ≡ false
    above n m h = grind (arith, nat_tests)

-- ---- bounds

same_bound : (a b d : Numbers) → same_numbers a b ≡ true → same_numbers a d ≡ same_numbers b d
same_bound a b d h = ap (λ (x : Numbers). same_numbers x d) (numbers_are a b h)

other_bound : (a b d : Numbers) → same_numbers a b ≡ false → same_numbers b d ≡ true → same_numbers a d ≡ false
other_bound a b d h is = at (same_numbers a d) refl
  where
    at : (t : Bool) → same_numbers a d ≡ t → t ≡ false
    at true e = absurd (true≢false (sym (numbers_itself a) ∙ ap (λ (x : Numbers). same_numbers a x) (numbers_are a d e ∙ sym (numbers_are b d is)) ∙ h))
    at false e = refl

-- a bound of a key that is there: r says that the first bound of the key is right, m that the same one is reported again, w that this one is right
met_by : (n first : ℕ) (other rest : Option ℕ) (r m w : Bool) → (m ≡ true → w ≡ r) → (m ≡ false → r ≡ true → w ≡ false) → IfSome rest (λ k. k < n)
    → lesser (cond r (cond m other (or_else other (Some n))) (Some first)) rest ≡ or_else (lesser (cond r other (Some first)) rest) (cond w None (Some n))
met_by n first other None false m w again differs below = refl
met_by n first other (Some k) false m w again differs below = refl
met_by n first None None true true true again differs below = refl
met_by n first None (Some k) true true true again differs below = refl
met_by n first (Some o) None true true true again differs below = refl
met_by n first (Some o) (Some k) true true true again differs below = refl
met_by n first other rest true true false again differs below = absurd (true≢false (sym (again refl)))
met_by n first other rest true false true again differs below = absurd (true≢false (differs refl refl))
met_by n first None rest true false false again differs below = last_behind n rest below
met_by n first (Some o) None true false false again differs below = refl
met_by n first (Some o) (Some k) true false false again differs below = refl

-- `right` says which bound is right for a key
module _ (right : BoundKey → Numbers) where
  -- a number, where the bound is wrong
  abbrev wrong : ℕ → Numbers → BoundKey → Option ℕ
  wrong number bound key = cond (same_numbers bound (right key)) None (Some number)

  wrong_below : (n : ℕ) (kept : Kept) (b : Numbers) → IsBelow n kept → IfSome (wrong_by kept b) (λ m. m < n)
  wrong_below n kept b below = at (same_numbers (numbers_in kept.bound) b)
    where
      at : (t : Bool) → IfSome (cond t kept.other (Some kept.first)) (λ m. m < n)
      at true = below.1
      at false = below.0

  least_below : (n : ℕ) (es : List (Key × Kept)) → AreBelow n es → IfSome (least_wrong right es) (λ m. m < n)
  least_below n [] below = tt
  least_below n (e ∷ es) below = two_below n (wrong_by e.1 (right e.0.key)) (least_wrong right es) (wrong_below n e.1 (right e.0.key) below.0) (least_below n es below.1)

  -- *One more bound adds at most one number, after those before*
  noted_least : (key : Key) (n : ℕ) (bound : Bound) (es : List (Key × Kept)) → AreBelow n es → least_wrong right (noted key n bound es) ≡ or_else (least_wrong right es) (wrong n (numbers_in bound) key.key)
  noted_least key n bound [] below = lesser_alone (wrong n (numbers_in bound) key.key)
  noted_least key n bound (e ∷ es) below = at (same_key key e.0) refl (noted_least key n bound es below.1)
    where
      met_is : (m : Bool) → wrong_by (cond m e.1 (record { first = e.1.first; bound = e.1.bound; other = or_else e.1.other (Some n) })) (right e.0.key)
          ≡ cond (same_numbers (numbers_in e.1.bound) (right e.0.key)) (cond m e.1.other (or_else e.1.other (Some n))) (Some e.1.first)
      met_is true = refl
      met_is false = refl

      at : (b : Bool) → same_key key e.0 ≡ b → least_wrong right (noted key n bound es) ≡ or_else (least_wrong right es) (wrong n (numbers_in bound) key.key)
          → least_wrong right (cond b ((e.0, more_kept e.1 n bound) ∷ es) (e ∷ noted key n bound es)) ≡ or_else (lesser (wrong_by e.1 (right e.0.key)) (least_wrong right es)) (wrong n (numbers_in bound) key.key)
      at true same rest =
          let told = numbers_in bound in
          let first = numbers_in e.1.bound in
          let due = right e.0.key in
          ap (λ o. lesser o (least_wrong right es)) (met_is (same_numbers told first))
          ∙ met_by n e.1.first e.1.other (least_wrong right es) (same_numbers first due) (same_numbers told first) (same_numbers told due)
          (λ m. same_bound told first due m) (λ m r. other_bound told first due m r) (least_below n es below.1)
          ∙ ap (λ (k : Key). or_else (lesser (wrong_by e.1 due) (least_wrong right es)) (wrong n told k.key)) (sym (same_key-true key e.0 same))
      at false same rest =
          ap (λ o. lesser (wrong_by e.1 (right e.0.key)) o) rest
          ∙ behind n (wrong_by e.1 (right e.0.key)) (least_wrong right es) (same_numbers (numbers_in bound) (right key.key)) (wrong_below n e.1 (right e.0.key) below.0)

  -- the first wrong bound, with one more reported bound
  first_push : (keyed : List Keyed) (x : Keyed) → first_other (said (told_in (keyed ++ x ∷ []))) (map (λ (k : Keyed). right k.key) (keyed ++ x ∷ [])) ≡ or_else (first_other (said (told_in keyed)) (map (λ (k : Keyed). right k.key) keyed)) (wrong x.told.number x.told.bound x.key)
  unfolding first_other
  first_push [] x = refl
  first_push (k ∷ ks) x = at (same_numbers k.told.bound (right k.key)) (first_push ks x)
    where
      at : (b : Bool) → first_other (said (told_in (ks ++ x ∷ []))) (map (λ (k : Keyed). right k.key) (ks ++ x ∷ [])) ≡ or_else (first_other (said (told_in ks)) (map (λ (k : Keyed). right k.key) ks)) (wrong x.told.number x.told.bound x.key)
          → cond b (first_other (said (told_in (ks ++ x ∷ []))) (map (λ (k : Keyed). right k.key) (ks ++ x ∷ []))) (Some k.told.number)
          ≡ or_else (cond b (first_other (said (told_in ks)) (map (λ (k : Keyed). right k.key) ks)) (Some k.told.number)) (wrong x.told.number x.told.bound x.key)
      at true rest = rest
      at false rest = refl

-- ---- what is kept with one more bound

less_other : (n m : ℕ) (other : Option ℕ) → n < m → IfSome other (λ o. o < m) → IfSome (or_else other (Some n)) (λ o. o < m)
less_other n m None less below = less
less_other n m (Some o) less below = below

more_below : (n m : ℕ) (kept : Kept) (bound : Bound) → n < m → IsBelow m kept → IsBelow m (more_kept kept n bound)
more_below n m kept bound less below = at (same_numbers (numbers_in bound) (numbers_in kept.bound))
  where
    at : (b : Bool) → IsBelow m (cond b kept (record { first = kept.first; bound = kept.bound; other = or_else kept.other (Some n) }))
    at true = below
    at false = (below.0, less_other n m kept.other less below.1)

noted_below : (key : Key) (n m : ℕ) (bound : Bound) (es : List (Key × Kept)) → n < m → AreBelow m es → AreBelow m (noted key n bound es)
noted_below key n m bound [] less below = ((less, tt), tt)
noted_below key n m bound (e ∷ es) less below = at (same_key key e.0) (noted_below key n m bound es less below.1)
  where
    at : (b : Bool) → AreBelow m (noted key n bound es) → AreBelow m (cond b ((e.0, more_kept e.1 n bound) ∷ es) (e ∷ noted key n bound es))
    at true rest = (more_below n m e.1 bound less below.0, below.1)
    at false rest = (below.0, rest)

-- each key that is kept is one that was there, or the new one
pub noted_keys : (P : BoundKey → Type 0) (key : Key) (n : ℕ) (bound : Bound) (es : List (Key × Kept)) → P key.key → AllByRecursion (λ (e : Key × Kept). P e.0.key) es → AllByRecursion (λ (e : Key × Kept). P e.0.key) (noted key n bound es)
noted_keys P key n bound [] new all = (new, tt)
noted_keys P key n bound (e ∷ es) new all = at (same_key key e.0) (noted_keys P key n bound es new all.1)
  where
    at : (b : Bool) → AllByRecursion (λ (e : Key × Kept). P e.0.key) (noted key n bound es) → AllByRecursion (λ (e : Key × Kept). P e.0.key) (cond b ((e.0, more_kept e.1 n bound) ∷ es) (e ∷ noted key n bound es))
    at true rest = all
    at false rest = (all.0, rest)

-- what was reported before one more bound is before the same number, and so is that bound
before_parts : (m : ℕ) (keyed : List Keyed) (x : Keyed) → AreBefore m (told_in (keyed ++ x ∷ [])) → AreBefore m (told_in keyed) × (x.told.number < m)
before_parts m [] x before = (tt, before.0)
before_parts m (k ∷ ks) x before =
    let rest = before_parts m ks x before.1 in
    ((before.0, rest.0), rest.1)

pub tells_nothing : Tells [] []
unfolding first_other
tells_nothing = record { first = λ right. refl; below = λ number before. tt }

-- *One more bound of a wait, with its key*
pub tells_more : (es : List (Key × Kept)) (keyed : List Keyed) (key : Key) (n : ℕ) (wait : WaitEnd) (bound : Bound) → AreBefore n (told_in keyed) → Tells es keyed
    → Tells (noted key n bound es) (keyed ++ record { told = record { number = n; wait = wait; bound = numbers_in bound }; key = key.key } ∷ [])
tells_more es keyed key n wait bound before tells =
    let x : Keyed = record { told = record { number = n; wait = wait; bound = numbers_in bound }; key = key.key } in
    record {
      first = λ right. noted_least right key n bound es (tells.below n before) ∙ ap (λ o. or_else o (wrong right n (numbers_in bound) key.key)) (tells.first right) ∙ sym (first_push right keyed x);
      below = λ m all. let parts = before_parts m keyed x all in noted_below key n m bound es parts.1 (tells.below m parts.0);
    }
