-- Greatest sums of numbers: without one of them, the greatest sum of k others is that of k of all, or that of k + 1 of all without that number.
use Rattle.std.proofs.Common.{◌≡◌, ◌≢◌, ◌≤◌, ◌<◌, ◌+◌, ◌-◌, ◌*◌, ◌^◌, ◌==◌, min, max, ℕ, zero, suc, Bool, true, false, cond, List, [], ◌∷◌, map, Option, Some, None, is_some, unwrap_or, refl, sym, ap, subst, ◌∙◌, inl, inr, arith}
use Rattle.std.specs.List.{count_by, sum_by, range_with_len}
use Rattle.std.proofs.lemmas.Bool.{eq-eqb}
use Rattle.std.proofs.lemmas.Bool.Decides.{eqb_tells}
use Rattle.std.proofs.lemmas.List.Sums.{sum_by-cons}
use Rattle.rbound.specs.Bounds.{largest, tasks_of, one_if}
use Rattle.rbound.specs.ZoneRows.{row_at, other_at, writers_in, write_length_in}
use Rattle.rbound_table.specs.Sums.{AreSums, AreGreatest, length_in, writers_there}
use Rattle.rbound_table.specs.declared.sums.GreatestSums.{GreatestSums}
use Rattle.rbound_table.proofs.TopFacts.{unequal}

-- ---- sums over all tasks but one

sum_apart : (f g : ℕ → ℕ) (me low n : ℕ) → ((t : ℕ) → t ≢ me → g t ≡ f t) → me < low → sum_by g (range_with_len low n) ≡ sum_by f (range_with_len low n)
sum_apart f g me low zero same above = refl
sum_apart f g me low (suc n) same above =
    let apart : low ≢ me = (λ e. omega (arith, e, above)) in
    sum_by-cons g low (range_with_len (low + 1) n) ∙ (λ i. same low apart i + sum_apart f g me (low + 1) n same (omega arith) i) ∙ sym (sum_by-cons f low (range_with_len (low + 1) n))

-- a sum without one of its numbers
pub sum_other : (f g : ℕ → ℕ) (me low n : ℕ) → ((t : ℕ) → t ≢ me → g t ≡ f t) → g me ≡ 0 → low ≤ me → me < low + n → sum_by g (range_with_len low n) + f me ≡ sum_by f (range_with_len low n)
sum_other f g me low zero same none least most = absurd (omega arith)
sum_other f g me low (suc n) same none least most =
    ap (λ s. s + f me) (sum_by-cons g low (range_with_len (low + 1) n))
    ∙ elim (eqb_tells low me) [
      | inl here ↦ first (g low) (sum_by g (range_with_len (low + 1) n)) (f me) (f low) (sum_by f (range_with_len (low + 1) n)) (ap g here.1 ∙ none) (sum_apart f g me (low + 1) n same (omega (arith, here.1))) (ap f here.1)
      | inr other ↦
          let apart : low ≢ me = other.1 in
          later (g low) (sum_by g (range_with_len (low + 1) n)) (f me) (f low) (sum_by f (range_with_len (low + 1) n)) (same low apart) (sum_other f g me (low + 1) n same none (omega arith) (omega arith))
    ]
    ∙ sym (sum_by-cons f low (range_with_len (low + 1) n))
  where
    first : (a b c d e : ℕ) → a ≡ 0 → b ≡ e → d ≡ c → (a + b) + c ≡ d + e
    first a b c d e p q r = omega arith

    later : (a b c d e : ℕ) → a ≡ d → b + c ≡ e → (a + b) + c ≡ d + e
    later a b c d e p q = omega arith

-- ---- where no more than k numbers count, the largest k have the sum of all

largest_most : (f : ℕ → ℕ) (k : ℕ) (ks : List ℕ) → largest k (map f ks) ≤ sum_by f ks
largest_most f zero ks = omega arith
largest_most f (suc k) [] = omega arith
largest_most f (suc k) (t ∷ ks) = fits (f t) (largest k (map f ks)) (largest (suc k) (map f ks)) (sum_by f ks) (sum_by f (t ∷ ks)) (largest_most f k ks) (largest_most f (suc k) ks) (sum_by-cons f t ks)
  where
    fits : (x l m s t : ℕ) → l ≤ s → m ≤ s → t ≡ x + s → max (x + l) m ≤ t
    fits x l m s t p q r = omega arith

pub all_largest : (g : ℕ → Option ℕ) (k : ℕ) (ks : List ℕ) → count_by (λ t. is_some (g t)) ks ≤ k → largest k (map (λ t. unwrap_or (g t) 0) ks) ≡ sum_by (λ t. unwrap_or (g t) 0) ks
all_largest g zero [] few = refl
all_largest g (suc k) [] few = refl
all_largest g k (t ∷ ks) few = at (λ j fewer. all_largest g j ks fewer) (g t) k (omega (arith, sum_by-cons (λ t. cond (is_some (g t)) 1 0) t ks, few)) ∙ sym (sum_by-cons (λ t. unwrap_or (g t) 0) t ks)
  where
    none : (l m s : ℕ) → l ≤ s → m ≡ s → max (0 + l) m ≡ 0 + s
    none l m s p q = omega arith

    some : (v l m s : ℕ) → l ≡ s → m ≡ s → max (v + l) m ≡ v + s
    some v l m s p q = omega arith

    at : ((j : ℕ) → count_by (λ t. is_some (g t)) ks ≤ j → largest j (map (λ t. unwrap_or (g t) 0) ks) ≡ sum_by (λ t. unwrap_or (g t) 0) ks)
        → (o : Option ℕ) (k : ℕ) → cond (is_some o) 1 0 + count_by (λ t. is_some (g t)) ks ≤ k → largest k (unwrap_or o 0 ∷ map (λ t. unwrap_or (g t) 0) ks) ≡ unwrap_or o 0 + sum_by (λ t. unwrap_or (g t) 0) ks
    at rest None zero h = let zeros = rest 0 (omega arith) in let e : 0 + sum_by (λ t. unwrap_or (g t) 0) ks ≡ sum_by (λ t. unwrap_or (g t) 0) ks = omega arith in zeros ∙ sym e
    at rest None (suc k) h =
        none (largest k (map (λ t. unwrap_or (g t) 0) ks)) (largest (suc k) (map (λ t. unwrap_or (g t) 0) ks)) (sum_by (λ t. unwrap_or (g t) 0) ks) (largest_most (λ t. unwrap_or (g t) 0) k ks) (rest (suc k) (omega arith))
    at rest (Some v) zero h = absurd (omega arith)
    at rest (Some v) (suc k) h =
        some v (largest k (map (λ t. unwrap_or (g t) 0) ks)) (largest (suc k) (map (λ t. unwrap_or (g t) 0) ks)) (sum_by (λ t. unwrap_or (g t) 0) ks) (rest k (omega arith)) (rest (suc k) (omega arith))

-- ---- greatest sums grow, and by less and less

more : (k : ℕ) (xs : List ℕ) → largest k xs ≤ largest (suc k) xs
more zero xs = omega arith
more (suc k) [] = omega arith
more (suc k) (x ∷ xs) = at x (largest k xs) (largest (suc k) xs) (largest (suc (suc k)) xs) (more k xs) (more (suc k) xs)
  where
    at : (x a b c : ℕ) → a ≤ b → b ≤ c → max (x + a) b ≤ max (x + b) c
    at x a b c p q = omega arith

slower : (k : ℕ) (xs : List ℕ) → largest (suc (suc k)) xs + largest k xs ≤ largest (suc k) xs + largest (suc k) xs
slower zero [] = omega arith
slower (suc k) [] = omega arith
slower zero (x ∷ xs) = at x (largest 1 xs) (largest 2 xs) (slower zero xs)
  where
    at : (x b c : ℕ) → c + 0 ≤ b + b → max (x + b) c + 0 ≤ max (x + 0) b + max (x + 0) b
    at x b c p = omega arith
slower (suc k) (x ∷ xs) = at x (largest k xs) (largest (suc k) xs) (largest (suc (suc k)) xs) (largest (suc (suc (suc k))) xs) (slower k xs) (slower (suc k) xs)
  where
    at : (x a b c d : ℕ) → c + a ≤ b + b → d + b ≤ c + c → max (x + c) d + max (x + a) b ≤ max (x + b) c + max (x + b) c
    at x a b c d p q = omega arith

-- ---- one of the numbers in front of the others

-- two lists have the same greatest sums
abbrev AreAlike : List ℕ → List ℕ → Type 0
AreAlike xs ys = (k : ℕ) → largest k xs ≡ largest k ys

alike_behind : (x : ℕ) (xs ys : List ℕ) → AreAlike xs ys → AreAlike (x ∷ xs) (x ∷ ys)
alike_behind x xs ys same zero = refl
alike_behind x xs ys same (suc k) = λ i. max (x + same k i) (same (suc k) i)

swapped : (x y : ℕ) (zs : List ℕ) → AreAlike (x ∷ y ∷ zs) (y ∷ x ∷ zs)
swapped x y zs zero = refl
swapped x y zs (suc zero) = at x y (largest 1 zs)
  where
    at : (x y c : ℕ) → max (x + 0) (max (y + 0) c) ≡ max (y + 0) (max (x + 0) c)
    at x y c = omega arith
swapped x y zs (suc (suc k)) = at x y (largest k zs) (largest (suc k) zs) (largest (suc (suc k)) zs)
  where
    at : (x y a b c : ℕ) → max (x + max (y + a) b) (max (y + b) c) ≡ max (y + max (x + a) b) (max (x + b) c)
    at x y a b c = omega arith

zero_behind : (xs : List ℕ) → AreAlike (0 ∷ xs) xs
zero_behind xs zero = refl
zero_behind xs (suc k) = at (largest k xs) (largest (suc k) xs) (more k xs)
  where
    at : (a b : ℕ) → a ≤ b → max (0 + a) b ≡ b
    at a b h = omega arith

-- the numbers of f are v and the rest, and those of g the rest alone
record Parts (f g : ℕ → ℕ) (v : ℕ) (ks : List ℕ) : Type 0 where
  rest : List ℕ
  all : AreAlike (map f ks) (v ∷ rest)
  others : AreAlike (map g ks) rest

map_apart : (f g : ℕ → ℕ) (me low n : ℕ) → ((t : ℕ) → t ≢ me → g t ≡ f t) → me < low → map g (range_with_len low n) ≡ map f (range_with_len low n)
map_apart f g me low zero same above = refl
map_apart f g me low (suc n) same above =
    let apart : low ≢ me = (λ e. omega (arith, e, above)) in
    (λ i. same low apart i ∷ map_apart f g me (low + 1) n same (omega arith) i)

parts : (f g : ℕ → ℕ) (me low n : ℕ) → ((t : ℕ) → t ≢ me → g t ≡ f t) → g me ≡ 0 → low ≤ me → me < low + n → Parts f g (f me) (range_with_len low n)
parts f g me low zero same none least most = absurd (omega arith)
parts f g me low (suc n) same none least most = elim (eqb_tells low me) [
  | inl here ↦ record {
    rest = map f (range_with_len (low + 1) n);
    all = λ k. ap (λ x. largest k (x ∷ map f (range_with_len (low + 1) n))) (ap f here.1);
    others = λ k.
        (λ i. largest k ((ap g here.1 ∙ none) i ∷ map_apart f g me (low + 1) n same (omega (arith, here.1)) i))
        ∙ zero_behind (map f (range_with_len (low + 1) n)) k;
  }
  | inr other ↦
      let apart : low ≢ me = other.1 in
      let later = parts f g me (low + 1) n same none (omega arith) (omega arith) in
      record {
        rest = f low ∷ later.rest;
        all = λ k. alike_behind (f low) (map f (range_with_len (low + 1) n)) (f me ∷ later.rest) later.all k ∙ swapped (f low) (f me) later.rest k;
        others = λ k. ap (λ x. largest k (x ∷ map g (range_with_len (low + 1) n))) (same low apart) ∙ alike_behind (f low) (map g (range_with_len (low + 1) n)) later.rest later.others k;
      }
]

-- the greatest sum of the rest
without : (k v : ℕ) (xs : List ℕ) → min (largest k (v ∷ xs)) (largest (suc k) (v ∷ xs) - v) ≡ largest k xs
without zero v xs = at v (largest 1 xs)
  where
    at : (v b : ℕ) → min 0 (max (v + 0) b - v) ≡ 0
    at v b = omega arith
without (suc k) v xs = at v (largest k xs) (largest (suc k) xs) (largest (suc (suc k)) xs) (more k xs) (more (suc k) xs) (slower k xs)
  where
    at : (v a b c : ℕ) → a ≤ b → b ≤ c → c + a ≤ b + b → min (max (v + a) b) (max (v + b) c - v) ≡ b
    at v a b c p q r = omega arith

front_most : (k v : ℕ) (xs : List ℕ) → v ≤ largest (suc k) (v ∷ xs)
front_most k v xs = omega arith

-- ---- of a row

module _ (row : List (Option ℕ)) (tasks me : ℕ) (within : me < tasks) where
  mine : (me == me) ≡ true
  mine = eq-eqb me me refl

  row_other : (t : ℕ) → t ≢ me → other_at row me t ≡ row_at row t
  row_other t apart = ap (λ b. cond b None (row_at row t)) (unequal t me apart)

  row_mine : other_at row me me ≡ None
  row_mine = ap (λ b. cond b None (row_at row me)) mine

  pub other_writers : writers_in row tasks me + one_if (is_some (row_at row me)) ≡ writers_there row tasks
  other_writers =
      sum_other (λ t. cond (is_some (row_at row t)) 1 0) (λ t. cond (is_some (other_at row me t)) 1 0) me 0 tasks
      (λ t apart. ap (λ o. cond (is_some o) 1 0) (row_other t apart)) (ap (λ o. cond (is_some o) 1 0) row_mine) (omega arith) (omega arith)

  other_written : sum_by (write_length_in row me) (tasks_of tasks) + length_in row me ≡ sum_by (length_in row) (tasks_of tasks)
  other_written =
      sum_other (length_in row) (write_length_in row me) me 0 tasks
      (λ t apart. ap (λ o. unwrap_or o 0) (row_other t apart)) (ap (λ o. unwrap_or o 0) row_mine) (omega arith) (omega arith)

  row_parts : Parts (length_in row) (write_length_in row me) (length_in row me) (tasks_of tasks)
  row_parts =
      parts (length_in row) (write_length_in row me) me 0 tasks
      (λ t apart. ap (λ o. unwrap_or o 0) (row_other t apart)) (ap (λ o. unwrap_or o 0) row_mine) (omega arith) (omega arith)

  -- where all others count under a cap, their greatest sum is the sum of all
  pub all_others : (k : ℕ) → writers_in row tasks me ≤ k → largest k (map (write_length_in row me) (tasks_of tasks)) ≡ sum_by (write_length_in row me) (tasks_of tasks)
  all_others k few = all_largest (other_at row me) k (tasks_of tasks) few

  -- *The greatest sum of a cap of others, without those that cannot count*
  pub capped : (k : ℕ) → largest (min (writers_in row tasks me) k) (map (write_length_in row me) (tasks_of tasks)) ≡ largest k (map (write_length_in row me) (tasks_of tasks))
  capped k = elim (eqb_tells (min (writers_in row tasks me) k) k) [
    | inl same ↦ ap (λ n. largest n (map (write_length_in row me) (tasks_of tasks))) same.1
    | inr other ↦
        let apart : min (writers_in row tasks me) k ≢ k = other.1 in
        let few : writers_in row tasks me ≤ k = omega arith in
        all_others (min (writers_in row tasks me) k) (omega arith) ∙ sym (all_others k few)
  ]

  -- the greatest sum of others from those of all
  greatest_beside : (k fewer most : ℕ) → fewer ≡ largest k (map (length_in row) (tasks_of tasks)) → most ≡ largest (suc k) (map (length_in row) (tasks_of tasks))
      → min fewer (most - length_in row me) ≡ largest k (map (write_length_in row me) (tasks_of tasks))
  greatest_beside k fewer most first second =
      (λ i. min ((first ∙ row_parts.all k) i) ((second ∙ row_parts.all (suc k)) i - length_in row me)) ∙ without k (length_in row me) row_parts.rest ∙ sym (row_parts.others k)

  own_most : (k most : ℕ) → most ≡ largest (suc k) (map (length_in row) (tasks_of tasks)) → length_in row me ≤ most
  own_most k most is =
      let front = front_most k (length_in row me) row_parts.rest in
      omega (arith, is, row_parts.all (suc k), front)

  -- the sum of all gives it where all others count
  sum_beside : (k all : ℕ) → all ≡ sum_by (length_in row) (tasks_of tasks) → writers_in row tasks me ≤ k → min all (all - length_in row me) ≡ largest k (map (write_length_in row me) (tasks_of tasks))
  sum_beside k all is few = at all (length_in row me) (sum_by (write_length_in row me) (tasks_of tasks)) (other_written ∙ sym is) ∙ sym (all_others k few)
    where
      at : (a o s : ℕ) → s + o ≡ a → min a (a - o) ≡ s
      at a o s h = omega arith

  own_all : (all : ℕ) → all ≡ sum_by (length_in row) (tasks_of tasks) → length_in row me ≤ all
  own_all all is = omega (arith, is, other_written)

-- ---- *The sums of a row*

-- what passes a test among some tasks is no more than they are, and less where one of them does not pass
no_more : (h : ℕ → Bool) (low n : ℕ) → count_by h (range_with_len low n) ≤ n
no_more h low zero = omega arith
no_more h low (suc n) = at (h low) (count_by h (range_with_len (low + 1) n)) (count_by h (range_with_len low (suc n))) (sum_by-cons (λ t. cond (h t) 1 0) low (range_with_len (low + 1) n)) (no_more h (low + 1) n)
  where
    at : (b : Bool) (c d : ℕ) → d ≡ cond b 1 0 + c → c ≤ n → d ≤ suc n
    at true c d e h = omega arith
    at false c d e h = omega arith

fewer : (h : ℕ → Bool) (me low n : ℕ) → h me ≡ false → low ≤ me → me < low + n → count_by h (range_with_len low n) + 1 ≤ n
fewer h me low zero not_me least most = absurd (omega arith)
fewer h me low (suc n) not_me least most =
    let split = sum_by-cons (λ t. cond (h t) 1 0) low (range_with_len (low + 1) n) in
    elim (eqb_tells low me) [
      | inl here ↦ first (count_by h (range_with_len (low + 1) n)) (count_by h (range_with_len low (suc n))) (split ∙ ap (λ b. cond b 1 0 + count_by h (range_with_len (low + 1) n)) (ap h here.1 ∙ not_me)) (no_more h (low + 1) n)
      | inr other ↦
          let apart : low ≢ me = other.1 in
          later (h low) (count_by h (range_with_len (low + 1) n)) (count_by h (range_with_len low (suc n))) split (fewer h me (low + 1) n not_me (omega arith) (omega arith))
    ]
  where
    first : (c d : ℕ) → d ≡ 0 + c → c ≤ n → d + 1 ≤ suc n
    first c d e h = omega arith

    later : (b : Bool) (c d : ℕ) → d ≡ cond b 1 0 + c → c + 1 ≤ n → d + 1 ≤ suc n
    later true c d e h = omega arith
    later false c d e h = omega arith

-- others count under a cap where all tasks are no more than it, or all writers fewer
pub few_tasks : (row : List (Option ℕ)) (tasks cap me : ℕ) → tasks ≤ cap → me < tasks → writers_in row tasks me ≤ cap - 1
few_tasks row tasks cap me few within =
    omega (arith, fewer (λ t. is_some (other_at row me t)) me 0 tasks (ap is_some (row_mine row tasks me within)) (omega arith) (omega arith))

pub few_writers : (row : List (Option ℕ)) (tasks cap me : ℕ) → writers_there row tasks < cap → me < tasks → writers_in row tasks me ≤ cap - 1
few_writers row tasks cap me few within = omega (arith, other_writers row tasks me within)

module _ (row : List (Option ℕ)) (tasks : ℕ) (s : GreatestSums) where
  -- the sum of all serves for both where all others count
  pub all_are : (cap all : ℕ) → s ≡ record { fewer = all; most = all } → all ≡ sum_by (length_in row) (tasks_of tasks) → all ≤ 255 * 2 ^ 32 → ((me : ℕ) → me < tasks → writers_in row tasks me ≤ cap - 1) → AreSums row tasks cap s
  all_are cap all is sum small few = record {
    own = λ me within. subst (λ (n : ℕ). length_in row me ≤ n) (sym (ap (λ s. s.most) is)) (own_all row tasks me within all sum);
    beside = λ me within. (λ i. min ((ap (λ s. s.fewer) is) i) ((ap (λ s. s.most) is) i - length_in row me)) ∙ sum_beside row tasks me within (cap - 1) all sum (few me within);
    small = subst (λ (n : ℕ). n ≤ 255 * 2 ^ 32) (sym (ap (λ s. s.most) is)) small;
  }

  pub greatest_are : (cap : ℕ) → 1 ≤ cap → AreGreatest row tasks cap s → AreSums row tasks cap s
  greatest_are zero some are = absurd (omega arith)
  greatest_are (suc k) some are = record {
    own = λ me within. own_most row tasks me within k s.most are.most;
    beside = λ me within.
        greatest_beside row tasks me within k s.fewer s.most (are.fewer ∙ ap (λ n. largest n (map (length_in row) (tasks_of tasks))) (sym (less k))) are.most ∙ ap (λ n. largest n (map (write_length_in row me) (tasks_of tasks))) (less k);
    small = are.small;
  }
    where
      less : (k : ℕ) → k ≡ suc k - 1
      less k = omega arith
