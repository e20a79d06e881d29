-- What a row says about all tasks but one.
use Rattle.std.proofs.Common.{◌≡◌, ◌<◌, ◌≤◌, ◌+◌, ◌&&◌, ◌||◌, ◌==◌, not, ℕ, zero, suc, Bool, true, false, cond, List, [], ◌∷◌, map, fold, Option, None, refl, sym, ap, ◌∙◌, inl, inr, arith}
use Rattle.std.specs.List.{list_any, range_with_len, AllByRecursion}
use Rattle.std.proofs.lemmas.Bool.{eq-eqb, eqb-true, and_parts, and_from}
use Rattle.std.proofs.lemmas.Bool.Decides.{eqb_tells}
use Rattle.rset.proofs.SetLemmas.{same_test}
use Rattle.rmodel.specs.WellFormed.{Among}
use Rattle.rmodel.proofs.ListFacts.{any_among, passing, all_at}
use Rattle.rbound.specs.Needs.{Needed}
use Rattle.rbound.specs.Longest.{longer, longest, longest_of}
use Rattle.rbound.specs.ZoneRows.{beside}
use Rattle.rbound.proofs.LongestClaims.{longer_none, longer_assoc, longest_any, longest_same, longest_of_same, longest_never}

-- ---- all tasks but one

-- what a task has, unless it is this one
abbrev pub unless_me : ℕ → (ℕ → Option ℕ) → ℕ → Option ℕ
unless_me me f t = cond (t == me) None (f t)

beside_from : (me : ℕ) (f : ℕ → Option ℕ) (ks : List ℕ) (most : Option ℕ) → fold (λ most t. cond (t == me) most (longer most (f t))) most ks ≡ longer most (longest_of (unless_me me f) ks)
beside_from me f [] most = sym (longer_none most)
beside_from me f (k ∷ ks) most = at (k == me) (beside_from me f ks)
  where
    at : (b : Bool) → ((m : Option ℕ) → fold (λ most t. cond (t == me) most (longer most (f t))) m ks ≡ longer m (longest_of (unless_me me f) ks))
        → fold (λ most t. cond (t == me) most (longer most (f t))) (cond b most (longer most (f k))) ks ≡ longer most (longer (cond b None (f k)) (longest_of (unless_me me f) ks))
    at true rest = rest most
    at false rest = rest (longer most (f k)) ∙ longer_assoc most (f k) (longest_of (unless_me me f) ks)

pub beside_is : (tasks me : ℕ) (f : ℕ → Option ℕ) → beside tasks me f ≡ longest_of (unless_me me f) (range_with_len 0 tasks)
beside_is tasks me f = beside_from me f (range_with_len 0 tasks) None

range_bounds : (low n a : ℕ) → Among a (range_with_len low n) → (low ≤ a) × (a < low + n)
range_bounds low zero a there = absurd there
range_bounds low (suc n) a (inl same) = (omega arith, omega arith)
range_bounds low (suc n) a (inr later) = let rest = range_bounds (low + 1) n a later in (omega (arith, rest.0), omega (arith, rest.1))

pub in_range : (n a : ℕ) → Among a (range_with_len 0 n) → a < n
in_range n a there = let bounds = range_bounds 0 n a there in omega (arith, bounds.1)

pub beside_same : (tasks me : ℕ) (f g : ℕ → Option ℕ) → ((t : ℕ) → t < tasks → f t ≡ g t) → beside tasks me f ≡ beside tasks me g
beside_same tasks me f g same =
    beside_is tasks me f ∙ longest_of_same (unless_me me f) (unless_me me g) (range_with_len 0 tasks) (λ t there. ap (cond (t == me) None) (same t (in_range tasks t there))) ∙ sym (beside_is tasks me g)

pub map_same : {X : Type 0} (f g : ℕ → X) (ks : List ℕ) → ((k : ℕ) → Among k ks → f k ≡ g k) → map f ks ≡ map g ks
map_same f g [] same = refl
map_same f g (k ∷ ks) same = (λ i. same k (inl refl) i ∷ map_same f g ks (λ m there. same m (inr there)) i)

pub range_has : (low n a : ℕ) → low ≤ a → a < low + n → Among a (range_with_len low n)
range_has low zero a least most = absurd (omega arith)
range_has low (suc n) a least most = elim (eqb_tells a low) [
  | inl same ↦ inl same.1
  | inr other ↦ let more : low + 1 ≤ a = (let ne : a ≡ low → ⊥ = other.1 in omega arith) in inr (range_has (low + 1) n a more (omega arith))
]

pub any_same : {X : Type 0} (p q : X → Bool) (xs : List X) → ((x : X) → Among x xs → p x ≡ q x) → list_any p xs ≡ list_any q xs
any_same p q [] same = refl
any_same p q (x ∷ xs) same = (λ i. same x (inl refl) i || any_same p q xs (λ y there. same y (inr there)) i)

module _ (ns : List Needed) (tasks : ℕ) where
  pub beside_longest : (me : ℕ) (p : ℕ → Needed → Bool) → beside tasks me (λ t. longest (p t) ns) ≡ longest (λ n. list_any (λ t. not (t == me) && p t n) (range_with_len 0 tasks)) ns
  beside_longest me p =
      beside_is tasks me (λ t. longest (p t) ns)
      ∙ longest_of_same (unless_me me (λ t. longest (p t) ns)) (λ t. longest (λ n. not (t == me) && p t n) ns) (range_with_len 0 tasks) (λ t there. at (t == me) (p t))
      ∙ sym (longest_any (λ t n. not (t == me) && p t n) (range_with_len 0 tasks) ns)
    where
      at : (b : Bool) (q : Needed → Bool) → cond b None (longest q ns) ≡ longest (λ n. not b && q n) ns
      at true q = sym (longest_never ns)
      at false q = refl

  -- the task of a claim is among the tasks but one, unless it is that one
  pub pick : (me a : ℕ) (b : Bool) → a < tasks → list_any (λ t. not (t == me) && ((a == t) && b)) (range_with_len 0 tasks) ≡ (not (a == me) && b)
  pick me a b some = same_test _ _
      (λ h.
      let found = passing (λ t. not (t == me) && ((a == t) && b)) (range_with_len 0 tasks) h in
      let outer = and_parts (not (found.0 == me)) ((a == found.0) && b) found.2 in
      let inner = and_parts (a == found.0) b outer.1 in
      and_from (not (a == me)) b (ap (λ k. not (k == me)) (eqb-true a found.0 inner.0) ∙ outer.0) inner.1)
      (λ h.
      let parts = and_parts (not (a == me)) b h in
      any_among (λ t. not (t == me) && ((a == t) && b)) (range_with_len 0 tasks) a (range_has 0 tasks a (omega arith) (omega arith)) (and_from (not (a == me)) ((a == a) && b) parts.0 (and_from (a == a) b (eq-eqb a a refl) parts.1)))

  -- *The longest of all tasks but one*, where each task has the longest of its claims that pass a test
  pub beside_all : (seats : AllByRecursion (λ (n : Needed). n.claim.seat < tasks) ns) (me : ℕ) (f : ℕ → Option ℕ) (q : Needed → Bool) → ((t : ℕ) → t < tasks → f t ≡ longest (λ n. (n.claim.seat == t) && q n) ns)
      → beside tasks me f ≡ longest (λ n. not (n.claim.seat == me) && q n) ns
  beside_all seats me f q is =
      beside_same tasks me f (λ t. longest (λ n. (n.claim.seat == t) && q n) ns) is
      ∙ beside_longest me (λ t n. (n.claim.seat == t) && q n)
      ∙ longest_same (λ n. list_any (λ t. not (t == me) && ((n.claim.seat == t) && q n)) (range_with_len 0 tasks)) (λ n. not (n.claim.seat == me) && q n) ns
      (λ n there. pick me n.claim.seat (q n) (all_at (λ (m : Needed). m.claim.seat < tasks) ns n seats there))
