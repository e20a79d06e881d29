-- The longest of claims: over a choice of tests, and over lists of numbers.
use Rattle.std.proofs.Common.{◌≡◌, ◌+◌, ℕ, Bool, true, false, ◌||◌, cond, max, List, [], ◌∷◌, fold, Option, Some, None, is_some, unwrap_or, refl, sym, ap, ◌∙◌, inl, inr, arith}
use Rattle.std.specs.List.{list_any}
use Rattle.rmodel.specs.WellFormed.{Among}
use Rattle.rbound.specs.Needs.{Needed}
use Rattle.rclaim.specs.declared.claim.Claim.{Claim}
use Rattle.rset.specs.Sets.{Set}
use Rattle.rbound.specs.Bounds.{greatest, one_if, may_keep, may_delay, may_bar, read_bound, ask_bound}
use Rattle.rbound.specs.Longest.{longer, longest, longest_of, one_of_each}

pub longer_none : (a : Option ℕ) → longer a None ≡ a
longer_none None = refl
longer_none (Some a) = refl

pub longer_assoc : (a b c : Option ℕ) → longer (longer a b) c ≡ longer a (longer b c)
longer_assoc None b c = refl
longer_assoc (Some a) None c = refl
longer_assoc (Some a) (Some b) None = refl
longer_assoc (Some a) (Some b) (Some c) = let same : max (max a b) c ≡ max a (max b c) = omega arith in ap (λ x. Some x) same

longer_twice : (a : ℕ) (b c : Option ℕ) → longer (Some a) (longer b c) ≡ longer (longer (Some a) b) (longer (Some a) c)
longer_twice a None None = let same : a ≡ max a a = omega arith in ap (λ x. Some x) same
longer_twice a None (Some c) = let same : max a c ≡ max a (max a c) = omega arith in ap (λ x. Some x) same
longer_twice a (Some b) None = let same : max a b ≡ max (max a b) a = omega arith in ap (λ x. Some x) same
longer_twice a (Some b) (Some c) = let same : max a (max b c) ≡ max (max a b) (max a c) = omega arith in ap (λ x. Some x) same

longer_left : (a : ℕ) (b c : Option ℕ) → longer (Some a) (longer b c) ≡ longer (longer (Some a) b) c
longer_left a b c = sym (longer_assoc (Some a) b c)

longer_right : (a : ℕ) (b c : Option ℕ) → longer (Some a) (longer b c) ≡ longer b (longer (Some a) c)
longer_right a None c = refl
longer_right a (Some b) None = let same : max a b ≡ max b a = omega arith in ap (λ x. Some x) same
longer_right a (Some b) (Some c) = let same : max a (max b c) ≡ max b (max a c) = omega arith in ap (λ x. Some x) same

-- the longest of the claims that pass one of two tests
pub longest_or : (p q : Needed → Bool) (ns : List Needed) → longest (λ n. p n || q n) ns ≡ longer (longest p ns) (longest q ns)
longest_or p q [] = refl
longest_or p q (n ∷ ns) = at (p n) (q n) (longest_or p q ns)
  where
    at : (a b : Bool) → longest (λ n. p n || q n) ns ≡ longer (longest p ns) (longest q ns)
        → cond (a || b) (longer (Some n.len) (longest (λ n. p n || q n) ns)) (longest (λ n. p n || q n) ns) ≡ longer (cond a (longer (Some n.len) (longest p ns)) (longest p ns)) (cond b (longer (Some n.len) (longest q ns)) (longest q ns))
    at true true h = ap (longer (Some n.len)) h ∙ longer_twice n.len (longest p ns) (longest q ns)
    at true false h = ap (longer (Some n.len)) h ∙ longer_left n.len (longest p ns) (longest q ns)
    at false true h = ap (longer (Some n.len)) h ∙ longer_right n.len (longest p ns) (longest q ns)
    at false false h = h

pub longest_never : (ns : List Needed) → longest (λ n. false) ns ≡ None
longest_never [] = refl
longest_never (n ∷ ns) = longest_never ns

-- *The longest of the claims that pass one of many tests* is the longest of those of each test
pub longest_any : (p : ℕ → Needed → Bool) (ks : List ℕ) (ns : List Needed) → longest (λ n. list_any (λ k. p k n) ks) ns ≡ longest_of (λ k. longest (p k) ns) ks
longest_any p [] ns = longest_never ns
longest_any p (k ∷ ks) ns = longest_or (p k) (λ n. list_any (λ k. p k n) ks) ns ∙ ap (longer (longest (p k) ns)) (longest_any p ks ns)

-- tests that agree on the claims
pub longest_same : (p q : Needed → Bool) (ns : List Needed) → ((n : Needed) → Among n ns → p n ≡ q n) → longest p ns ≡ longest q ns
longest_same p q [] same = refl
longest_same p q (n ∷ ns) same =
    (λ i. cond (same n (inl refl) i) (longer (Some n.len) (longest_same p q ns (λ m there. same m (inr there)) i)) (longest_same p q ns (λ m there. same m (inr there)) i))

pub longest_of_same : (f g : ℕ → Option ℕ) (ks : List ℕ) → ((k : ℕ) → Among k ks → f k ≡ g k) → longest_of f ks ≡ longest_of g ks
longest_of_same f g [] same = refl
longest_of_same f g (k ∷ ks) same = (λ i. longer (same k (inl refl) i) (longest_of_same f g ks (λ m there. same m (inr there)) i))

-- taken one after another, from the first number on
folded_from : (f : ℕ → Option ℕ) (ks : List ℕ) (most : Option ℕ) → fold (λ most k. longer most (f k)) most ks ≡ longer most (longest_of f ks)
folded_from f [] most = sym (longer_none most)
folded_from f (k ∷ ks) most = folded_from f ks (longer most (f k)) ∙ longer_assoc most (f k) (longest_of f ks)

pub folded : (f : ℕ → Option ℕ) (ks : List ℕ) → fold (λ most k. longer most (f k)) None ks ≡ longest_of f ks
folded f ks = folded_from f ks None

-- ---- what bounds are made of

pub longest_is : (p : Needed → Bool) (ns : List Needed) → is_some (longest p ns) ≡ list_any p ns
longest_is p [] = refl
longest_is p (n ∷ ns) = at (p n) (longest p ns) (longest_is p ns)
  where
    at : (b : Bool) (o : Option ℕ) → is_some o ≡ list_any p ns → is_some (cond b (longer (Some n.len) o) o) ≡ (b || list_any p ns)
    at true None h = refl
    at true (Some a) h = refl
    at false o h = h

pub longest_greatest : (p : Needed → Bool) (ns : List Needed) → unwrap_or (longest p ns) 0 ≡ greatest p ns
longest_greatest p [] = refl
longest_greatest p (n ∷ ns) = at (p n) (longest p ns) (longest_greatest p ns)
  where
    at : (b : Bool) (o : Option ℕ) → unwrap_or o 0 ≡ greatest p ns → unwrap_or (cond b (longer (Some n.len) o) o) 0 ≡ cond b (max n.len (greatest p ns)) (greatest p ns)
    at true None h = let same : n.len ≡ max n.len 0 = omega arith in same ∙ ap (max n.len) h
    at true (Some a) h = ap (max n.len) h
    at false o h = h

-- ---- as they are found

longest_from : (p : Needed → Bool) (ns : List Needed) (most : Option ℕ) → fold (λ most n. cond (p n) (longer most (Some n.len)) most) most ns ≡ longer most (longest p ns)
longest_from p [] most = sym (longer_none most)
longest_from p (n ∷ ns) most = at (p n) (longest_from p ns)
  where
    at : (b : Bool) → ((m : Option ℕ) → fold (λ most n. cond (p n) (longer most (Some n.len)) most) m ns ≡ longer m (longest p ns))
        → fold (λ most n. cond (p n) (longer most (Some n.len)) most) (cond b (longer most (Some n.len)) most) ns ≡ longer most (cond b (longer (Some n.len) (longest p ns)) (longest p ns))
    at true rest = rest (longer most (Some n.len)) ∙ longer_assoc most (Some n.len) (longest p ns)
    at false rest = rest most

-- taken one after another, from the first claim on
pub found_longest : (p : Needed → Bool) (ns : List Needed) → fold (λ most n. cond (p n) (longer most (Some n.len)) most) None ns ≡ longest p ns
found_longest p ns = longest_from p ns None

-- *The bound of a read wait*, by the longest write and the longest claim that delays it
pub read_is : (ns : List Needed) (r : Claim) → one_of_each (longest (may_keep r) ns) (longest (may_delay ns r) ns) ≡ read_bound ns r
read_is ns r =
    (λ i. record { reads = one_if (longest_is (may_delay ns r) ns i); writes = one_if (longest_is (may_keep r) ns i); units = longest_greatest (may_keep r) ns i + longest_greatest (may_delay ns r) ns i })

-- *The bound of an ask*, by the longest claim that bars it
pub ask_is : (ns : List Needed) (c : Claim) (part : Set) → one_of_each None (longest (may_bar c part) ns) ≡ ask_bound ns c part
ask_is ns c part =
    let alone : 0 + unwrap_or (longest (may_bar c part) ns) 0 ≡ unwrap_or (longest (may_bar c part) ns) 0 = omega arith in
    (λ i. record { reads = one_if (longest_is (may_bar c part) ns i); writes = 0; units = (alone ∙ longest_greatest (may_bar c part) ns) i })
