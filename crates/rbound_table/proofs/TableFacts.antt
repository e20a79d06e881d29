-- A table that has taken all claims has, for each task and resource, the summary of the claims there.
use Rattle.std.proofs.Common.{◌≡◌, ◌≢◌, ◌<◌, ◌≤◌, ◌+◌, ◌*◌, ◌==◌, ◌&&◌, ◌||◌, ℕ, suc, Bool, true, false, cond, List, [], ◌∷◌, fold, length, get_or, take, drop, max, ◌++◌, ◌-◌, Option, Some, None, IsTrue, refl, sym, ap, subst, ◌∙◌, inl, inr, arith}
use Rattle.std.specs.Prelude.{replicate, nat_lt}
use Rattle.std.specs.List.{list_any, list_all, AllByRecursion}
use Rattle.std.specs.FinSet.{union}
use Rattle.std.proofs.lemmas.Bool.{eq-eqb, and_parts, and_from, or_left, or_right, ltb-true, lt-ltb}
use Rattle.std.proofs.lemmas.Bool.Decides.{eqb_tells}
use Rattle.std.proofs.lemmas.List.{get_or-set_same, get_or-set_other, length-set, get_or-replicate, append-nil, take_all, drop_all}
use Rattle.std.proofs.Math.Seq.{drop-cons}
use Rattle.rset.specs.Sets.{Set, rising, all_below}
use Rattle.rset.specs.declared.TheConstants.{RESOURCES}
use Rattle.rset.proofs.SetLemmas.{union_associative, union_same, rising_has, rising_below}
use Rattle.rbound.specs.Needs.{Needed}
use Rattle.rbound.specs.Longest.{longer, longest}
use Rattle.rbound_table.specs.Tables.{together, is_under, no_claims, cell_of, raised, cell_at, with_member, with_claim, with_claims, IsTable}
use Rattle.rbound_table.specs.declared.table.Cell.{Cell}

all_small : (xs : List ℕ) → ((l : ℕ) → list_any (λ y. y == l) xs ≡ true → l < RESOURCES) → list_all (λ l. nat_lt l RESOURCES) xs ≡ true
all_small [] h = refl
all_small (x ∷ xs) h = and_from _ _ (lt-ltb x RESOURCES (h x (or_left (x == x) _ (eq-eqb x x refl)))) (all_small xs (λ l there. h l (or_right (x == l) _ there)))

pub rising_all_below : (s : Set) → list_all (λ l. nat_lt l RESOURCES) (rising s) ≡ true
rising_all_below s = all_small (rising s) (rising_below s)

longer_again : (n : ℕ) (o : Option ℕ) → longer (Some n) (longer (Some n) o) ≡ longer (Some n) o
longer_again n None = let same : max n n ≡ n = omega arith in ap (λ x. Some x) same
longer_again n (Some m) = let same : max n (max n m) ≡ max n m = omega arith in ap (λ x. Some x) same

raised_again : (key : Set) (len : ℕ) (c : Cell) → raised key len (raised key len c) ≡ raised key len c
raised_again key len c =
    (λ i. record { longest = longer_again len c.longest i; beside = (sym (union_associative key key c.beside) ∙ ap (λ s. union s c.beside) (union_same key)) i })

-- with one more resource only the cell of the task and that resource changes
member_at : (t : ℕ) (key : Set) (len : ℕ) (cells : List Cell) (x u l : ℕ) → t * RESOURCES + RESOURCES ≤ length cells → x < RESOURCES → l < RESOURCES
    → cell_at (with_member t key len cells x) u l ≡ cond ((t == u) && (x == l)) (raised key len (cell_at cells u l)) (cell_at cells u l)
member_at t key len cells x u l long small within =
    elim (eqb_tells t u) [
      | inl task ↦ elim (eqb_tells x l) [
        | inl here ↦
            let same : u * RESOURCES + l ≡ t * RESOURCES + x = (λ i. sym task.1 i * RESOURCES + sym here.1 i) in
            ap (λ k. get_or (with_member t key len cells x) k no_claims) same
            ∙ get_or-set_same cells (t * RESOURCES + x) (raised key len (cell_at cells t x)) no_claims (omega arith)
            ∙ (λ i. raised key len (cell_at cells (task.1 i) (here.1 i)))
            ∙ sym (λ i. cond (task.0 i && here.0 i) (raised key len (cell_at cells u l)) (cell_at cells u l))
        | inr apart ↦
            let differs : u * RESOURCES + l ≢ t * RESOURCES + x = λ e. apart.1 (let tasks : t ≡ u = task.1 in omega arith) in
            get_or-set_other cells (t * RESOURCES + x) (u * RESOURCES + l) (raised key len (cell_at cells t x)) no_claims differs
            ∙ sym (λ i. cond (task.0 i && apart.0 i) (raised key len (cell_at cells u l)) (cell_at cells u l))
      ]
      | inr other ↦
          let differs : u * RESOURCES + l ≢ t * RESOURCES + x = λ e. other.1 (omega arith) in
          get_or-set_other cells (t * RESOURCES + x) (u * RESOURCES + l) (raised key len (cell_at cells t x)) no_claims differs
          ∙ sym (ap (λ b. cond (b && (x == l)) (raised key len (cell_at cells u l)) (cell_at cells u l)) other.0)
    ]

members_at : (t : ℕ) (key : Set) (len : ℕ) (xs : List ℕ) (cells : List Cell) (u l : ℕ) → list_all (λ x. nat_lt x RESOURCES) xs ≡ true → t * RESOURCES + RESOURCES ≤ length cells → l < RESOURCES
    → cell_at (fold (with_member t key len) cells xs) u l ≡ cond ((t == u) && list_any (λ x. x == l) xs) (raised key len (cell_at cells u l)) (cell_at cells u l)
members_at t key len [] cells u l small long within = at (t == u)
  where
    at : (b : Bool) → cell_at cells u l ≡ cond (b && false) (raised key len (cell_at cells u l)) (cell_at cells u l)
    at true = refl
    at false = refl
members_at t key len (x ∷ xs) cells u l small long within =
    let parts = and_parts (nat_lt x RESOURCES) (list_all (λ x. nat_lt x RESOURCES) xs) small in
    members_at t key len xs (with_member t key len cells x) u l parts.1 (omega (arith, length-set cells (t * RESOURCES + x) (raised key len (cell_at cells t x)))) within
    ∙ at (t == u) (x == l) (list_any (λ x. x == l) xs) (cell_at (with_member t key len cells x) u l) (member_at t key len cells x u l long (ltb-true x RESOURCES parts.0) within)
  where
    at : (a b c : Bool) (d : Cell) → d ≡ cond (a && b) (raised key len (cell_at cells u l)) (cell_at cells u l) → cond (a && c) (raised key len d) d ≡ cond (a && (b || c)) (raised key len (cell_at cells u l)) (cell_at cells u l)
    at false b c d h = h
    at true true true d h = ap (raised key len) h ∙ raised_again key len (cell_at cells u l)
    at true true false d h = h
    at true false true d h = ap (raised key len) h
    at true false false d h = h

length_members : (t : ℕ) (key : Set) (len : ℕ) (xs : List ℕ) (cells : List Cell) → length (fold (with_member t key len) cells xs) ≡ length cells
length_members t key len [] cells = refl
length_members t key len (x ∷ xs) cells = length_members t key len xs (with_member t key len cells x) ∙ length-set cells (t * RESOURCES + x) (raised key len (cell_at cells t x))

length_claims : (key : Needed → Set) (ns : List Needed) (cells : List Cell) → length (with_claims key ns cells) ≡ length cells
length_claims key [] cells = refl
length_claims key (n ∷ ns) cells = length_members n.claim.seat (key n) n.len (rising (key n)) (with_claims key ns cells) ∙ length_claims key ns cells

claims_at : (key : Needed → Set) (ns : List Needed) (cells : List Cell) (tasks : ℕ) → AllByRecursion (λ n. n.claim.seat < tasks) ns → AllByRecursion (λ n. IsTrue (all_below RESOURCES (key n))) ns
    → length cells ≡ tasks * RESOURCES → (t l : ℕ) → l < RESOURCES → cell_at cells t l ≡ no_claims → cell_at (with_claims key ns cells) t l ≡ cell_of key ns t l
claims_at key [] cells tasks seats below long t l within none = none
claims_at key (n ∷ ns) cells tasks seats below long t l within none =
    let rest = claims_at key ns cells tasks seats.1 below.1 long t l within none in
    let room : n.claim.seat * RESOURCES + RESOURCES ≤ length (with_claims key ns cells) = omega (arith, seats.0, long, length_claims key ns cells) in
    members_at n.claim.seat (key n) n.len (rising (key n)) (with_claims key ns cells) t l (rising_all_below (key n)) room within
    ∙ ap (λ b. cond ((n.claim.seat == t) && b) (raised (key n) n.len (cell_at (with_claims key ns cells) t l)) (cell_at (with_claims key ns cells) t l)) (rising_has (key n) below.0 l)
    ∙ ap (λ c. cond (is_under key t l n) (raised (key n) n.len c) c) rest
    ∙ at (is_under key t l n)
  where
    at : (b : Bool) → cond b (raised (key n) n.len (cell_of key ns t l)) (cell_of key ns t l)
        ≡ record { longest = cond b (longer (Some n.len) (longest (is_under key t l) ns)) (longest (is_under key t l) ns); beside = cond b (union (key n) (together key (is_under key t l) ns)) (together key (is_under key t l) ns) }
    at true = refl
    at false = refl

-- *A filled table*
pub table_filled : (key : Needed → Set) (ns : List Needed) (tasks : ℕ) (cells first : List Cell) → AllByRecursion (λ n. n.claim.seat < tasks) ns → AllByRecursion (λ n. IsTrue (all_below RESOURCES (key n))) ns
    → first ≡ replicate (tasks * RESOURCES) no_claims → length first ≡ tasks * RESOURCES → cells ≡ with_claims key ns first → IsTable key ns tasks cells
table_filled key ns tasks cells first seats below none long is = record {
  below = below;
  long = ap length is ∙ length_claims key ns first ∙ long;
  has = λ t l some within.
      ap (λ cs. cell_at cs t l) is
      ∙ claims_at key ns first tasks seats below long t l within
      (ap (λ cs. cell_at cs t l) none ∙ get_or-replicate (tasks * RESOURCES) (t * RESOURCES + l) no_claims no_claims (omega arith));
}

-- ---- while it is filled

pub record HasTaken (key : Needed → Set) (ns : List Needed) (first now : List Cell) (at : ℕ) : Type 0 where
  pub within : at ≤ length ns
  pub is : now ≡ with_claims key (drop at ns) first
  pub below : AllByRecursion (λ n. IsTrue (all_below RESOURCES (key n))) (drop at ns)

pub takes_more : (key : Needed → Set) (ns : List Needed) (first now then : List Cell) (at : ℕ) (n : Needed) (k : Set) → 0 < at → n ≡ get_or ns (at - 1) n → k ≡ key n → HasTaken key ns first now at
    → then ≡ with_claim now n.claim.seat k n.len → IsTrue (all_below RESOURCES k) → HasTaken key ns first then (at - 1)
takes_more key ns first now then at n k some is named so more below =
    let within = so.within in
    let less : at - 1 < length ns = omega arith in
    let next : suc (at - 1) ≡ at = omega arith in
    let front : drop (at - 1) ns ≡ n ∷ drop at ns = drop-cons ns (at - 1) n less ∙ (λ i. sym is i ∷ drop (next i) ns) in
    record {
      within = omega arith;
      is = more ∙ (λ i. with_claim (so.is i) n.claim.seat (named i) n.len) ∙ sym (ap (λ xs. with_claims key xs first) front);
      below = subst (λ (xs : List Needed). AllByRecursion (λ n. IsTrue (all_below RESOURCES (key n))) xs) (sym front) (subst (λ (s : Set). IsTrue (all_below RESOURCES s)) named below, so.below);
    }

-- what was written to all of a vector's items is what they are
pub whole : {X : Type 0} (len : ℕ) (xs items : List X) → length xs ≡ length items → len ≡ length items → take len (xs ++ drop (length xs) items) ≡ xs
whole len xs items same all =
    ap (λ ys. take len (xs ++ ys)) (drop_all (length xs) items (omega arith)) ∙ ap (take len) (append-nil xs) ∙ take_all len xs (omega arith)
