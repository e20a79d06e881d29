-- The longest of some lengths: a length that is at least as long as all others is the longest.
use Rattle.std.proofs.Common.{◌≡◌, ◌<◌, ◌≢◌, ◌==◌, ℕ, Bool, true, false, cond, List, [], ◌∷◌, fold, Option, Some, None, refl, sym, ap, ◌∙◌, inl, inr, arith}
use Rattle.std.specs.List.{range_with_len}
use Rattle.std.specs.Option.{option_eq}
use Rattle.std.proofs.lemmas.Bool.{eqb-true}
use Rattle.std.proofs.lemmas.Bool.Decides.{eqb_tells}
use Rattle.rmodel.specs.WellFormed.{Among}
use Rattle.rbound.specs.Longest.{longer, longest_of}
use Rattle.rbound.specs.ZoneRows.{beside}
use Rattle.rbound.proofs.LongestClaims.{longer_none, longer_assoc, folded}
use Rattle.rbound.proofs.BesideFacts.{unless_me, beside_is, range_has}
use Rattle.rbound_table.specs.Two.{two_at}
use Rattle.rbound_table.specs.declared.two.TwoLongest.{TwoLongest}
use Rattle.rbound_table.proofs.TwoFacts.{itself, swapped}

again : (a b : Option ℕ) → longer (longer a b) a ≡ longer a b
again a b = swapped (longer a b) a ∙ sym (longer_assoc a a b) ∙ ap (λ x. longer x b) (itself a)

again_second : (a b : Option ℕ) → longer (longer a b) b ≡ longer a b
again_second a b = longer_assoc a b b ∙ ap (longer a) (itself b)

-- each of some lengths is no longer than their longest
pub in_longest : (h : ℕ → Option ℕ) (ks : List ℕ) (k : ℕ) → Among k ks → longer (longest_of h ks) (h k) ≡ longest_of h ks
in_longest h [] k there = absurd there
in_longest h (x ∷ ks) k (inl same) = ap (λ y. longer (longer (h x) (longest_of h ks)) (h y)) same ∙ again (h x) (longest_of h ks)
in_longest h (x ∷ ks) k (inr later) = longer_assoc (h x) (longest_of h ks) (h k) ∙ ap (longer (h x)) (in_longest h ks k later)

-- what is no shorter than each is no shorter than their longest
pub over_all : (g : ℕ → Option ℕ) (ks : List ℕ) (top : Option ℕ) → ((k : ℕ) → Among k ks → longer top (g k) ≡ top) → longer top (longest_of g ks) ≡ top
over_all g [] top over = longer_none top
over_all g (x ∷ ks) top over =
    sym (longer_assoc top (g x) (longest_of g ks)) ∙ ap (λ y. longer y (longest_of g ks)) (over x (inl refl)) ∙ over_all g ks top (λ k there. over k (inr there))

-- and it is their longest, where it is one of them
pub top_is : (g : ℕ → Option ℕ) (ks : List ℕ) (top : Option ℕ) → ((k : ℕ) → Among k ks → longer top (g k) ≡ top) → (k : ℕ) → Among k ks → g k ≡ top → longest_of g ks ≡ top
top_is g [] top over k there is = absurd there
top_is g (x ∷ ks) top over k (inl same) is = ap (λ y. longer y (longest_of g ks)) (sym (ap g same) ∙ is) ∙ over_all g ks top (λ m there. over m (inr there))
top_is g (x ∷ ks) top over k (inr later) is = ap (longer (g x)) (top_is g ks top (λ m there. over m (inr there)) k later is) ∙ swapped (g x) top ∙ over x (inl refl)

-- ---- of all tasks but one

pub under_unless : (c : Bool) (t o : Option ℕ) → longer t o ≡ t → longer t (cond c None o) ≡ t
under_unless true t o h = longer_none t
under_unless false t o h = h

-- a length that is no shorter than the longer of two is no shorter than each
under_two : (c : Bool) (t a b : Option ℕ) → longer t (longer a b) ≡ t → longer t (cond c b a) ≡ t
under_two true t a b h = ap (λ x. longer x b) (sym h) ∙ longer_assoc t (longer a b) b ∙ ap (longer t) (again_second a b) ∙ h
under_two false t a b h = ap (λ x. longer x a) (sym h) ∙ longer_assoc t (longer a b) a ∙ ap (longer t) (again a b) ∙ h

-- *The longest of all is the longest beside one task*, where the longest is of another task and holds up a third one
pub top_beside : (tasks me w : ℕ) (two : ℕ → TwoLongest) (top : Option ℕ) → top ≡ fold (λ most k. longer most (longer (two k).longest (two k).next)) None (range_with_len 0 tasks)
    → w < tasks → (w == me) ≡ false → two_at (two w) me ≡ top → top ≡ beside tasks me (λ k. two_at (two k) me)
top_beside tasks me w two top are within other is =
    sym (top_is (unless_me me (λ k. two_at (two k) me)) (range_with_len 0 tasks) top over w (range_has 0 tasks w (omega arith) (omega arith)) (ap (λ c. cond c None (two_at (two w) me)) other ∙ is))
    ∙ sym (beside_is tasks me (λ k. two_at (two k) me))
  where
    both : ℕ → Option ℕ
    both k = longer (two k).longest (two k).next

    all : top ≡ longest_of both (range_with_len 0 tasks)
    all = are ∙ folded both (range_with_len 0 tasks)

    over : (k : ℕ) → Among k (range_with_len 0 tasks) → longer top (unless_me me (λ k. two_at (two k) me) k) ≡ top
    over k there =
        under_unless (k == me) top (two_at (two k) me)
        (under_two ((two k).task == me) top (two k).longest (two k).next (ap (λ t. longer t (both k)) all ∙ in_longest both (range_with_len 0 tasks) k there ∙ sym all))

pub same_length : (a b : Option ℕ) → option_eq (λ x y. x == y) a b ≡ true → a ≡ b
same_length None None h = refl
same_length None (Some y) h = absurd cc
same_length (Some x) None h = absurd cc
same_length (Some x) (Some y) h = ap (λ z. Some z) (eqb-true x y h)

pub unequal : (a b : ℕ) → a ≢ b → (a == b) ≡ false
unequal a b apart = elim (eqb_tells a b) [ inl same ↦ absurd (apart same.1) | inr other ↦ other.0 ]
