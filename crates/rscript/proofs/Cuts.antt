-- Where the sections of a task begin and end.
use Rattle.std.proofs.Common.{◌≡◌, ℕ, zero, suc, ◌+◌, ◌-◌, ◌==◌, ◌≤◌, ◌<◌, Bool, true, false, List, [], ◌∷◌, ◌++◌, length, take, drop, get_or, slice_get, Some, cond, refl, sym, ap, subst, ◌∙◌, arith, zero-add}
use Rattle.std.proofs.lemmas.Bool.Decides.{nat_tests}
use Rattle.std.proofs.lemmas.List.{take_more, length-take-le}
use Rattle.std.proofs.lemmas.Option.{get_or_from_slice_get, slice_get-get_or}
use Rattle.rscript.specs.Sections.{ends_section, behind_sections, first_section, section_at, ends_from, end_of, start_of}
use Rattle.rscript.specs.declared.statement.Statement.{Statement}

-- the end of one section more, if the statement ends one
abbrev pub one_end : Bool → ℕ → List ℕ
one_end b n = cond b (n ∷ []) []

-- one statement more
pub ends_push : (n : ℕ) (statements : List Statement) (s : Statement) → ends_from n (statements ++ s ∷ []) ≡ ends_from n statements ++ one_end (ends_section s) (n + length statements + 1)
ends_push n [] s = by (ends_section s)
  where
    by : (b : Bool) → cond b ((n + 1) ∷ []) [] ≡ one_end b (n + 0 + 1)
    by true = ap (λ m. m ∷ []) (omega arith)
    by false = refl
ends_push n (x ∷ statements) s = by (ends_section x) (ends_push (n + 1) statements s ∙ ap (λ m. ends_from (n + 1) statements ++ one_end (ends_section s) m) (omega arith))
  where
    by : (b : Bool) → ends_from (n + 1) (statements ++ s ∷ []) ≡ ends_from (n + 1) statements ++ one_end (ends_section s) (n + suc (length statements) + 1)
        → cond b ((n + 1) ∷ ends_from (n + 1) (statements ++ s ∷ [])) (ends_from (n + 1) (statements ++ s ∷ []))
        ≡ cond b ((n + 1) ∷ ends_from (n + 1) statements) (ends_from (n + 1) statements) ++ one_end (ends_section s) (n + suc (length statements) + 1)
    by true more = ap (λ (ends : List ℕ). (n + 1) ∷ ends) more
    by false more = more

-- a section begins after the statements that stand before, ends after it begins, and not after all; and it is what stands
-- between
pub record IsCut (n : ℕ) (statements : List Statement) (k : ℕ) : Type 0 where
  pub low : n ≤ start_of n statements k
  pub rises : start_of n statements k ≤ end_of n statements k
  pub high : end_of n statements k ≤ n + length statements
  pub same : take (end_of n statements k - start_of n statements k) (drop (start_of n statements k - n) statements) ≡ section_at k statements

some_not_zero : (k : ℕ) → (suc k == 0) ≡ false
some_not_zero k = grind (arith, nat_tests)

one_less : (k : ℕ) → suc k - 1 ≡ k
one_less k = omega arith

start_some : (n : ℕ) (statements : List Statement) (k : ℕ) → start_of n statements (suc k) ≡ end_of n statements k
start_some n statements k = rw (some_not_zero k) (ap (end_of n statements) (one_less k))

-- a section that is the same without the first statement
step : (n : ℕ) (s : Statement) (statements : List Statement) (k j : ℕ) → start_of n (s ∷ statements) k ≡ start_of (n + 1) statements j → end_of n (s ∷ statements) k ≡ end_of (n + 1) statements j
    → section_at k (s ∷ statements) ≡ section_at j statements → IsCut (n + 1) statements j → IsCut n (s ∷ statements) k
step n s statements k j starts ends is cut =
    let low = cut.low in
    let rises = cut.rises in
    let high = cut.high in
    let after : start_of n (s ∷ statements) k - n ≡ suc (start_of (n + 1) statements j - (n + 1)) = ap (λ m. m - n) starts ∙ omega (arith, low) in
    record {
      low = omega (arith, starts, low);
      rises = omega (arith, starts, ends, rises);
      high = omega (arith, ends, high);
      same = (λ i. take (ends i - starts i) (drop (after i) (s ∷ statements))) ∙ cut.same ∙ sym is;
    }

first_is : (statements : List Statement) → section_at 0 statements ≡ first_section statements
first_is [] = refl
first_is (s ∷ statements) = refl

-- the ends of the sections, if the first statement ends one
abbrev ends_by : Bool → ℕ → List Statement → List ℕ
ends_by b n statements = cond b ((n + 1) ∷ ends_from (n + 1) statements) (ends_from (n + 1) statements)

-- where the first section ends
abbrev first_end : Bool → ℕ → List Statement → ℕ
first_end b n statements = get_or (ends_by b n statements) 0 (n + suc (length statements))

record IsFirst (b : Bool) (n : ℕ) (s : Statement) (statements : List Statement) : Type 0 where
  pub rises : n ≤ first_end b n statements
  pub high : first_end b n statements ≤ n + suc (length statements)
  pub same : take (first_end b n statements - n) (drop (n - n) (s ∷ statements)) ≡ s ∷ cond b [] (first_section statements)

-- the first section of all
first_cut : (b : Bool) (n : ℕ) (s : Statement) (statements : List Statement) → IsCut (n + 1) statements 0 → IsFirst b n s statements
first_cut true n s statements cut =
    let one : n + 1 - n ≡ 1 = omega arith in
    let none : n - n ≡ 0 = omega arith in
    record { rises = omega arith; high = omega arith; same = (λ i. take (one i) (drop (none i) (s ∷ statements))) }
first_cut false n s statements cut =
    let rises = cut.rises in
    let high = cut.high in
    let total : n + suc (length statements) ≡ n + 1 + length statements = omega arith in
    let last : first_end false n statements ≡ end_of (n + 1) statements 0 = ap (get_or (ends_from (n + 1) statements) 0) total in
    let more : first_end false n statements - n ≡ suc (end_of (n + 1) statements 0 - (n + 1)) = ap (λ m. m - n) last ∙ omega (arith, rises) in
    let none : n - n ≡ 0 = omega arith in
    let gone : 0 ≡ n + 1 - (n + 1) = omega arith in
    record {
      rises = omega (arith, last, rises);
      high = omega (arith, last, high, total);
      same = (λ i. take (more i) (drop (none i) (s ∷ statements)))
          ∙ ap (λ (xs : List Statement). s ∷ xs) ((λ i. take (end_of (n + 1) statements 0 - (n + 1)) (drop (gone i) statements)) ∙ cut.same ∙ first_is statements);
    }

begun : (n : ℕ) (s : Statement) (statements : List Statement) → IsFirst (ends_section s) n s statements → IsCut n (s ∷ statements) 0
begun n s statements first = record { low = omega arith; rises = first.rises; high = first.high; same = first.same }

-- ---- a later section

-- a later section is one of those after the first statement: the one before it there, if the first statement ends one
abbrev later : Bool → ℕ → ℕ
later b k = cond b k (suc k)

starts_later : (b : Bool) (n : ℕ) (statements : List Statement) (k : ℕ) → get_or (ends_by b n statements) k (n + suc (length statements)) ≡ start_of (n + 1) statements (later b k)
starts_later true n statements zero = refl
starts_later true n statements (suc k) = ap (get_or (ends_from (n + 1) statements) k) (omega arith) ∙ sym (start_some (n + 1) statements k)
starts_later false n statements k = ap (get_or (ends_from (n + 1) statements) k) (omega arith) ∙ sym (start_some (n + 1) statements k)

ends_later : (b : Bool) (n : ℕ) (statements : List Statement) (k : ℕ) → get_or (ends_by b n statements) (suc k) (n + suc (length statements)) ≡ end_of (n + 1) statements (later b k)
ends_later true n statements k = ap (get_or (ends_from (n + 1) statements) k) (omega arith)
ends_later false n statements k = ap (get_or (ends_from (n + 1) statements) (suc k)) (omega arith)

later_is : (b : Bool) (k : ℕ) → cond b (suc k - 1) (suc k) ≡ later b k
later_is true k = one_less k
later_is false k = refl

-- ---- any section

nothing : (i j : ℕ) → take {A = Statement} i (drop j []) ≡ []
nothing zero zero = refl
nothing zero (suc j) = refl
nothing (suc i) zero = refl
nothing (suc i) (suc j) = refl

none_starts : (n k : ℕ) → start_of n [] k ≡ n
none_starts n zero = refl
none_starts n (suc k) = start_some n [] k ∙ omega arith

pub cut : (n : ℕ) (statements : List Statement) (k : ℕ) → IsCut n statements k
cut n [] k =
    let starts = none_starts n k in
    record { low = omega (arith, starts); rises = omega (arith, starts); high = omega arith; same = nothing (end_of n [] k - start_of n [] k) (start_of n [] k - n) }
cut n (s ∷ statements) zero = begun n s statements (first_cut (ends_section s) n s statements (cut (n + 1) statements 0))
cut n (s ∷ statements) (suc k) =
    step n s statements (suc k) (later (ends_section s) k)
    (start_some n (s ∷ statements) k ∙ starts_later (ends_section s) n statements k)
    (ends_later (ends_section s) n statements k)
    (rw (some_not_zero k) (ap (λ j. first_section (behind_sections j statements)) (later_is (ends_section s) k)))
    (cut (n + 1) statements (later (ends_section s) k))

-- ---- for the code

-- the ends among the first statements, with one statement more
pub ends_more : (statements : List Statement) (i : ℕ) (s : Statement) → i < length statements → get_or statements i s ≡ s
    → ends_from 0 (take (i + 1) statements) ≡ ends_from 0 (take i statements) ++ one_end (ends_section s) (i + 1)
ends_more statements i s within at =
    ap (ends_from 0) (take_more statements i s within ∙ ap (λ x. take i statements ++ x ∷ []) at)
    ∙ ends_push 0 (take i statements) s
    ∙ ap (λ n. ends_from 0 (take i statements) ++ one_end (ends_section s) (n + 1)) (zero-add (length (take i statements)) ∙ length-take-le i statements (omega (arith, within)))

-- no section ends after all statements
pub end_within : (ends : List ℕ) (own statements : List Statement) (k x : ℕ) → ends ≡ ends_from 0 own → own ≡ statements → k < length ends → x ≡ get_or ends k x → x ≤ length statements
end_within ends own statements k x ends_are same less at =
    let there : slice_get ends k ≡ Some x = slice_get-get_or ends k x less ∙ ap Some (sym at) in
    let is : end_of 0 statements k ≡ x =
    (λ i. get_or (ends_from 0 (sym same i)) k (0 + length statements)) ∙ ap (λ (es : List ℕ). get_or es k (0 + length statements)) (sym ends_are) ∙ get_or_from_slice_get ends k x (0 + length statements) there in
    let high = (cut 0 statements k).high in
    omega (arith, is, high)

-- a section begins where the one before it ends
pub begins_before : (statements : List Statement) (before k : ℕ) → k ≡ suc before → end_of 0 statements before ≤ end_of 0 statements k
begins_before statements before k is =
    let rises = (cut 0 statements (suc before)).rises in
    let starts = start_some 0 statements before in
    subst (λ n. end_of 0 statements before ≤ end_of 0 statements n) (sym is) (omega (arith, rises, starts))

-- what stands from the start of a section to its end is the section
pub section_is : (statements own : List Statement) (k from to : ℕ) → own ≡ statements → from ≡ start_of 0 statements k → to ≡ end_of 0 statements k → take (to - from) (drop from own) ≡ section_at k statements
section_is statements own k from to same starts ends =
    let all : from ≡ start_of 0 statements k - 0 = omega (arith, starts) in
    (λ i. take (ends i - starts i) (drop (all i) (same i))) ∙ (cut 0 statements k).same

-- the ends go on with that of a section that ends here
pub ended_here : (statements : List Statement) (i : ℕ) (s : Statement) (old new : List ℕ) (b : Bool) → i < length statements → get_or statements i s ≡ s → ends_section s ≡ b → old ≡ ends_from 0 (take i statements)
    → new ≡ old ++ one_end b (i + 1) → new ≡ ends_from 0 (take (i + 1) statements)
ended_here statements i s old new b within at ends before after =
    after ∙ (λ j. before j ++ one_end (sym ends j) (i + 1)) ∙ sym (ends_more statements i s within at)
