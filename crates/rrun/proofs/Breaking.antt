-- Where statements are broken off: after how many whole sections, and how far into the next one.
use Rattle.std.proofs.Common.{◌≡◌, ℕ, zero, suc, ◌+◌, ◌-◌, ◌<◌, ◌≤◌, Bool, true, false, cond, List, [], ◌∷◌, ◌++◌, fold, take, length, Option, None, refl, sym, ap, subst, ◌∙◌, append_assoc, arith}
use Rattle.std.proofs.Math.Dec.{eqb-suc-zero}
use Rattle.std.proofs.lemmas.Bool.{true≢false}
use Rattle.std.proofs.lemmas.List.Sums.{fold-append}
use Rattle.rscript.specs.Statements.{section_next, section_after}
use Rattle.rscript.specs.declared.section.OpenSection.{OpenSection}
use Rattle.rscript.specs.declared.statement.Statement.{Statement}
use Rattle.rscript.specs.declared.statement.Statement.TheVariants as statement
use Rattle.rrun.specs.Runs.{Told, deeds_next, entry_now, run_of, part_of, broken_off}
use Rattle.rrun.specs.Sections.{ends_section, first_sections, behind_sections, first_section, section_at}

-- ---- how many sections end within statements

abbrev pub sections_in : List Statement → ℕ
sections_in [] = 0
sections_in (s ∷ ss) = cond (ends_section s) (suc (sections_in ss)) (sections_in ss)

pub one_more : (xs : List Statement) (x : Statement) → sections_in (xs ++ x ∷ []) ≡ sections_in xs + cond (ends_section x) 1 0
one_more [] x = at (ends_section x)
  where
    at : (b : Bool) → cond b 1 0 ≡ 0 + cond b 1 0
    at true = refl
    at false = refl
one_more (s ∷ ss) x = at (ends_section s) (one_more ss x)
  where
    at : (b : Bool) → sections_in (ss ++ x ∷ []) ≡ sections_in ss + cond (ends_section x) 1 0
        → cond b (suc (sections_in (ss ++ x ∷ []))) (sections_in (ss ++ x ∷ [])) ≡ cond b (suc (sections_in ss)) (sections_in ss) + cond (ends_section x) 1 0
    at true more = omega (arith, more)
    at false more = more

pub no_more_than : (xs : List Statement) → sections_in xs ≤ length xs
no_more_than [] = omega arith
no_more_than (s ∷ ss) = at (ends_section s) (no_more_than ss)
  where
    at : (b : Bool) → sections_in ss ≤ length ss → cond b (suc (sections_in ss)) (sections_in ss) ≤ suc (length ss)
    at true less = omega (arith, less)
    at false less = omega (arith, less)

-- ---- sections, one after another

module _ (k : ℕ) (s : Statement) (ss : List Statement) (b : Bool) (is : ends_section s ≡ b) where
  less : suc k - 1 ≡ k
  less = omega arith

  first_more : first_sections (suc k) (s ∷ ss) ≡ s ∷ first_sections (cond b k (suc k)) ss
  first_more = λ i. cond (eqb-suc-zero k i) [] (s ∷ first_sections (cond (is i) (less i) (suc k)) ss)

  behind_more : behind_sections (suc k) (s ∷ ss) ≡ behind_sections (cond b k (suc k)) ss
  behind_more = λ i. cond (eqb-suc-zero k i) (s ∷ ss) (behind_sections (cond (is i) (less i) (suc k)) ss)

  at_more : section_at (suc k) (s ∷ ss) ≡ section_at (cond b k (suc k)) ss
  at_more = ap first_section behind_more

first_none : (ss : List Statement) → first_sections 0 ss ≡ []
first_none [] = refl
first_none (s ∷ ss) = refl

behind_all : (ss : List Statement) → behind_sections 0 ss ≡ ss
behind_all [] = refl
behind_all (s ∷ ss) = refl

-- ---- as far as the front of some statements: k whole sections, and a part of the next

pub record IsCut (k : ℕ) (front ss : List Statement) : Type 0 where
  pub count : ℕ
  pub some : count < length (section_at k ss)
  pub is : front ≡ first_sections k ss ++ take count (section_at k ss)

-- one statement more before them
cut_behind : (k later : ℕ) (s : Statement) (front ss : List Statement) → IsCut k front ss → first_sections later (s ∷ ss) ≡ s ∷ first_sections k ss → section_at later (s ∷ ss) ≡ section_at k ss → IsCut later (s ∷ front) (s ∷ ss)
cut_behind k later s front ss cut first section = record {
  count = cut.count;
  some = subst (λ (xs : List Statement). cut.count < length xs) (sym section) cut.some;
  is = ap (λ (xs : List Statement). s ∷ xs) cut.is ∙ (λ i. sym first i ++ take cut.count (sym section i));
}

cut_within : (s : Statement) (front ss : List Statement) → ends_section s ≡ false → IsCut 0 front ss → IsCut 0 (s ∷ front) (s ∷ ss)
cut_within s front ss goes cut = record {
  count = suc cut.count;
  some = subst (λ (xs : List Statement). suc cut.count < length xs) (sym section) (omega (arith, more));
  is = ap (λ (xs : List Statement). s ∷ xs) (cut.is ∙ (λ i. first_none ss i ++ take cut.count (first_section (behind_all ss i)))) ∙ ap (λ (xs : List Statement). take (suc cut.count) xs) (sym section);
}
  where
    section : s ∷ cond (ends_section s) [] (first_section ss) ≡ s ∷ first_section ss
    section = ap (λ (b : Bool). s ∷ cond b [] (first_section ss)) goes

    more : cut.count < length (first_section ss)
    more = subst (λ (xs : List Statement). cut.count < length (first_section xs)) (behind_all ss) cut.some

cut_more : (k : ℕ) (s : Statement) (front ss : List Statement) → IsCut k front ss → IsCut (cond (ends_section s) (suc k) k) (s ∷ front) (s ∷ ss)
cut_more k s front ss cut = at (ends_section s) refl
  where
    at : (b : Bool) → ends_section s ≡ b → IsCut (cond b (suc k) k) (s ∷ front) (s ∷ ss)
    at true ends = cut_behind k (suc k) s front ss cut (first_more k s ss true ends) (at_more k s ss true ends)
    at false goes = same k cut
      where
        same : (k : ℕ) → IsCut k front ss → IsCut k (s ∷ front) (s ∷ ss)
        same zero cut = cut_within s front ss goes cut
        same (suc k) cut = cut_behind (suc k) (suc k) s front ss cut (first_more k s ss false goes) (at_more k s ss false goes)

pub cut_at : (i : ℕ) (ss : List Statement) → i < length ss → IsCut (sections_in (take i ss)) (take i ss) ss
cut_at i [] less = absurd (omega (arith, less))
cut_at zero (s ∷ ss) less = record { count = 0; some = omega arith; is = refl }
cut_at (suc i) (s ∷ ss) less = cut_more (sections_in (take i ss)) s (take i ss) ss (cut_at i ss (omega (arith, less)))

-- ---- whole sections leave nothing open

module _ {X : Type 0} (next : X → Statement → X) (none : X) (ended : (x : X) (s : Statement) → ends_section s ≡ true → next x s ≡ none) where
  at_rest : (k : ℕ) (x : X) (ss : List Statement) → (k ≡ 0 → x ≡ none) → 0 < length (section_at k ss) → fold next x (first_sections k ss) ≡ none
  at_rest k x [] first some = absurd (omega (arith, some))
  at_rest zero x (s ∷ ss) first some = first refl
  at_rest (suc k) x (s ∷ ss) first some = at (ends_section s) refl (λ f h. at_rest k (next x s) ss f h) (λ f h. at_rest (suc k) (next x s) ss f h)
    where
      at : (b : Bool) → ends_section s ≡ b → ((k ≡ 0 → next x s ≡ none) → 0 < length (section_at k ss) → fold next (next x s) (first_sections k ss) ≡ none)
          → ((suc k ≡ 0 → next x s ≡ none) → 0 < length (section_at (suc k) ss) → fold next (next x s) (first_sections (suc k) ss) ≡ none) → fold next x (first_sections (suc k) (s ∷ ss)) ≡ none
      at true is fewer same = ap (λ (xs : List Statement). fold next x xs) (first_more k s ss true is) ∙ fewer (λ _. ended x s is) (subst (λ (xs : List Statement). 0 < length xs) (at_more k s ss true is) some)
      at false is fewer same = ap (λ (xs : List Statement). fold next x xs) (first_more k s ss false is) ∙ same (λ h. absurd (omega (arith, h))) (subst (λ (xs : List Statement). 0 < length xs) (at_more k s ss false is) some)

closes : (o : Option OpenSection) (s : Statement) → ends_section s ≡ true → section_next o s ≡ None
closes o (statement.Begin r) h = absurd (true≢false (sym h))
closes o (statement.Edit place edit) h = absurd (true≢false (sym h))
closes o (statement.Show place) h = absurd (true≢false (sym h))
closes o (statement.Ask part) h = absurd (true≢false (sym h))
closes o statement.Rise h = absurd (true≢false (sym h))
closes o statement.Finish h = refl

takes_all : (ds : List Statement) (s : Statement) → ends_section s ≡ true → deeds_next ds s ≡ []
takes_all ds (statement.Begin r) h = refl
takes_all ds (statement.Edit place edit) h = absurd (true≢false (sym h))
takes_all ds (statement.Show place) h = absurd (true≢false (sym h))
takes_all ds (statement.Ask part) h = absurd (true≢false (sym h))
takes_all ds statement.Rise h = refl
takes_all ds statement.Finish h = refl

-- ---- the entries of statements that were broken off

run_of_both : (n : ℕ) (deeds xs ys : List Statement) → run_of n deeds (xs ++ ys) ≡ run_of n deeds xs ++ run_of n (fold deeds_next deeds xs) ys
run_of_both n deeds [] ys = refl
run_of_both n deeds (x ∷ xs) ys =
    ap (λ (es : List Told). entry_now n deeds x ++ es) (run_of_both n (deeds_next deeds x) xs ys)
    ∙ sym (append_assoc (entry_now n deeds x) (run_of n (deeds_next deeds x) xs) (run_of n (fold deeds_next (deeds_next deeds x) xs) ys))

-- those of the sections before, and of a part of the next
pub cut_run : (n k : ℕ) (front ss : List Statement) (cut : IsCut k front ss) → run_of n [] front ++ broken_off n (section_after front) ≡ run_of n [] (first_sections k ss) ++ part_of n (take cut.count (section_at k ss))
cut_run n k front ss cut =
    ap (λ (xs : List Statement). run_of n [] xs ++ broken_off n (section_after xs)) cut.is
    ∙ (λ i. run i ++ broken_off n (left i))
    ∙ append_assoc (run_of n [] whole) (run_of n [] part) (broken_off n (section_after part))
  where
    whole : List Statement
    whole = first_sections k ss

    part : List Statement
    part = take cut.count (section_at k ss)

    some : 0 < length (section_at k ss)
    some = let less = cut.some in omega (arith, less)

    run : run_of n [] (whole ++ part) ≡ run_of n [] whole ++ run_of n [] part
    run = run_of_both n [] whole part ∙ ap (λ (ds : List Statement). run_of n [] whole ++ run_of n ds part) (at_rest deeds_next [] takes_all k [] ss (λ _. refl) some)

    left : section_after (whole ++ part) ≡ section_after part
    left = fold-append section_next None whole part ∙ ap (λ (o : Option OpenSection). fold section_next o part) (at_rest section_next None closes k None ss (λ _. refl) some)

-- ---- a section by itself

none_behind : (m : ℕ) (ss : List Statement) → behind_sections (suc m) (first_section ss) ≡ []
none_behind m [] = refl
none_behind m (s ∷ ss) = at (ends_section s) refl (none_behind m ss)
  where
    at : (b : Bool) → ends_section s ≡ b → behind_sections (suc m) (first_section ss) ≡ [] → behind_sections (suc m) (s ∷ cond b [] (first_section ss)) ≡ []
    at true is rest = behind_more m s [] true is
    at false is rest = behind_more m s (first_section ss) false is ∙ rest

-- it has no second one
pub only_one : (m : ℕ) (ss : List Statement) (count : ℕ) → count < length (section_at m (first_section ss)) → m ≡ 0
only_one zero ss count some = refl
only_one (suc m) ss count some = absurd (nothing (subst (λ (xs : List Statement). count < length (first_section xs)) (none_behind m ss) some))
  where
    nothing : count < 0 → ⊥
    nothing h = omega (arith, h)
