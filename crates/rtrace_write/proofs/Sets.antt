-- The text of a set, as it is written name by name.
use Rattle.std.proofs.Common.{◌≡◌, ℕ, List, [], ◌∷◌, ◌++◌, map, true, refl, sym, ap, ◌∙◌}
use Rattle.std.proofs.lemmas.List.{append-nil}
use Rattle.std.specs.List.{join_with_byte}
use Rattle.std.specs.FinSet.{empty}
use Rattle.rset.specs.declared.TheConstants.{RESOURCES}
use Rattle.rset.specs.Sets.{Set, rising, all_below}
use Rattle.rset.proofs.SetLemmas.{rising_empty, rising_injective, all_below_empty}
use Rattle.rtrace_form.specs.Texts.{behind_comma}
use Rattle.rtrace_form.specs.SetFields.{name_at, joined, set_text}

-- names that are written one after another: this byte before the first, and `+` before each of the others
abbrev pub separated : ℕ → List (List ℕ) → List ℕ
separated c [] = []
separated c (name ∷ names) = c ∷ (name ++ separated 43 names)

separated_joined : (c : ℕ) (name : List ℕ) (names : List (List ℕ)) → separated c (name ∷ names) ≡ c ∷ join_with_byte 43 (name ∷ names)
separated_joined c name [] = ap (λ xs. c ∷ xs) (append-nil name)
separated_joined c name (more ∷ names) = ap (λ xs. c ∷ (name ++ xs)) (separated_joined 43 more names)

separated_text : (f : ℕ → List ℕ) (xs : List ℕ) → (xs ≡ [] → ⊥) → separated 44 (map f xs) ≡ behind_comma (joined (map f xs))
separated_text f [] some = absurd (some refl)
separated_text f (x ∷ xs) some = separated_joined 44 (f x) (map f xs)

-- the names of a set that is not empty, with a comma before the first, are its text as another field
pub set_separated : (resources : List (List ℕ)) (s : Set) → all_below RESOURCES s ≡ true → (s ≡ empty → ⊥)
    → separated 44 (map (name_at resources) (rising s)) ≡ behind_comma (set_text resources s)
unfolding set_text
set_separated resources s below some =
    separated_text (name_at resources) (rising s) (λ e. some (rising_injective s empty below (all_below_empty RESOURCES) (e ∙ sym rising_empty)))

-- the text of the empty set
pub empty_text : (resources : List (List ℕ)) (s : Set) → s ≡ empty → behind_comma (set_text resources s) ≡ 44 ∷ 45 ∷ []
unfolding set_text
empty_text resources s e = ap (λ t. behind_comma (joined (map (name_at resources) (rising t)))) e ∙ ap (λ xs. behind_comma (joined (map (name_at resources) xs))) rising_empty

-- nothing is left
pub all_written : (f : ℕ → List ℕ) (text all : List ℕ) (c : ℕ) (now : List ℕ) → text ++ separated c (map f now) ≡ all → now ≡ [] → text ≡ all
all_written f text all c now e none = sym (append-nil text) ∙ ap (λ xs. text ++ separated c (map f xs)) (sym none) ∙ e
