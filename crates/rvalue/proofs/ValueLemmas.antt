-- Values after longer lists of acts and of entries.
use Rattle.std.proofs.Common.{◌≡◌, ◌∙◌, ℕ, List, [], ◌∷◌, ◌++◌, fold, refl, ap, sym, append_assoc, append-nil}
use Rattle.std.proofs.lemmas.List.Sums.{fold-append}
use Rattle.rvalue.specs.declared.act.Act.{Act}
use Rattle.rvalue.specs.Acts.{edit_on, edits_in, value_within}
use Rattle.rvalue.specs.Entries.{EntryFields, edits_of, value_after_entry}
use Rattle.rvalue.specs.Histories.{edits_on, value_of}

pub edits_in-append : {E : Type 0} (xs ys : List (Act E)) (l : ℕ) → edits_in (xs ++ ys) l ≡ edits_in xs l ++ edits_in ys l
edits_in-append [] ys l = refl
edits_in-append (x ∷ xs) ys l =
    ap (λ edits. edit_on x l ++ edits) (edits_in-append xs ys l) ∙ sym (append_assoc (edit_on x l) (edits_in xs l) (edits_in ys l))

pub edits_on-append : {E : Type 0} (xs ys : List (EntryFields E)) (l : ℕ) → edits_on (xs ++ ys) l ≡ edits_on xs l ++ edits_on ys l
edits_on-append [] ys l = refl
edits_on-append (x ∷ xs) ys l =
    ap (λ edits. edits_of x l ++ edits) (edits_on-append xs ys l) ∙ sym (append_assoc (edits_of x l) (edits_on xs l) (edits_on ys l))

module _ {V E : Type 0} (after : V → E → V) where
  -- acts in two parts: the second part continues from what the first left
  pub value_within-append : (v : V) (xs ys : List (Act E)) (l : ℕ) → value_within after v (xs ++ ys) l ≡ value_within after (value_within after v xs l) ys l
  value_within-append v xs ys l =
      ap (fold after v) (edits_in-append xs ys l) ∙ fold-append after v (edits_in xs l) (edits_in ys l)

  -- entries in two parts: the second part continues from what the first left
  pub value_of-append : (v : V) (xs ys : List (EntryFields E)) (l : ℕ) → value_of after v (xs ++ ys) l ≡ value_of after (value_of after v xs l) ys l
  value_of-append v xs ys l =
      ap (fold after v) (edits_on-append xs ys l) ∙ fold-append after v (edits_on xs l) (edits_on ys l)

  -- a history of one entry
  pub value_of-one : (v : V) (x : EntryFields E) (l : ℕ) → value_of after v (x ∷ []) l ≡ value_after_entry after v x l
  value_of-one v x l = ap (fold after v) (append-nil (edits_of x l))

  -- one more entry
  pub value_of-longer : (v : V) (xs : List (EntryFields E)) (x : EntryFields E) (l : ℕ) → value_of after v (xs ++ x ∷ []) l ≡ value_after_entry after (value_of after v xs l) x l
  value_of-longer v xs x l = value_of-append v xs (x ∷ []) l ∙ value_of-one (value_of after v xs l) x l
