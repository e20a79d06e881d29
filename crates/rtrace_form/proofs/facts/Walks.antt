-- Items without a fault, and what there is of lists of options.
use Rattle.std.proofs.Common.{◌≡◌, ℕ, ◌+◌, Bool, true, false, cond, List, [], ◌∷◌, fold, Option, Some, None, refl, sym, ap, ◌∙◌}
use Rattle.rtrace_form.specs.Walks.{when, or_else, or_later, fault_from, AllClean}
use Rattle.rtrace_form.proofs.facts.Choices.{some_none}

pub when_not : {C : Type 0} (b : Bool) (c : C) → when b c ≡ None → b ≡ false
when_not true c h = absurd (some_none (sym h))
when_not false c h = refl

-- neither is there
pub or_none : {X : Type 0} (a b : Option X) → or_else a b ≡ None → (a ≡ None) × (b ≡ None)
or_none None b h = (refl, h)
or_none (Some x) b h = absurd (some_none (sym h))

later_none : {C : Type 0} (line : ℕ) (c : Option C) (later : Option (ℕ × C)) → or_later line c later ≡ None → (c ≡ None) × (later ≡ None)
later_none line None later h = (refl, h)
later_none line (Some c) later h = absurd (some_none (sym h))

ends_done : {C : Type 0} (b : Bool) (p : ℕ × C) → cond b None (Some p) ≡ None → b ≡ true
ends_done true p h = refl
ends_done false p h = absurd (some_none (sym h))

module _ {R S C : Type 0} (code : S → R → Option C) (next : S → R → S) (is_done : S → Bool) (no_end : C) where
  -- without a fault each item is clean, and no more need come
  pub no_fault : (line : ℕ) (s : S) (xs : List R) → fault_from code next is_done no_end line s xs ≡ None → AllClean code next s xs × (is_done (fold next s xs) ≡ true)
  unfolding fault_from
  no_fault line s [] h = (tt, ends_done (is_done s) (line, no_end) h)
  no_fault line s (x ∷ xs) h =
      let parts = later_none line (code s x) (fault_from code next is_done no_end (line + 1) (next s x) xs) h in
      let rest = no_fault (line + 1) (next s x) xs parts.1 in
      ((parts.0, rest.0), rest.1)

  -- and clean items after which no more need come have no fault
  pub clean_none : (line : ℕ) (s : S) (xs : List R) → AllClean code next s xs → is_done (fold next s xs) ≡ true → fault_from code next is_done no_end line s xs ≡ None
  unfolding fault_from
  clean_none line s [] clean done = ap (λ b. cond b None (Some (line, no_end))) done
  clean_none line s (x ∷ xs) clean done =
      ap (λ c. or_later line c (fault_from code next is_done no_end (line + 1) (next s x) xs)) clean.0 ∙ clean_none (line + 1) (next s x) xs clean.1 done
