-- One more item at the end of a list whose items fit in turn.
use Rattle.std.proofs.Common.{List, [], ◌∷◌, ◌++◌, ◌↔◌, subst, sym, append_assoc, append-nil}
use Rattle.rvalue.specs.InTurn.{AllInTurn}

module _ {A : Type 0} (Fits : List A → A → Type 0) where
  apart : (earlier xs : List A) (x : A) → AllInTurn Fits earlier (xs ++ x ∷ []) → AllInTurn Fits earlier xs × Fits (earlier ++ xs) x
  apart earlier [] x fits = (tt, subst (λ before. Fits before x) (sym (append-nil earlier)) fits.0)
  apart earlier (y ∷ xs) x fits =
      let rest = apart (earlier ++ y ∷ []) xs x fits.1 in
      ((fits.0, rest.0), subst (λ before. Fits before x) (append_assoc earlier (y ∷ []) xs) rest.1)

  joined : (earlier xs : List A) (x : A) → AllInTurn Fits earlier xs → Fits (earlier ++ xs) x → AllInTurn Fits earlier (xs ++ x ∷ [])
  joined earlier [] x fits last = (subst (λ before. Fits before x) (append-nil earlier) last, tt)
  joined earlier (y ∷ xs) x fits last =
      (fits.0, joined (earlier ++ y ∷ []) xs x fits.1 (subst (λ before. Fits before x) (sym (append_assoc earlier (y ∷ []) xs)) last))

  -- a list with one more item fits in turn exactly where the list does, and the item after it
  pub AllInTurn-longer : (xs : List A) (x : A) → AllInTurn Fits [] (xs ++ x ∷ []) ↔ (AllInTurn Fits [] xs × Fits xs x)
  AllInTurn-longer xs x = (apart [] xs x, λ both. joined [] xs x both.0 both.1)

module _ {A : Type 0} (Fits Suits : List A → A → Type 0) (weaker : (earlier : List A) (x : A) → Fits earlier x → Suits earlier x) where
  -- what holds of each item where it fits holds in turn
  pub AllInTurn-weaker : (earlier xs : List A) → AllInTurn Fits earlier xs → AllInTurn Suits earlier xs
  AllInTurn-weaker earlier [] fits = tt
  AllInTurn-weaker earlier (x ∷ xs) fits = (weaker earlier x fits.0, AllInTurn-weaker (earlier ++ x ∷ []) xs fits.1)
