-- Facts about each item of a list and the items before it.
use Rattle.std.specs.Prelude.{List, [], ◌∷◌, ◌++◌}

-- each of the items, which come after the earlier ones, fits what is before it
abbrev pub AllInTurn : {A : Type 0} → (List A → A → Type 0) → List A → List A → Type 0
AllInTurn Fits earlier [] = Unit {0}
AllInTurn Fits earlier (x ∷ xs) = Fits earlier x × AllInTurn Fits (earlier ++ x ∷ []) xs
