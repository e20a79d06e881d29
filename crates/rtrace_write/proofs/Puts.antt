-- Pieces that were put one after another.
use Rattle.std.proofs.Common.{◌≡◌, ℕ, List, ◌++◌, sym, ap, ◌∙◌, append_assoc}

pub two : (old p q s t : List ℕ) → p ≡ old ++ s → q ≡ p ++ t → q ≡ old ++ (s ++ t)
two old p q s t e f = f ∙ ap (λ xs. xs ++ t) e ∙ append_assoc old s t

pub three : (old p q r s t u : List ℕ) → p ≡ old ++ s → q ≡ p ++ t → r ≡ q ++ u → r ≡ old ++ (s ++ (t ++ u))
three old p q r s t u e f g = two old p r s (t ++ u) e (two p q r t u f g)

pub four : (old p q r o s t u v : List ℕ) → p ≡ old ++ s → q ≡ p ++ t → r ≡ q ++ u → o ≡ r ++ v → o ≡ old ++ (s ++ (t ++ (u ++ v)))
four old p q r o s t u v e f g h = two old p o s (t ++ (u ++ v)) e (three p q r o t u v f g h)

pub five : (old p q r o n s t u v w : List ℕ) → p ≡ old ++ s → q ≡ p ++ t → r ≡ q ++ u → o ≡ r ++ v → n ≡ o ++ w → n ≡ old ++ (s ++ (t ++ (u ++ (v ++ w))))
five old p q r o n s t u v w e f g h i = two old p n s (t ++ (u ++ (v ++ w))) e (four p q r o n t u v w f g h i)

pub six : (old p q r o n m s t u v w x : List ℕ) → p ≡ old ++ s → q ≡ p ++ t → r ≡ q ++ u → o ≡ r ++ v → n ≡ o ++ w → m ≡ n ++ x → m ≡ old ++ (s ++ (t ++ (u ++ (v ++ (w ++ x)))))
six old p q r o n m s t u v w x e f g h i j = two old p m s (t ++ (u ++ (v ++ (w ++ x)))) e (five p q r o n m t u v w x f g h i j)

pub seven : (old p q r o n m l s t u v w x y : List ℕ) → p ≡ old ++ s → q ≡ p ++ t → r ≡ q ++ u → o ≡ r ++ v → n ≡ o ++ w → m ≡ n ++ x → l ≡ m ++ y
    → l ≡ old ++ (s ++ (t ++ (u ++ (v ++ (w ++ (x ++ y))))))
seven old p q r o n m l s t u v w x y e f g h i j k = two old p l s (t ++ (u ++ (v ++ (w ++ (x ++ y))))) e (six p q r o n m l t u v w x y f g h i j k)

-- what was put is also this
pub same : (old now s t : List ℕ) → now ≡ old ++ s → t ≡ s → now ≡ old ++ t
same old now s t e f = e ∙ ap (λ xs. old ++ xs) (sym f)
