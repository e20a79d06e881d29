use Rattle.std.proofs.Common.{◌≡◌, ◌∷◌, ◌++◌, [], List, sym, ◌∙◌, refl, arith}
use Rattle.rmodel.specs.declared.claimed.Claimed.{Claimed}
use Rattle.rmodel.specs.Steps.{with_asked}
use Rattle.rmodel.proofs.settling.Giving.{asks_nothing, none_by_number}
use Rattle.rplain.proofs.give.give_last.Goals as goal

-- the last claim of a list, and the list before it, are unique
same_ends : (xs ys : List Claimed) (x y : Claimed) → xs ++ x ∷ [] ≡ ys ++ y ∷ [] → (xs ≡ ys) × (x ≡ y)
same_ends [] [] x y e = (refl, cc)
same_ends [] (b ∷ []) x y e = cc
same_ends [] (b ∷ c ∷ ys) x y e = cc
same_ends (a ∷ []) [] x y e = cc
same_ends (a ∷ c ∷ xs) [] x y e = cc
same_ends (a ∷ xs) (b ∷ ys) x y e =
    let tails : xs ++ x ∷ [] ≡ ys ++ y ∷ [] = cc in
    let rest = same_ends xs ys x y tails in
    let heads : a ≡ b = cc in
    ((λ i. heads i ∷ rest.0 i), rest.1)

pub returns-else-len-gt0 : goal.returns-else-len-gt0
returns-else-len-gt0 c = λ xs x is.
    let before = c.in-Some.before.now in
    let y = c.in-Some.x.now in
    let same = same_ends xs before x y (sym is ∙ c.in-Some.ensures.cases.0) in
    let stays = sym (asks_nothing before y (none_by_number y.asked c.len.result c.len.ensures.value (omega arith))) in
    (λ i. before ++ stays i ∷ []) ∙ sym (λ i. same.0 i ++ with_asked (same.0 i) (same.1 i) ∷ [])
