-- What is left of the two accounts.
use Rattle.std.proofs.Common.{◌≡◌, ℕ, ◌+◌, List, map, length, get_or, sym, ◌∙◌, arith}
use Rattle.rnlp_lock.specs.Laws.{HoldsOf}
use Rattle.rnlp_lock.proofs.Conserving.{value_left}
use Rattle.two_accounts.specs.Accounts.{HaveTogether}
use Rattle.two_accounts.specs.declared.account.Account.{Account}

-- they have together what the law says
pub have_together : {A : Type 0} (f : A → Account) (sum : ℕ) (items : List A) (law : HoldsOf (HaveTogether sum) (map f items)) (x y : A) → length items ≡ 2 → x ≡ get_or items 0 x → y ≡ get_or items 1 y
    → (f x).balance + (f y).balance ≡ sum
have_together f sum items law x y two first second =
    (λ i. (sym (value_left f (HaveTogether sum) items law 0 x (omega (arith, two)) first) i).balance + (sym (value_left f (HaveTogether sum) items law 1 y (omega (arith, two)) second) i).balance) ∙ law.held
