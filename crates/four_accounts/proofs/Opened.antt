-- What is left of the four accounts.
use Rattle.std.proofs.Common.{◌≡◌, ℕ, ◌+◌, ◌<◌, List, map, length, get_or, sym, ◌∙◌, arith}
use Rattle.rnlp_lock.specs.Laws.{HoldsOf}
use Rattle.rnlp_lock.proofs.Conserving.{value_left}
use Rattle.four_accounts.specs.Accounts.{HaveTogether}
use Rattle.four_accounts.specs.declared.account.Account.{Account}

module _ {A : Type 0} (f : A → Account) (sum : ℕ) (items : List A) (law : HoldsOf (HaveTogether sum) (map f items)) (four : length items ≡ 4) where
  -- they have together what the law says
  pub have_together : (x y z w : A) → x ≡ get_or items 0 x → y ≡ get_or items 1 y → z ≡ get_or items 2 z → w ≡ get_or items 3 w → (f x).balance + (f y).balance + (f z).balance + (f w).balance ≡ sum
  have_together x y z w first second third fourth =
      (λ i. (left 0 x (omega (arith, four)) first i).balance + (left 1 y (omega (arith, four)) second i).balance + (left 2 z (omega (arith, four)) third i).balance + (left 3 w (omega (arith, four)) fourth i).balance) ∙ law.held
    where
      left : (l : ℕ) (x : A) → l < length items → x ≡ get_or items l x → f x ≡ law.all l
      left l x inside is = sym (value_left f (HaveTogether sum) items law l x inside is)
