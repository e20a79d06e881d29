-- What a transfer makes of an account, and that a move keeps what two of them have together.
use Rattle.std.specs.Prelude.{◌≡◌, ℕ, ◌+◌, ◌-◌, ◌^◌, ◌≤◌, Bool, true, false, nat_lt, nat_le, if◌then◌else◌, List, [], ◌∷◌, refl}
use Rattle.std.proofs.Common.{zero, suc, sym, ap, subst, ◌∙◌, arith}
use Rattle.std.proofs.lemmas.Bool.{leb-true}
use Rattle.rnlp_lock.specs.Acts.{Act, Edited, AnswersAreRight, value_within}
use Rattle.two_accounts.specs.declared.account.Account.{Account}
use Rattle.two_accounts.specs.declared.account.Transfer.{Transfer}
use Rattle.two_accounts.specs.declared.account.Transfer.TheVariants.{Deposit, Withdraw}

-- a deposit is taken where its sum is a number of 64 bits, a withdrawal where the account has it
abbrev pub is_taken : Account → Transfer → Bool
is_taken account (Deposit amount) = nat_lt (account.balance + amount) (2 ^ 64)
is_taken account (Withdraw amount) = nat_le amount account.balance

abbrev pub account_after : Account → Transfer → Account
account_after account (Deposit amount) = if nat_lt (account.balance + amount) (2 ^ 64) then record { balance = account.balance + amount } else account
account_after account (Withdraw amount) = if nat_le amount account.balance then record { balance = account.balance - amount } else account

pub untaken_leaves : (account : Account) (transfer : Transfer) → is_taken account transfer ≡ false → account_after account transfer ≡ account
untaken_leaves account (Deposit amount) h = Prim.rw h refl
untaken_leaves account (Withdraw amount) h = Prim.rw h refl

-- the first two accounts have so much together
abbrev pub HaveTogether : ℕ → (ℕ → Account) → Type 0
HaveTogether sum accounts = (accounts 0).balance + (accounts 1).balance ≡ sum

-- the acts move an amount from one of two accounts to the other
pub record IsMove (acts : List (Act Transfer)) : Type 0 where
  pub from : ℕ
  pub one_of : from ≤ 1
  pub amount : ℕ
  pub acts_are : acts ≡ Edited from (Withdraw amount) true ∷ Edited (1 - from) (Deposit amount) true ∷ []

withdrawn : (account : Account) (n : ℕ) → nat_le n account.balance ≡ true → (account_after account (Withdraw n)).balance ≡ account.balance - n
withdrawn account n enough = ap (λ (b : Bool). (if b then record { balance = account.balance - n } else account).balance) enough

deposited : (account : Account) (n : ℕ) → nat_lt (account.balance + n) (2 ^ 64) ≡ true → (account_after account (Deposit n)).balance ≡ account.balance + n
deposited account n room = ap (λ (b : Bool). (if b then record { balance = account.balance + n } else account).balance) room

both : (a b n sum : ℕ) → n ≤ a → a + b ≡ sum → (a - n) + (b + n) ≡ sum
both a b n sum enough together = omega arith

other : (a b n sum : ℕ) → n ≤ b → a + b ≡ sum → (a + n) + (b - n) ≡ sum
other a b n sum enough together = omega arith

-- such a move keeps what they have
pub moves_keep : (sum : ℕ) (accounts : ℕ → Account) (acts : List (Act Transfer)) → IsMove acts → AnswersAreRight account_after is_taken (λ (account : Account). account.balance) accounts acts → HaveTogether sum accounts
    → HaveTogether sum (λ l. value_within account_after (accounts l) acts l)
moves_keep sum accounts acts move right together =
    subst (λ (xs : List (Act Transfer)). HaveTogether sum (λ l. value_within account_after (accounts l) xs l)) (sym move.acts_are)
    (by_number move.from move.one_of (subst (λ (xs : List (Act Transfer)). AnswersAreRight account_after is_taken (λ (account : Account). account.balance) accounts xs) move.acts_are right))
  where
    n : ℕ
    n = move.amount

    by_number : (from : ℕ) → from ≤ 1 → AnswersAreRight account_after is_taken (λ (account : Account). account.balance) accounts (Edited from (Withdraw n) true ∷ Edited (1 - from) (Deposit n) true ∷ [])
        → HaveTogether sum (λ l. value_within account_after (accounts l) (Edited from (Withdraw n) true ∷ Edited (1 - from) (Deposit n) true ∷ []) l)
    by_number zero low right = (λ i. withdrawn (accounts 0) n (sym right.0) i + deposited (accounts 1) n (sym right.1.0) i) ∙ both (accounts 0).balance (accounts 1).balance n sum (leb-true n (accounts 0).balance (sym right.0)) together
    by_number (suc zero) low right = (λ i. deposited (accounts 0) n (sym right.1.0) i + withdrawn (accounts 1) n (sym right.0) i) ∙ other (accounts 0).balance (accounts 1).balance n sum (leb-true n (accounts 1).balance (sym right.0)) together
    by_number (suc (suc m)) low right = absurd (omega arith)
