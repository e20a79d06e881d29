-- What a transfer makes of an account, and that a move keeps what four of them have together.
use Rattle.std.specs.Prelude.{◌≡◌, ◌≢◌, ℕ, ◌+◌, ◌-◌, ◌^◌, ◌<◌, ◌≤◌, ◌==◌, Bool, true, false, nat_lt, nat_le, if◌then◌else◌, fold, List, [], ◌∷◌, ◌++◌, refl}
use Rattle.std.proofs.Common.{zero, suc, sym, ap, subst, ◌∙◌, arith}
use Rattle.std.proofs.lemmas.Bool.{eqb-true, leb-true, ne_eqb}
use Rattle.rnlp_lock.specs.Acts.{Act, Edited, AnswersAreRight, value_within}
use Rattle.four_accounts.specs.declared.account.Account.{Account}
use Rattle.four_accounts.specs.declared.account.Transfer.{Transfer}
use Rattle.four_accounts.specs.declared.account.Transfer.TheVariants.{Deposit, Withdraw}

-- a deposit is taken where its sum is a number of 32 bits, a withdrawal where the account has it
abbrev pub is_taken : Account → Transfer → Bool
is_taken account (Deposit amount) = nat_lt (account.balance + amount) (2 ^ 32)
is_taken account (Withdraw amount) = nat_le amount account.balance

abbrev pub account_after : Account → Transfer → Account
account_after account (Deposit amount) = if nat_lt (account.balance + amount) (2 ^ 32) then record { balance = account.balance + amount } else account
account_after account (Withdraw amount) = if nat_le amount account.balance then record { balance = account.balance - amount } else account

pub untaken_leaves : (account : Account) (transfer : Transfer) → is_taken account transfer ≡ false → account_after account transfer ≡ account
untaken_leaves account (Deposit amount) h = Prim.rw h refl
untaken_leaves account (Withdraw amount) h = Prim.rw h refl

-- the first four accounts have so much together
abbrev pub HaveTogether : ℕ → (ℕ → Account) → Type 0
HaveTogether sum accounts = (accounts 0).balance + (accounts 1).balance + (accounts 2).balance + (accounts 3).balance ≡ sum

-- the acts move an amount from one of four accounts to another
pub record IsMove (acts : List (Act Transfer)) : Type 0 where
  pub from : ℕ
  pub to : ℕ
  pub amount : ℕ
  pub from_there : from < 4
  pub to_there : to < 4
  pub apart : from ≢ to
  pub acts_are : acts ≡ Edited from (Withdraw amount) true ∷ Edited to (Deposit amount) true ∷ []

withdrawn : (account : Account) (n : ℕ) → nat_le n account.balance ≡ true → (account_after account (Withdraw n)).balance ≡ account.balance - n
withdrawn account n enough = ap (λ (b : Bool). (if b then record { balance = account.balance - n } else account).balance) enough

deposited : (account : Account) (n : ℕ) → nat_lt (account.balance + n) (2 ^ 32) ≡ true → (account_after account (Deposit n)).balance ≡ account.balance + n
deposited account n room = ap (λ (b : Bool). (if b then record { balance = account.balance + n } else account).balance) room

given : (a n x : ℕ) → n ≤ a → x ≡ a - n → x + n ≡ a + 0
given a n x enough is = omega arith

got : (a n x : ℕ) → x ≡ a + n → x + 0 ≡ a + n
got a n x is = omega arith

-- n where the test says so
abbrev part : ℕ → Bool → ℕ
part n b = if b then n else 0

module _ (n : ℕ) where
  -- what a move leaves of an account that gives, or takes, or neither
  moved : (gives takes : Bool) (account : Account) → (gives ≡ true → nat_le n account.balance ≡ true) → (takes ≡ true → nat_lt (account.balance + n) (2 ^ 32) ≡ true) → (gives ≡ true → takes ≡ true → ⊥)
      → (fold account_after account ((if gives then Withdraw n ∷ [] else []) ++ ((if takes then Deposit n ∷ [] else []) ++ []))).balance + part n gives ≡ account.balance + part n takes
  moved true true account enough room not_both = absurd (not_both refl refl)
  moved true false account enough room not_both = given account.balance n (account_after account (Withdraw n)).balance (leb-true n account.balance (enough refl)) (withdrawn account n (enough refl))
  moved false true account enough room not_both = got account.balance n (account_after account (Deposit n)).balance (deposited account n (room refl))
  moved false false account enough room not_both = refl

  first : n + 0 + 0 + 0 ≡ n
  first = omega arith

  second : 0 + n + 0 + 0 ≡ n
  second = omega arith

  third : 0 + 0 + n + 0 ≡ n
  third = omega arith

  fourth : 0 + 0 + 0 + n ≡ n
  fourth = omega arith

  -- just one account has that number
  one : (k : ℕ) → k < 4 → part n (k == 0) + part n (k == 1) + part n (k == 2) + part n (k == 3) ≡ n
  one zero less = first
  one (suc zero) less = second
  one (suc (suc zero)) less = third
  one (suc (suc (suc zero))) less = fourth
  one (suc (suc (suc (suc k)))) less = absurd (omega arith)

  sums : (a b c d a' b' c' d' p q r s p' q' r' s' sum : ℕ) → a' + p ≡ a + p' → b' + q ≡ b + q' → c' + r ≡ c + r' → d' + s ≡ d + s' → p + q + r + s ≡ n → p' + q' + r' + s' ≡ n
      → a + b + c + d ≡ sum → a' + b' + c' + d' ≡ sum
  sums a b c d a' b' c' d' p q r s p' q' r' s' sum at_first at_second at_third at_fourth gives takes before = omega arith

-- such a move keeps what they have
pub moves_keep : (sum : ℕ) (accounts : ℕ → Account) (acts : List (Act Transfer)) → IsMove acts → AnswersAreRight account_after is_taken (λ (account : Account). account.balance) accounts acts → HaveTogether sum accounts
    → HaveTogether sum (λ l. value_within account_after (accounts l) acts l)
moves_keep sum accounts acts move answered together =
    subst (λ (xs : List (Act Transfer)). HaveTogether sum (λ l. value_within account_after (accounts l) xs l)) (sym move.acts_are)
    (sums n _ _ _ _ _ _ _ _ _ _ _ _ _ _ _ _ sum (each 0) (each 1) (each 2) (each 3) (one n move.from move.from_there) (one n move.to move.to_there) together)
  where
    n : ℕ
    n = move.amount

    right : AnswersAreRight account_after is_taken (λ (account : Account). account.balance) accounts (Edited move.from (Withdraw n) true ∷ Edited move.to (Deposit n) true ∷ [])
    right = subst (λ (xs : List (Act Transfer)). AnswersAreRight account_after is_taken (λ (account : Account). account.balance) accounts xs) move.acts_are answered

    other : (move.from == move.to) ≡ false
    other = ne_eqb move.from move.to move.apart

    room : nat_lt ((accounts move.to).balance + n) (2 ^ 32) ≡ true
    room = sym (right.1.0 ∙ ap (λ (b : Bool). is_taken (fold account_after (accounts move.to) ((if b then Withdraw n ∷ [] else []) ++ [])) (Deposit n)) other)

    each : (l : ℕ) → (value_within account_after (accounts l) (Edited move.from (Withdraw n) true ∷ Edited move.to (Deposit n) true ∷ []) l).balance + part n (move.from == l) ≡ (accounts l).balance + part n (move.to == l)
    each l =
        moved n (move.from == l) (move.to == l) (accounts l)
        (λ is. subst (λ k. nat_le n (accounts k).balance ≡ true) (eqb-true move.from l is) (sym right.0))
        (λ is. subst (λ k. nat_lt ((accounts k).balance + n) (2 ^ 32) ≡ true) (eqb-true move.to l is) room)
        (λ gives takes. move.apart (eqb-true move.from l gives ∙ sym (eqb-true move.to l takes)))
