-- Ledgers stay within what a field may hold.
use Rattle.std.proofs.Common.{◌≡◌, ℕ, ◌+◌, ◌≤◌, Bool, true, false, cond, List, [], ◌∷◌, fold, nat_lt, refl, arith}
use Rattle.std.proofs.lemmas.Bool.{and_parts, leb-true, ltb-true}
use Rattle.rvalue.specs.declared.ledger.Ledger.{Ledger}
use Rattle.rvalue.specs.declared.ledger.Edit.{Edit}
use Rattle.rvalue.specs.declared.ledger.Edit.TheVariants as edit
use Rattle.rvalue.specs.declared.TheConstants.{BALANCE_LIMIT, EDITS_LIMIT}
use Rattle.rvalue.specs.Ledgers.{opening_ledger, is_within, balance_after, is_taken, value_after}
use Rattle.rvalue.specs.Acts.{edits_in, value_within}
use Rattle.rvalue.specs.Histories.{edits_on}
use Rattle.rvalue.specs.declared.act.Act.{Act}
use Rattle.rtrace_form.specs.Reports.{Entry, ledger_after}

pub record IsLimited (ledger : Ledger) : Type 0 where
  pub balance : ledger.balance ≤ BALANCE_LIMIT
  pub edits : ledger.edits ≤ EDITS_LIMIT

within : (balance : ℕ) (e : Edit) → balance ≤ BALANCE_LIMIT → is_within balance e ≡ true → balance_after balance e ≤ BALANCE_LIMIT
within balance (edit.Add n) low h = leb-true (balance + n) BALANCE_LIMIT h
within balance (edit.Take n) low h = omega (arith, low)
within balance (edit.Set n) low h = leb-true n BALANCE_LIMIT h

one_edit : (ledger : Ledger) (e : Edit) → IsLimited ledger → IsLimited (value_after ledger e)
one_edit ledger e h = at (is_taken ledger e) refl
  where
    at : (b : Bool) → is_taken ledger e ≡ b → IsLimited (cond b (record { balance = balance_after ledger.balance e; edits = ledger.edits + 1 }) ledger)
    at true is =
        let parts = and_parts (nat_lt ledger.edits EDITS_LIMIT) (is_within ledger.balance e) is in
        let room = ltb-true ledger.edits EDITS_LIMIT parts.0 in
        record { balance = within ledger.balance e h.balance parts.1; edits = omega (arith, room) }
    at false is = h

all_edits : (ledger : Ledger) (edits : List Edit) → IsLimited ledger → IsLimited (fold value_after ledger edits)
all_edits ledger [] h = h
all_edits ledger (e ∷ edits) h = all_edits (value_after ledger e) edits (one_edit ledger e h)

opening_limited : IsLimited opening_ledger
opening_limited = record { balance = omega arith; edits = omega arith }

pub ledger_limited : (entries : List Entry) (l : ℕ) → IsLimited (ledger_after entries l)
ledger_limited entries l = all_edits opening_ledger (edits_on entries l) opening_limited

pub within_limited : (entries : List Entry) (acts : List (Act Edit)) (l : ℕ) → IsLimited (value_within value_after (ledger_after entries l) acts l)
within_limited entries acts l = all_edits (ledger_after entries l) (edits_in acts l) (ledger_limited entries l)
