-- No record by itself has a wrong bound, so `WrongBound` is reported only where no record has a fault.
use Rattle.std.proofs.Common.{◌≡◌, ℕ, ◌+◌, Bool, true, false, not, cond, List, [], ◌∷◌, Option, Some, None, refl, sym, ap, ◌∙◌, true≢false}
use Rattle.std.specs.Prelude.{option_map}
use Rattle.rtrace_form.specs.Records.{Row}
use Rattle.rtrace_form.specs.Fields.{all_counted}
use Rattle.rtrace_form.specs.Words.{fields_of, word_in}
use Rattle.rtrace_form.specs.Lines.{Line, meant_as}
use Rattle.rtrace_form.specs.SoFar.{SoFar, nothing_yet, names_in, with_row}
use Rattle.rtrace_form.specs.Walks.{when, or_else, or_later, fault_from}
use Rattle.rtrace_form.specs.Faults.{is_badly_declared, is_out_of_place, refused, is_wrong_change, is_wrong_act, is_wrong_ledger, is_group_more, line_code, code_of_meaning, code_by, code_of, is_ended, first_record_fault}
use Rattle.rtrace_form.specs.WrongBounds.{first_wrong_bound, first_fault}
use Rattle.rtrace_form.specs.declared.word.Word.{Word}
use Rattle.rtrace_form.specs.declared.fault.Code.{Code}
use Rattle.rtrace_form.specs.declared.fault.Code.TheVariants.{BadField, BadOrder, Refused, WrongChange, WrongShow, WrongLedger, NoEnd, WrongBound}
use Rattle.rtrace_form.specs.declared.fault.Refusal.{Refusal}
use Rattle.rtrace_form.proofs.facts.Choices.{some_is}

abbrev tells_bound : Code → Bool
tells_bound WrongBound = true
tells_bound _ = false

-- no wrong bound is reported
abbrev IsOther : Option Code → Type 0
IsOther None = Unit {0}
IsOther (Some c) = tells_bound c ≡ false

either_other : (a b : Option Code) → IsOther a → IsOther b → IsOther (or_else a b)
either_other None b p q = q
either_other (Some c) b p q = p

when_other : (b : Bool) (c : Code) → tells_bound c ≡ false → IsOther (when b c)
when_other true c h = h
when_other false c h = tt

refused_other : (o : Option Refusal) → IsOther (option_map Refused o)
refused_other None = tt
refused_other (Some r) = refl

line_other : (whole : Bool) (s : SoFar) (line : Line) → IsOther (line_code whole s line)
unfolding line_code
line_other whole s line =
    let f = either_other (when (is_wrong_ledger whole s line) WrongLedger) None (when_other (is_wrong_ledger whole s line) WrongLedger refl) tt in
    let e = either_other (when (is_wrong_act s line) WrongShow) _ (when_other (is_wrong_act s line) WrongShow refl) f in
    let d = either_other (when (is_wrong_change s line) WrongChange) _ (when_other (is_wrong_change s line) WrongChange refl) e in
    let c = either_other (option_map Refused (refused s line)) _ (refused_other (refused s line)) d in
    let b = either_other (when (is_out_of_place whole s line) BadOrder) _ (when_other (is_out_of_place whole s line) BadOrder refl) c in
    either_other (when (is_badly_declared s line) BadField) _ (when_other (is_badly_declared s line) BadField refl) b

meaning_other : (whole : Bool) (s : SoFar) (o : Option Line) → IsOther (code_of_meaning whole s o)
meaning_other whole s None = refl
meaning_other whole s (Some line) = line_other whole s line

word_other : (whole : Bool) (s : SoFar) (row : Row) (o : Option Word) → IsOther (code_by whole s row o)
word_other whole s row None = refl
word_other whole s row (Some w) =
    let c = either_other (code_of_meaning whole s (meant_as (names_in s) row (Some w))) None (meaning_other whole s (meant_as (names_in s) row (Some w))) tt in
    let b = either_other (when (is_group_more s w) BadField) _ (when_other (is_group_more s w) BadField refl) c in
    either_other (when (not (all_counted (fields_of w) row)) BadField) _ (when_other (not (all_counted (fields_of w) row)) BadField refl) b

row_other : (whole : Bool) (s : SoFar) (row : Row) → IsOther (code_of whole s row)
unfolding code_of
row_other whole s row = word_other whole s row (word_in whole row)

abbrev IsOtherFault : Option (ℕ × Code) → Type 0
IsOtherFault None = Unit {0}
IsOtherFault (Some fault) = tells_bound fault.1 ≡ false

rows_other : (whole : Bool) (n : ℕ) (s : SoFar) (rows : List Row) → IsOtherFault (fault_from (code_of whole) (with_row whole) is_ended NoEnd n s rows)
unfolding fault_from
rows_other whole n s [] = at (is_ended s)
  where
    at : (b : Bool) → IsOtherFault (cond b None (Some (n, NoEnd)))
    at true = tt
    at false = refl
rows_other whole n s (row ∷ rows) =
    let more = fault_from (code_of whole) (with_row whole) is_ended NoEnd (n + 1) (with_row whole s row) rows in
    at (code_of whole s row) more (row_other whole s row) (rows_other whole (n + 1) (with_row whole s row) rows)
  where
    at : (c : Option Code) (later : Option (ℕ × Code)) → IsOther c → IsOtherFault later → IsOtherFault (or_later n c later)
    at None later p q = q
    at (Some c) later p q = p

-- *A wrong bound is reported only where no record has another fault*
pub told_last : (whole : Bool) (rows : List Row) (line : ℕ) → first_fault whole rows ≡ Some (line, WrongBound) → first_record_fault whole rows ≡ None
told_last whole rows line h = at (first_record_fault whole rows) (rows_other whole 1 nothing_yet rows) h
  where
    at : (o : Option (ℕ × Code)) → IsOtherFault o → or_else o (first_wrong_bound whole rows) ≡ Some (line, WrongBound) → o ≡ None
    at None p e = refl
    at (Some fault) p e = absurd (true≢false (sym (ap (λ (f : ℕ × Code). tells_bound f.1) (some_is e)) ∙ p))
