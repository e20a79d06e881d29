-- One more line at the end: a ledger, and the end itself.
use Rattle.std.proofs.Common.{◌≡◌, ℕ, ◌≤◌, cond, Bool, true, false, List, [], ◌∷◌, ◌++◌, drop, refl, sym, ap, subst, ◌∙◌, arith, append_assoc, nat_lt}
use Rattle.std.proofs.lemmas.Bool.{ltb-true, ltb-false}
use Rattle.std.proofs.lemmas.List.{append-nil}
use Rattle.rvalue.specs.declared.ledger.Ledger.{Ledger}
use Rattle.rtrace_form.specs.Heads.{is_nil}
use Rattle.rtrace_form.specs.Lines.{Line, Leaves, Ends}
use Rattle.rtrace_form.specs.Reports.{head_lines, history_lines, ledger_lines}
use Rattle.rtrace_form.specs.Waits.{no_bounds}
use Rattle.rtrace_form.specs.SoFar.{SoFar, entries_in, head_in, ledgers_due, with_line, at_ledgers, at_end}
use Rattle.rtrace_form.specs.Faults.{is_first, is_change_due}
use Rattle.rtrace_form.proofs.facts.Tests.{not_false}
use Rattle.rtrace_form.proofs.lists.Places.{none_due, placed, no_change, is_empty}
use Rattle.rtrace_form.proofs.lists.SameLines.{first_is}
use Rattle.rtrace_form.proofs.lists.BlankLines.{AreBlank, blank_behind, blank_both, front_blank, ledgers_blank}
use Rattle.rtrace_form.proofs.forth.Stands.{Stands, IsNext, front_of, front_lines, lawful_so_far}
use Rattle.rtrace_form.proofs.forth.HeadSteps.{few_more}
use Rattle.rtrace_form.proofs.forth.EntrySteps.{declared_later}

module _ (whole : Bool) (s : SoFar) (lines : List Line) (h : Stands whole s lines) where
  -- where no change is due, the ledgers that are due end the lines
  all_ledgers : 4 ≤ s.last → s.last ≤ 8 → is_change_due s ≡ false → lines ++ ledgers_due whole s ≡ front_of whole s ++ ledger_lines whole (head_in s) (entries_in s)
  all_ledgers low high none = at (nat_lt s.last at_ledgers) refl
    where
      at : (b : Bool) → nat_lt s.last at_ledgers ≡ b
          → lines ++ cond b (ledger_lines whole (head_in s) (entries_in s)) s.due ≡ front_of whole s ++ ledger_lines whole (head_in s) (entries_in s)
      at true e =
          let early = ltb-true s.last 8 e in
          ap (λ (xs : List Line). xs ++ ledger_lines whole (head_in s) (entries_in s)) (front_lines whole s lines h low (omega (arith, early)) (no_change s none early))
      at false e = let late = ltb-false s.last 8 e in h.ledgers (omega (arith, late, high))

  pub ledger_step : (place : ℕ) (ledger : Ledger) → IsNext whole s (Leaves place ledger) → Stands whole (with_line whole s (Leaves place ledger)) (lines ++ Leaves place ledger ∷ [])
  ledger_step place ledger next =
      let none = none_due whole s (Leaves place ledger) next.fine refl refl in
      let at = (placed whole s (Leaves place ledger) next.fine none).0 in
      let all = all_ledgers at.low at.high none in
      let ledgers = ledger_lines whole (head_in s) (entries_in s) in
      let plain = blank_both (front_of whole s) ledgers (front_of whole s) ledgers (front_blank whole (head_in s) s.cap (entries_in s)) (ledgers_blank whole (head_in s) (entries_in s)) in
      let due = first_is (ledgers_due whole s) (Leaves place ledger) (blank_behind lines (ledgers_due whole s) (subst AreBlank (sym all) plain)) (not_false (is_first (ledgers_due whole s) (Leaves place ledger)) next.fine.ledger) in
      record {
        declared = declared_later s h.declared at_ledgers s.earlier s.latest (drop 1 (ledgers_due whole s)) at.low (omega arith);
        none = λ e. absurd (omega (arith, e));
        heads = λ _ e. absurd (omega (arith, e));
        earlier = λ e. absurd (omega (arith, e));
        latest = λ e. absurd (omega (arith, e));
        due = λ e. absurd (omega (arith, e));
        few = few_more _ lines (Leaves place ledger) h.few;
        lawful = λ _. lawful_so_far whole s lines h;
        history = λ _ e. absurd (omega (arith, e));
        acts = λ e. absurd (omega (arith, e));
        ledgers = λ _. append_assoc lines (Leaves place ledger ∷ []) (drop 1 (ledgers_due whole s)) ∙ ap (λ (xs : List Line). lines ++ xs) (sym due) ∙ all;
        ended = λ e. absurd (omega (arith, e));
      }

  pub end_step : IsNext whole s Ends → Stands whole (with_line whole s Ends) (lines ++ Ends ∷ [])
  end_step next =
      let none = none_due whole s Ends next.fine refl refl in
      let at = (placed whole s Ends next.fine none).0 in
      let due : ledgers_due whole s ≡ [] = is_empty (ledgers_due whole s) (not_false (is_nil (ledgers_due whole s)) next.fine.ledger) in
      let all : lines ≡ front_of whole s ++ ledger_lines whole (head_in s) (entries_in s) =
      sym (append-nil lines) ∙ ap (λ (xs : List Line). lines ++ xs) (sym due) ∙ all_ledgers at.low at.high none in
      let head = head_lines (head_in s) s.cap in
      let history = history_lines whole no_bounds (head_in s) [] (entries_in s) in
      let ledgers = ledger_lines whole (head_in s) (entries_in s) in
      record {
        declared = declared_later s h.declared at_end s.earlier s.latest [] at.low (omega arith);
        none = λ e. absurd (omega (arith, e));
        heads = λ _ e. absurd (omega (arith, e));
        earlier = λ e. absurd (omega (arith, e));
        latest = λ e. absurd (omega (arith, e));
        due = λ e. absurd (omega (arith, e));
        few = few_more _ lines Ends h.few;
        lawful = λ _. lawful_so_far whole s lines h;
        history = λ _ e. absurd (omega (arith, e));
        acts = λ e. absurd (omega (arith, e));
        ledgers = λ e. absurd (omega (arith, e));
        ended = λ _. ap (λ (xs : List Line). xs ++ Ends ∷ []) all ∙ append_assoc (head ++ history) ledgers (Ends ∷ []) ∙ append_assoc head history (ledgers ++ Ends ∷ []);
      }
