-- Lines without a fault are those of a report, but for the bounds of waits.
use Rattle.std.proofs.Common.{◌≡◌, ◌<◌, ◌+◌, ◌^◌, Bool, List, [], ◌∷◌, ◌++◌, length, fold, refl, sym, subst, arith, append_assoc, length-append}
use Rattle.std.proofs.lemmas.List.{append-nil}
use Rattle.rset.specs.declared.TheConstants.{RESOURCES, SEATS}
use Rattle.rtrace_form.specs.Heads.{IsHead}
use Rattle.rtrace_form.specs.Lines.{Line, Opens, HasResource, HasGroup, HasTask, HasCap, Happens, Does, BecomesEntitled, BecomesSatisfied, Grants, Waits, Leaves, Ends}
use Rattle.rtrace_form.specs.Waits.{no_bounds}
use Rattle.rtrace_form.specs.Reports.{lines_of, IsLawful}
use Rattle.rtrace_form.specs.SoFar.{SoFar, nothing_yet, head_in, entries_in, told_in, with_line}
use Rattle.rtrace_form.proofs.facts.Tables.{table-empty, groups-empty}
use Rattle.rtrace_form.proofs.lists.BlankLines.{without_bound, blank}
use Rattle.rtrace_form.proofs.forth.Stands.{Stands, IsNext, AllNext}
use Rattle.rtrace_form.proofs.forth.HeadSteps.{open_step, resource_step, group_step, task_step, cap_step}
use Rattle.rtrace_form.proofs.forth.EntrySteps.{event_step, act_step, change_step}
use Rattle.rtrace_form.proofs.forth.EndSteps.{ledger_step, end_step}

line_step : (whole : Bool) (s : SoFar) (lines : List Line) → Stands whole s lines → length lines < 2 ^ 63 → (line : Line) → IsNext whole s line → Stands whole (with_line whole s line) (lines ++ without_bound line ∷ [])
line_step whole s lines h short Opens next = open_step whole s lines h next
line_step whole s lines h short (HasResource name) next = resource_step whole s lines h name next
line_step whole s lines h short (HasGroup group) next = group_step whole s lines h group next
line_step whole s lines h short (HasTask name) next = task_step whole s lines h name next
line_step whole s lines h short (HasCap n) next = cap_step whole s lines h n next
line_step whole s lines h short (Happens e) next = event_step whole s lines h e short next
line_step whole s lines h short (Does act) next = act_step whole s lines h act next
line_step whole s lines h short (BecomesEntitled seat half) next = change_step whole s lines h (BecomesEntitled seat half) refl next.fine
line_step whole s lines h short (BecomesSatisfied seat half) next = change_step whole s lines h (BecomesSatisfied seat half) refl next.fine
line_step whole s lines h short (Grants seat set) next = change_step whole s lines h (Grants seat set) refl next.fine
line_step whole s lines h short (Waits seat which cover bound) next = change_step whole s lines h (Waits seat which cover bound) refl next.fine
line_step whole s lines h short (Leaves place ledger) next = ledger_step whole s lines h place ledger next
line_step whole s lines h short Ends next = end_step whole s lines h next

walk : (whole : Bool) (s : SoFar) (before lines : List Line) → Stands whole s before → length before + length lines < 2 ^ 63 → AllNext whole s lines
    → Stands whole (fold (with_line whole) s lines) (before ++ blank lines)
walk whole s before [] h short next = subst (λ (xs : List Line). Stands whole s xs) (sym (append-nil before)) h
walk whole s before (line ∷ lines) h short next =
    let longer = length-append before (without_bound line ∷ []) in
    subst (λ (xs : List Line). Stands whole (fold (with_line whole) (with_line whole s line) lines) xs) (append_assoc before (without_bound line ∷ []) (blank lines))
    (walk whole (with_line whole s line) (before ++ without_bound line ∷ []) lines (line_step whole s before h (omega (arith, short)) line next.0) (omega (arith, longer, short)) next.1)

start : (whole : Bool) → Stands whole nothing_yet []
start whole = record {
  declared = record {
    resources = table-empty RESOURCES;
    tasks = table-empty SEATS;
    grouped = groups-empty;
    some_resource = λ e. absurd (omega (arith, e));
    some_task = λ e. absurd (omega (arith, e));
    no_resources = λ _. refl;
    no_groups = λ _. refl;
    no_tasks = λ _. refl;
    no_cap = λ _. refl;
  };
  none = λ _. refl;
  heads = λ e _. absurd (omega (arith, e));
  earlier = λ _. refl;
  latest = λ _. refl;
  due = λ _. refl;
  few = omega arith;
  lawful = λ e. absurd (omega (arith, e));
  history = λ e _. absurd (omega (arith, e));
  acts = λ e. absurd (omega (arith, e));
  ledgers = λ e. absurd (omega (arith, e));
  ended = λ e. absurd (omega (arith, e));
}

-- what lines that end have said, where they have no bounds
pub record AreLines (whole : Bool) (s : SoFar) (lines : List Line) : Type 0 where
  pub are : lines ≡ lines_of whole no_bounds s.cap (told_in s)
  pub head : IsHead (head_in s) s.cap
  pub lawful : IsLawful (head_in s) (entries_in s)

ended_lines : (whole : Bool) (s : SoFar) (lines : List Line) → Stands whole s lines → s.last ≡ 9 → AreLines whole s lines
ended_lines whole s lines h nine = record {
  are = h.ended nine;
  head = record {
    resources_named = h.declared.resources;
    tasks_named = h.declared.tasks;
    grouped = h.declared.grouped;
    some_resource = h.declared.some_resource (omega (arith, nine));
    some_task = h.declared.some_task (omega (arith, nine));
    cap = refl;
  };
  lawful = h.lawful (omega (arith, nine));
}

pub lines_spell : (whole : Bool) (lines : List Line) → length lines < 2 ^ 63 → AllNext whole nothing_yet lines → (fold (with_line whole) nothing_yet lines).last ≡ 9
    → AreLines whole (fold (with_line whole) nothing_yet lines) (blank lines)
lines_spell whole lines short next nine = ended_lines whole (fold (with_line whole) nothing_yet lines) (blank lines) (walk whole nothing_yet [] lines (start whole) (omega (arith, short)) next) nine
