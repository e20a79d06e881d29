-- Lines without a fault are those of a script.
use Rattle.std.proofs.Common.{◌≡◌, List, [], ◌∷◌, ◌++◌, length, fold, refl, sym, subst, arith, append_assoc}
use Rattle.std.proofs.lemmas.List.{append-nil}
use Rattle.std.specs.Prelude.{option_to_list}
use Rattle.rset.specs.declared.TheConstants.{RESOURCES, SEATS}
use Rattle.rtrace_form.proofs.facts.Tables.{table-empty, groups-empty}
use Rattle.rscript.specs.Statements.{IsTask}
use Rattle.rscript.specs.Lines.{Line, Opens, HasResource, HasGroup, HasTask, Does, Ends}
use Rattle.rscript.specs.Scripts.{IsScript, lines_of}
use Rattle.rscript.specs.SoFar.{SoFar, nothing_yet, told_in, with_line}
use Rattle.rscript.proofs.facts.Fine.{IsNext, AllNext}
use Rattle.rscript.proofs.forth.Stands.{Stands, all_with, latest_tasks}
use Rattle.rscript.proofs.forth.Steps.{open_step, resource_step, group_step, task_step, done_step, end_step}

line_step : (s : SoFar) (lines : List Line) → Stands s lines → (line : Line) → IsNext s line → Stands (with_line s line) (lines ++ line ∷ [])
line_step s lines h Opens next = open_step s lines h next
line_step s lines h (HasResource name) next = resource_step s lines h name next
line_step s lines h (HasGroup group) next = group_step s lines h group next
line_step s lines h (HasTask name) next = task_step s lines h name next
line_step s lines h (Does done) next = done_step s lines h done next
line_step s lines h Ends next = end_step s lines h next

walk : (s : SoFar) (before lines : List Line) → Stands s before → AllNext s lines → Stands (fold with_line s lines) (before ++ lines)
walk s before [] h next = subst (λ (xs : List Line). Stands s xs) (sym (append-nil before)) h
walk s before (line ∷ lines) h next =
    subst (λ (xs : List Line). Stands (fold with_line (with_line s line) lines) xs) (append_assoc before (line ∷ []) lines)
    (walk (with_line s line) (before ++ line ∷ []) lines (line_step s before h line next.0) next.1)

start : Stands nothing_yet []
start = record {
  resources = table-empty RESOURCES;
  tasks = table-empty SEATS;
  groups = groups-empty;
  within = tt;
  no_resources = λ _. refl;
  no_groups = λ _. refl;
  no_tasks = λ _. refl;
  no_earlier = λ _. refl;
  no_latest = λ _. refl;
  paired = refl;
  each = tt;
  turns = tt;
  task = λ e. absurd (omega (arith, e));
  none = λ _. refl;
  said = λ e _. absurd (omega (arith, e));
  ended = λ e. absurd (omega (arith, e));
}

-- what lines that end have said
pub record AreLines (s : SoFar) (lines : List Line) : Type 0 where
  pub are : lines ≡ lines_of (told_in s)
  pub script : IsScript (told_in s)

ended_lines : (s : SoFar) (lines : List Line) → Stands s lines → s.last ≡ 5 → AreLines s lines
ended_lines s lines h five =
    let e = h.ended five in
    let q = length s.resources in
    record {
      are = e.are;
      script = record {
        resources = h.resources;
        tasks = h.tasks;
        groups = h.groups;
        within = h.within;
        some_resource = e.some_resource;
        some_task = e.some_task;
        paired = h.paired;
        each = all_with (IsTask q s.groups) s.earlier (option_to_list s.latest) h.each (latest_tasks q s.groups s.latest h.turns e.closed);
      };
    }

pub lines_spell : (lines : List Line) → AllNext nothing_yet lines → (fold with_line nothing_yet lines).last ≡ 5 → AreLines (fold with_line nothing_yet lines) lines
lines_spell lines next five = ended_lines (fold with_line nothing_yet lines) lines (walk nothing_yet [] lines start next) five
