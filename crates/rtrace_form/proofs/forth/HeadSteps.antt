-- One more line in the head.
use Rattle.std.proofs.Common.{◌≡◌, ℕ, ◌≤◌, Bool, List, [], ◌∷◌, ◌++◌, length, refl, sym, ap, ◌∙◌, arith, length-append}
use Rattle.rset.specs.Sets.{Set}
use Rattle.rset.specs.declared.TheConstants.{RESOURCES, SEATS}
use Rattle.rtrace_form.specs.Lines.{Line, Opens, HasResource, HasGroup, HasTask, HasCap}
use Rattle.rtrace_form.specs.SoFar.{SoFar, with_line}
use Rattle.rtrace_form.proofs.facts.Tables.{table-push, groups-push}
use Rattle.rtrace_form.proofs.lists.HeadLines.{open_lines, grown_resource, grown_group, grown_task, grown_cap}
use Rattle.rtrace_form.proofs.lists.Places.{none_due, placed, is_filled}
use Rattle.rtrace_form.proofs.forth.Stands.{Stands, IsNext}

pub few_more : (n : ℕ) (lines : List Line) (line : Line) → n ≤ length lines → n ≤ length (lines ++ line ∷ [])
few_more n lines line h = let longer = length-append lines (line ∷ []) in omega arith

module _ (whole : Bool) (s : SoFar) (lines : List Line) (h : Stands whole s lines) where
  pub open_step : IsNext whole s Opens → Stands whole (with_line whole s Opens) (lines ++ Opens ∷ [])
  open_step next =
      let at = (placed whole s Opens next.fine (none_due whole s Opens next.fine refl refl)).0 in
      let d = h.declared in
      let start : s.last ≡ 0 = omega (arith, at.high) in
      record {
        declared = record {
          resources = d.resources;
          tasks = d.tasks;
          grouped = d.grouped;
          some_resource = λ e. absurd (omega (arith, e));
          some_task = λ e. absurd (omega (arith, e));
          no_resources = λ _. d.no_resources (omega (arith, start));
          no_groups = λ _. d.no_groups (omega (arith, start));
          no_tasks = λ _. d.no_tasks (omega (arith, start));
          no_cap = λ _. d.no_cap (omega (arith, start));
        };
        none = λ e. absurd (omega (arith, e));
        heads = λ _ _. ap (λ (xs : List Line). xs ++ Opens ∷ []) (h.none start)
            ∙ sym (open_lines s.resources s.groups s.tasks s.cap (d.no_resources (omega (arith, start))) (d.no_groups (omega (arith, start))) (d.no_tasks (omega (arith, start))) (d.no_cap (omega (arith, start))));
        earlier = λ _. h.earlier (omega (arith, start));
        latest = λ _. h.latest (omega (arith, start));
        due = λ _. h.due (omega (arith, start));
        few = few_more _ lines Opens h.few;
        lawful = λ e. absurd (omega (arith, e));
        history = λ e _. absurd (omega (arith, e));
        acts = λ e. absurd (omega (arith, e));
        ledgers = λ e. absurd (omega (arith, e));
        ended = λ e. absurd (omega (arith, e));
      }

  pub resource_step : (name : List ℕ) → IsNext whole s (HasResource name) → Stands whole (with_line whole s (HasResource name)) (lines ++ HasResource name ∷ [])
  resource_step name next =
      let at = (placed whole s (HasResource name) next.fine (none_due whole s (HasResource name) next.fine refl refl)).0 in
      let d = h.declared in
      record {
        declared = record {
          resources = table-push RESOURCES s.resources name d.resources next.fine.declared;
          tasks = d.tasks;
          grouped = d.grouped;
          some_resource = λ _. is_filled s.resources name;
          some_task = λ e. absurd (omega (arith, e));
          no_resources = λ e. absurd (omega (arith, e));
          no_groups = λ _. d.no_groups at.high;
          no_tasks = λ _. d.no_tasks (omega (arith, at.high));
          no_cap = λ _. d.no_cap (omega (arith, at.high));
        };
        none = λ e. absurd (omega (arith, e));
        heads = λ _ _. grown_resource lines s.resources s.groups s.tasks s.cap (h.heads at.low (omega (arith, at.high))) name
            (d.no_groups at.high) (d.no_tasks (omega (arith, at.high))) (d.no_cap (omega (arith, at.high)));
        earlier = λ _. h.earlier (omega (arith, at.high));
        latest = λ _. h.latest (omega (arith, at.high));
        due = λ _. h.due (omega (arith, at.high));
        few = few_more _ lines (HasResource name) h.few;
        lawful = λ e. absurd (omega (arith, e));
        history = λ e _. absurd (omega (arith, e));
        acts = λ e. absurd (omega (arith, e));
        ledgers = λ e. absurd (omega (arith, e));
        ended = λ e. absurd (omega (arith, e));
      }

  pub group_step : (group : Set) → IsNext whole s (HasGroup group) → Stands whole (with_line whole s (HasGroup group)) (lines ++ HasGroup group ∷ [])
  group_step group next =
      let at = (placed whole s (HasGroup group) next.fine (none_due whole s (HasGroup group) next.fine refl refl)).0 in
      let d = h.declared in
      record {
        declared = record {
          resources = d.resources;
          tasks = d.tasks;
          grouped = groups-push s.groups group d.grouped next.fine.declared next.room;
          some_resource = λ _. d.some_resource at.low;
          some_task = λ e. absurd (omega (arith, e));
          no_resources = λ e. absurd (omega (arith, e));
          no_groups = λ e. absurd (omega (arith, e));
          no_tasks = λ _. d.no_tasks at.high;
          no_cap = λ _. d.no_cap (omega (arith, at.high));
        };
        none = λ e. absurd (omega (arith, e));
        heads = λ _ _. grown_group lines s.resources s.groups s.tasks s.cap (h.heads (omega (arith, at.low)) (omega (arith, at.high))) group
            (d.no_tasks at.high) (d.no_cap (omega (arith, at.high)));
        earlier = λ _. h.earlier (omega (arith, at.high));
        latest = λ _. h.latest (omega (arith, at.high));
        due = λ _. h.due (omega (arith, at.high));
        few = few_more _ lines (HasGroup group) h.few;
        lawful = λ e. absurd (omega (arith, e));
        history = λ e _. absurd (omega (arith, e));
        acts = λ e. absurd (omega (arith, e));
        ledgers = λ e. absurd (omega (arith, e));
        ended = λ e. absurd (omega (arith, e));
      }

  pub task_step : (name : List ℕ) → IsNext whole s (HasTask name) → Stands whole (with_line whole s (HasTask name)) (lines ++ HasTask name ∷ [])
  task_step name next =
      let at = (placed whole s (HasTask name) next.fine (none_due whole s (HasTask name) next.fine refl refl)).0 in
      let d = h.declared in
      record {
        declared = record {
          resources = d.resources;
          tasks = table-push SEATS s.tasks name d.tasks next.fine.declared;
          grouped = d.grouped;
          some_resource = λ _. d.some_resource at.low;
          some_task = λ _. is_filled s.tasks name;
          no_resources = λ e. absurd (omega (arith, e));
          no_groups = λ e. absurd (omega (arith, e));
          no_tasks = λ e. absurd (omega (arith, e));
          no_cap = λ _. d.no_cap at.high;
        };
        none = λ e. absurd (omega (arith, e));
        heads = λ _ _. grown_task lines s.resources s.groups s.tasks s.cap (h.heads (omega (arith, at.low)) (omega (arith, at.high))) name (d.no_cap at.high);
        earlier = λ _. h.earlier (omega (arith, at.high));
        latest = λ _. h.latest (omega (arith, at.high));
        due = λ _. h.due (omega (arith, at.high));
        few = few_more _ lines (HasTask name) h.few;
        lawful = λ e. absurd (omega (arith, e));
        history = λ e _. absurd (omega (arith, e));
        acts = λ e. absurd (omega (arith, e));
        ledgers = λ e. absurd (omega (arith, e));
        ended = λ e. absurd (omega (arith, e));
      }

  pub cap_step : (n : ℕ) → IsNext whole s (HasCap n) → Stands whole (with_line whole s (HasCap n)) (lines ++ HasCap n ∷ [])
  cap_step n next =
      let at = (placed whole s (HasCap n) next.fine (none_due whole s (HasCap n) next.fine refl refl)).0 in
      let d = h.declared in
      record {
        declared = record {
          resources = d.resources;
          tasks = d.tasks;
          grouped = d.grouped;
          some_resource = λ _. d.some_resource (omega (arith, at.low));
          some_task = λ _. d.some_task at.low;
          no_resources = λ e. absurd (omega (arith, e));
          no_groups = λ e. absurd (omega (arith, e));
          no_tasks = λ e. absurd (omega (arith, e));
          no_cap = λ e. absurd (omega (arith, e));
        };
        none = λ e. absurd (omega (arith, e));
        heads = λ _ _. grown_cap lines s.resources s.groups s.tasks s.cap (h.heads (omega (arith, at.low)) (omega (arith, at.high))) n (d.no_cap at.high);
        earlier = λ _. h.earlier (omega (arith, at.high));
        latest = λ _. h.latest (omega (arith, at.high));
        due = λ _. h.due (omega (arith, at.high));
        few = few_more _ lines (HasCap n) h.few;
        lawful = λ e. absurd (omega (arith, e));
        history = λ e _. absurd (omega (arith, e));
        acts = λ e. absurd (omega (arith, e));
        ledgers = λ e. absurd (omega (arith, e));
        ended = λ e. absurd (omega (arith, e));
      }
