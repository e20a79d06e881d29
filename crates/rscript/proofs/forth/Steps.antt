-- One more line.
use Rattle.std.proofs.Common.{◌≡◌, ℕ, true, false, List, [], ◌∷◌, ◌++◌, length, Option, Some, None, refl, sym, ap, subst, ◌∙◌, arith, length-append}
use Rattle.std.proofs.lemmas.Bool.{true≢false}
use Rattle.std.specs.Prelude.{is_none, option_map, option_to_list}
use Rattle.std.specs.List.{AllByRecursion}
use Rattle.rset.specs.Sets.{Set}
use Rattle.rset.specs.declared.TheConstants.{RESOURCES, SEATS}
use Rattle.rvalue.specs.declared.ledger.Edit.TheVariants as edit
use Rattle.rtrace_form.proofs.facts.Tables.{table-push, groups-push}
use Rattle.rscript.specs.declared.place.Where.{Where}
use Rattle.rscript.specs.declared.section.OpenSection.{OpenSection}
use Rattle.rscript.specs.Statements.{IsRight, FitsBehind, IsTask, is_there, where_of, section_after}
use Rattle.rscript.specs.Lines.{Line, Opens, HasResource, HasGroup, HasTask, Does, Ends, statement_word}
use Rattle.rscript.specs.Places.{stands}
use Rattle.rscript.specs.declared.statement.Statement.{Statement}
use Rattle.rscript.specs.declared.statement.Statement.TheVariants as statement
use Rattle.rscript.specs.declared.word.ScriptWord.TheVariants as word
use Rattle.rscript.specs.Scripts.{said_lines, AreWithin}
use Rattle.rscript.specs.SoFar.{SoFar, steps_in, section_of, followed_by, with_line}
use Rattle.rscript.proofs.facts.Fine.{IsNext, placed_at}
use Rattle.rscript.proofs.forth.TaskLines.{grown_resource, grown_group, grown_task, grown_step, open_lines}
use Rattle.rscript.proofs.forth.Stands.{Stands, AreTurns, all_with, latest_tasks, turn_more}

-- a section that has to be closed is closed
pub closed_there : {X : Type 0} (o : Option X) → is_none o ≡ true → o ≡ None
closed_there None h = refl
closed_there (Some x) h = absurd (true≢false (sym h))

-- a statement comes after tasks, at the place where it may come
pub least_of : (s : Statement) → (stands (statement_word s)).least ≡ 4
least_of (statement.Begin r) = refl
least_of (statement.Edit place (edit.Add n)) = refl
least_of (statement.Edit place (edit.Take n)) = refl
least_of (statement.Edit place (edit.Set n)) = refl
least_of (statement.Show place) = refl
least_of (statement.Ask part) = refl
least_of statement.Rise = refl
least_of statement.Finish = refl

pub most_of : (s : Statement) → (stands (statement_word s)).most ≡ 4
most_of (statement.Begin r) = refl
most_of (statement.Edit place (edit.Add n)) = refl
most_of (statement.Edit place (edit.Take n)) = refl
most_of (statement.Edit place (edit.Set n)) = refl
most_of (statement.Show place) = refl
most_of (statement.Ask part) = refl
most_of statement.Rise = refl
most_of statement.Finish = refl

pub inside_of : (s : Statement) → (stands (statement_word s)).inside ≡ where_of s
inside_of (statement.Begin r) = refl
inside_of (statement.Edit place (edit.Add n)) = refl
inside_of (statement.Edit place (edit.Take n)) = refl
inside_of (statement.Edit place (edit.Set n)) = refl
inside_of (statement.Show place) = refl
inside_of (statement.Ask part) = refl
inside_of statement.Rise = refl
inside_of statement.Finish = refl

-- nothing is done yet, so this is right for any resources and groups
none_done : (q : ℕ) (groups : List Set) (earlier : List (List Statement)) → earlier ≡ [] → AllByRecursion (IsTask q groups) earlier
none_done q groups earlier none = subst (λ (xs : List (List Statement)). AllByRecursion (IsTask q groups) xs) (sym none) tt

none_turns : (q : ℕ) (groups : List Set) (latest : Option (List Statement)) → latest ≡ None → AreTurns q groups latest
none_turns q groups latest none = subst (λ (o : Option (List Statement)). AreTurns q groups o) (sym none) tt

none_within : (q : ℕ) (groups : List Set) → groups ≡ [] → AreWithin q groups
none_within q groups none = subst (λ (gs : List Set). AreWithin q gs) (sym none) tt

module _ (s : SoFar) (lines : List Line) (h : Stands s lines) where
  pub open_step : IsNext s Opens → Stands (with_line s Opens) (lines ++ Opens ∷ [])
  open_step next =
      let at = placed_at s word.Version next.placed in
      let start : s.last ≡ 0 = omega (arith, at.1) in
      record {
        resources = h.resources;
        tasks = h.tasks;
        groups = h.groups;
        within = h.within;
        no_resources = λ _. h.no_resources (omega (arith, start));
        no_groups = λ _. h.no_groups (omega (arith, start));
        no_tasks = λ _. h.no_tasks (omega (arith, start));
        no_earlier = λ _. h.no_earlier (omega (arith, start));
        no_latest = λ _. h.no_latest (omega (arith, start));
        paired = h.paired;
        each = h.each;
        turns = h.turns;
        task = λ e. absurd (omega (arith, e));
        none = λ e. absurd (omega (arith, e));
        said = λ _ _. ap (λ (xs : List Line). xs ++ Opens ∷ []) (h.none start)
            ∙ sym (open_lines s.resources s.groups s.tasks (steps_in s) (h.no_resources (omega (arith, start))) (h.no_groups (omega (arith, start))) (h.no_tasks (omega (arith, start))));
        ended = λ e. absurd (omega (arith, e));
      }

  pub resource_step : (name : List ℕ) → IsNext s (HasResource name) → Stands (with_line s (HasResource name)) (lines ++ HasResource name ∷ [])
  resource_step name next =
      let at = placed_at s word.Resource next.placed in
      let q = length (s.resources ++ name ∷ []) in
      record {
        resources = table-push RESOURCES s.resources name h.resources next.fine;
        tasks = h.tasks;
        groups = h.groups;
        within = none_within q s.groups (h.no_groups at.1);
        no_resources = λ e. absurd (omega (arith, e));
        no_groups = λ _. h.no_groups at.1;
        no_tasks = λ _. h.no_tasks (omega (arith, at.1));
        no_earlier = λ _. h.no_earlier (omega (arith, at.1));
        no_latest = λ _. h.no_latest (omega (arith, at.1));
        paired = h.paired;
        each = none_done q s.groups s.earlier (h.no_earlier (omega (arith, at.1)));
        turns = none_turns q s.groups s.latest (h.no_latest (omega (arith, at.1)));
        task = λ e. absurd (omega (arith, e));
        none = λ e. absurd (omega (arith, e));
        said = λ _ _. grown_resource lines s.resources s.groups s.tasks (steps_in s) (h.said at.0 (omega (arith, at.1))) name (h.no_groups at.1) (h.no_tasks (omega (arith, at.1)));
        ended = λ e. absurd (omega (arith, e));
      }

  pub group_step : (group : Set) → IsNext s (HasGroup group) → Stands (with_line s (HasGroup group)) (lines ++ HasGroup group ∷ [])
  group_step group next =
      let at = placed_at s word.Group next.placed in
      let q = length s.resources in
      record {
        resources = h.resources;
        tasks = h.tasks;
        groups = groups-push s.groups group h.groups next.fine.1 next.fine.0;
        within = all_with _ s.groups (group ∷ []) h.within (next.fine.2, tt);
        no_resources = λ e. absurd (omega (arith, e));
        no_groups = λ e. absurd (omega (arith, e));
        no_tasks = λ _. h.no_tasks at.1;
        no_earlier = λ _. h.no_earlier at.1;
        no_latest = λ _. h.no_latest at.1;
        paired = h.paired;
        each = none_done q (s.groups ++ group ∷ []) s.earlier (h.no_earlier at.1);
        turns = none_turns q (s.groups ++ group ∷ []) s.latest (h.no_latest at.1);
        task = λ e. absurd (omega (arith, e));
        none = λ e. absurd (omega (arith, e));
        said = λ _ _. grown_group lines s.resources s.groups s.tasks (steps_in s) (h.said (omega (arith, at.0)) (omega (arith, at.1))) group (h.no_tasks at.1);
        ended = λ e. absurd (omega (arith, e));
      }

  pub task_step : (name : List ℕ) → IsNext s (HasTask name) → Stands (with_line s (HasTask name)) (lines ++ HasTask name ∷ [])
  task_step name next =
      let at = placed_at s word.Task next.placed in
      let closed = closed_there (section_of s.latest) at.2 in
      let q = length s.resources in
      let longer = length-append s.tasks (name ∷ []) in
      let more = length-append (steps_in s) ([] ∷ []) in
      let paired = h.paired in
      record {
        resources = h.resources;
        tasks = table-push SEATS s.tasks name h.tasks next.fine;
        groups = h.groups;
        within = h.within;
        no_resources = λ e. absurd (omega (arith, e));
        no_groups = λ e. absurd (omega (arith, e));
        no_tasks = λ e. absurd (omega (arith, e));
        no_earlier = λ e. absurd (omega (arith, e));
        no_latest = λ e. absurd (omega (arith, e));
        paired = omega (arith, longer, more, paired);
        each = all_with (IsTask q s.groups) s.earlier (option_to_list s.latest) h.each (latest_tasks q s.groups s.latest h.turns closed);
        turns = tt;
        task = λ _. refl;
        none = λ e. absurd (omega (arith, e));
        said = λ _ _. grown_task lines s.resources s.groups s.tasks (steps_in s) (h.said at.0 at.1) name h.paired;
        ended = λ e. absurd (omega (arith, e));
      }

  -- a statement of the latest task
  step_of : (statements : List Statement) → s.latest ≡ Some statements → (done : Statement) → IsNext s (Does done) → Stands (with_line s (Does done)) (lines ++ Does done ∷ [])
  step_of statements latest done next =
      let at = placed_at s (statement_word done) next.placed in
      let least = least_of done in
      let most = most_of done in
      let low = at.0 in
      let high = at.1 in
      let now : option_map (followed_by done) s.latest ≡ Some (statements ++ done ∷ []) = ap (option_map (followed_by done)) latest in
      let open_section = ap section_of latest in
      let steps : steps_in s ≡ s.earlier ++ statements ∷ [] = ap (λ (o : Option (List Statement)). s.earlier ++ option_to_list o) latest in
      let q = length s.resources in
      let fits : FitsBehind q s.groups statements done = record {
        within = next.fine.0;
        placed = ap (λ (w : Where). is_there w (section_after statements)) (sym (inside_of done)) ∙ ap (is_there (stands (statement_word done)).inside) (sym open_section) ∙ at.2;
        right = subst (λ (o : Option OpenSection). IsRight s.groups o done) open_section next.fine.1;
      } in
      let before = length-append s.earlier (statements ∷ []) in
      let behind = length-append s.earlier ((statements ++ done ∷ []) ∷ []) in
      let paired : length (s.earlier ++ statements ∷ []) ≡ length s.tasks = sym (ap length steps) ∙ h.paired in
      record {
        resources = h.resources;
        tasks = h.tasks;
        groups = h.groups;
        within = h.within;
        no_resources = λ e. absurd (omega (arith, e));
        no_groups = λ e. absurd (omega (arith, e));
        no_tasks = λ e. absurd (omega (arith, e));
        no_earlier = λ e. absurd (omega (arith, e));
        no_latest = λ e. absurd (omega (arith, e));
        paired = ap (λ (o : Option (List Statement)). length (s.earlier ++ option_to_list o)) now ∙ behind ∙ sym before ∙ paired;
        each = h.each;
        turns = subst (λ (o : Option (List Statement)). AreTurns q s.groups o) (sym now)
            (turn_more (FitsBehind q s.groups) [] statements done (subst (λ (o : Option (List Statement)). AreTurns q s.groups o) latest h.turns) fits);
        task = λ _. ap is_none now;
        none = λ e. absurd (omega (arith, e));
        said = λ _ _. grown_step lines s.resources s.groups s.tasks s.earlier statements done (h.said (omega (arith, low, least)) (omega (arith, high, most)) ∙ ap (said_lines s.resources s.groups s.tasks) steps) paired
            ∙ ap (λ (o : Option (List Statement)). said_lines s.resources s.groups s.tasks (s.earlier ++ option_to_list o)) (sym now);
        ended = λ e. absurd (omega (arith, e));
      }

  pub done_step : (done : Statement) → IsNext s (Does done) → Stands (with_line s (Does done)) (lines ++ Does done ∷ [])
  done_step done next =
      let at = placed_at s (statement_word done) next.placed in
      let least = least_of done in
      let most = most_of done in
      let low = at.0 in
      let high = at.1 in
      let four : s.last ≡ 4 = omega (arith, low, high, least, most) in
      elim s.latest as (λ o. s.latest ≡ o → Stands (with_line s (Does done)) (lines ++ Does done ∷ [])) [
        | None ↦ λ e. absurd (true≢false (sym (ap is_none e) ∙ h.task four))
        | Some statements ↦ λ e. step_of statements e done next
      ] refl

  pub end_step : IsNext s Ends → Stands (with_line s Ends) (lines ++ Ends ∷ [])
  end_step next =
      let at = placed_at s word.End next.placed in
      record {
        resources = h.resources;
        tasks = h.tasks;
        groups = h.groups;
        within = h.within;
        no_resources = λ e. absurd (omega (arith, e));
        no_groups = λ e. absurd (omega (arith, e));
        no_tasks = λ e. absurd (omega (arith, e));
        no_earlier = λ e. absurd (omega (arith, e));
        no_latest = λ e. absurd (omega (arith, e));
        paired = h.paired;
        each = h.each;
        turns = h.turns;
        task = λ e. absurd (omega (arith, e));
        none = λ e. absurd (omega (arith, e));
        said = λ _ e. absurd (omega (arith, e));
        ended = λ _. record {
          are = ap (λ (xs : List Line). xs ++ Ends ∷ []) (h.said at.0 at.1);
          closed = closed_there (section_of s.latest) at.2;
          some_resource = next.resources;
          some_task = next.task;
        };
      }
