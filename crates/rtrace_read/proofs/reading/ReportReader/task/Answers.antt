use Rattle.std.proofs.Common.{false, inl, inr, ◌∷◌, [], Option, Some, length, sym, subst, ap, ◌∙◌, refl}
use Rattle.rset.specs.declared.TheConstants.{SEATS}
use Rattle.rexpand.specs.Groups.{ReadGroups}
use Rattle.rtrace_form.specs.Heads.{is_bad_name}
use Rattle.rtrace_form.specs.Lines.{HasTask}
use Rattle.rtrace_read.specs.LineTakes.{AreMade}
use Rattle.rtrace_read.proofs.LineResults.{same_bad}
use Rattle.rtrace_read.proofs.HeadSteps.{head_misplaced, task_is, task_taken, groups_made, stands}
use Rattle.rtrace_read.proofs.Still.{due_still, first_same}
use Rattle.rtrace_read.proofs.reading.ReportReader.task.Goals as goal

pub returns-in-Err-clause-bad : goal.returns-in-Err-clause-bad
returns-in-Err-clause-bad c = λ code is whole s h.
    let bad = c.in-Err.ensures.bad code is in
    task_is whole s c.args.name.now _ (ap (λ xs. is_bad_name SEATS xs c.args.name.now) (sym h.tasks) ∙ bad.0) ∙ ap Some (sym bad.1)

pub returns-in-Some-clause-bad : goal.returns-in-Some-clause-bad
returns-in-Some-clause-bad c = λ code is whole s h.
    head_misplaced whole s 2 4 (HasTask c.args.name.now) c.in-Some.code (task_is whole s c.args.name.now false (ap (λ xs. is_bad_name SEATS xs c.args.name.now) (sym h.tasks) ∙ c.in_default-declare.ensures.ok.0))
    (sym (c.misplaced-misplaced.ensures whole s h) ∙ c.in-Some.is) ∙ ap Some (same_bad is)

pub returns-clause-taken : goal.returns-clause-taken
returns-clause-taken c = λ whole s h.
    let told = c.in_default-declare.ensures.ok in
    let here = sym (c.misplaced-misplaced.ensures whole s h) ∙ c.in_default-misplaced.is in
    task_taken whole c.args.self.now s h c.args.name.now (record c.args.self.now { last = 4; tasks = c.declare.new.table; groups = c.keep_first.new.groups })
    here told.0 (λ i. record c.args.self.now { last = 4; tasks = sym told.1 i; groups = c.keep_first.new.groups })
    (groups_made whole c.args.self.now s c.len.result c.keep_first.new.groups h (stands whole s 2 4 here).0 (c.len.ensures.value ∙ ap (λ xs. length xs) h.resources) (subst (λ (o : Option ReadGroups). AreMade c.len.result c.args.self.now.groups o) (sym c.keep_first.ensures) c.in-Ok.ensures))

pub returns-in-Err-clause-still : goal.returns-in-Err-clause-still
returns-in-Err-clause-still c = λ code is.
    let now = c.args.self.now in
    due_still now _ refl (first_same now.resources now.resources refl) (first_same now.tasks c.declare.new.table c.in-Err.ensures.still) refl refl refl refl refl refl refl refl refl

pub returns-in-Some-clause-still : goal.returns-in-Some-clause-still
returns-in-Some-clause-still c = λ code is.
    let now = c.args.self.now in
    due_still now _ refl (first_same now.resources now.resources refl) (c.args.name.now ∷ [], c.in_default-declare.ensures.ok.1) refl refl refl refl refl refl refl refl refl

pub returns-in-Err-clause-names : goal.returns-in-Err-clause-names
returns-in-Err-clause-names c = λ code is. (refl, inl c.in-Err.ensures.still)

pub returns-in-Some-clause-names : goal.returns-in-Some-clause-names
returns-in-Some-clause-names c = λ code is. (refl, inr c.in_default-declare.ensures.ok.1)

pub returns-in-Err-clause-memory : goal.returns-in-Err-clause-memory
returns-in-Err-clause-memory c = λ is i. record c.args.self.now { tasks = c.in-Err.ensures.still i }
