use Rattle.std.proofs.Common.{ℕ, List, [], ◌∷◌, ◌++◌, ◌==◌, Some, sym, ap, ◌∙◌}
use Rattle.csv.specs.Records.{fields_of}
use Rattle.rset.specs.declared.TheConstants.{RESOURCES}
use Rattle.rexpand.specs.Groups.{ReadGroups}
use Rattle.rtrace_form.specs.Walks.{first_of}
use Rattle.rscript.specs.Causes.{name_causes, groups_in}
use Rattle.rscript.proofs.Takes.{takes_task, not_zero}
use Rattle.rscript.proofs.reading.ScriptReader.take_task.Goals as goal

pub returns-clause-taken : goal.returns-clause-taken
returns-clause-taken c =
    let names = c.args.self.now.tasks in
    let is = c.field_of.ensures in
    takes_task c.args.self.now (fields_of c.args.fields.now) (c.len-first.result == 0) c.declare.new.table c.make_groups.new.groups c.close_task.new.self c.requires.form
    (not_zero _ _ c.len-q.ensures.value c.if-q-eq0.false) (ap (λ n. n == 0) c.len-first.ensures.value) c.requires.closed
    (ap (λ (name : List ℕ). first_of (name_causes RESOURCES names name)) (sym is) ∙ c.in_ok-declare.ensures.ok.0)
    (c.in_ok-declare.ensures.ok.1 ∙ ap (λ (name : List ℕ). names ++ name ∷ []) is)
    (c.in_ok-make_groups.ensures.made ∙ ap (λ q. let g : ReadGroups = record { q = q; groups = groups_in c.args.self.now.groups } in Some g) c.len-q.ensures.value)
    c.in_ok-close_task.ensures.ok

pub returns-in_err-declare-clause-still : goal.returns-in_err-declare-clause-still
returns-in_err-declare-clause-still c = λ cause is. λ i. record c.args.self.now { tasks = c.in_err-declare.ensures.still i }
