use Rattle.std.proofs.Common.{ℕ, List, [], ◌∷◌, ◌++◌, sym, ap, ◌∙◌}
use Rattle.csv.specs.Records.{fields_of}
use Rattle.rset.specs.declared.TheConstants.{RESOURCES}
use Rattle.rtrace_form.specs.Walks.{first_of}
use Rattle.rscript.specs.Causes.{name_causes}
use Rattle.rscript.proofs.Takes.{takes_resource}
use Rattle.rscript.proofs.reading.ScriptReader.take_resource.Goals as goal

pub returns-clause-taken : goal.returns-clause-taken
returns-clause-taken c =
    let names = c.args.self.now.resources in
    let is = c.field_of.ensures in
    takes_resource c.args.self.now (fields_of c.args.fields.now) c.declare.new.table c.requires.form c.requires.early
    (ap (λ (name : List ℕ). first_of (name_causes RESOURCES names name)) (sym is) ∙ c.in_ok-declare.ensures.ok.0)
    (c.in_ok-declare.ensures.ok.1 ∙ ap (λ (name : List ℕ). names ++ name ∷ []) is)

pub returns-in_err-declare-clause-still : goal.returns-in_err-declare-clause-still
returns-in_err-declare-clause-still c = λ cause is. λ i. record c.args.self.now { resources = c.in_err-declare.ensures.still i }
