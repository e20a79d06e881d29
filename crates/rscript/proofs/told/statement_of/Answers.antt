use Rattle.std.proofs.Common.{Some, sym, ap, subst, ◌∙◌}
use Rattle.csv.specs.Records.{fields_of}
use Rattle.rscript.specs.Told.{Tells}
use Rattle.rscript.specs.declared.statement.Statement.TheVariants as statement
use Rattle.rscript.specs.declared.word.ScriptWord.{ScriptWord}
use Rattle.rscript.proofs.record_facts.Tells.{rise_tells, finish_tells, finish_by}
use Rattle.rscript.proofs.told.statement_of.Goals as goal

pub returns-in-Rise-clause-told : goal.returns-in-Rise-clause-told
returns-in-Rise-clause-told c =
    subst (λ (w : ScriptWord). Tells c.args.resources.now w (fields_of c.args.fields.now) statement.Rise) (sym c.in-Rise.is)
    (rise_tells c.args.resources.now (fields_of c.args.fields.now) (c.requires.form ∙ ap (λ (w : ScriptWord). Some w) c.in-Rise.is))

pub returns-in_default-clause-told : goal.returns-in_default-clause-told
returns-in_default-clause-told c =
    let is = finish_by c.args.word c.requires.kind c.in_default.not-Begin c.in_default.not-Show c.in_default.not-Add c.in_default.not-Take c.in_default.not-Put c.in_default.not-Ask c.in_default.not-Rise in
    subst (λ (w : ScriptWord). Tells c.args.resources.now w (fields_of c.args.fields.now) statement.Finish) (sym is)
    (finish_tells c.args.resources.now (fields_of c.args.fields.now) (c.requires.form ∙ ap (λ (w : ScriptWord). Some w) is))
