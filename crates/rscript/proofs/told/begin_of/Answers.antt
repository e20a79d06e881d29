use Rattle.std.proofs.Common.{sym, ap, subst, ◌∙◌}
use Rattle.csv.specs.Records.{fields_of}
use Rattle.rclaim.specs.Requests.{RequestFields}
use Rattle.rscript.specs.Told.{Tells, IsWrong, is_of_fields}
use Rattle.rscript.specs.declared.code.ScriptCode.{ScriptCode}
use Rattle.rscript.specs.declared.statement.Statement.TheVariants as statement
use Rattle.rscript.specs.declared.word.ScriptWord.TheVariants as word
use Rattle.rscript.proofs.record_facts.Begins.{begin_unknown, begin_uncounted, begin_tells, begin_refused, request_of_fields}
use Rattle.rscript.proofs.told.begin_of.Goals as goal

pub returns-in_default-clause-wrong : goal.returns-in_default-clause-wrong
returns-in_default-clause-wrong c = begin_unknown c.args.resources.now (fields_of c.args.fields.now) c.args.kind c.requires (sym c.sets_of.ensures.value ∙ c.in_default.is)

pub returns-in_default-lengths_of-clause-wrong : goal.returns-in_default-lengths_of-clause-wrong
returns-in_default-lengths_of-clause-wrong c =
    begin_uncounted c.args.resources.now (fields_of c.args.fields.now) c.args.kind c.requires c.in-Some.sets (sym c.sets_of.ensures.value ∙ c.in-Some.is) (sym c.lengths_of.ensures.value ∙ c.in_default-lengths_of.is)

pub returns-in-Ok-clause-told : goal.returns-in-Ok-clause-told
returns-in-Ok-clause-told c =
    subst (λ (r : RequestFields). Tells c.args.resources.now (word.Begin c.args.kind) (fields_of c.args.fields.now) (statement.Begin r)) (sym c.in-Ok.ensures.0)
    (begin_tells c.args.resources.now (fields_of c.args.fields.now) c.args.kind c.requires c.in-Some.sets c.in-Some-lengths_of.lengths (sym c.sets_of.ensures.value ∙ c.in-Some.is)
    (sym c.lengths_of.ensures.value ∙ c.in-Some-lengths_of.is))

pub returns-in-Err-clause-wrong : goal.returns-in-Err-clause-wrong
returns-in-Err-clause-wrong c =
    subst (λ (code : ScriptCode). IsWrong c.args.resources.now (word.Begin c.args.kind) (fields_of c.args.fields.now) code) (sym c.request_code.ensures)
    (begin_refused c.args.resources.now (fields_of c.args.fields.now) c.args.kind c.requires c.in-Some.sets c.in-Some-lengths_of.lengths c.in-Err.cause (sym c.sets_of.ensures.value ∙ c.in-Some.is)
    (sym c.lengths_of.ensures.value ∙ c.in-Some-lengths_of.is) c.in-Err.ensures)

pub returns-in-Err-clause-fields : goal.returns-in-Err-clause-fields
returns-in-Err-clause-fields c = ap is_of_fields c.request_code.ensures ∙ request_of_fields c.in-Err.cause
