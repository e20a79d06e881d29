use Rattle.std.proofs.Common.{◌∙◌, sym}
use Rattle.rtrace_form.proofs.lines.Fields.{all_of}
use Rattle.rtrace_form.proofs.record.is.Goals as goal

pub returns-then-field : goal.returns-then-field
returns-then-field g c = c.starts_with.ensures.value ∙ all_of c.args.field.now c.args.word.now (c.if-field.true ∙ sym c.told-word)
