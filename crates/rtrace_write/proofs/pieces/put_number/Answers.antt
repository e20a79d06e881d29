use Rattle.std.proofs.Common.{◌∷◌, decimal}
use Rattle.std.proofs.lemmas.Fmt.{decimal_digit}
use Rattle.rtrace_form.specs.Texts.{behind_comma}
use Rattle.rtrace_write.proofs.Puts.{same}
use Rattle.rtrace_write.proofs.pieces.put_number.Goals as goal

pub returns-then-number-lt10-clause-text : goal.returns-then-number-lt10-clause-text
returns-then-number-lt10-clause-text c =
    same _ _ _ (behind_comma (decimal c.args.number)) c.put.ensures.text (λ i. 44 ∷ decimal_digit c.args.number c.if-number-lt10.true i)
