use Rattle.std.proofs.Common.{◌∷◌, [], ◌++◌, decimal}
use Rattle.std.proofs.lemmas.Fmt.{decimal_digit}
use Rattle.rtrace_form.specs.Texts.{behind_comma}
use Rattle.rtrace_write.proofs.Puts.{same}
use Rattle.rtrace_write.proofs.event.put_length.Goals as goal

pub returns-then-len-lt10-clause-text : goal.returns-then-len-lt10-clause-text
returns-then-len-lt10-clause-text c =
    same _ _ _ (behind_comma (decimal c.args.len) ++ 10 ∷ []) c.put.ensures.text (λ i. 44 ∷ (decimal_digit c.args.len c.if-len-lt10.true i ++ 10 ∷ []))
