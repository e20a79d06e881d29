use Rattle.std.proofs.Common.{Some, sym, ap, ◌∙◌}
use Rattle.std.specs.Prelude.{unwrap_or}
use Rattle.rtrace.proofs.ToldSteps.{named_first, none_wrong}
use Rattle.rtrace.proofs.bounds.BoundsKept.first_wrong.Goals as goal

pub returns-in_ok-copy-in-Some-Some : goal.returns-in_ok-copy-in-Some-Some
returns-in_ok-copy-in-Some-Some c =
    named_first c.args.self.now c.args.reading.now c.in-Some-Some.told c.in_ok-copy-in-Some-Some.field-0 c.unwrap_or-cap.result c.first_wrong.result c.in-Some-Some.is-0
    (c.in-Some-Some.is-1 ∙ ap Some (sym c.in_ok-copy-in-Some-Some.ensures))
    (c.unwrap_or-cap.ensures ∙ ap (unwrap_or c.args.reading.now.cap) c.len.ensures.value) c.first_wrong.ensures

pub returns-in_default-2 : goal.returns-in_default-2
returns-in_default-2 c = λ rows k knows nine. none_wrong c.args.self.now rows k nine c.in_default.is-0
