use Rattle.std.proofs.Common.{take, get_or, sym, ap, ◌∙◌}
use Rattle.std.proofs.lemmas.List.{take_more}
use Rattle.std.proofs.lemmas.Option.{slice_get-get_or}
use Rattle.csv.specs.Machine.{step}
use Rattle.csv.specs.Reading.{default_config}
use Rattle.csv.specs.declared.parser.Action.{Action}
use Rattle.csv.specs.declared.parser.State.{State}
use Rattle.csv.specs.declared.parser.State.TheVariants as st
use Rattle.rshort.specs.Closed.{state_after}
use Rattle.rshort.proofs.Endings.{state_push, end_more, end_within}
use Rattle.rshort.proofs.ending.last_end.Goals as goal

pub loop-at-preserved : goal.loop-at-preserved
loop-at-preserved c =
    let b = get_or c.args.bytes.now c.loop-at.at 0 in (
      ap (λ (q : State × Action). q.0) (sym c.step-next.ensures.step) ∙ ap (λ (s : State). (step default_config s b).0) c.loop-at.invariant.0
          ∙ sym (ap (state_after st.StartRecord) (take_more c.args.bytes.now c.loop-at.at 0 c.loop-at-test.true) ∙ state_push st.StartRecord (take c.loop-at.at c.args.bytes.now) b),
      end_more c.args.bytes.now c.loop-at.at b c.loop-at.stand c.step-next.result.1 c.loop-at.last c.latest-last.result c.loop-at.invariant.0 (slice_get-get_or c.args.bytes.now c.loop-at.at 0 c.loop-at-test.true) c.step-next.ensures.end c.step-next.ensures.outside c.latest-last.ensures c.loop-at.invariant.1,
    )

pub returns-clause-within : goal.returns-clause-within
returns-clause-within c = end_within c.args.bytes.now c.loop-at.last c.loop-at.invariant.1
