use Rattle.std.proofs.Common.{refl, drop}
use Rattle.rrun.proofs.Running.{behind_none, fits_there, behind_more, broken_there, not_busy, at_end, counted, few}
use Rattle.rrun.proofs.steps.run_steps.Goals as goal

pub loop-statement-init : goal.loop-statement-init
loop-statement-init g c = (behind_none {M = g.row.M.Denot} c.args.seat c.args.steps.now c.requires.idle c.requires.whole, refl, c.count_of.ensures.small)

pub step-requires-clause-fits : goal.step-requires-clause-fits
step-requires-clause-fits g c κs within =
    fits_there c.args.seat c.args.steps.now c.loop-statement.statement-index c.statement-item.result c.loop-statement-test.true c.statement-item.is c.loop-statement.desk c.loop-statement.invariant.0

pub returns-in-Err-clause-broken : goal.returns-in-Err-clause-broken
returns-in-Err-clause-broken g c =
    broken_there c.args.seat c.args.steps.now (drop c.loop-statement.statement-index c.args.steps.now) c.loop-statement.statement-index c.loop-statement.sections c.loop-statement.desk c.in-Err.seat c.loop-statement-test.true c.loop-statement.invariant.1 c.loop-statement.invariant.0 c.in-Err.ensures.err

pub loop-statement-preserved : goal.loop-statement-preserved
loop-statement-preserved g c = (
  behind_more c.args.seat c.args.steps.now c.loop-statement.statement-index c.statement-item.result c.loop-statement-test.true c.statement-item.is c.loop-statement.desk c.loop-statement.invariant.0 c.in-Ok.next c.in-Ok.ensures.ok,
  counted c.args.steps.now c.loop-statement.statement-index c.statement-item.result c.loop-statement.sections c.with-sections.result c.loop-statement-test.true c.statement-item.is c.loop-statement.invariant.1 c.with-sections.ensures,
  c.loop-statement.invariant.2,
)

pub unreachable-requires : goal.unreachable-requires
unreachable-requires g c = not_busy c.loop-statement.desk c.in-Busy._guard c.in-Busy.is c.loop-statement.invariant.0.is_at
    (at_end c.args.seat c.args.steps.now c.loop-statement.statement-index c.loop-statement.desk c.loop-statement-test.false c.loop-statement.invariant.0 c.requires.of.began c.requires.of.opening)

pub with-sections-requires : goal.with-sections-requires
with-sections-requires g c = few c.args.steps.now c.loop-statement.statement-index c.loop-statement.sections c.loop-statement-test.true c.loop-statement.invariant.1 c.loop-statement.invariant.2
