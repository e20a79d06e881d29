use Rattle.rrun.proofs.Stepping.{has_begun_at_once, has_begun_later}
use Rattle.rrun.proofs.acts.begin.Goals as goal

pub returns-in-Ok-Ready-clause-ok : goal.returns-in-Ok-Ready-clause-ok
returns-in-Ok-Ready-clause-ok g c =
    has_begun_at_once c.in-Ok-Ready.guard c.seat_of.ensures.lawful c.seat_of.ensures.own c.args.rnlp.now c.args.seat c.args.request c.in-Ok-Ready.field-0 c.requires.of.began c.in-Ok-Ready.field-0-is c.requires.of.opening
    c.in-Ok-Ready.ensures.ok (c.requires.fits c.requires.of.began c.requires.of.opening).within.0

pub returns-in-Ok-NotYet-clause-ok : goal.returns-in-Ok-NotYet-clause-ok
returns-in-Ok-NotYet-clause-ok g c =
    has_begun_later c.wait_for_guard-guard.result c.wait_for_guard-guard.ensures.lawful c.wait_for_guard-guard.ensures.own c.args.rnlp.now c.args.seat c.args.request c.in-Ok-NotYet.field-0 c.in-Ok-NotYet.pending c.rest.result
    c.requires.of.began c.in-Ok-NotYet.field-0-is c.rest.ensures c.requires.of.opening c.in-Ok-NotYet.ensures.ok c.wait_for_guard-guard.ensures.awaited (c.requires.fits c.requires.of.began c.requires.of.opening).within.0
