use Rattle.std.proofs.Common.{sym, subst}
use Rattle.rvalue.specs.declared.ledger.Edit.{Edit}
use Rattle.rvalue.specs.declared.ledger.Ledger.{Ledger}
use Rattle.rscript.specs.declared.statement.Statement.TheVariants as statement
use Rattle.rguard.specs.Looks.{fields_of}
use Rattle.rguard.specs.Guards.{IsPartOf}
use Rattle.rguard.specs.declared.guard.Guard.{Guard}
use Rattle.rrun.specs.declared.desk.Desk.TheVariants.{Busy}
use Rattle.rrun.specs.Desks.{IsGuardOf, HasStepped}
use Rattle.rrun.proofs.Stepping.{may_ask_there, asks_by, is_nest, has_asked}
use Rattle.rrun.proofs.acts.ask.Goals as goal

pub begin_ask-requires-after_bounds : goal.begin_ask-requires-after_bounds
begin_ask-requires-after_bounds g c κs within =
    subst (λ (x : Guard Ledger g.row.M.Denot Edit). IsPartOf (fields_of x).seat c.args.set) c.in-Nest.is (may_ask_there c.requires.at.0 c.args.guard c.requires.at.1 c.args.set c.requires.fits)

pub unreachable-requires : goal.unreachable-requires
unreachable-requires g c =
    let nest = is_nest c.args.guard (asks_by c.requires.at.0 c.args.guard c.requires.at.1 c.args.set c.requires.fits) in
    c.in_default.not-Nest nest.0 nest.1

pub returns-in-Ok-clause-ok : goal.returns-in-Ok-clause-ok
returns-in-Ok-clause-ok g c =
    subst (λ (x : Guard Ledger g.row.M.Denot Edit). HasStepped {M = g.row.M.Denot} (Busy x) (statement.Ask c.args.set) (Busy c.wait_for_guard.result)) (sym c.in-Nest.is)
    (has_asked c.wait_for_guard.result c.wait_for_guard.ensures.lawful c.wait_for_guard.ensures.own c.in-Nest.guard c.requires.at.0 c.args.set c.in-Ok.pending
    (subst (λ (x : Guard Ledger g.row.M.Denot Edit). IsGuardOf c.requires.at.0 x) c.in-Nest.is c.requires.at.1) c.in-Ok.ensures.ok c.wait_for_guard.ensures.awaited)
