use Rattle.std.proofs.Common.{sym, subst}
use Rattle.rvalue.specs.declared.ledger.Edit.{Edit}
use Rattle.rvalue.specs.declared.ledger.Ledger.{Ledger}
use Rattle.rscript.specs.declared.statement.Statement.TheVariants as statement
use Rattle.rguard.specs.declared.guard.Guard.{Guard}
use Rattle.rrun.specs.declared.desk.Desk.TheVariants.{Busy}
use Rattle.rrun.specs.Desks.{IsGuardOf, HasStepped}
use Rattle.rrun.proofs.Stepping.{rises_by, is_rise, has_risen}
use Rattle.rrun.proofs.acts.rise.Goals as goal

pub unreachable-requires : goal.unreachable-requires
unreachable-requires g c =
    let rise = is_rise c.args.guard (rises_by c.requires.at.0 c.args.guard c.requires.at.1 c.requires.fits) in
    c.in_default.not-Rise rise.0 rise.1

pub returns : goal.returns
returns g c =
    subst (λ (x : Guard Ledger g.row.M.Denot Edit). HasStepped {M = g.row.M.Denot} (Busy x) statement.Rise (Busy c.wait_for_guard.result)) (sym c.in-Rise.is)
    (has_risen c.wait_for_guard.result c.wait_for_guard.ensures.lawful c.wait_for_guard.ensures.own c.in-Rise.guard c.requires.at.0 c.begin_rise.result
    (subst (λ (x : Guard Ledger g.row.M.Denot Edit). IsGuardOf c.requires.at.0 x) c.in-Rise.is c.requires.at.1) c.begin_rise.ensures.kind c.begin_rise.ensures.acts c.begin_rise.ensures.goes c.wait_for_guard.ensures.awaited)
