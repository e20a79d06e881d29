use Rattle.std.proofs.Common.{◌≡◌, true, sym, subst}
use Rattle.std.specs.Option.{IfSome}
use Rattle.rcover.proofs.Kept.{keeper_write}
use Rattle.rcover.proofs.run.close_read_of.Goals as goal

pub close_read-requires-clause-write : goal.close_read-requires-clause-write
close_read-requires-clause-write c = subst (λ o. IfSome o (λ v. v.write_half ≡ true)) (sym c.keeper_at.ensures) (keeper_write c.args.c.now c.args.last.now)
