use Rattle.std.proofs.Common.{not, sym, ap, ◌∙◌}
use Rattle.std.specs.Option.{is_some}
use Rattle.rplain.specs.Sweep.{is_of}
use Rattle.rplain.proofs.stepping.Marked.{placed_where}
use Rattle.rplain.proofs.settling.OneSwept.{not_not}
use Rattle.rplain.proofs.plain.PlainMachine.idle.Goals as goal

pub returns : goal.returns
returns c =
    sym (not_not c.is_none.result) ∙ ap not (sym c.is_none.ensures ∙ ap is_some c.place_of_any.ensures ∙ placed_where (is_of c.args.seat) c.args.self.now.state.claims)
