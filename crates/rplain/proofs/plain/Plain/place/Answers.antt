use Rattle.std.proofs.Common.{ap, ◌∙◌}
use Rattle.std.specs.Prelude.{position}
use Rattle.rplain.specs.Machine.{Standing}
use Rattle.rplain.specs.Sweep.{is_of}
use Rattle.rplain.proofs.stepping.Marked.{none_placed}
use Rattle.rplain.proofs.plain.Plain.place.Goals as goal

pub returns-then-not-self-seat : goal.returns-then-not-self-seat
returns-then-not-self-seat c =
    none_placed c.self.inside.marks c.self.inside.claims.items c.args.seat c.self.invariant.marks c.if-not-self-seat.true
    ∙ ap (λ (m : Standing). position (is_of c.args.seat) m.state.claims) c.self.view_is
