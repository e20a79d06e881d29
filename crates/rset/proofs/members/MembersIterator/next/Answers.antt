use Rattle.std.proofs.Common.{◌<◌, length, arith, ap, sym, ◌∷◌, ◌∙◌}
use Rattle.rset.specs.Sets.{rising}
use Rattle.rset.proofs.SetsRising.{rising_next}
use Rattle.rset.proofs.members.MembersIterator.next.Goals as goal

pub returns-clause-steps : goal.returns-clause-steps
returns-clause-steps c =
    let l = c.in_ok-first.first in
    ap rising (sym c.self.view_is)
    ∙ rising_next c.self.inside.left l c.in_ok-first.ensures.bound c.in_ok-first.ensures.member c.in_ok-first.ensures.least
    ∙ ap (λ s. l ∷ rising s) (sym c.without-self-inside.ensures)

pub returns-clause-goes : goal.returns-clause-goes
returns-clause-goes c =
    let lengths = ap length (returns-clause-steps c) in
    let fewer : length (rising c.without-self-inside.result) < length (rising c.args.self.now) = omega (arith, lengths) in
    record { on = λ _. (tt, tt, fewer); keeps = tt; rests = λ _. tt }
