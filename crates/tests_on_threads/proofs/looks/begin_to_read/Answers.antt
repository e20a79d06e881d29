use Rattle.std.proofs.Common.{sym, subst}
use Rattle.rclaim.specs.Requests.{RequestFields}
use Rattle.rguard.specs.Seats.{SuitsSeat}
use Rattle.rguard.specs.Resting.{all_with}
use Rattle.rguard.proofs.Resting.{suits_to_read, is_inside_itself}
use Rattle.tests_on_threads.proofs.looks.begin_to_read.Goals as goal

pub begin-requires-clause-suits : goal.begin-requires-clause-suits
begin-requires-clause-suits g c κs within =
    subst (λ (r : RequestFields). SuitsSeat c.args.seat r) (sym c.in-Ok.ensures.made) (suits_to_read (all_with c.args.group) c.args.lock.now c.args.seat c.args.group c.requires.at c.len.ensures.within (λ none. absurd (cc (c.in-Ok.ensures.empty.1 none))) (is_inside_itself c.args.group))
