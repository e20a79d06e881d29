use Rattle.std.proofs.Common.{◌&&◌, ◌||◌, ap, ◌∙◌}
use Rattle.std.specs.FinSet.{contains}
use Rattle.rset.specs.Sets.{Set}
use Rattle.rset.proofs.SetMembers.{contains_intersection, contains_union}
use Rattle.rcover.proofs.ended.seats_looked_at.Goals as goal

pub returns : goal.returns
returns c = λ other low.
    ap (λ (s : Set). contains s other) c.meet.ensures ∙ contains_intersection c.union.result c.args.waiting other
    ∙ ap (λ b. b && contains c.args.waiting other)
    (ap (λ (s : Set). contains s other) c.union.ensures ∙ contains_union c.busy_seats.result c.args.asking other ∙ ap (λ b. b || contains c.args.asking other) (c.busy_seats.ensures other low))
