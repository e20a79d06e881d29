use Rattle.std.proofs.Common.{sym, ap, subst, ◌∙◌, arith}
use Rattle.rbound.specs.Needs.{all_needed}
use Rattle.rbound.specs.Needs.{Needs}
use Rattle.rbound.specs.Kept.{AreFine}
use Rattle.rbound.proofs.Growing.{nothing_needed}
use Rattle.rbound.proofs.Fine.{fine_first}
use Rattle.rbound.proofs.needs.Needs.new.Goals as goal

pub invariant_of-result : goal.invariant_of-result
invariant_of-result c = record {
  few = omega (arith, c.in_ok-made.ensures.len, c.ranges.tasks.fits);
  fine = subst (λ (ns : Needs). AreFine c.args.groups.q ns) (sym c.in_ok-made.ensures.made) (fine_first c.args.groups.q c.args.tasks);
  claims = c.new.ensures.items ∙ sym (ap (all_needed c.args.groups.groups) c.in_ok-made.ensures.made ∙ nothing_needed c.args.groups.groups 0 c.args.tasks);
}
