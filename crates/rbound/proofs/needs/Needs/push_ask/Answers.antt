use Rattle.std.proofs.Common.{sym, ◌∙◌, arith}
use Rattle.rbound.specs.Kept.{tasks_in}
use Rattle.rbound.proofs.Inserted.{still_needed}
use Rattle.rbound.proofs.Fine.{still_fine}
use Rattle.rbound.proofs.needs.Needs.push_ask.Goals as goal

pub invariant_of-self : goal.invariant_of-self
invariant_of-self c = record {
  few = omega (arith, c.push_ask.ensures.len, c.self.invariant.few);
  fine = still_fine c.push_ask.result c.self.inside.groups.q (tasks_in c.self.inside.tasks.items) (tasks_in c.push_ask.new.tasks.items) c.from.result c.args.set c.push_ask.ensures.ok c.push_ask.ensures.err c.self.invariant.fine;
  claims =
      c.self.invariant.claims
      ∙ sym (still_needed c.push_ask.result c.self.inside.groups.groups (tasks_in c.self.inside.tasks.items) (tasks_in c.push_ask.new.tasks.items) c.from.result c.args.set c.push_ask.ensures.ok c.push_ask.ensures.err);
}
