use Rattle.std.proofs.Common.{◌≡◌, List, Some, sym, subst, ◌∙◌, arith}
use Rattle.rmon.specs.declared.look.Look.{Look}
use Rattle.rmon.specs.Opened.{opening_of}
use Rattle.rlooks.specs.Looks.{AreInOrder}
use Rattle.rlooks.proofs.Order.{in_order_with}
use Rattle.rlooks.proofs.lookout.Lookout.look.Goals as goal

pub invariant_of-self : goal.invariant_of-self
invariant_of-self g c = record {
  room = omega (arith, c.push_reserved.ensures.capacity, c.self.invariant.room);
  in_order = λ o is.
      let was : c.self.inside.monitor.opening ≡ Some o = sym c.look-look.ensures.same.1 ∙ is in
      subst (λ (looks : List Look). AreInOrder (opening_of o) c.look-look.new.self.seen looks) (sym c.push_reserved.ensures.items)
      (in_order_with (opening_of o) c.self.inside.monitor.seen c.look-look.new.self.seen c.look-look.ensures.before c.self.inside.looks.items (c.self.invariant.in_order o was) c.look-look.result (c.look-look.ensures.look o was).1);
}
