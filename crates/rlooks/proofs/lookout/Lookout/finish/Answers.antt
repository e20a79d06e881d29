use Rattle.std.proofs.Common.{◌≡◌, List, Some, length, sym, ap, subst, ◌∙◌}
use mathlib.Core.List.{IsPrefix}
use Rattle.rmon.specs.declared.look.Look.{Look}
use Rattle.rmon.specs.Opened.{opening_of}
use Rattle.rlooks.specs.Lookouts.{Looking}
use Rattle.rlooks.specs.Looks.{AreLooksAt}
use Rattle.rlooks.proofs.Closed.{all_looks}
use Rattle.rlooks.proofs.lookout.Lookout.finish.Goals as goal

pub returns-clause-looks : goal.returns-clause-looks
returns-clause-looks g c = λ o all is begins counted.
    let was : c.self.inside.monitor.opening ≡ Some o = ap (λ (l : Looking). l.monitor.opening) c.self.view_is ∙ is in
    let first : IsPrefix all c.self.inside.monitor.seen = subst (λ (l : Looking). IsPrefix all l.monitor.seen) (sym c.self.view_is) begins in
    subst (λ (looks : List Look). AreLooksAt (opening_of o) all looks) (sym c.push_reserved.ensures.items)
    (all_looks (opening_of o) c.self.inside.monitor.seen c.look_until-look.new.monitor.seen all c.look_until-look.ensures.before first c.self.inside.looks.items (c.self.invariant.in_order o was)
    (ap (λ (l : Looking). length l.looks) c.self.view_is ∙ c.requires) c.look_until-look.result (c.look_until-look.ensures.look o was).1 (c.look_until-look.ensures.count ∙ sym counted))
