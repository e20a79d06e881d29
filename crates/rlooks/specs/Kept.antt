-- What the fields of a lookout keep.
use Rattle.std.specs.Prelude.{◌≡◌, ◌≤◌, Some, vec_capacity}
use Rattle.rmon.specs.declared.rule.Opening.{Opening}
use Rattle.rmon.specs.Opened.{opening_of}
use Rattle.rlooks.specs.declared.lookout.TheConstants.{LOOKS}
use Rattle.rlooks.specs.declared.lookout.Lookout.TheInside.{Inside}
use Rattle.rlooks.specs.Lookouts.{Looking}
use Rattle.rlooks.specs.Looks.{AreInOrder}

abbrev pub looking_of : Inside → Looking
looking_of a = record { monitor = a.monitor; looks = a.looks.items }

-- there is room for all looks, and those that were kept are looks at what the monitor has seen, in order
pub record IsKept (a : Inside) : Type 0 where
  pub room : LOOKS ≤ vec_capacity a.looks
  pub in_order : (o : Opening) → a.monitor.opening ≡ Some o → AreInOrder (opening_of o) a.monitor.seen a.looks.items
