use Rattle.std.proofs.Common.{◌≡◌, ◌-◌, []}
use Rattle.rlock.specs.Known.{newcomers}
use Rattle.rlock.specs.Views.{opening_view}
use Rattle.rlock.proofs.gate.Gate.first_passes.Given as goal

abbrev pub invariant-loop-number : goal.invariant-loop-number
invariant-loop-number g l = record {
  table : l.place.table_id ≡ l.fn.place.table_id;
  seat : l.place.me ≡ (opening_view l.number (l.count - l.number) (g.S.Kept.opening l.setup.first.value) l.setup.first.value, []);
  made : l.all.items ≡ newcomers l.fn.place.table_id (g.S.Kept.opening l.setup.first.value) l.setup.first.value 1 (l.number - 1);
}
