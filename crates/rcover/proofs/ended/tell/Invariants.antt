use Rattle.std.proofs.Common.{◌≡◌, ◌≤◌, List, take, length}
use Rattle.std.specs.List.{AllByRecursion, filter_map}
use Rattle.std.specs.Prelude.{vec_capacity, slice_index}
use Rattle.rclaim.specs.declared.event.Event.{Event}
use Rattle.rcover_laws.specs.Ended.{wait_of}
use Rattle.rcover_laws.specs.History.{asks_since, length_in}
use Rattle.rcover.specs.Follow.{table_of}
use Rattle.rcover.specs.Kept.{length_by, HasRoom, AreLong, AreOf}
use Rattle.rcover.specs.Tracked.{told_if}
use Rattle.rcover.proofs.Looked.{RestGoesOn}
use Rattle.rcover.proofs.ended.tell.Given as goal

abbrev pub invariant-loop-x : goal.invariant-loop-x
invariant-loop-x l = record {
  capacity : vec_capacity l.ended ≡ vec_capacity l.fn.ended;
  few : length l.ended.items ≤ l.x-index;
  room : HasRoom l.scratch;
  told : (es : List Event) → AllByRecursion (λ x. slice_index l.asks x.claim.seat ≡ asks_since x.claim.seat es) l.last → AreOf (length_by l.lengths) (length_in es) l.last → AllByRecursion (AreLong (length_in es)) l.runs
      → l.ended.items ≡ filter_map (λ x. told_if (length_in es) l.last l.next (table_of l.runs) x (wait_of es l.last x)) (take l.x-index l.last);
  rest : RestGoesOn l.last l.next l.x-index l.left;
}
