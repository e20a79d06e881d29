use Rattle.std.specs.Prelude.{All}
use Rattle.rlock.specs.Known.{Known}
use Rattle.rlock.specs.Covering.{Covers, IsIdleAt}
use Rattle.rlock.proofs.closing.taken_in.Given as goal

abbrev pub invariant-loop-pass : goal.invariant-loop-pass
invariant-loop-pass g l = record {
  idle : IsIdleAt l.board.shared.table_id l.place;
  passes : All (Covers g.S.Kept.number g.S.Kept.stays l.place.me.0) l.yielded;
  before : (k : Known g.row.S.Denot g.row.S-Opening.Denot g.row.S-Entry.Denot) → Covers g.S.Kept.number g.S.Kept.stays l.initial.place.me.0 k → Covers g.S.Kept.number g.S.Kept.stays l.place.me.0 k;
}
