use Rattle.std.proofs.Common.{◌&&◌, ◌||◌, sym, ap, ◌∙◌}
use Rattle.std.specs.FinSet.{contains}
use Rattle.std.specs.Prelude.{slice_get}
use Rattle.rset.specs.Sets.{Set}
use Rattle.rset.proofs.SetMembers.{contains_union}
use Rattle.rcover.specs.Shares.{writes_if}
use Rattle.rcover.proofs.SeatFacts.{or_false}
use Rattle.rcover.proofs.shares.with_written.Goals as goal

pub returns-then-is_write_told : goal.returns-then-is_write_told
returns-then-is_write_told c = λ l.
    let s = c.args.s.now in
    let own = contains (writes_if (slice_get c.args.shares.now s.seat)) l in
    ap (λ (t : Set). contains t l) c.union.ensures ∙ contains_union c.args.written c.writes_of.result l
    ∙ ap (λ b. contains c.args.written l || b) (ap (λ (t : Set). contains t l) c.writes_of.ensures ∙ ap (λ b. b && own) (sym c.if-is_write_told.true ∙ c.is_write_told.ensures))

pub returns-else-is_write_told : goal.returns-else-is_write_told
returns-else-is_write_told c = λ l.
    let s = c.args.s.now in
    let own = contains (writes_if (slice_get c.args.shares.now s.seat)) l in
    sym (ap (λ b. contains c.args.written l || (b && own)) (sym c.is_write_told.ensures ∙ c.if-is_write_told.false) ∙ or_false (contains c.args.written l))
