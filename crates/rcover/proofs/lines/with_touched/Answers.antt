use Rattle.std.proofs.Common.{◌&&◌, ◌||◌, sym, ap, ◌∙◌}
use Rattle.std.specs.FinSet.{contains}
use Rattle.rset.specs.Sets.{Set}
use Rattle.rset.proofs.SetMembers.{contains_union}
use Rattle.rcover.specs.Lines.{set_at}
use Rattle.rcover.proofs.SeatFacts.{or_false}
use Rattle.rcover.proofs.lines.with_touched.Goals as goal

pub returns-then-is_write_told : goal.returns-then-is_write_told
returns-then-is_write_told c = λ seat.
    let s = c.args.s.now in
    let own = contains (set_at c.args.behind.now s.seat) seat in
    ap (λ (t : Set). contains t seat) c.union.ensures ∙ contains_union c.args.touched c.set_of.result seat
    ∙ ap (λ b. contains c.args.touched seat || b) (ap (λ (t : Set). contains t seat) c.set_of.ensures ∙ ap (λ b. b && own) (sym c.if-is_write_told.true ∙ c.is_write_told.ensures))

pub returns-else-is_write_told : goal.returns-else-is_write_told
returns-else-is_write_told c = λ seat.
    let s = c.args.s.now in
    let own = contains (set_at c.args.behind.now s.seat) seat in
    sym (ap (λ b. contains c.args.touched seat || (b && own)) (sym c.is_write_told.ensures ∙ c.if-is_write_told.false) ∙ or_false (contains c.args.touched seat))
