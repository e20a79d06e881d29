use Rattle.std.proofs.Common.{◌≡◌, false, get_or, ◌&&◌, ◌||◌, ◌+◌, ◌++◌, ◌∷◌, [], List, take, sym, ap, arith, ◌∙◌}
use Rattle.std.proofs.lemmas.List.{take_all, take_more}
use Rattle.std.specs.FinSet.{contains}
use Rattle.std.specs.List.{list_any}
use Rattle.rset.specs.Sets.{Set}
use Rattle.rclaim.specs.declared.changes.StatusChange.{StatusChange}
use Rattle.rclaim.specs.declared.claim.Status.TheVariants.{Waiting}
use Rattle.rmodel.specs.Claims.{satisfied_by}
use Rattle.rcover.specs.Lines.{is_touched, set_at}
use Rattle.rcover.proofs.SeatFacts.{any_push, or_false, or_grouped}
use Rattle.rcover.proofs.lines.touched_by.Goals as goal

pub loop-s-init : goal.loop-s-init
loop-s-init c = λ seat. ap (λ (s : Set). contains s seat) c.set_of-touched.ensures ∙ sym (or_false (contains (set_at c.args.behind.now c.args.lost) seat))

pub loop-s-preserved : goal.loop-s-preserved
loop-s-preserved c = λ seat.
    let cs = c.args.statuses.now in
    let i = c.loop-s.s-index in
    let d : StatusChange = record { seat = 0; write_half = false; status = Waiting } in
    let s = get_or cs i d in
    let test = λ (e : StatusChange). (e.write_half && satisfied_by e.status) && contains (set_at c.args.behind.now e.seat) seat in
    let lost = contains (set_at c.args.behind.now c.args.lost) seat in
    let front : take (i + 1) cs ≡ take i cs ++ s ∷ [] = take_more cs i d (omega arith) in
    c.with_touched-touched.ensures seat
    ∙ ap (λ b. b || test s) (c.loop-s.invariant seat)
    ∙ or_grouped lost (list_any test (take i cs)) (test s)
    ∙ ap (λ b. lost || b) (sym (any_push test (take i cs) s) ∙ sym (ap (list_any test) front))

pub returns : goal.returns
returns c = λ seat.
    c.loop-s.invariant seat ∙ ap (λ (l : List StatusChange). is_touched c.args.behind.now c.args.lost l seat) (take_all c.loop-s.s-index c.args.statuses.now (omega arith))
