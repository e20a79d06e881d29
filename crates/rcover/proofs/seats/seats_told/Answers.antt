use Rattle.std.proofs.Common.{◌≡◌, false, get_or, ◌==◌, ◌&&◌, ◌||◌, ◌+◌, ◌++◌, ◌∷◌, [], List, take, sym, ap, arith, ◌∙◌}
use Rattle.std.proofs.lemmas.List.{take_all, take_more}
use Rattle.std.specs.FinSet.{contains}
use Rattle.rset.specs.Sets.{Set}
use Rattle.rset.proofs.SetMembers.{contains_empty}
use Rattle.rclaim.specs.declared.changes.StatusChange.{StatusChange}
use Rattle.rclaim.specs.declared.claim.Status.TheVariants.{Waiting}
use Rattle.rmodel.specs.Claims.{satisfied_by}
use Rattle.rcover.specs.Lines.{tells_write_of}
use Rattle.rcover.proofs.SeatFacts.{any_push, or_turned}
use Rattle.rcover.proofs.seats.seats_told.Goals as goal

pub loop-s-init : goal.loop-s-init
loop-s-init c = λ seat low. ap (λ (s : Set). contains s seat) c.empty-seats.ensures ∙ contains_empty seat

pub loop-s-preserved : goal.loop-s-preserved
loop-s-preserved c = λ seat low.
    let cs = c.args.statuses.now in
    let i = c.loop-s.s-index in
    let d : StatusChange = record { seat = 0; write_half = false; status = Waiting } in
    let s = get_or cs i d in
    let test = λ (e : StatusChange). (e.seat == seat) && (e.write_half && satisfied_by e.status) in
    let front : take (i + 1) cs ≡ take i cs ++ s ∷ [] = take_more cs i d (omega arith) in
    c.with_told-seats.ensures seat low
    ∙ ap (λ b. test s || b) (c.loop-s.invariant seat low)
    ∙ or_turned (test s) (tells_write_of (take i cs) seat)
    ∙ sym (any_push test (take i cs) s)
    ∙ sym (ap (λ (l : List StatusChange). tells_write_of l seat) front)

pub returns : goal.returns
returns c = λ seat low. c.loop-s.invariant seat low ∙ ap (λ (l : List StatusChange). tells_write_of l seat) (take_all c.loop-s.s-index c.args.statuses.now (omega arith))
