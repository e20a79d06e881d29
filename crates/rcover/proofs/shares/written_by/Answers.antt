use Rattle.std.proofs.Common.{◌≡◌, false, get_or, ◌&&◌, ◌||◌, ◌+◌, ◌++◌, ◌∷◌, [], List, take, sym, ap, arith, ◌∙◌}
use Rattle.std.proofs.lemmas.List.{take_all, take_more}
use Rattle.std.specs.FinSet.{contains}
use Rattle.std.specs.List.{list_any}
use Rattle.std.specs.Prelude.{slice_get}
use Rattle.rset.specs.Sets.{Set}
use Rattle.rset.proofs.SetMembers.{contains_empty}
use Rattle.rclaim.specs.declared.changes.StatusChange.{StatusChange}
use Rattle.rclaim.specs.declared.claim.Status.TheVariants.{Waiting}
use Rattle.rmodel.specs.Claims.{satisfied_by}
use Rattle.rcover.specs.Shares.{is_written, writes_if}
use Rattle.rcover.proofs.SeatFacts.{any_push}
use Rattle.rcover.proofs.shares.written_by.Goals as goal

pub loop-s-init : goal.loop-s-init
loop-s-init c = λ k. ap (λ (s : Set). contains s k) c.empty-written.ensures ∙ contains_empty k

pub loop-s-preserved : goal.loop-s-preserved
loop-s-preserved c = λ k.
    let cs = c.args.statuses.now in
    let i = c.loop-s.s-index in
    let d : StatusChange = record { seat = 0; write_half = false; status = Waiting } in
    let s = get_or cs i d in
    let test = λ (e : StatusChange). (e.write_half && satisfied_by e.status) && contains (writes_if (slice_get c.args.shares.now e.seat)) k in
    let front : take (i + 1) cs ≡ take i cs ++ s ∷ [] = take_more cs i d (omega arith) in
    c.with_written-written.ensures k
    ∙ ap (λ b. b || test s) (c.loop-s.invariant k)
    ∙ sym (any_push test (take i cs) s)
    ∙ sym (ap (list_any test) front)

pub returns : goal.returns
returns c = λ k. c.loop-s.invariant k ∙ ap (λ (l : List StatusChange). is_written c.args.shares.now l k) (take_all c.loop-s.s-index c.args.statuses.now (omega arith))
