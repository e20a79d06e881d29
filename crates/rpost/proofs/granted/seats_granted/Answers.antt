use Rattle.std.proofs.Common.{◌≡◌, ◌==◌, ◌||◌, ◌+◌, ◌++◌, ◌∷◌, [], List, take, sym, ap, arith, ◌∙◌}
use Rattle.std.proofs.lemmas.List.{take_all, take_more}
use Rattle.std.specs.FinSet.{contains}
use Rattle.rset.specs.Sets.{Set}
use Rattle.rset.proofs.SetMembers.{contains_empty}
use Rattle.rclaim.specs.declared.changes.GrantChange.{GrantChange}
use Rattle.rpost.specs.Granted.{has_grant}
use Rattle.rpost.proofs.Seats.{any_push, or_turned}
use Rattle.rpost.proofs.granted.seats_granted.Goals as goal

pub loop-g-init : goal.loop-g-init
loop-g-init c = λ seat low. ap (λ (s : Set). contains s seat) c.empty-seats.ensures ∙ contains_empty seat

pub loop-g-preserved : goal.loop-g-preserved
loop-g-preserved c = λ seat low.
    let gs = c.args.grants.now in
    let i = c.loop-g.g-index in
    let g = c.g-item.result in
    let test = λ (d : GrantChange). seat == d.seat in
    let front : take (i + 1) gs ≡ take i gs ++ g ∷ [] = take_more gs i g (omega arith) ∙ ap (λ y. take i gs ++ y ∷ []) (sym c.g-item.is) in
    c.with_seat-seats.ensures seat low
    ∙ ap (λ b. test g || b) (c.loop-g.invariant seat low)
    ∙ or_turned (test g) (has_grant (take i gs) seat)
    ∙ sym (any_push test (take i gs) g)
    ∙ sym (ap (λ (l : List GrantChange). has_grant l seat) front)

pub returns : goal.returns
returns c = λ seat low. c.loop-g.invariant seat low ∙ ap (λ (l : List GrantChange). has_grant l seat) (take_all c.loop-g.g-index c.args.grants.now (omega arith))
