use Rattle.std.proofs.Common.{◌≡◌, ◌==◌, ◌&&◌, ◌||◌, ◌+◌, ◌++◌, ◌∷◌, [], Bool, true, false, get_or, not, List, take, refl, sym, ap, arith, ◌∙◌}
use Rattle.std.proofs.lemmas.List.{take_all, take_more}
use Rattle.std.specs.FinSet.{contains}
use Rattle.rbound.specs.declared.which.Which.TheVariants.{First}
use Rattle.rcover_laws.specs.declared.wait_end.WaitEnd.{WaitEnd}
use Rattle.rcover.specs.Waiting.{has_end}
use Rattle.rcover.proofs.SeatFacts.{any_push}
use Rattle.rcover.proofs.waiting.note_ended.Goals as goal

pub loop-end-init : goal.loop-end-init
loop-end-init c = λ seat low. refl

left : (a b o : Bool) → (not b && (not a && o)) ≡ (not (a || b) && o)
left true true o = refl
left true false o = refl
left false true o = refl
left false false o = refl

pub loop-end-preserved : goal.loop-end-preserved
loop-end-preserved c = λ seat low.
    let ends = c.args.ended.now in
    let i = c.loop-end.end-index in
    let d : WaitEnd = record { seat = 0; stamp = 0; which = First; reads = 0; writes = 0; units = 0 } in
    let end = get_or ends i d in
    let old = contains c.args.waiting.now seat in
    let front : take (i + 1) ends ≡ take i ends ++ end ∷ [] = take_more ends i d (omega arith) in
    c.without_end.ensures seat low
    ∙ ap (λ b. not (end.seat == seat) && b) (c.loop-end.invariant seat low)
    ∙ left (has_end (take i ends) seat) (end.seat == seat) old
    ∙ ap (λ b. not b && old) (sym (any_push (λ (w : WaitEnd). w.seat == seat) (take i ends) end) ∙ sym (ap (λ (l : List WaitEnd). has_end l seat) front))

pub returns : goal.returns
returns c = λ seat low. c.loop-end.invariant seat low ∙ ap (λ (l : List WaitEnd). not (has_end l seat) && contains c.args.waiting.now seat) (take_all c.loop-end.end-index c.args.ended.now (omega arith))
