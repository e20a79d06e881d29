use Rattle.std.proofs.Common.{◌≡◌, Bool, true, false, not, refl, sym, ap, ◌∙◌, inl, inr}
use Rattle.std.proofs.lemmas.Bool.{and_from, and_parts}
use Rattle.std.specs.FinSet.{contains}
use Rattle.rset.proofs.SetMembers.{contains_intersection}
use Rattle.rclaim.specs.Events.{seat_of}
use Rattle.rmodel.proofs.ListFacts.{contrary}
use Rattle.rcover.specs.Begun.{rises_at}
use Rattle.rcover.proofs.waiting_reads.reads_stay.Goals as goal

on_from : (b : Bool) → not b ≡ false → b ≡ true
on_from true off = refl
on_from false off = contrary true refl off

pub returns-then-not-some_wanted-clause-none : goal.returns-then-not-some_wanted-clause-none
returns-then-not-some_wanted-clause-none c = λ _ seat reads waits.
    c.some_wanted.ensures.none c.if-not-some_wanted.true seat
    (ap (λ s. contains s seat) c.meet.ensures ∙ contains_intersection c.args.reading c.args.waiting seat ∙ and_from (contains c.args.reading seat) (contains c.args.waiting seat) reads waits)

pub returns-then-not-some_wanted-clause-due : goal.returns-then-not-some_wanted-clause-due
returns-then-not-some_wanted-clause-due c = λ due.
    let e = c.args.event.now in
    inl (on_from (rises_at e (seat_of e)) (ap (λ seat. not (rises_at e seat)) (sym c.seat.ensures) ∙ sym c.has_stood.ensures ∙ due))

pub returns-else-not-some_wanted-clause-due : goal.returns-else-not-some_wanted-clause-due
returns-else-not-some_wanted-clause-due c = λ _.
    let w = c.some_wanted.ensures.some c.if-not-some_wanted.false in
    let parts = and_parts (contains c.args.reading w.0) (contains c.args.waiting w.0) (sym (ap (λ s. contains s w.0) c.meet.ensures ∙ contains_intersection c.args.reading c.args.waiting w.0) ∙ w.1) in
    inr (w.0, parts.0, parts.1, w.2)
