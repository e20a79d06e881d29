use Rattle.std.proofs.Common.{◌≡◌, Bool, true, false, not, ◌&&◌, ◌||◌, sym, ap, refl, ◌∙◌}
use Rattle.std.specs.FinSet.{contains, insert, intersection, union}
use Rattle.rclaim.specs.Events.{seat_of}
use Rattle.rset.specs.Sets.{Set}
use Rattle.rmodel.proofs.settling.Keeping.{not_false}
use Rattle.rcover.specs.Begun.{rises_at}
use Rattle.rcover.proofs.Undue.{looked_else, looked_rising, rises_else, rises_same}
use Rattle.rcover.proofs.follow.looked_at.Goals as goal

not_not : (b : Bool) → not b ≡ false → b ≡ true
not_not true h = refl
not_not false h = cc

changed : (waiting moved risen both meet : Set) → both ≡ union moved risen → meet ≡ intersection waiting both → meet ≡ intersection waiting (union moved risen)
changed waiting moved risen both meet one two = two ∙ ap (λ s. intersection waiting s) one

pub returns-then-has_stood : goal.returns-then-has_stood
returns-then-has_stood c = λ seat.
    let e = c.args.event.now in
    let w = c.args.waiting in
    let off : rises_at e (seat_of e) ≡ false = not_false (rises_at e (seat_of e)) (ap (λ s. not (rises_at e s)) (sym c.seat-seat.ensures) ∙ sym c.has_stood.ensures ∙ c.if-has_stood.true) in
    ap (λ s. contains s seat) (changed w c.args.moved c.args.risen _ _ c.union.ensures c.meet-changed.ensures) ∙ looked_else w c.args.moved c.args.risen seat
    ∙ ap (λ b. b || (contains w seat && (contains c.args.moved seat || contains c.args.risen seat))) (sym (rises_else e off seat))

pub returns : goal.returns
returns c = λ seat.
    let e = c.args.event.now in
    let w = c.args.waiting in
    let on : rises_at e (seat_of e) ≡ true = not_not (rises_at e (seat_of e)) (ap (λ s. not (rises_at e s)) (sym c.seat-seat.ensures) ∙ sym c.has_stood.ensures ∙ c.if-has_stood.false) in
    ap (λ s. contains s seat) (c.with.ensures ∙ (λ i. insert (changed w c.args.moved c.args.risen _ _ c.union.ensures c.meet-changed.ensures i) (c.seat-seat.ensures i))) ∙ looked_rising w c.args.moved c.args.risen (seat_of e) seat
    ∙ ap (λ b. b || (contains w seat && (contains c.args.moved seat || contains c.args.risen seat))) (sym (rises_same e on seat))
