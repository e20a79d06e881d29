use Rattle.std.proofs.Common.{◌≡◌, ◌==◌, ◌&&◌, ◌||◌, Bool, true, false, refl, sym, ap, ◌∙◌}
use Rattle.std.specs.FinSet.{contains}
use Rattle.rset.specs.Sets.{Set}
use Rattle.rset.proofs.SetMembers.{contains_insert}
use Rattle.rcover.proofs.SeatFacts.{and_true, eq_turned, or_turned}
use Rattle.rcover.proofs.shares.with_writer.Goals as goal

pub returns-then-x : goal.returns-then-x
returns-then-x c = λ seat.
    let x = c.args.x.now in
    ap (λ (s : Set). contains s seat) c.with.ensures ∙ contains_insert c.args.writers x.claim.seat seat
    ∙ or_turned (seat == x.claim.seat) (contains c.args.writers seat)
    ∙ ap (λ b. contains c.args.writers seat || b) (eq_turned seat x.claim.seat ∙ sym (and_true (x.claim.seat == seat)) ∙ ap (λ b. (x.claim.seat == seat) && b) (sym c.if-x.true))

pub returns-else-x : goal.returns-else-x
returns-else-x c = λ seat.
    let x = c.args.x.now in
    sym (ap (λ b. contains c.args.writers seat || b) (ap (λ b. (x.claim.seat == seat) && b) c.if-x.false ∙ and_false (x.claim.seat == seat)) ∙ or_false (contains c.args.writers seat))
  where
    and_false : (b : Bool) → (b && false) ≡ false
    and_false true = refl
    and_false false = refl

    or_false : (b : Bool) → (b || false) ≡ b
    or_false true = refl
    or_false false = refl
