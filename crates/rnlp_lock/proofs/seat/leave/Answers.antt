use Rattle.std.proofs.Common.{rules, ◌≡◌, List, length, ◌∷◌, map, sym, ap, subst, ◌∙◌}
use Rattle.std.specs.Prelude.{All}
use Rattle.std.proofs.lemmas.List.Elements.{All-head, All-tail, All-push}
use Rattle.rnlp_lock.specs.Laws.{HoldsOf}
use Rattle.rnlp_lock.specs.Seats.{LockFields, SeatFields, Who, IsPassOf, who, who_of}
use Rattle.rnlp_lock.proofs.Moving.{one_over, none_over}
use Rattle.rnlp_lock.proofs.seat.leave.Goals as goal

pub loop-seat-preserved : goal.loop-seat-preserved
loop-seat-preserved g c =
    let left : All (λ (w : Who g.row.T.Denot). w.lock ≡ c.args.lock.now) (map who (c.in-Some.seat ∷ c.next.new.self.rest.items)) =
    subst (λ (seats : List (SeatFields g.row.T.Denot g.row.T-Edit.Denot)). All (λ (w : Who g.row.T.Denot). w.lock ≡ c.args.lock.now) (map who seats)) c.in-Some.ensures.steps.0 c.loop-seat.invariant.left in
    let its_lock : c.seat.inside.lock.now ≡ c.args.lock.now =
    ap (λ (s : SeatFields g.row.T.Denot g.row.T-Edit.Denot). s.lock) c.seat.view_is ∙ All-head (λ (w : Who g.row.T.Denot). w.lock ≡ c.args.lock.now) (who c.in-Some.seat) (map who c.next.new.self.rest.items) left in
    record {
      each =
          subst (All (IsPassOf g.T.Law.allows (HoldsOf g.T.Law.holds) c.args.lock.now)) (sym c.in_ok-push.ensures.items)
          (All-push (IsPassOf g.T.Law.allows (HoldsOf g.T.Law.holds) c.args.lock.now) c.loop-seat.passes.items c.seat.inside.pass c.loop-seat.invariant.each
          (subst (λ (lock : LockFields). IsPassOf g.T.Law.allows (HoldsOf g.T.Law.holds) lock c.seat.inside.pass) its_lock c.seat.invariant));
      all =
          one_over (who_of c.args.lock.now) who c.loop-seat.passes.items c.push.new.self.items c.seat.inside.pass c.loop-seat.seat-iterator.rest.items c.next.new.self.rest.items c.in-Some.seat _ c.in_ok-push.ensures.items
          c.in-Some.ensures.steps.0 (ap (λ (lock : LockFields). who_of lock c.seat.inside.pass) (sym its_lock) ∙ ap who c.seat.view_is) c.loop-seat.invariant.all;
      left = All-tail (λ (w : Who g.row.T.Denot). w.lock ≡ c.args.lock.now) (who c.in-Some.seat) (map who c.next.new.self.rest.items) left;
    }

pub returns-clause-all : goal.returns-clause-all
returns-clause-all g c = let none : length c.loop-seat.seat-iterator.rest.items ≡ 0 = search rules in
    none_over (who_of c.args.lock.now) who c.loop-seat.passes.items c.loop-seat.seat-iterator.rest.items _ none c.loop-seat.invariant.all
