use Rattle.std.proofs.Common.{rules, ◌≡◌, length, refl, subst}
use Rattle.std.specs.Prelude.{All}
use Rattle.std.proofs.lemmas.List.Elements.{All-tail}
use Rattle.rnlp_lock.specs.Laws.{HoldsOf}
use Rattle.rnlp_lock.specs.Seats.{IsPassOf, who, who_of}
use Rattle.rnlp_lock.proofs.Moving.{one_over, none_over}
use Rattle.rnlp_lock.proofs.seat.LockOver+State+T+Plain+T.seats.Goals as goal

pub loop-pass-preserved : goal.loop-pass-preserved
loop-pass-preserved g c = record {
  made =
      one_over who (who_of c.args.self.now) c.loop-pass.seats.items c.push.new.self.items _ c.loop-pass.pass-iterator.rest.items c.next.new.self.rest.items c.in-Some.pass _ c.in_ok-push.ensures.items
      c.in-Some.ensures.steps.0 refl c.loop-pass.invariant.made;
  left =
      All-tail (IsPassOf g.T.Law.allows (HoldsOf g.T.Law.holds) c.args.self.now) c.in-Some.pass c.next.new.self.rest.items
      (subst (All (IsPassOf g.T.Law.allows (HoldsOf g.T.Law.holds) c.args.self.now)) c.in-Some.ensures.steps.0 c.loop-pass.invariant.left);
}

pub returns : goal.returns
returns g c = let none : length c.loop-pass.pass-iterator.rest.items ≡ 0 = search rules in
    none_over who (who_of c.args.self.now) c.loop-pass.seats.items c.loop-pass.pass-iterator.rest.items _ none c.loop-pass.invariant.made
