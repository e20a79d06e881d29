use Rattle.std.proofs.Common.{List, length, refl, sym, ap, subst, ◌∙◌, arith, not, cond, false, ◌-◌, ◌≤◌, ℕ}
use Rattle.std.proofs.Math.ListN.{set}
use Rattle.rclaim.specs.declared.event.Event.TheVariants.{Finish}
use Rattle.rmodel.specs.declared.claimed.Claimed.{Claimed}
use Rattle.std.specs.List.{count_by}
use Rattle.rmodel.specs.Claims.{is_read_half}
use Rattle.rmodel.specs.Holds.{may_rise}
use Rattle.rplain.proofs.stepping.Marked.{marked_next, halves_next, finished_marked, finished_halves, as_number}
use Rattle.rplain.proofs.stepping.OnlyMarks.{finished_only, only_next}
use Rattle.rmodel.specs.Changes.{status_changes, grant_changes}
use Rattle.rplain.specs.Plain.{state_of, AreMarked, AreOnlyMarks}
use Rattle.rmodel.specs.Reached.{IsReached}
use Rattle.rmodel.specs.Settling.{settled}
use Rattle.rmodel.specs.State.{LockState}
use Rattle.rmodel.specs.Steps.{changed, given, some_asks}
use Rattle.rplain.specs.declared.left.Left.{Left}
use Rattle.rplain.specs.Sweep.{is_of, AreReadWithin, IsLeft}
use Rattle.rplain.proofs.settling.RemovedSteps.{is_left_by}
use Rattle.rplain.proofs.stepping.PlainSteps.{kept_comes, taken}
use Rattle.rmodel.proofs.reaching.FewClaims.{few_claims}
use Rattle.rmodel.proofs.reaching.Reached.{reached_next}
use Rattle.rmodel.proofs.ListFacts.{all_filter}
use Rattle.rplain.proofs.settling.SoFar.{within_next, unasked_left, unasked_next}
use Rattle.rmodel.proofs.reaching.Soundness.{sound_changed}
use Rattle.rplain.proofs.plain.Plain.finish.Goals as goal

pub overflow_sub-self : goal.overflow_sub-self
overflow_sub-self c =
    let a = c.self.inside in
    let were = c.self.invariant.halves in
    let gone = finished_halves c.args.seat a.claims.items c.self.invariant.reached.sound.one_each in
    subst (λ (n : ℕ). n ≤ a.halves) (sym (as_number c.may_rise.result ∙ ap (λ b. cond b 1 0) (c.may_rise.ensures ∙ ap (λ (xs : List Claimed). may_rise xs c.args.seat) c.deref.ensures.value))) (omega (arith, were, gone))

pub settle_any-requires-clause-left : goal.settle_any-requires-clause-left
settle_any-requires-clause-left c =
    let a = c.self.inside in
    let e = Finish c.args.seat in
    let comes = kept_comes a c.args.self.now e c.self.view_is c.requires.fits c.requires.accepted tt in
    subst (λ (p : List Claimed × Left). IsLeft p.0 p.1) (λ k. (sym c.take_seat-left.ensures.items k, sym c.take_seat-left.ensures.left k))
    (is_left_by (state_of a) e (is_of c.args.seat) a.read c.self.invariant.reached c.self.invariant.within comes refl)

pub take_seat-left-requires-clause-distinct : goal.take_seat-left-requires-clause-distinct
take_seat-left-requires-clause-distinct c = c.self.invariant.reached.sound.one_each

pub settle_any-requires-clause-asked : goal.settle_any-requires-clause-asked
settle_any-requires-clause-asked c = λ unasked.
    let xs = c.self.inside.claims.items in
    ap some_asks c.take_seat-left.ensures.items ∙ unasked_left (λ x. not (is_of c.args.seat x)) xs (c.self.invariant.unasked unasked)

pub settle_any-requires-clause-room : goal.settle_any-requires-clause-room
settle_any-requires-clause-room c =
    let a = c.self.inside in
    let e = Finish c.args.seat in
    let comes = kept_comes a c.args.self.now e c.self.view_is c.requires.fits c.requires.accepted tt in
    let few = few_claims (changed (state_of a) e) (sound_changed (state_of a) e c.self.invariant.reached.sound comes) in
    let same = ap length c.take_seat-left.ensures.items in
    let seats = c.self.invariant.seats in
    omega arith

pub settle_any-requires-clause-before_room : goal.settle_any-requires-clause-before_room
settle_any-requires-clause-before_room c =
    let a = c.self.inside in
    let e = Finish c.args.seat in
    let comes = kept_comes a c.args.self.now e c.self.view_is c.requires.fits c.requires.accepted tt in
    let few = few_claims (changed (state_of a) e) (sound_changed (state_of a) e c.self.invariant.reached.sound comes) in
    let same = ap length c.take_seat-left.ensures.items in
    let seats = c.self.invariant.seats in
    let room = c.self.invariant.before_room in
    omega arith

pub invariant_of-self : goal.invariant_of-self
invariant_of-self c =
    let a = c.self.inside in
    let e = Finish c.args.seat in
    let comes = kept_comes a c.args.self.now e c.self.view_is c.requires.fits c.requires.accepted tt in
    record {
      reached = subst (λ (xs : List Claimed). IsReached (record (state_of a) { claims = xs })) (sym (c.settle_any.ensures.items ∙ ap (λ xs. given (settled xs)) c.take_seat-left.ensures.items))
          (reached_next (state_of a) e c.self.invariant.reached comes);
      seen = c.settle_any.ensures.seen;
      marks = subst (λ (xs : List Claimed). AreMarked (set a.marks c.args.seat false) xs) (sym (c.settle_any.ensures.items ∙ ap (λ xs. given (settled xs)) c.take_seat-left.ensures.items))
          (marked_next (state_of a) e c.self.invariant.reached.sound comes (set a.marks c.args.seat false) (finished_marked a.marks a.claims.items c.args.seat c.self.invariant.marks));
      only = subst (λ (xs : List Claimed). AreOnlyMarks (set a.marks c.args.seat false) xs) (sym (c.settle_any.ensures.items ∙ ap (λ xs. given (settled xs)) c.take_seat-left.ensures.items))
          (only_next (state_of a) e c.self.invariant.reached.sound comes (set a.marks c.args.seat false)
          (finished_only a.marks a.claims.items c.args.seat (let there = comes.fits in let seats = c.self.invariant.seats in omega arith) c.self.invariant.only));
      halves =
          let gone = finished_halves c.args.seat a.claims.items c.self.invariant.reached.sound.one_each in
          let next = halves_next (state_of a) e c.self.invariant.reached.sound comes in
          let are = ap (count_by (λ x. is_read_half x.claim)) (c.settle_any.ensures.items ∙ ap (λ xs. given (settled xs)) c.take_seat-left.ensures.items) in
          (λ i. c.self.invariant.halves i - (as_number c.may_rise.result ∙ ap (λ b. cond b 1 0) (c.may_rise.ensures ∙ ap (λ (xs : List Claimed). may_rise xs c.args.seat) c.deref.ensures.value)) i) ∙ omega (arith, gone, next, are);
      some_cap = c.self.invariant.some_cap;
      within = subst (λ (xs : List Claimed). AreReadWithin a.read xs) (sym (c.settle_any.ensures.items ∙ ap (λ xs. given (settled xs)) c.take_seat-left.ensures.items))
          (within_next (state_of a) e c.self.invariant.reached.sound comes a.read (all_filter _ (λ x. not (is_of c.args.seat x)) a.claims.items c.self.invariant.within));
      unasked = λ unasked.
          ap (λ xs. some_asks xs) (c.settle_any.ensures.items ∙ ap (λ xs. given (settled xs)) c.take_seat-left.ensures.items)
          ∙ unasked_next (state_of a) e c.self.invariant.reached.sound comes (unasked_left (λ x. not (is_of c.args.seat x)) a.claims.items (c.self.invariant.unasked unasked));
      cap = c.self.invariant.cap;
      some_seats = c.self.invariant.some_seats;
      seats = c.self.invariant.seats;
      claims_room = c.settle_any.ensures.capacity ∙ c.take_seat-left.ensures.capacity ∙ c.self.invariant.claims_room;
      before_room = c.settle_any.ensures.before_capacity ∙ c.self.invariant.before_room;
    }

pub returns : goal.returns
returns c =
    let a = c.self.inside in
    let e = Finish c.args.seat in
    let comes = kept_comes a c.args.self.now e c.self.view_is c.requires.fits c.requires.accepted tt in
    let items = c.take_seat-left.ensures.items in
    taken a c.args.self.now e _ c.self.view_is c.self.invariant comes
    (ap (λ (ys : List Claimed). let s : LockState = record (state_of a) { claims = ys } in s) (c.settle_any.ensures.items ∙ ap (λ xs. given (settled xs)) items))
    (c.settle_any.ensures.statuses ∙ ap (λ ys. status_changes ys c.settle_any.new.claims.items) items)
    (c.settle_any.ensures.grants ∙ ap (λ ys. grant_changes ys c.settle_any.new.claims.items) items)
