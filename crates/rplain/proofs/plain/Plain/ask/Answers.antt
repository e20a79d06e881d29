use Rattle.std.proofs.Common.{List, map, get_or, true, false, ◌≡◌, length, sym, ap, subst, ◌∙◌, arith}
use Rattle.rclaim.specs.declared.event.Event.TheVariants.{Ask}
use Rattle.rmodel.specs.declared.claimed.Claimed.{Claimed}
use Rattle.std.specs.List.{count_by}
use Rattle.rclaim.specs.declared.claim.Claim.{Claim}
use Rattle.rmodel.specs.Claims.{is_read_half}
use Rattle.rplain.proofs.stepping.Marked.{marked_next, halves_next, same_halves}
use Rattle.rplain.proofs.stepping.OnlyMarks.{only_next, same_only}
use Rattle.rmodel.proofs.ListFacts.{all_of_zip}
use Rattle.rmodel.specs.Changes.{SameClaim, status_changes, grant_changes}
use Rattle.rmodel.specs.State.{LockState}
use Rattle.rplain.specs.Plain.{state_of, AreMarked, AreOnlyMarks}
use Rattle.rmodel.specs.Reached.{IsReached}
use Rattle.rmodel.specs.Steps.{changed, given, asking}
use Rattle.rplain.proofs.stepping.PlainSteps.{kept_comes, taken, ask_settled}
use Rattle.rmodel.proofs.reaching.FewClaims.{few_claims}
use Rattle.rmodel.proofs.reaching.Reached.{reached_next}
use Rattle.rplain.specs.NewClaim.{seen_of}
use Rattle.rplain.proofs.settling.SweepSteps.{seen_standing}
use Rattle.rmodel.proofs.settling.Standing.{asking_standing, given_standing}
use Rattle.std.proofs.lemmas.Bool.{true≢false}
use Rattle.rplain.specs.Sweep.{AreReadWithin}
use Rattle.rplain.proofs.settling.SoFar.{within_next, within_asking}
use Rattle.rmodel.proofs.reaching.Soundness.{sound_changed, asking_same}
use Rattle.rplain.proofs.plain.Plain.ask.Goals as goal

pub give_once-requires : goal.give_once-requires
give_once-requires c =
    let a = c.self.inside in
    let e = Ask c.args.seat c.args.set in
    let comes = kept_comes a c.args.self.now e c.self.view_is c.requires.fits c.requires.accepted tt in
    let few = few_claims (changed (state_of a) e) (sound_changed (state_of a) e c.self.invariant.reached.sound comes) in
    let same = ap length c.ask.ensures.items in
    let seats = c.self.invariant.seats in
    omega arith

pub invariant_of-self : goal.invariant_of-self
invariant_of-self c =
    let a = c.self.inside in
    let e = Ask c.args.seat c.args.set in
    let comes = kept_comes a c.args.self.now e c.self.view_is c.requires.fits c.requires.accepted tt in
    let same = ask_settled (state_of a) c.args.seat c.args.set c.self.invariant.reached comes in
    record {
      reached = subst (λ (xs : List Claimed). IsReached (record (state_of a) { claims = xs })) (sym (c.give_once.ensures.items ∙ ap given (c.ask.ensures.items ∙ sym same)))
          (reached_next (state_of a) e c.self.invariant.reached comes);
      seen = c.self.invariant.seen ∙ seen_standing a.claims.items _ (asking_standing c.args.seat c.args.set a.claims.items)
          ∙ ap seen_of (sym c.ask.ensures.items) ∙ seen_standing c.ask.new.claims.items _ (given_standing c.ask.new.claims.items) ∙ ap seen_of (sym c.give_once.ensures.items);
      marks = subst (λ (xs : List Claimed). AreMarked a.marks xs) (sym (c.give_once.ensures.items ∙ ap given (c.ask.ensures.items ∙ sym same)))
          (marked_next (state_of a) e c.self.invariant.reached.sound comes a.marks
          (all_of_zip (λ x. get_or a.marks x.claim.seat false ≡ true) SameClaim (λ y. get_or a.marks y.claim.seat false ≡ true) (λ x y h same. ap (λ (k : Claim). get_or a.marks k.seat false) same ∙ h)
          a.claims.items (map (asking c.args.seat c.args.set) a.claims.items) c.self.invariant.marks (asking_same c.args.seat c.args.set a.claims.items)));
      only = subst (λ (xs : List Claimed). AreOnlyMarks a.marks xs) (sym (c.give_once.ensures.items ∙ ap given (c.ask.ensures.items ∙ sym same)))
          (only_next (state_of a) e c.self.invariant.reached.sound comes a.marks
          (same_only a.marks a.claims.items (map (asking c.args.seat c.args.set) a.claims.items) (asking_same c.args.seat c.args.set a.claims.items) c.self.invariant.only));
      halves = c.self.invariant.halves ∙ same_halves a.claims.items (map (asking c.args.seat c.args.set) a.claims.items) (asking_same c.args.seat c.args.set a.claims.items)
          ∙ halves_next (state_of a) e c.self.invariant.reached.sound comes ∙ ap (count_by (λ x. is_read_half x.claim)) (sym (c.give_once.ensures.items ∙ ap given (c.ask.ensures.items ∙ sym same)));
      some_cap = c.self.invariant.some_cap;
      within = subst (λ (xs : List Claimed). AreReadWithin a.read xs) (sym (c.give_once.ensures.items ∙ ap given (c.ask.ensures.items ∙ sym same)))
          (within_next (state_of a) e c.self.invariant.reached.sound comes a.read (within_asking a.read c.args.set c.args.seat a.claims.items c.self.invariant.within));
      unasked = λ unasked. absurd (true≢false unasked);
      cap = c.self.invariant.cap;
      some_seats = c.self.invariant.some_seats;
      seats = c.self.invariant.seats;
      claims_room = c.give_once.ensures.capacity ∙ c.ask.ensures.capacity ∙ c.self.invariant.claims_room;
      before_room = c.self.invariant.before_room;
    }

pub returns : goal.returns
returns c =
    let a = c.self.inside in
    let e = Ask c.args.seat c.args.set in
    let comes = kept_comes a c.args.self.now e c.self.view_is c.requires.fits c.requires.accepted tt in
    let same = ask_settled (state_of a) c.args.seat c.args.set c.self.invariant.reached comes in
    let items = c.give_once.ensures.items in
    taken a c.args.self.now e _ c.self.view_is c.self.invariant comes
    (ap (λ (ys : List Claimed). let s : LockState = record (state_of a) { claims = ys } in s) (items ∙ ap given (c.ask.ensures.items ∙ sym same)))
    (c.give_once.ensures.statuses ∙ ap (λ ys. status_changes ys c.give_once.new.claims.items) c.ask.ensures.items)
    (c.give_once.ensures.grants ∙ ap (λ ys. grant_changes ys c.give_once.new.claims.items) c.ask.ensures.items)
