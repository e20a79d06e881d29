use Rattle.std.proofs.Common.{◌≡◌, arith, ◌++◌, ◌∷◌, [], List, refl, sym, ap, subst, ◌∙◌}
use Rattle.rclaim.specs.declared.event.Event.{Event}
use Rattle.rexpand.specs.Groups.{ReadGroups}
use Rattle.rmodel.specs.State.{LockState, opening}
use Rattle.rmodel.specs.Steps.{Comes, AreAccepted, next, after}
use Rattle.rmodel.proofs.reaching.Histories.{accepted_push, after_append, sizes_next}
use Rattle.std.specs.Result.{IsOk}
use Rattle.rcover.specs.Follows.{Follows}
use Rattle.rcover.specs.Knows.{Knows}
use Rattle.tests_of_rules.specs.Stories.{past}
use Rattle.tests_of_rules.proofs.covers.step.Goals as goal

pub step-requires-clause-known : goal.step-requires-clause-known
step-requires-clause-known c =
    let s = c.args.story.now in
    (past s.groups s.seats s.events.items, c.requires.story.followed, c.requires.story.state, omega arith)

pub told-requires : goal.told-requires
told-requires c =
    let s = c.args.story.now in
    let e = c.args.event.now in
    let comes : Comes s.machine.state e = record { fits = c.requires.fits; normal = c.in_ok-step.ensures.normal; accepted = c.step.ensures.accepted.0 (subst (λ r. IsOk r) (sym c.in_ok-step.was) refl) } in
    (past s.groups s.seats s.events.items, c.requires.story.told, subst (λ (t : LockState). Comes t e) c.requires.story.state comes, omega arith)

pub returns : goal.returns
returns c =
    let s = c.args.story.now in
    let o = opening s.groups s.seats s.seats in
    let es = s.events.items in
    let e = c.args.event.now in
    let items : c.push.new.self.items ≡ es ++ e ∷ [] = c.in_ok-push.ensures.items in
    let comes : Comes s.machine.state e = record { fits = c.requires.fits; normal = c.in_ok-step.ensures.normal; accepted = c.step.ensures.accepted.0 (subst (λ r. IsOk r) (sym c.in_ok-step.was) refl) } in
    record {
      placed = ap (λ (t : LockState). t.groups.q) c.in_ok-step.ensures.after ∙ ap (λ (g : ReadGroups). g.q) (sizes_next s.machine.state e).groups ∙ c.requires.story.placed;
      resources = c.requires.story.resources;
      some_seats = c.requires.story.some_seats;
      seats = c.requires.story.seats;
      accepted = subst (λ (xs : List Event). AreAccepted o xs) (sym items) (accepted_push o es e c.requires.story.accepted (subst (λ (t : LockState). Comes t e) c.requires.story.state comes));
      state = c.in_ok-step.ensures.after ∙ ap (λ (t : LockState). next t e) c.requires.story.state ∙ sym (ap (after o) items ∙ after_append o es (e ∷ []));
      followed = subst (λ (xs : List Event). Follows c.step.new.self (past s.groups s.seats xs)) (sym items) (c.in_ok-step.ensures.followed (past s.groups s.seats es) c.requires.story.followed c.requires.story.state);
      told = subst (λ (xs : List Event). Knows c.told.new.self (past s.groups s.seats xs)) (sym items) (c.told.ensures (past s.groups s.seats es) c.requires.story.told (subst (λ (t : LockState). Comes t e) c.requires.story.state comes));
    }
