use Rattle.std.proofs.Common.{◌≡◌, length, refl, sym, ap, subst, ◌∙◌}
use Rattle.rmodel.specs.Changes.{changes_between}
use Rattle.std.specs.Result.{IsOk}
use Rattle.rmodel.specs.State.{LockState}
use Rattle.rmodel.specs.Steps.{Comes, next}
use Rattle.rcover.specs.Past.{Past, state_of}
use Rattle.rcover.specs.Follows.{Follows, IsAhead}
use Rattle.rcover.proofs.following.Following.step.Goals as goal

pub returns-clause-followed : goal.returns-clause-followed
returns-clause-followed c = λ p k is. c.follow.ensures p (ahead p k is)
  where
    ahead : (p : Past) → Follows c.args.self.now p → c.args.machine.now.state ≡ state_of p → IsAhead c.note.new.self c.step.new.self p c.args.event.now
    ahead p k is = record {
      follows = c.note.ensures.still p k;
      comes = subst (λ (s : LockState). Comes s c.args.event.now) is (record { fits = c.requires.fits; normal = c.in_ok-step.ensures.normal; accepted = c.step.ensures.accepted.0 (subst (λ r. IsOk r) (sym c.in_ok-step.was) refl) });
      state = c.in_ok-step.ensures.after ∙ ap (λ (s : LockState). next s c.args.event.now) is;
      changes = c.in_ok-step.ensures.changes ∙ (λ i. changes_between (is i) ((c.in_ok-step.ensures.after ∙ ap (λ (s : LockState). next s c.args.event.now) is) i));
      there = c.note.ensures.there ∙ ap (λ (s : LockState). length s.claims) is;
      noted = λ old. c.note.ensures.noted old ∙ ap (λ (s : LockState). s.claims) is;
    }
