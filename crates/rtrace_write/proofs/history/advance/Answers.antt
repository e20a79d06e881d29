use Rattle.std.proofs.Common.{sym, ap, subst, ◌∙◌}
use Rattle.rmodel.specs.Changes.{changes_between}
use Rattle.rmodel.specs.State.{LockState}
use Rattle.rmodel.specs.Steps.{Comes, next}
use Rattle.rmodel.proofs.reaching.Histories.{after_push}
use Rattle.rtrace_write.specs.Past.{start_of}
use Rattle.rtrace_write.proofs.Writing.{given_ok}
use Rattle.rtrace_write.proofs.history.advance.Goals as goal

pub step-accepted-requires-clause-fits : goal.step-accepted-requires-clause-fits
step-accepted-requires-clause-fits c =
    let r = c.requires in
    (subst (λ (s : LockState). Comes s c.args.event.now) (sym r.1.state) r.2).fits

pub returns : goal.returns
returns c = λ p behind comes.
    let step = c.step-accepted in
    let ok = step.ensures.accepted.1 (subst (λ (s : LockState). Comes s c.args.event.now) (sym behind.state) comes).accepted in
    let after = given_ok step.result ok step.ensures.after in
    record {
      behind = record {
        state = after ∙ ap (λ (s : LockState). next s c.args.event.now) behind.state ∙ sym (after_push (start_of p) p.events c.args.event.now);
        follows = given_ok step.result ok step.ensures.followed p behind.follows behind.state;
      };
      changes = given_ok step.result ok step.ensures.changes ∙ ap (λ (s : LockState). changes_between c.args.machine.now.state s) after ∙ ap (λ (s : LockState). changes_between s (next s c.args.event.now)) behind.state;
    }
