use Rattle.std.proofs.Common.{Result, Ok, Err, sym, ap, subst, ◌∙◌}
use Rattle.std.specs.Result.{IsOk, OnOk}
use Rattle.rmodel.specs.State.{LockState}
use Rattle.rmodel.specs.Steps.{Comes, next}
use Rattle.rmodel.proofs.reaching.Histories.{after_append}
use Rattle.std.specs.Prelude.{[], ◌∷◌}
use Rattle.rcover.specs.Past.{start_of}
use Rattle.rcover.proofs.covers.Covers.told.Goals as goal

-- what holds of a value holds if there is one
given_ok : {T E P : Type 0} (r : Result T E) → IsOk r → OnOk r P → P
given_ok (Ok v) is so = so
given_ok (Err e) is so = cc

pub returns : goal.returns
returns c = λ p k comes.
    let ok = c.step-accepted.ensures.accepted.1 (subst (λ (s : LockState). Comes s c.args.event.now) (sym k.state) comes).accepted in
    record {
      state = given_ok c.step-accepted.result ok c.step-accepted.ensures.after ∙ ap (λ (s : LockState). next s c.args.event.now) k.state ∙ sym (after_append (start_of p) p.events (c.args.event.now ∷ []));
      follows = given_ok c.step-accepted.result ok c.step-accepted.ensures.followed p k.follows k.state;
    }
