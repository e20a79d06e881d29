use Rattle.std.proofs.Common.{◌≡◌, ◌++◌, ◌∷◌, [], sym, ap, subst, ◌∙◌, arith}
use Rattle.rmodel.specs.State.{LockState}
use Rattle.rmodel.specs.Steps.{Fits, Accepts}
use Rattle.rstate.specs.Contents.{lock_of}
use Rattle.rstate.proofs.keeping.Pushing.{state_add}
use Rattle.rstate.proofs.keeping.Boxed.{contents_of, shown}
use Rattle.rstate.proofs.keeping.Watching.{told_next}
use Rattle.rstate.proofs.state.State.add.Goals as goal

pub invariant_of-self-2 : goal.invariant_of-self-2
invariant_of-self-2 g c =
    let a = c.deref_mut-all.result.now in
    let whole = shown g.T.Editable.after g.T.Editable.taken g.T.Editable.number g.M.Machine.state g.M.Machine.watched c.deref_mut-all.ensures.value c.self.invariant in
    let kept = whole.stands in
    let view_is = ap contents_of c.deref_mut-all.ensures.value ∙ c.self.view_is in
    let m : LockState = g.M.Machine.state a.machine in
    let same : lock_of c.args.self.now ≡ m = sym (kept.kept.machine_is ∙ ap lock_of view_is) in
    record {
      stands = state_add g.T.Editable.after g.T.Editable.taken g.T.Editable.number m (g.M.Machine.state c.keep.new.machine) a.history.spare c.keep.new.history.spare a.opening a.history.entries c.keep.new.history.entries
          a.taken.items a.homes.items _ _ c.args.event kept
          (record { fits = subst (λ (s : LockState). Fits s c.args.event) same c.requires.fits; normal = c.keep.ensures.normal; accepted = subst (λ (s : LockState). Accepts s c.args.event) same c.requires.accepted })
          c.requires.gives c.keep.ensures.machine
          (c.keep.ensures.entries ∙ (λ i. c.reserve.ensures.entries i ++ record { event = c.args.event; acts = c.new-acts.ensures.items i } ∷ []))
          (omega (arith, c.in_ok-reserve.ensures.ok, c.keep.ensures.spare, c.from.ensures, c.seats.ensures.value));
      told = told_next a.opening m a.history.entries c.keep.new.history.entries (record { event = c.args.event; acts = [] }) (g.M.Machine.watched a.machine) (g.M.Machine.watched c.keep.new.machine)
          kept.kept.machine_is whole.told c.keep.ensures.watched
          (c.keep.ensures.entries ∙ (λ i. c.reserve.ensures.entries i ++ record { event = c.args.event; acts = c.new-acts.ensures.items i } ∷ []));
    }
