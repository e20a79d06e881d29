use Rattle.std.proofs.Common.{sym, ap, subst, arith, ◌++◌, ◌∷◌, [], ◌∙◌}
use Rattle.rmodel.specs.State.{LockState}
use Rattle.rmodel.specs.Steps.{Comes, next}
use Rattle.rcover_laws.proofs.runs.Steps.{comes_at, after_more, moments_more}
use Rattle.rcover_plain.proofs.moments.moments_of.Goals as goal

pub take-requires : goal.take-requires
take-requires c =
    subst (λ (s : LockState). Comes s c.event-item.result) (sym c.loop-event.invariant.state)
    (comes_at c.args.machine.now.state c.args.events.now c.loop-event.event-index c.event-item.result c.requires (omega arith) c.event-item.is)

pub loop-event-preserved : goal.loop-event-preserved
loop-event-preserved c =
    let first = c.args.machine.now.state in
    let es = c.args.events.now in
    let i = c.loop-event.event-index in
    let e = c.event-item.result in
    let state = c.take.ensures ∙ ap (λ (s : LockState). next s e) c.loop-event.invariant.state in
    record {
      kept =
          c.in_ok-push_moment-2.ensures ∙ (λ k. c.loop-event.invariant.kept k ++ (c.claims-in-loop-event.ensures ∙ ap (λ (s : LockState). s.claims) state) k ∷ [])
          ∙ sym (moments_more first es i e (omega arith) c.event-item.is);
      state = state ∙ sym (after_more first es i e (omega arith) c.event-item.is);
    }
