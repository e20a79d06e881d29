use Rattle.std.proofs.Common.{◌≡◌, List, [], ◌∷◌, Some, sym, ap, subst, ◌∙◌}
use Rattle.std.proofs.lemmas.Result.{IfOk-weaker}
use Rattle.std.specs.List.{filter_map, AllByRecursion}
use Rattle.rclaim.specs.declared.event.Event.{Event}
use Rattle.rbound.specs.declared.which.Which.{Which}
use Rattle.rmodel.specs.State.{LockState}
use Rattle.rmodel.specs.Steps.{Comes, AreAccepted, next, after}
use Rattle.rmodel.proofs.reaching.Histories.{accepted_parts}
use Rattle.rcover_laws.specs.Ended.{ended_if, ended_by, wait_of, waits_in, sections_in}
use Rattle.rcover_laws.specs.Lists.{AreFew}
use Rattle.rcover_laws.specs.Told.{wait_so_far}
use Rattle.rcover_plain.specs.Lists.{IsOpened, moments_in}
use Rattle.rcover_laws.specs.Moments.{Moment, moments}
use Rattle.rcover_laws.proofs.told.Few.{all_few}
use Rattle.rcover_plain.proofs.by_definition.ended_behind.Goals as goal

-- what is found of these moments is what the event ends
told_is : (o : LockState) (es : List Event) (e : Event) (m n : Moment) (ms : List Moment) → m ≡ (after o es).claims → n ≡ (next (after o es) e).claims → ms ≡ moments o es
    → filter_map (λ x. ended_if es ms n x (wait_of es m x)) m ≡ ended_by o es e
told_is o es e m n ms at_m at_n at_ms = λ i. filter_map (λ x. ended_if es (at_ms i) (at_n i) x (wait_of es (at_m i) x)) (at_m i)

-- every cover at the last of these moments has few sections
few_behind : (o : LockState) → IsOpened o → (es : List Event) → AreAccepted o es → (m : Moment) → (after o es).claims ≡ m → (ms : List Moment) → moments o es ≡ ms
    → AllByRecursion (λ x. (w : Which) → wait_of es m x ≡ Some w → AreFew (sections_in w x (wait_so_far (waits_in w) x.claim ms))) m
few_behind o opened es =
    subst
    (λ (s : LockState). AreAccepted s es → (m : Moment) → (after s es).claims ≡ m → (ms : List Moment) → moments s es ≡ ms
    → AllByRecursion (λ x. (w : Which) → wait_of es m x ≡ Some w → AreFew (sections_in w x (wait_so_far (waits_in w) x.claim ms))) m)
    (sym opened.is) (all_few o.groups o.seats o.cap es opened.some opened.few)

pub moments_of-requires : goal.moments_of-requires
moments_of-requires c = (accepted_parts c.args.machine.now.state c.args.before.now (c.args.event.now ∷ []) c.requires.accepted).0

pub take-requires : goal.take-requires
take-requires c =
    subst (λ (s : LockState). Comes s c.args.event.now) (sym c.in_ok-moments.ensures.state)
    (accepted_parts c.args.machine.now.state c.args.before.now (c.args.event.now ∷ []) c.requires.accepted).1.0

pub all_ended-requires : goal.all_ended-requires
all_ended-requires c =
    few_behind c.args.machine.now.state c.requires.opened c.args.before.now
    (accepted_parts c.args.machine.now.state c.args.before.now (c.args.event.now ∷ []) c.requires.accepted).0
    c.deref-2.result.now (sym (c.deref-2.ensures.value ∙ c.in_ok-last.ensures ∙ c.claims.ensures ∙ ap (λ (s : LockState). s.claims) c.in_ok-moments.ensures.state))
    (moments_in c.deref.result.now) (sym (ap moments_in c.deref.ensures.value ∙ c.in_ok-moments.ensures.moments))

pub returns : goal.returns
returns c =
    let o = c.args.machine.now.state in
    let before = c.args.before.now in
    let event = c.args.event.now in
    IfOk-weaker c.all_ended.result
    (λ v. v.items ≡ filter_map (λ x. ended_if before (moments_in c.deref.result.now) c.claims-2.result.now x (wait_of before c.deref-2.result.now x)) c.deref-2.result.now)
    (λ v. v.items ≡ ended_by o before event)
    (λ v h.
    h
    ∙ told_is o before event c.deref-2.result.now c.claims-2.result.now (moments_in c.deref.result.now)
    (c.deref-2.ensures.value ∙ c.in_ok-last.ensures ∙ c.claims.ensures ∙ ap (λ (s : LockState). s.claims) c.in_ok-moments.ensures.state)
    (c.claims-2.ensures ∙ ap (λ (s : LockState). s.claims) (c.take.ensures ∙ ap (λ (s : LockState). next s event) c.in_ok-moments.ensures.state))
    (ap moments_in c.deref.ensures.value ∙ c.in_ok-moments.ensures.moments))
    c.all_ended.ensures
