use Rattle.std.proofs.Common.{◌≡◌, List, [], ◌∷◌, ◌++◌, sym, ap, subst, ◌∙◌}
use Rattle.std.proofs.lemmas.Result.{IfOk-weaker}
use Rattle.rclaim.specs.declared.event.Event.{Event}
use Rattle.rexpand.specs.Groups.{ReadGroups}
use Rattle.rmodel.specs.State.{LockState, opening}
use Rattle.rmodel.specs.Steps.{AreAccepted}
use Rattle.rcover_laws.specs.Ended.{ended_by}
use Rattle.rcover_laws.proofs.lists.Pushed.{same_ends}
use Rattle.rcover_plain.specs.Lists.{IsOpened}
use Rattle.rcover_plain.proofs.by_definition.plain_cover.Goals as goal

pub ended_behind-requires-clause-opened : goal.ended_behind-requires-clause-opened
ended_behind-requires-clause-opened c =
    let o = opening c.args.groups.now c.args.seats c.args.cap in
    let is : c.in_ok-machine.machine.state ≡ o = c.in_ok-machine.ensures.opening ∙ ap (λ (g : ReadGroups). opening g c.args.seats c.args.cap) c.in_ok-copy.ensures in
    subst (λ (s : LockState). IsOpened s) (sym is) (record { some = c.requires.cap.0; few = c.requires.cap.1; is = λ _. o })

pub ended_behind-requires-clause-accepted : goal.ended_behind-requires-clause-accepted
ended_behind-requires-clause-accepted c =
    let o = opening c.args.groups.now c.args.seats c.args.cap in
    let is : c.in_ok-machine.machine.state ≡ o = c.in_ok-machine.ensures.opening ∙ ap (λ (g : ReadGroups). opening g c.args.seats c.args.cap) c.in_ok-copy.ensures in
    subst (λ (s : LockState). AreAccepted s (c.in-Some.before.now ++ c.in-Some.event.now ∷ [])) (sym is)
    (subst (λ es. AreAccepted o es) c.in-Some.ensures.cases.0 c.requires.accepted)

pub returns-clause-ended : goal.returns-clause-ended
returns-clause-ended c =
    let o = opening c.args.groups.now c.args.seats c.args.cap in
    let before = c.in-Some.before.now in
    let event = c.in-Some.event.now in
    let is : c.in_ok-machine.machine.state ≡ o = c.in_ok-machine.ensures.opening ∙ ap (λ (g : ReadGroups). opening g c.args.seats c.args.cap) c.in_ok-copy.ensures in
    IfOk-weaker c.ended_behind.result
    (λ v. v.items ≡ ended_by c.in_ok-machine.machine.state before event)
    (λ v. (bs : List Event) (l : Event) → c.args.events.now ≡ bs ++ l ∷ [] → v.items ≡ ended_by o bs l)
    (λ v h bs l events.
    let ends = same_ends before bs event l (sym c.in-Some.ensures.cases.0 ∙ events) in
    h ∙ (λ i. ended_by (is i) (ends.0 i) (ends.1 i)))
    c.ended_behind.ensures
