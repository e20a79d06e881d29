use Rattle.std.proofs.Common.{sym, subst, ◌∙◌}
use Rattle.rexpand.specs.Groups.{ReadGroups}
use Rattle.rmodel.specs.State.{opening}
use Rattle.rmodel.specs.Steps.{AreAccepted}
use Rattle.rbound_history.specs.Knows.{AreBoundsOf}
use Rattle.rcover.specs.Past.{Past}
use Rattle.rtrace_write.proofs.Results.{on_some_each}
use Rattle.rtrace_write.proofs.gathered.Gathered.bounds.Goals as goal

pub bounds-requires-clause-told : goal.bounds-requires-clause-told
bounds-requires-clause-told c =
    let r = c.requires in
    let p : Past = r.0 in
    let groups = c.in_ok-groups.ensures ∙ r.3 in
    (p.seats, p.events, r.2.needs, subst (λ (g : ReadGroups). AreAccepted (opening g p.seats c.args.cap) p.events) (sym groups) (subst (λ n. AreAccepted (opening p.groups p.seats n) p.events) (sym r.4) r.2.accepted))

pub returns : goal.returns
returns c =
    on_some_each c.bounds.result c.bounds.ensures
    (λ bounds so p ws known grouped capped.
    let groups = c.in_ok-groups.ensures ∙ grouped in
    let accepted = subst (λ (g : ReadGroups). AreAccepted (opening g p.seats c.args.cap) p.events) (sym groups) (subst (λ n. AreAccepted (opening p.groups p.seats n) p.events) (sym capped) known.accepted) in
    record {
      known = known;
      are = subst (λ (g : ReadGroups). AreBoundsOf bounds g p.seats p.cap p.events) groups (subst (λ n. AreBoundsOf bounds c.in_ok-groups.groups p.seats n p.events) capped (so p.seats p.events known.needs accepted));
    })
