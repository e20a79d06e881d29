use Rattle.std.proofs.Common.{refl, sym, ap, subst, ◌∙◌}
use Rattle.std.specs.Prelude.{option_map}
use Rattle.rclaim.specs.Changes.{ChangeLists}
use Rattle.rmodel.specs.Changes.{changes_between, AreActive}
use Rattle.rtrace_form.specs.declared.fault.Refusal.TheVariants.{Step}
use Rattle.rexpand.specs.Groups.{ReadGroups}
use Rattle.rtrace_read.specs.LineTakes.{event_admitted}
use Rattle.rtrace_read.proofs.EventSteps.{refused_undeclared, refused_by_lock}
use Rattle.rtrace_read.proofs.events.apply.Goals as goal

pub returns-then-not-is_admitted-clause-refused : goal.returns-then-not-is_admitted-clause-refused
returns-then-not-is_admitted-clause-refused c =
    refused_undeclared c.args.machine.now.state c.args.event.now c.requires.fits
    (ap (λ (g : ReadGroups). event_admitted g.groups c.args.event.now) (sym c.groups.ensures) ∙ sym c.is_admitted.ensures ∙ c.if-not-is_admitted.true)

pub returns-in-Ok-clause-stepped : goal.returns-in-Ok-clause-stepped
returns-in-Ok-clause-stepped c =
    let state = c.args.machine.now.state in
    let admitted = ap (λ (g : ReadGroups). event_admitted g.groups c.args.event.now) (sym c.groups.ensures) ∙ sym c.is_admitted.ensures ∙ c.if-not-is_admitted.false in
    let last = c.in-Ok.ensures.changes ∙ ap (changes_between state) c.in-Ok.ensures.after in (
      refused_by_lock state c.args.event.now c.requires.fits admitted ∙ ap (option_map Step) (c.in-Ok.ensures.accepted.0 refl),
      (λ i. record { state = c.in-Ok.ensures.after i; last = last i }),
      subst (λ (changes : ChangeLists). AreActive changes.statuses) last c.in-Ok.ensures.active,
    )

pub returns-in-Err-clause-refused : goal.returns-in-Err-clause-refused
returns-in-Err-clause-refused c =
    let admitted = ap (λ (g : ReadGroups). event_admitted g.groups c.args.event.now) (sym c.groups.ensures) ∙ sym c.is_admitted.ensures ∙ c.if-not-is_admitted.false in
    refused_by_lock c.args.machine.now.state c.args.event.now c.requires.fits admitted ∙ ap (option_map Step) c.in-Err.ensures.refused

pub returns-in-Err-clause-still : goal.returns-in-Err-clause-still
returns-in-Err-clause-still c = ((λ i. record { state = c.in-Err.ensures.unchanged i; last = c.in-Err.ensures.untold i }), c.in-Err.ensures.still)
