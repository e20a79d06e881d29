use Rattle.std.proofs.Common.{[], ◌∷◌, sym, ap, ◌∙◌}
use Rattle.rexpand.specs.Groups.{ReadGroups}
use Rattle.rmodel.specs.State.{LockState}
use Rattle.rmodel.specs.Steps.{next, after}
use Rattle.rmodel.proofs.reaching.Histories.{after_append, sizes_next}
use Rattle.rmon.specs.Known.{Feeding}
use Rattle.rmon.specs.Opened.{opening_of}
use Rattle.tests_on_threads.proofs.published.publish.Goals as goal

pub returns-clause-beside : goal.returns-clause-beside
returns-clause-beside g c =
    let s = c.args.machine.now.state in
    let e = c.args.event.now in
    let stepped = c.in_ok-step.ensures.after in
    let taken = c.in_ok-note.ensures.taken in (
      ap (λ (t : LockState). t.groups.q) stepped ∙ ap (λ (g : ReadGroups). g.q) (sizes_next s e).groups ∙ c.requires.beside.0,
      λ o is.
          let before = c.requires.beside.1 o (sym (ap (λ (f : Feeding). f.opening) taken) ∙ is) in
          stepped ∙ ap (λ (t : LockState). next t e) before ∙ sym (ap (λ (f : Feeding). after (opening_of o) f.fed) taken ∙ after_append (opening_of o) c.args.feed.now.fed (e ∷ [])),
    )
