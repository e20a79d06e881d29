use Rattle.std.proofs.Common.{List, map, length, replicate, ◌+◌, refl, sym, ap, subst, ◌∙◌}
use Rattle.rmodel.specs.Holds.{nothing}
use Rattle.rmodel.specs.State.{LockState}
use Rattle.rstate.specs.Shares.{whole}
use Rattle.rstate.specs.Histories.{Beginning}
use Rattle.rstate.proofs.keeping.Beginning.{state_begins}
use Rattle.rstate.proofs.keeping.Boxed.{IsWholeOf}
use Rattle.rstate.proofs.keeping.Watching.{told_first}
use Rattle.rstate.proofs.state.State.new_over.Goals as goal

pub invariant_of-result : goal.invariant_of-result
invariant_of-result g c =
    let m : LockState = g.M.Machine.state c.args.machine in
    let groups = c.of.ensures ∙ c.groups.ensures in
    let b : Beginning g.row.T.Denot = record { groups = c.of.result.value; seats = c.seats-seats.result; cap = c.cap.result; values = c.of-in-Ok.result.value.items; watched = g.M.Machine.watched c.of-in-Ok-2.result.value } in
    subst
    (IsWholeOf g.T.Editable.after g.T.Editable.taken g.T.Editable.number g.M.Machine.state g.M.Machine.watched)
    (sym c.in-Ok-new.ensures.ok)
    (record {
      stands = state_begins g.T.Editable.after g.T.Editable.taken g.T.Editable.number m c.new.result.spare b c.new.result.entries c.in-Ok.taken.items c.in-Ok.homes.items _ _
          (λ i. record { groups = sym groups i; seats = sym c.seats-seats.ensures.value i; cap = sym c.cap.ensures.value i; issued = c.requires.issued i; claims = c.requires.claims i })
          (ap (λ h. h.entries) c.new.ensures)
          (c.in-Ok.ensures.taken ∙ ap (λ n. replicate n nothing) refl)
          (c.in-Ok.ensures.homes ∙ ap (λ (v : List g.row.T.Denot). map (whole (c.seats-seats.result + 1)) v) (c.deref.ensures.value ∙ sym (ap (λ v. v.items) c.of-in-Ok.ensures)))
          (ap length c.in-Ok.ensures.closing.0)
          (ap (λ v. length v.items) c.of-in-Ok.ensures ∙ c.requires.values ∙ ap (λ r. r.q) (sym groups))
          c.in-Ok.ensures.closing.1;
      told = told_first b c.new.result.entries (g.M.Machine.watched c.args.machine) (ap (λ h. h.entries) c.new.ensures) (sym (ap g.M.Machine.watched c.of-in-Ok-2.ensures));
    })
