use Rattle.std.proofs.Common.{◌≡◌, ℕ, true, List, ◌++◌, ◌∷◌, [], Some, sym, ap, subst, ◌∙◌}
use Rattle.std.specs.Prelude.{slice_get, is_some}
use Rattle.std.specs.FinSet.{contains}
use Rattle.std.proofs.lemmas.Bool.{or_right}
use Rattle.rvalue.specs.declared.act.Act.{Act}
use Rattle.rvalue.specs.declared.act.Act.TheVariants.{Edited}
use Rattle.rvalue.specs.Acts.{value_within}
use Rattle.rvalue.specs.Histories.{value_of}
use Rattle.rstate.specs.Histories.{Beginning}
use Rattle.rstate.specs.Lent.{at_place, replaced}
use Rattle.rstate.proofs.homes.Lists.{same_item}
use Rattle.rguard.specs.Copies.{with_copy}
use Rattle.rguard.specs.LentGuards.{HoldingToWrite}
use Rattle.rguard.specs.LentSections.{SectionFields, Holds, HoldsFrom, held_at, value_edited}
use Rattle.rguard.proofs.LentEditing.{copy_there, edited}
use Rattle.rguard.proofs.LentReading.{value_held}
use Rattle.rguard.proofs.section.Section.edit.Goals as goal

pub with_copy-requires : goal.with_copy-requires
with_copy-requires g c =
    let a = c.self.inside in
    let V = g.row.T.Denot in
    let E = g.row.T-Edit.Denot in
    let view : SectionFields V E = record { site = a.lock.now; seat = a.seat; lent = a.lent; own = a.own.items; acts = a.acts.items } in
    let h : Holds g.T.Editable.after g.T.Editable.taken g.T.Editable.number c.requires.holds.0 view = subst (λ (s : SectionFields V E). Holds g.T.Editable.after g.T.Editable.taken g.T.Editable.number c.requires.holds.0 s) (sym c.self.view_is) c.requires.holds.1 in
    let held : contains (held_at h.began a.seat).writes c.args.place ≡ true = subst (λ (s : SectionFields V E). HoldingToWrite s.seat c.args.place) (sym c.self.view_is) c.requires.held h.began h.from.knows.opening in
    let there = value_held g.T.Editable.after g.T.Editable.taken g.T.Editable.number h.began c.requires.holds.0 view c.args.place h.from (or_right (contains (held_at h.began a.seat).reads c.args.place) (contains (held_at h.began a.seat).writes c.args.place) held) in
    ap is_some there.2

pub edit_own-done-requires : goal.edit_own-done-requires
edit_own-done-requires g c =
    let a = c.self.inside in
    let V = g.row.T.Denot in
    let E = g.row.T-Edit.Denot in
    let view : SectionFields V E = record { site = a.lock.now; seat = a.seat; lent = a.lent; own = a.own.items; acts = a.acts.items } in
    let h : Holds g.T.Editable.after g.T.Editable.taken g.T.Editable.number c.requires.holds.0 view = subst (λ (s : SectionFields V E). Holds g.T.Editable.after g.T.Editable.taken g.T.Editable.number c.requires.holds.0 s) (sym c.self.view_is) c.requires.holds.1 in
    let held : contains (held_at h.began a.seat).writes c.args.place ≡ true = subst (λ (s : SectionFields V E). HoldingToWrite s.seat c.args.place) (sym c.self.view_is) c.requires.held h.began h.from.knows.opening in
    let there = value_held g.T.Editable.after g.T.Editable.taken g.T.Editable.number h.began c.requires.holds.0 view c.args.place h.from (or_right (contains (held_at h.began a.seat).reads c.args.place) (contains (held_at h.began a.seat).writes c.args.place) held) in
    ap (λ (xs : List (ℕ × V)). is_some (at_place xs c.args.place)) c.in_ok-with_copy.ensures.ok ∙ ap is_some (copy_there g.T.Editable.after g.T.Editable.taken g.T.Editable.number c.requires.holds.0 h.began view h.from c.args.place there.0 there.1 held)

pub returns-clause-kept : goal.returns-clause-kept
returns-clause-kept g c = λ kind may was.
    let a = c.self.inside in
    let V = g.row.T.Denot in
    let E = g.row.T-Edit.Denot in
    let view : SectionFields V E = record { site = a.lock.now; seat = a.seat; lent = a.lent; own = a.own.items; acts = a.acts.items } in
    let h : Holds g.T.Editable.after g.T.Editable.taken g.T.Editable.number kind view = subst (λ (s : SectionFields V E). Holds g.T.Editable.after g.T.Editable.taken g.T.Editable.number kind s) (sym c.self.view_is) was in
    let held : contains (held_at h.began a.seat).writes c.args.place ≡ true = subst (λ (s : SectionFields V E). HoldingToWrite s.seat c.args.place) (sym c.self.view_is) c.requires.held h.began h.from.knows.opening in
    let there = value_held g.T.Editable.after g.T.Editable.taken g.T.Editable.number h.began kind view c.args.place h.from (or_right (contains (held_at h.began a.seat).reads c.args.place) (contains (held_at h.began a.seat).writes c.args.place) held) in
    let x = value_edited g.T.Editable.after view c.args.place there.0 in
    let copy : at_place c.with_copy.new.own.items c.args.place ≡ Some x = ap (λ (xs : List (ℕ × V)). at_place xs c.args.place) c.in_ok-with_copy.ensures.ok ∙ copy_there g.T.Editable.after g.T.Editable.taken g.T.Editable.number kind h.began view h.from c.args.place there.0 there.1 held in
    let own_is : c.edit_own-done.new.own.items ≡ replaced (with_copy a.own.items a.lent c.args.place) c.args.place (g.T.Editable.after x c.args.edit) =
    c.edit_own-done.ensures.own x copy ∙ ap (λ (xs : List (ℕ × V)). replaced xs c.args.place (g.T.Editable.after x c.args.edit)) c.in_ok-with_copy.ensures.ok in
    record {
      began = h.began;
      from = subst (λ (acts : List (Act E)). HoldsFrom g.T.Editable.after g.T.Editable.taken g.T.Editable.number kind h.began (record { site = a.lock.now; seat = a.seat; lent = a.lent; own = c.edit_own-done.new.own.items; acts = acts }))
          (ap (λ (acts : List (Act E)). acts ++ Edited c.args.place c.args.edit c.edit_own-done.result ∷ []) (sym c.reserve.ensures.items) ∙ sym c.push_reserved.ensures.items)
          (edited g.T.Editable.after g.T.Editable.taken g.T.Editable.number kind h.began view h.from c.args.place there.0 there.1 held c.args.edit c.edit_own-done.result c.edit_own-done.new.own.items may own_is (c.edit_own-done.ensures.done x copy));
    }

pub returns-clause-done : goal.returns-clause-done
returns-clause-done g c =
    let a = c.self.inside in
    let V = g.row.T.Denot in
    let E = g.row.T-Edit.Denot in
    let view : SectionFields V E = record { site = a.lock.now; seat = a.seat; lent = a.lent; own = a.own.items; acts = a.acts.items } in
    let h : Holds g.T.Editable.after g.T.Editable.taken g.T.Editable.number c.requires.holds.0 view = subst (λ (s : SectionFields V E). Holds g.T.Editable.after g.T.Editable.taken g.T.Editable.number c.requires.holds.0 s) (sym c.self.view_is) c.requires.holds.1 in
    let held : contains (held_at h.began a.seat).writes c.args.place ≡ true = subst (λ (s : SectionFields V E). HoldingToWrite s.seat c.args.place) (sym c.self.view_is) c.requires.held h.began h.from.knows.opening in
    let there = value_held g.T.Editable.after g.T.Editable.taken g.T.Editable.number h.began c.requires.holds.0 view c.args.place h.from (or_right (contains (held_at h.began a.seat).reads c.args.place) (contains (held_at h.began a.seat).writes c.args.place) held) in
    let x = value_edited g.T.Editable.after view c.args.place there.0 in
    let copy : at_place c.with_copy.new.own.items c.args.place ≡ Some x = ap (λ (xs : List (ℕ × V)). at_place xs c.args.place) c.in_ok-with_copy.ensures.ok ∙ copy_there g.T.Editable.after g.T.Editable.taken g.T.Editable.number c.requires.holds.0 h.began view h.from c.args.place there.0 there.1 held in (
      x,
      λ b opens. (
        there.0,
        ap (λ (d : Beginning V). slice_get d.values c.args.place) (same_item b h.began (sym opens ∙ ap (λ (s : SectionFields V E). s.seat.opening) (sym c.self.view_is) ∙ h.from.knows.opening)) ∙ there.1,
        ap (λ (s : SectionFields V E). value_within g.T.Editable.after (value_of g.T.Editable.after there.0 s.seat.seen c.args.place) s.acts c.args.place) c.self.view_is,
      ),
      c.edit_own-done.ensures.done x copy,
    )
