use Rattle.std.proofs.Common.{ℕ, List, sym, ap, ◌∙◌}
use Rattle.std.specs.Prelude.{slice_get, is_some}
use Rattle.rstate.specs.Histories.{Beginning}
use Rattle.rstate.proofs.homes.Lists.{same_item}
use Rattle.rguard.specs.Copies.{value_among}
use Rattle.rguard.specs.LentSections.{SectionFields, value_edited}
use Rattle.rguard.proofs.LentReading.{value_held}
use Rattle.rguard.proofs.section.Section.get.Goals as goal

pub value_of-requires : goal.value_of-requires
value_of-requires g c =
    let V = g.row.T.Denot in
    let E = g.row.T-Edit.Denot in
    let s : SectionFields V E = c.args.self.now in
    let h = c.requires.holds.1 in
    let there = value_held g.T.Editable.after g.T.Editable.taken g.T.Editable.number h.began c.requires.holds.0 s c.args.place h.from (c.requires.held h.began h.from.knows.opening) in
    ap (λ (own : List (ℕ × V)). is_some (value_among own c.self.inside.lent c.args.place)) c.deref.ensures.value
    ∙ ap (λ (x : SectionFields V E). is_some (value_among x.own x.lent c.args.place)) c.self.view_is ∙ ap is_some there.2

pub returns : goal.returns
returns g c = λ b opens.
    let V = g.row.T.Denot in
    let E = g.row.T-Edit.Denot in
    let s : SectionFields V E = c.args.self.now in
    let h = c.requires.holds.1 in
    let there = value_held g.T.Editable.after g.T.Editable.taken g.T.Editable.number h.began c.requires.holds.0 s c.args.place h.from (c.requires.held h.began h.from.knows.opening) in (
      there.0,
      ap (λ (d : Beginning V). slice_get d.values c.args.place) (same_item b h.began (sym opens ∙ h.from.knows.opening)) ∙ there.1,
      same_item c.value_of.result.now (value_edited g.T.Editable.after s c.args.place there.0)
          (sym c.value_of.ensures ∙ ap (λ (own : List (ℕ × V)). value_among own c.self.inside.lent c.args.place) c.deref.ensures.value
          ∙ ap (λ (x : SectionFields V E). value_among x.own x.lent c.args.place) c.self.view_is ∙ there.2),
    )
