use Rattle.std.proofs.Common.{◌≡◌, ℕ, List, ◌++◌, ◌∷◌, [], refl, sym, ap, subst, ◌∙◌}
use Rattle.std.specs.Prelude.{slice_get, is_some}
use Rattle.rvalue.specs.declared.act.Act.{Act}
use Rattle.rvalue.specs.declared.act.Act.TheVariants.{Shown}
use Rattle.rstate.specs.Histories.{Beginning}
use Rattle.rstate.proofs.homes.Lists.{same_item}
use Rattle.rguard.specs.Copies.{value_among}
use Rattle.rguard.specs.LentSections.{SectionFields, HoldsFrom, value_edited}
use Rattle.rguard.proofs.LentEditing.{shown_more}
use Rattle.rguard.proofs.LentReading.{value_held}
use Rattle.rguard.proofs.section.Section.show.Goals as goal

pub value_of-requires : goal.value_of-requires
value_of-requires g c =
    let V = g.row.T.Denot in
    let E = g.row.T-Edit.Denot in
    let s : SectionFields V E = c.args.self.now in
    let h = c.requires.holds.1 in
    let there = value_held g.T.Editable.after g.T.Editable.taken g.T.Editable.number h.began c.requires.holds.0 s c.args.place h.from (c.requires.held h.began h.from.knows.opening) in
    ap (λ (own : List (ℕ × V)). is_some (value_among own c.self.inside.lent c.args.place)) c.deref.ensures.value
    ∙ ap (λ (x : SectionFields V E). is_some (value_among x.own x.lent c.args.place)) c.self.view_is ∙ ap is_some there.2

pub returns-clause-kept : goal.returns-clause-kept
returns-clause-kept g c = λ kind h.
    let V = g.row.T.Denot in
    let E = g.row.T-Edit.Denot in
    let s : SectionFields V E = c.args.self.now in
    let there = value_held g.T.Editable.after g.T.Editable.taken g.T.Editable.number h.began kind s c.args.place h.from (c.requires.held h.began h.from.knows.opening) in
    let a = c.self.inside in
    let shown : c.shown-number.result ≡ g.T.Editable.number (value_edited g.T.Editable.after s c.args.place there.0) =
    c.shown-number.ensures ∙ ap g.T.Editable.number (same_item c.value_of.result.now (value_edited g.T.Editable.after s c.args.place there.0)
    (sym c.value_of.ensures ∙ ap (λ (own : List (ℕ × V)). value_among own a.lent c.args.place) c.deref.ensures.value ∙ ap (λ (x : SectionFields V E). value_among x.own x.lent c.args.place) c.self.view_is ∙ there.2)) in
    let more = shown_more g.T.Editable.after g.T.Editable.taken g.T.Editable.number h.began s kind c.args.place c.shown-number.result there.0 h.from there.1 (c.requires.held h.began h.from.knows.opening) shown in
    record {
      began = h.began;
      from = subst (λ (acts : List (Act E)). HoldsFrom g.T.Editable.after g.T.Editable.taken g.T.Editable.number kind h.began (record { site = a.lock.now; seat = a.seat; lent = a.lent; own = a.own.items; acts = acts }))
          (ap (λ (acts : List (Act E)). acts ++ Shown c.args.place c.shown-number.result ∷ []) (sym c.reserve.ensures.items) ∙ sym c.push_reserved.ensures.items)
          (subst (λ (x : SectionFields V E). HoldsFrom g.T.Editable.after g.T.Editable.taken g.T.Editable.number kind h.began (record { site = x.site; seat = x.seat; lent = x.lent; own = x.own; acts = x.acts ++ Shown c.args.place c.shown-number.result ∷ [] })) (sym c.self.view_is) more);
    }

pub returns-clause-number : goal.returns-clause-number
returns-clause-number g c =
    let V = g.row.T.Denot in
    let E = g.row.T-Edit.Denot in
    let s : SectionFields V E = c.args.self.now in
    let h = c.requires.holds.1 in
    let there = value_held g.T.Editable.after g.T.Editable.taken g.T.Editable.number h.began c.requires.holds.0 s c.args.place h.from (c.requires.held h.began h.from.knows.opening) in (
      value_edited g.T.Editable.after s c.args.place there.0,
      λ b opens. (there.0, ap (λ (d : Beginning V). slice_get d.values c.args.place) (same_item b h.began (sym opens ∙ h.from.knows.opening)) ∙ there.1, refl),
      c.shown-number.ensures ∙ ap g.T.Editable.number (same_item c.value_of.result.now (value_edited g.T.Editable.after s c.args.place there.0)
          (sym c.value_of.ensures ∙ ap (λ (own : List (ℕ × V)). value_among own c.self.inside.lent c.args.place) c.deref.ensures.value ∙ ap (λ (x : SectionFields V E). value_among x.own x.lent c.args.place) c.self.view_is ∙ there.2)),
    )

pub returns-clause-act : goal.returns-clause-act
returns-clause-act g c =
    let is = c.self.view_is in
    let acts_is = c.push_reserved.ensures.items ∙ ap (λ (acts : List (Act g.row.T-Edit.Denot)). acts ++ Shown c.args.place c.shown-number.result ∷ []) (c.reserve.ensures.items ∙ ap (λ (x : SectionFields g.row.T.Denot g.row.T-Edit.Denot). x.acts) is) in
    (λ i. record { site = (is i).site; seat = (is i).seat; lent = (is i).lent; own = (is i).own; acts = acts_is i })
