use Rattle.std.proofs.Common.{◌≡◌, ℕ, ◌+◌, List, sym, ap, subst, ◌∙◌}
use Rattle.rstate.specs.Lent.{LentFields}
use Rattle.rstate.specs.Shares.{ShareFields}
use Rattle.rguard.specs.Copies.{shares_of, with_shares, CanReplace}
use Rattle.rguard.specs.LentSections.{SectionFields, Holds, EndsFrom}
use Rattle.rguard.proofs.Sharing.{may_replace, ends_shared}
use Rattle.rguard.proofs.section.Section.make_shares.Goals as goal

pub replace_all-requires : goal.replace_all-requires
replace_all-requires g c =
    let a = c.self.inside in
    let V = g.row.T.Denot in
    let E = g.row.T-Edit.Denot in
    let view : SectionFields V E = record { site = a.lock.now; seat = a.seat; lent = a.lent; own = a.own.items; acts = a.acts.items } in
    let h : Holds g.T.Editable.after g.T.Editable.taken g.T.Editable.number c.requires.0 view = subst (λ (s : SectionFields V E). Holds g.T.Editable.after g.T.Editable.taken g.T.Editable.number c.requires.0 s) (sym c.self.view_is) c.requires.1 in
    let n_is : c.from.result + 1 ≡ h.began.seats + 1 = ap (λ m. m + 1) (c.from.ensures ∙ ap (λ s. s.seats) c.lock.view_is ∙ sym h.from.knows.all) in
    let made_is : c.make_shares_of.new.into ≡ shares_of (c.from.result + 1) a.own.items = c.in_ok-make_shares_of.ensures ∙ ap (λ (xs : List (ℕ × V)). shares_of (c.from.result + 1) xs) c.deref.ensures.value in
    subst (λ (made : List (ℕ × ShareFields V)). CanReplace a.lent.writes made) (sym made_is) (may_replace g.T.Editable.after g.T.Editable.taken g.T.Editable.number c.requires.0 h.began view h.from (c.from.result + 1) n_is)

pub returns-clause-ends : goal.returns-clause-ends
returns-clause-ends g c =
    let a = c.self.inside in
    let V = g.row.T.Denot in
    let E = g.row.T-Edit.Denot in
    let view : SectionFields V E = record { site = a.lock.now; seat = a.seat; lent = a.lent; own = a.own.items; acts = a.acts.items } in
    let h : Holds g.T.Editable.after g.T.Editable.taken g.T.Editable.number c.requires.0 view = subst (λ (s : SectionFields V E). Holds g.T.Editable.after g.T.Editable.taken g.T.Editable.number c.requires.0 s) (sym c.self.view_is) c.requires.1 in
    let n_is : c.from.result + 1 ≡ h.began.seats + 1 = ap (λ m. m + 1) (c.from.ensures ∙ ap (λ s. s.seats) c.lock.view_is ∙ sym h.from.knows.all) in
    let made_is : c.make_shares_of.new.into ≡ shares_of (c.from.result + 1) a.own.items = c.in_ok-make_shares_of.ensures ∙ ap (λ (xs : List (ℕ × V)). shares_of (c.from.result + 1) xs) c.deref.ensures.value in
    record {
      began = h.began;
      from = subst (λ (lent : LentFields V). EndsFrom g.T.Editable.after g.T.Editable.taken g.T.Editable.number h.began (record { site = a.lock.now; seat = a.seat; lent = lent; own = a.own.items; acts = a.acts.items })) (sym c.replace_all.ensures)
          (ends_shared g.T.Editable.after g.T.Editable.taken g.T.Editable.number c.requires.0 h.began view h.from (c.from.result + 1) n_is (with_shares a.lent.writes c.make_shares_of.new.into) (ap (with_shares a.lent.writes) made_is));
    }

pub returns-clause-same : goal.returns-clause-same
returns-clause-same g c = ap (λ (s : SectionFields g.row.T.Denot g.row.T-Edit.Denot). record s { lent = c.replace_all.new.lent }) c.self.view_is
