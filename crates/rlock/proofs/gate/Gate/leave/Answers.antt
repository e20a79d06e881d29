use Rattle.std.proofs.Common.{◌≡◌, refl, sym, ap, ◌∙◌, subst, Some}
use Rattle.rlock.specs.declared.view.Mode.TheVariants.{Idle}
use Rattle.rlock.specs.Known.{Known, Taken, Appends, KeepsOthers, left}
use Rattle.rlock.specs.Views.{Held, known_from, state_out}
use Rattle.rlock.specs.Steps.{Rests}
use Rattle.rlock.proofs.Passes.{known_is, known_again, mode_is}
use Rattle.rlock.proofs.gate.Gate.leave.Goals as goal

pub note-requires-clause-ready : goal.note-requires-clause-ready
note-requires-clause-ready g c = let h = c.holder.inside in let (t, found, serves, slot) = c.holder.invariant in let s = c.turn.inside.state in
    let T = Taken g.row.S.Denot g.row.S-Opening.Denot g.row.S-Entry.Denot in
    let k : Known g.row.S.Denot g.row.S-Opening.Denot g.row.S-Entry.Denot = known_from h.place.table_id h.number h.place.me.0 in
    let same : c.args.turn ≡ record { pass = k; found = state_out h.place.me.0.mode; state = s } =
    sym c.turn.view_is ∙ ap (λ (z : Held g.row.S.Denot g.row.S-Opening.Denot g.row.S-Entry.Denot). let turn : T = record { pass = z.pass; found = z.found; state = s } in turn) (sym c.holder.view_is) in (
      k,
      t,
      found,
      (serves, slot),
      subst (λ (z : T). Appends g.S.Kept.number z.pass.number z.pass.seen (g.S.Kept.entries z.state)) same c.requires.entries,
      subst (λ (z : T). (found : g.row.S.Denot) → z.found ≡ Some found → KeepsOthers g.S.Kept.stays z.pass.number found z.state) same c.requires.others found (ap state_out (mode_is _ k _ serves)),
    )

pub put_back-requires-clause-ready : goal.put_back-requires-clause-ready
put_back-requires-clause-ready g c = let h = c.holder.inside in let (t, found, serves, slot) = c.holder.invariant in let s = c.turn.inside.state in
    let T = Taken g.row.S.Denot g.row.S-Opening.Denot g.row.S-Entry.Denot in
    let k : Known g.row.S.Denot g.row.S-Opening.Denot g.row.S-Entry.Denot = known_from h.place.table_id h.number h.place.me.0 in
    let same : c.args.turn ≡ record { pass = k; found = state_out h.place.me.0.mode; state = s } =
    sym c.turn.view_is ∙ ap (λ (z : Held g.row.S.Denot g.row.S-Opening.Denot g.row.S-Entry.Denot). let turn : T = record { pass = z.pass; found = z.found; state = s } in turn) (sym c.holder.view_is) in
    (left k (g.S.Kept.entries s) s, t, c.note.ensures.noted k t found (serves, slot), subst (λ (z : T). z.pass.opening ≡ Some (g.S.Kept.opening z.state)) same c.requires.opening, refl)

-- the pass as it held the turn
abbrev held : (g : _) (c : goal.After-put_back g) → Known g.row.S.Denot g.row.S-Opening.Denot g.row.S-Entry.Denot
held g c = let h = c.holder.inside in known_from h.place.table_id h.number h.place.me.0

-- the seat rests, and is that of the pass which left
rests : (g : _) (c : goal.After-put_back g) → Rests c.put_back.new.place (left (held g c) (g.S.Kept.entries c.turn.inside.state) c.turn.inside.state)
rests g c = let (t, found, serves, slot) = c.holder.invariant in
    c.put_back.ensures.idle (left (held g c) (g.S.Kept.entries c.turn.inside.state) c.turn.inside.state) t (c.note.ensures.noted (held g c) t found (serves, slot))

pub invariant_of-result : goal.invariant_of-result
invariant_of-result g c =
    (known_again _ _ _ Idle (left (held g c) (g.S.Kept.entries c.turn.inside.state) c.turn.inside.state) (rests g c).0 (c.put_back.ensures.same.0 ∙ c.note.ensures.same.0) refl, (rests g c).1)

pub returns : goal.returns
returns g c = let T = Taken g.row.S.Denot g.row.S-Opening.Denot g.row.S-Entry.Denot in let s = c.turn.inside.state in
    known_is _ _ _ Idle (left (held g c) (g.S.Kept.entries s) s) (rests g c).0 (c.put_back.ensures.same.0 ∙ c.note.ensures.same.0) refl
    ∙ ap (λ (z : T). left z.pass (g.S.Kept.entries z.state) z.state)
    (ap (λ (z : Held g.row.S.Denot g.row.S-Opening.Denot g.row.S-Entry.Denot). let turn : T = record { pass = z.pass; found = z.found; state = s } in turn) c.holder.view_is ∙ c.turn.view_is)
