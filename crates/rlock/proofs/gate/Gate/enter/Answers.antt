use Rattle.std.proofs.Common.{rules, ℕ, ◌+◌, refl, ap, ◌∙◌, subst}
use Rattle.rlock.specs.declared.view.Mode.TheVariants.{Idle, Served}
use Rattle.rlock.specs.Known.{Known, IsTrueOf, entered}
use Rattle.rlock.specs.Views.{known_from, state_out}
use Rattle.rlock.specs.Steps.{Serves}
use Rattle.rlock.proofs.Moves.{draws}
use Rattle.rlock.proofs.Passes.{drawn, known_is, known_again, mode_is, member_is}
use Rattle.rlock.proofs.gate.Gate.enter.Goals as goal

pub fetch_add-ticket-requires : goal.fetch_add-ticket-requires
fetch_add-ticket-requires g c = let p = c.pass.inside in let (rests, none) = c.pass.invariant in let k : Known g.row.S.Denot g.row.S-Opening.Denot g.row.S-Entry.Denot = known_from p.place.table_id p.number p.place.me.0 in
    (search rules, search rules, draws g.S.Kept.opening g.S.Kept.entries g.S.Kept.number g.S.Kept.stays _ _ _ _ _ _ (mode_is Idle k _ rests) (member_is Idle k _ rests))

pub await_ticket-state-requires-clause-ready : goal.await_ticket-state-requires-clause-ready
await_ticket-state-requires-clause-ready g c = let p = c.pass.inside in let (rests, none) = c.pass.invariant in let (t, word, drew) = c.fetch_add-ticket.ensures.2 in
    let k : Known g.row.S.Denot g.row.S-Opening.Denot g.row.S-Entry.Denot = known_from p.place.table_id p.number p.place.me.0 in
    (record k { turns = k.turns + 1 }, t, (drawn k t _ _ rests (ap (λ m. m.0) drew), ap (λ m. m.1) drew ∙ none), word)

-- the pass as it came
abbrev came : (g : _) (c : goal.After-await_ticket-state g) → Known g.row.S.Denot g.row.S-Opening.Denot g.row.S-Entry.Denot
came g c = let p = c.pass.inside in known_from p.place.table_id p.number p.place.me.0

-- what is known of it after the wait
told : (g : _) (c : goal.After-await_ticket-state g)
    → (t : ℕ) × Serves c.await_ticket-state.new.place (entered (came g c) (g.S.Kept.entries c.await_ticket-state.result)) t c.await_ticket-state.result
    × IsTrueOf g.S.Kept.number g.S.Kept.stays (record (came g c) { turns = (came g c).turns + 1 }) (g.S.Kept.opening c.await_ticket-state.result) (g.S.Kept.entries c.await_ticket-state.result) c.await_ticket-state.result
told g c = let (rests, none) = c.pass.invariant in let (t, word, drew) = c.fetch_add-ticket.ensures.2 in
    let all = c.await_ticket-state.ensures.served (record (came g c) { turns = (came g c).turns + 1 }) t (drawn (came g c) t _ _ rests (ap (λ m. m.0) drew), ap (λ m. m.1) drew ∙ none) in (t, all.0, all.1)

pub invariant_of-holder : goal.invariant_of-holder
invariant_of-holder g c = let (t, serves, true_then) = told g c in
    (t, c.await_ticket-state.result, known_again _ _ _ (Served t c.await_ticket-state.result) (entered (came g c) (g.S.Kept.entries c.await_ticket-state.result)) serves.0 (c.await_ticket-state.ensures.same.0 ∙ c.fetch_add-ticket.ensures.0) refl, serves.1)

pub returns-clause-pass : goal.returns-clause-pass
returns-clause-pass g c = let (t, serves, true_then) = told g c in
    known_is _ _ _ (Served t c.await_ticket-state.result) (entered (came g c) (g.S.Kept.entries c.await_ticket-state.result)) serves.0 (c.await_ticket-state.ensures.same.0 ∙ c.fetch_add-ticket.ensures.0) refl
    ∙ ap (λ k. entered k (g.S.Kept.entries c.await_ticket-state.result)) c.pass.view_is

pub returns-clause-state : goal.returns-clause-state
returns-clause-state g c = let (t, serves, true_then) = told g c in
    subst (λ (k : Known g.row.S.Denot g.row.S-Opening.Denot g.row.S-Entry.Denot). IsTrueOf g.S.Kept.number g.S.Kept.stays k (g.S.Kept.opening c.await_ticket-state.result) (g.S.Kept.entries c.await_ticket-state.result) c.await_ticket-state.result) c.pass.view_is
    (record { its_opening = true_then.its_opening; begins = true_then.begins; own = true_then.own; its_last = true_then.its_last })

pub returns-clause-found : goal.returns-clause-found
returns-clause-found g c = let (t, serves, true_then) = told g c in
    ap state_out (mode_is (Served t c.await_ticket-state.result) (entered (came g c) (g.S.Kept.entries c.await_ticket-state.result)) _ serves.0)
