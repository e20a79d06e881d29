use Rattle.std.proofs.Common.{◌≡◌, ℕ, ◌<◌, ap, subst, ⊎_elim}
use Rattle.std.specs.Prelude.{Any}
use Rattle.std.proofs.lemmas.List.Elements.{All-get_or, All-weaker}
use Rattle.rlock.specs.declared.view.Mode.TheVariants.{Idle}
use Rattle.rlock.specs.Known.{Known, GateSite, IsTrueOf}
use Rattle.rlock.specs.Views.{known_from, times, numbers_of}
use Rattle.rlock.specs.Covering.{Covers}
use Rattle.rlock.proofs.Passes.{covers_itself}
use Rattle.rlock.proofs.gate.Gate.close_and.Goals as goal

pub last_state-requires-clause-all : goal.last_state-requires-clause-all
last_state-requires-clause-all g c = λ n low. let p = c.last.inside in let number = g.S.Kept.number in let stays = g.S.Kept.stays in let v = c.taken_in-place.result.me.0 in
    let of_last : Covers number stays v c.args.last = c.taken_in-place.ensures.before c.args.last
    (subst (Covers number stays p.place.me.0) c.last.view_is (covers_itself number stays p.place.me.0 Idle (known_from p.place.table_id p.number p.place.me.0) c.last.invariant.0)) in
    let has : (k : Known g.row.S.Denot g.row.S-Opening.Denot g.row.S-Entry.Denot) → k.number ≡ n → Covers number stays v k → 0 < times n (numbers_of v) = λ k e covers. subst (λ (i : ℕ). 0 < times i (numbers_of v)) e covers.has in
    ⊎_elim (λ (a : Any (λ (k : Known g.row.S.Denot g.row.S-Opening.Denot g.row.S-Entry.Denot). k.number ≡ n) c.args.passes.items). let (i, k, inside, is, e) = a in
    has k e (subst (Covers number stays v) is (All-get_or (Covers number stays v) c.args.passes.items i k inside c.taken_in-place.ensures.passes)))
    (λ (e : c.args.last.number ≡ n). has c.args.last e of_last)
    (c.requires.all n (subst (λ (m : ℕ). n < m) (ap (λ (z : GateSite). z.passes) c.self.view_is) low))

pub returns-clause-passes : goal.returns-clause-passes
returns-clause-passes g c = let number = g.S.Kept.number in let stays = g.S.Kept.stays in
    All-weaker (Covers number stays c.taken_in-place.result.me.0) (λ k. IsTrueOf number stays k (g.S.Kept.opening c.last_state.result) (g.S.Kept.entries c.last_state.result) c.last_state.result) (λ k covers. covers.knows _ _ _ c.last_state.ensures.knows) c.args.passes.items
    c.taken_in-place.ensures.passes

pub returns-clause-last : goal.returns-clause-last
returns-clause-last g c = let p = c.last.inside in let number = g.S.Kept.number in let stays = g.S.Kept.stays in
    let of_last : Covers number stays c.taken_in-place.result.me.0 c.args.last = c.taken_in-place.ensures.before c.args.last
    (subst (Covers number stays p.place.me.0) c.last.view_is (covers_itself number stays p.place.me.0 Idle (known_from p.place.table_id p.number p.place.me.0) c.last.invariant.0)) in
    of_last.knows _ _ _ c.last_state.ensures.knows
