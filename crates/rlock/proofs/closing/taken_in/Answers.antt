use Rattle.std.proofs.Common.{rules, ◌≡◌, List, [], ◌∷◌, refl, sym, ap, ◌∙◌, subst, map}
use Rattle.std.specs.Prelude.{All}
use Rattle.std.proofs.lemmas.List.Elements.{All-get_or, All-weaker, All-push}
use Rattle.std.proofs.lemmas.Iterator.Adapters.{YieldsList-from_vec}
use Rattle.std.proofs.lemmas.Iterator.Consumers.{YieldsList-turn, YieldsList-end}
use Rattle.rlock.specs.declared.view.Mode.TheVariants.{Idle}
use Rattle.rlock.specs.Known.{Known}
use Rattle.rlock.specs.Views.{known_from}
use Rattle.rlock.specs.Steps.{joined}
use Rattle.rlock.specs.Covering.{Covers}
use Rattle.rlock.proofs.Shares.{takes_in}
use Rattle.rlock.proofs.Passes.{covers_before, covers_taken, covers_itself, mode_is}
use Rattle.rlock.proofs.closing.taken_in.Goals as goal

pub join_seat-requires : goal.join_seat-requires
join_seat-requires g c = let p = c.pass.inside in let idle = c.loop-pass.invariant.idle in let gives = c.into_iter-pass-iterator.ensures.into_iter_gives in
    let turn = YieldsList-turn (YieldsList-from_vec {s = c.into_iter-pass-iterator.result} c.args.passes.items gives.0 (gives.1 ∙ c.args.passes.ok.0)) c.loop-pass.yielded c.loop-pass.pass-iterator c.loop-pass.yielded_by _ c.next.new.self c.in-Some.pass c.in-Some.is c.next.ensures.steps in
    let its_gate : c.in-Some.pass.gate ≡ c.args.board.now.shared.table_id = ap (λ (k : Known g.row.S.Denot g.row.S-Opening.Denot g.row.S-Entry.Denot). k.gate) turn.1
    ∙ All-get_or (λ (k : Known g.row.S.Denot g.row.S-Opening.Denot g.row.S-Entry.Denot). k.gate ≡ c.args.board.now.shared.table_id) c.args.passes.items _ c.in-Some.pass turn.0 c.requires.passes in (
      idle.0,
      ap (λ (k : Known g.row.S.Denot g.row.S-Opening.Denot g.row.S-Entry.Denot). k.gate) c.pass.view_is ∙ its_gate,
      c.pass.invariant.1,
      search rules,
      takes_in g.S.Kept.opening g.S.Kept.entries g.S.Kept.number g.S.Kept.stays _ _ _ _ _ _ idle.1 (mode_is Idle (known_from p.place.table_id p.number p.place.me.0) _ c.pass.invariant.0),
    )

pub loop-pass-preserved : goal.loop-pass-preserved
loop-pass-preserved g c = let old = c.loop-pass.invariant in let now = c.join_seat.ensures.2 in let number = g.S.Kept.number in let stays = g.S.Kept.stays in let p = c.pass.inside in
    let v = c.loop-pass.place.me.0 in let w = p.place.me.0 in
    let after : c.join_seat.new.seat.me.0 ≡ joined v w = ap (λ m. m.0) now in
    let more : (k : Known g.row.S.Denot g.row.S-Opening.Denot g.row.S-Entry.Denot) → Covers number stays v k → Covers number stays c.join_seat.new.seat.me.0 k = λ k covers. subst (λ u. Covers number stays u k) (sym after) (covers_before number stays v w k covers) in
    let itself : Covers number stays w c.in-Some.pass = subst (Covers number stays w) c.pass.view_is (covers_itself number stays w Idle (known_from p.place.table_id p.number p.place.me.0) c.pass.invariant.0) in record {
      idle = (c.join_seat.ensures.0 ∙ old.idle.0, ap (λ u. u.mode) after ∙ old.idle.1, ap (λ m. m.1) now ∙ old.idle.2);
      passes = All-push (Covers number stays c.join_seat.new.seat.me.0) c.loop-pass.yielded c.in-Some.pass (All-weaker (Covers number stays v) (Covers number stays c.join_seat.new.seat.me.0) more c.loop-pass.yielded old.passes)
          (subst (λ u. Covers number stays u c.in-Some.pass) (sym after) (covers_taken number stays v w c.in-Some.pass itself));
      before = λ k covers. more k (old.before k covers);
    }

pub returns-clause-passes : goal.returns-clause-passes
returns-clause-passes g c = let gives = c.into_iter-pass-iterator.ensures.into_iter_gives in
    let all = YieldsList-end (YieldsList-from_vec {s = c.into_iter-pass-iterator.result} c.args.passes.items gives.0 (gives.1 ∙ c.args.passes.ok.0)) c.loop-pass.yielded c.loop-pass.pass-iterator c.loop-pass.yielded_by _ c.next.new.self c.in-None.is c.next.ensures.steps in
    subst (All (Covers g.S.Kept.number g.S.Kept.stays c.loop-pass.place.me.0)) (sym (map_same c.loop-pass.yielded) ∙ all.0) c.loop-pass.invariant.passes
  where
    map_same : {X : Type 0} (xs : List X) → map (λ (x : X). x) xs ≡ xs
    map_same [] = refl
    map_same (x ∷ xs) = ap (λ (l : List _). x ∷ l) (map_same xs)
