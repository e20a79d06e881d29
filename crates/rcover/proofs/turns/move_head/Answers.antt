use Rattle.std.proofs.Common.{◌++◌, ◌∷◌, refl, sym, subst, ◌∙◌}
use Rattle.rset.specs.Sets.{Set}
use Rattle.rcover.specs.Lines.{IsTurned, head_of}
use Rattle.rcover.proofs.heads_told.Reached.{stamp_found}
use Rattle.rcover.proofs.heads_told.Turns.{turned_moved}
use Rattle.rcover.proofs.turns.move_head.Goals as goal

pub returns-clause-turned : goal.returns-clause-turned
returns-clause-turned c = λ lost m before rest next new found was other.
    let x = c.args.x.now in
    let hs = c.args.now.now in
    let n = before ++ x ∷ rest in
    let hs' = c.put_head.new.heads in
    subst (λ (z : Set × Set). IsTurned hs c.args.moves.now lost hs' (record { moved = z.0; risen = c.args.moves.now.risen; dirty = z.1 }) m n x) (λ i. (sym c.with-moves.ensures i, sym c.union-moves.ensures i))
    (turned_moved hs c.args.moves.now lost m n x c.requires.write hs' (head_of n x.claim) refl (c.put_head.ensures.head before rest next.rising next.distinct next.told found) new was
    (λ same. other (stamp_found before rest x next.rising c.requires.write c.args.found.now found ∙ same)))
