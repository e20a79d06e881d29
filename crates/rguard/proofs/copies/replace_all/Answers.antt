use Rattle.std.proofs.Common.{ℕ, List, sym, ap, subst, ◌∙◌}
use Rattle.std.specs.Vec.Iter.{drain_items}
use Rattle.rstate.specs.Lent.{LentFields}
use Rattle.rstate.specs.Shares.{ShareFields}
use Rattle.rguard.specs.Copies.{with_shares, CanReplace}
use Rattle.rguard.proofs.copies.replace_all.Goals as goal

pub loop-one-preserved : goal.loop-one-preserved
loop-one-preserved g c =
    let V = g.row.T.Denot in
    let lent : LentFields V = c.loop-one.lent in
    let rest : List (ℕ × ShareFields V) = drain_items c.next.new.self in
    let can = subst (λ (made : List (ℕ × ShareFields V)). CanReplace lent.writes made) c.in-Some.ensures.steps.0 c.loop-one.invariant.0 in (
      subst (λ (l : LentFields V). CanReplace l.writes rest) (sym c.replace_one.ensures) can.1,
      ap (λ (l : LentFields V). record l { writes = with_shares l.writes rest }) c.replace_one.ensures
          ∙ ap (λ (made : List (ℕ × ShareFields V)). record lent { writes = with_shares lent.writes made }) (sym c.in-Some.ensures.steps.0) ∙ c.loop-one.invariant.1,
    )
