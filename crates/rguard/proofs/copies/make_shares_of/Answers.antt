use Rattle.std.proofs.Common.{◌≡◌, ◌≤◌, ℕ, [], ◌∷◌, length, sym, ap, subst, ◌∙◌}
use Rattle.rstate.specs.Shares.{ShareFields, whole}
use Rattle.rguard.proofs.Copying.{shares_more}
use Rattle.rguard.proofs.copies.make_shares_of.Goals as goal

pub loop-copy-preserved : goal.loop-copy-preserved
loop-copy-preserved g c =
    let V = g.row.T.Denot in
    let is : (c.copy.inside.place, c.copy.inside.value) ≡ c.copy-item.result = c.copy.view_is in
    let shares_is : c.in_ok-shares.shares ≡ whole c.args.n c.copy-item.result.1 = c.in_ok-shares.ensures ∙ ap (λ (copy : ℕ × V). whole c.args.n copy.1) is in (
      c.push_reserved.ensures.items
          ∙ shares_more c.args.n c.args.own.now c.loop-copy.copy-index c.copy-item.result c.loop-copy.into-inside.made.items (c.of.result ∷ []) c.loop-copy-test.true c.copy-item.is c.loop-copy.invariant.0
          (ap (λ (made : ℕ × ShareFields V). made ∷ []) (c.of.ensures ∙ (λ i. ((is i).0, shares_is i)))),
      subst (λ room. length c.args.own.now ≤ room) (sym c.push_reserved.ensures.capacity) c.loop-copy.invariant.1,
    )
