use Rattle.std.proofs.Common.{◌≡◌, ◌++◌, ◌∷◌, [], map, sym, ap, ◌∙◌, arith}
use Rattle.std.specs.List.{range_with_len}
use Rattle.std.proofs.lemmas.List.FromFn.{map-range_with_len_more}
use Rattle.rexpand.specs.Groups.{ReadGroups}
use Rattle.rdrill.specs.Draws.{pair}
use Rattle.rdrill.proofs.requests.drill_groups.Goals as goal

pub loop-l-init : goal.loop-l-init
loop-l-init c = c.in_ok-groups.ensures

pub declare_pair-requires : goal.declare_pair-requires
declare_pair-requires c = (c.loop-l-test.true, ap (λ (g : ReadGroups). g.q) c.loop-l.invariant)

pub loop-l-preserved : goal.loop-l-preserved
loop-l-preserved c =
    c.in_ok-declare_pair.ensures
    ∙ (λ i. record { q = (c.loop-l.invariant i).q; groups = (c.loop-l.invariant i).groups ++ pair c.loop-l.l ∷ [] })
    ∙ ap (λ gs. record { q = 8; groups = gs }) (sym (map-range_with_len_more pair 0 c.loop-l.l c.loop-l.l (omega arith)))

pub returns : goal.returns
returns c =
    let all : c.loop-l.l ≡ 7 = omega (arith, c.loop-l-test.false, c.loop-l.auto.l-end) in
    c.loop-l.invariant ∙ ap (λ n. record { q = 8; groups = map pair (range_with_len 0 n) }) all
