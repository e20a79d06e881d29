use Rattle.std.proofs.Common.{◌≡◌, ◌<◌, false, sym, ap, subst, ◌∙◌}
use Rattle.std.specs.FinSet.{is_subset}
use Rattle.rset.specs.Sets.{Set}
use Rattle.rbound.specs.Sweeps.{swept}
use Rattle.rbound.proofs.SweptZones.{HasGrown, outside, grown_first, grown_more, fewer_outside, zone_is}
use Rattle.rbound.proofs.zone.zone_among.Goals as goal

pub loop-zone-init : goal.loop-zone-init
loop-zone-init c = (c.swept-next.ensures, grown_first c.args.needs.now c.args.places)

pub loop-zone-smaller : goal.loop-zone-smaller
loop-zone-smaller c =
    let ns = c.args.needs.now in
    let zone = c.loop-zone.zone in
    let is = c.loop-zone.invariant.0 in
    let grows : is_subset (swept ns zone) zone ≡ false = ap (λ (s : Set). is_subset s zone) (sym is) ∙ sym c.within.ensures ∙ c.loop-zone-test.true in
    subst (λ (s : Set). outside ns s < outside ns zone) (sym is) (fewer_outside ns zone grows)

pub loop-zone-preserved : goal.loop-zone-preserved
loop-zone-preserved c =
    let ns = c.args.needs.now in
    let places = c.args.places in
    (c.swept-next-in-loop-zone.ensures, subst (λ (s : Set). HasGrown ns places s) (sym c.loop-zone.invariant.0) (grown_more ns places c.loop-zone.zone c.loop-zone.invariant.1))

pub returns : goal.returns
returns c =
    let ns = c.args.needs.now in
    let zone = c.loop-zone.zone in
    let is = c.loop-zone.invariant.0 in
    zone_is ns c.args.places zone c.loop-zone.invariant.1 (ap (λ (s : Set). is_subset s zone) (sym is) ∙ sym c.within.ensures ∙ c.loop-zone-test.false)
