use Rattle.std.proofs.Common.{◌<◌, ◌==◌, Bool, cond, length, get_or, sym, ap, ◌∙◌, arith}
use Rattle.std.proofs.lemmas.Bool.{eq-eqb, eqb-true}
use Rattle.std.proofs.lemmas.List.Edits.{map_over_more}
use Rattle.std.proofs.Math.ListN.{set}
use Rattle.rmodel.specs.declared.claimed.Claimed.{Claimed}
use Rattle.rmodel.specs.Steps.{asking}
use Rattle.rmodel.proofs.ListFacts.{false_from}
use Rattle.rplain.proofs.list.ask_each.Goals as goal
use Rattle.rplain.proofs.list.ask_each.Goals.{then-x-seat, else-x-seat}

pub loop-x-preserved : goal.loop-x-preserved
loop-x-preserved c =
    let xs = c.loop-x.claims in
    let i = c.loop-x.x-index in
    let x = c.x-item.result in
    let part = c.args.part in
    let within : i < length c.args.claims.now = omega arith in
    let next = map_over_more (asking c.args.seat part) c.args.claims.now xs i x within c.loop-x.invariant c.x-item.is in
    elim c.if-x-seat.branch [
      | then-x-seat w ↦
          w.claims-is
          ∙ ap (set xs i) (ap (λ (y : Claimed). record y { asked = part }) (sym c.x-item.is) ∙ sym (ap (λ (b : Bool). cond b (record x { asked = part }) x) (ap (λ (y : Claimed). y.claim.seat == c.args.seat) c.x-item.is ∙ eq-eqb (get_or xs i x).claim.seat c.args.seat w.if-x-seat.true)))
          ∙ next
      | else-x-seat w ↦
          w.claims-is
          ∙ ap (set xs i) (sym c.x-item.is ∙ sym (ap (λ (b : Bool). cond b (record x { asked = part }) x) (ap (λ (y : Claimed). y.claim.seat == c.args.seat) c.x-item.is ∙ false_from ((get_or xs i x).claim.seat == c.args.seat) (λ h. w.if-x-seat.false (eqb-true (get_or xs i x).claim.seat c.args.seat h)))))
          ∙ next
    ]
