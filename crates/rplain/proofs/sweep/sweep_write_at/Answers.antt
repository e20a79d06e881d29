use Rattle.std.proofs.Common.{◌≡◌, ℕ, ◌<◌, List, length, true, get_or, sym, ap, ◌∙◌}
use Rattle.std.proofs.Math.ListN.{set}
use Rattle.std.proofs.lemmas.List.{set-get_or, get_or-set_same, get_or_default}
use Rattle.rmodel.specs.declared.claimed.Claimed.{Claimed}
use Rattle.rmodel.specs.Changes.{with_change}
use Rattle.rplain.specs.declared.left.Left.{Left}
use Rattle.rplain.specs.declared.seen.Seen.{Seen}
use Rattle.rplain.specs.NewClaim.{with_seen}
use Rattle.rplain.specs.Sweep.{remains, write_remains, swept}
use Rattle.rplain.proofs.settling.ChangeSteps.{no_change}
use Rattle.rplain.proofs.settling.SweepSteps.{stays_swept, swept_same, write_stays}
use Rattle.rplain.proofs.sweep.sweep_write_at.Goals as goal

-- a write that is quickly seen to stay, whatever the default is
stays_at : (left : Left) (seen : Seen) (xs : List Claimed) (i : ℕ) (e d : Claimed) → i < length xs → (get_or xs i e).claim.write_half ≡ true
    → write_remains left seen (get_or xs i e) ≡ true → swept left seen xs (get_or xs i d) ≡ get_or xs i d
stays_at left seen xs i e d h write stays =
    stays_swept left seen xs (get_or xs i d) (ap (remains left seen) (sym (get_or_default xs i e d h)) ∙ write_stays left seen (get_or xs i e) write ∙ stays)

pub with_write-requires : goal.with_write-requires
with_write-requires c = c.requires.write c.index-claims-i.result

pub sweep_claim-requires-clause-goes : goal.sweep_claim-requires-clause-goes
sweep_claim-requires-clause-goes c = λ d.
    let xs = c.args.claims.now in
    let e = c.index-claims-i.result in
    write_stays c.args.left.now c.args.seen (get_or xs c.args.i d) (c.requires.write d)
    ∙ ap (write_remains c.args.left.now c.args.seen) (sym (get_or_default xs c.args.i e d c.requires.place)) ∙ sym c.if-write_remains.ensures

pub with_write-requires-2 : goal.with_write-requires-2
with_write-requires-2 c =
    let xs = c.args.claims.now in
    let i = c.args.i in
    let e = c.index-claims-i-2.result in
    ap (λ (zs : List Claimed). (get_or zs i e).claim.write_half) (c.sweep_claim.ensures.claims e)
    ∙ ap (λ (z : Claimed). z.claim.write_half) (get_or-set_same xs i _ e c.requires.place)
    ∙ ap (λ k. k.write_half) (swept_same c.args.left.now c.args.seen xs (get_or xs i e)) ∙ c.requires.write e

pub returns-then-write_remains-clause-claims : goal.returns-then-write_remains-clause-claims
returns-then-write_remains-clause-claims c = λ d.
    let xs = c.args.claims.now in
    let e = c.index-claims-i.result in
    let stays = stays_at c.args.left.now c.args.seen xs c.args.i e d c.requires.place (c.requires.write e) (sym c.if-write_remains.ensures) in
    sym (ap (set xs c.args.i) stays ∙ set-get_or xs c.args.i d)

pub returns-then-write_remains-clause-changes : goal.returns-then-write_remains-clause-changes
returns-then-write_remains-clause-changes c = λ d.
    let x = get_or c.args.claims.now c.args.i d in
    let e = c.index-claims-i.result in
    let stays = stays_at c.args.left.now c.args.seen c.args.claims.now c.args.i e d c.requires.place (c.requires.write e) (sym c.if-write_remains.ensures) in
    sym (ap (with_change c.args.changes.now x) stays ∙ no_change c.args.changes.now x)

pub returns-then-write_remains-clause-seen : goal.returns-then-write_remains-clause-seen
returns-then-write_remains-clause-seen c = λ d.
    let xs = c.args.claims.now in
    let e = c.index-claims-i.result in
    let stays = stays_at c.args.left.now c.args.seen xs c.args.i e d c.requires.place (c.requires.write e) (sym c.if-write_remains.ensures) in
    c.with_write.ensures ∙ ap (with_seen c.args.seen) (get_or_default xs c.args.i e d c.requires.place ∙ sym stays)
