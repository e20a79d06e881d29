use Rattle.std.proofs.Common.{◌≡◌, ℕ, ◌<◌, List, length, true, get_or, sym, ap, subst, ◌∙◌}
use Rattle.std.proofs.Math.ListN.{set}
use Rattle.std.proofs.lemmas.List.{set-get_or, get_or_default}
use Rattle.rmodel.specs.declared.claimed.Claimed.{Claimed}
use Rattle.rmodel.specs.Changes.{with_change}
use Rattle.rmodel.proofs.settling.Settlement.{ReadsOnly}
use Rattle.rplain.specs.declared.left.Left.{Left}
use Rattle.rplain.specs.declared.seen.Seen.{Seen}
use Rattle.rplain.specs.NewClaim.{with_seen}
use Rattle.rplain.specs.Sweep.{remains, swept}
use Rattle.rplain.proofs.settling.ChangeSteps.{no_change}
use Rattle.rplain.proofs.settling.SweepSteps.{stays_swept}
use Rattle.rplain.proofs.sweep.sweep_at.Goals as goal

-- a claim that is quickly seen to stay, whatever the default is
stays_at : (left : Left) (seen : Seen) (xs : List Claimed) (i : ℕ) (e d : Claimed) → i < length xs → remains left seen (get_or xs i e) ≡ true → swept left seen xs (get_or xs i d) ≡ get_or xs i d
stays_at left seen xs i e d h stays = stays_swept left seen xs (get_or xs i d) (ap (remains left seen) (sym (get_or_default xs i e d h)) ∙ stays)

pub with_seen-requires : goal.with_seen-requires
with_seen-requires c =
    let e = c.index-claims-i.result in
    subst ReadsOnly (stays_at c.args.left.now c.args.seen c.args.claims.now c.args.i e e c.requires.place (sym c.if-remains.ensures)) (c.requires.read_only e)

pub returns-then-remains-clause-claims : goal.returns-then-remains-clause-claims
returns-then-remains-clause-claims c = λ d.
    let xs = c.args.claims.now in
    let stays = stays_at c.args.left.now c.args.seen xs c.args.i c.index-claims-i.result d c.requires.place (sym c.if-remains.ensures) in
    sym (ap (set xs c.args.i) stays ∙ set-get_or xs c.args.i d)

pub returns-then-remains-clause-changes : goal.returns-then-remains-clause-changes
returns-then-remains-clause-changes c = λ d.
    let x = get_or c.args.claims.now c.args.i d in
    let stays = stays_at c.args.left.now c.args.seen c.args.claims.now c.args.i c.index-claims-i.result d c.requires.place (sym c.if-remains.ensures) in
    sym (ap (with_change c.args.changes.now x) stays ∙ no_change c.args.changes.now x)

pub returns-then-remains-clause-seen : goal.returns-then-remains-clause-seen
returns-then-remains-clause-seen c = λ d.
    let xs = c.args.claims.now in
    let stays = stays_at c.args.left.now c.args.seen xs c.args.i c.index-claims-i.result d c.requires.place (sym c.if-remains.ensures) in
    c.with_seen.ensures ∙ ap (with_seen c.args.seen) (get_or_default xs c.args.i c.index-claims-i.result d c.requires.place ∙ sym stays)
