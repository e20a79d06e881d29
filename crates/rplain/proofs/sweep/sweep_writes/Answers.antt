use Rattle.std.proofs.Common.{ℕ, ◌+◌, ◌<◌, List, [], ◌∷◌, length, sym, subst, arith}
use Rattle.rclaim.specs.Changes.{ChangeLists}
use Rattle.rmodel.specs.declared.claimed.Claimed.{Claimed}
use Rattle.rplain.specs.declared.seen.Seen.{Seen}
use Rattle.rplain.proofs.settling.SweepSteps.{SweptTo, begins, goes_on, write_there, ends_settled, ends_seen, ends_statuses, ends_grants}
use Rattle.rplain.proofs.sweep.sweep_writes.Goals as goal

-- some claim of a list that is not empty
some_of : (xs : List Claimed) (i : ℕ) → i < length xs → Claimed
some_of [] i h = absurd (omega arith)
some_of (x ∷ xs) i h = x

pub loop-i-init : goal.loop-i-init
loop-i-init c =
    subst (λ (s : Seen). SweptTo c.args.claims.now c.args.claims.now 0 s c.args.changes.now) (sym c.no_seen-seen.ensures)
    (begins c.args.claims.now c.args.changes.now c.requires.none)

pub sweep_write_at-seen-requires-clause-write : goal.sweep_write_at-seen-requires-clause-write
sweep_write_at-seen-requires-clause-write c = λ d.
    write_there c.args.claims.now c.args.left.now c.requires.left c.loop-i.claims c.loop-i.i c.loop-i.seen c.loop-i.changes d (omega arith) c.loop-i.invariant c.requires.writes

pub loop-i-preserved : goal.loop-i-preserved
loop-i-preserved c =
    let i = c.loop-i.i in
    let d = some_of c.loop-i.claims i (omega arith) in
    let step = c.sweep_write_at-seen.ensures in
    subst (λ (p : List Claimed × Seen × ChangeLists). SweptTo c.args.claims.now p.0 (i + 1) p.1 p.2)
    (λ k. (sym (step.claims d) k, sym (step.seen d) k, sym (step.changes d) k))
    (goes_on c.args.claims.now c.args.left.now c.requires.left c.loop-i.claims i c.loop-i.seen c.loop-i.changes d (omega arith) c.loop-i.invariant)

pub returns-clause-claims : goal.returns-clause-claims
returns-clause-claims c = ends_settled c.args.claims.now c.args.left.now c.requires.left c.loop-i.claims c.loop-i.i c.loop-i.seen c.loop-i.changes (omega arith) c.loop-i.invariant

pub returns-clause-seen : goal.returns-clause-seen
returns-clause-seen c = ends_seen c.args.claims.now c.args.left.now c.requires.left c.loop-i.claims c.loop-i.i c.loop-i.seen c.loop-i.changes (omega arith) c.loop-i.invariant

pub returns-clause-statuses : goal.returns-clause-statuses
returns-clause-statuses c = ends_statuses c.args.claims.now c.args.left.now c.requires.left c.loop-i.claims c.loop-i.i c.loop-i.seen c.loop-i.changes (omega arith) c.loop-i.invariant

pub returns-clause-grants : goal.returns-clause-grants
returns-clause-grants c = ends_grants c.args.claims.now c.args.left.now c.requires.left c.loop-i.claims c.loop-i.i c.loop-i.seen c.loop-i.changes (omega arith) c.loop-i.invariant
