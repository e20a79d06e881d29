use Rattle.std.proofs.Common.{◌≤◌, length, sym, ap, subst, arith, ◌∙◌}
use Rattle.std.specs.Prelude.{vec_capacity}
use Rattle.rmodel.specs.State.{LockState}
use Rattle.rcover_laws.specs.Moments.{Moment}
use Rattle.rcover.proofs.told.Knowing.{claims_few}
use Rattle.rcover.proofs.following.Following.note.Goals as goal

pub copy_claims-requires : goal.copy_claims-requires
copy_claims-requires c =
    let p = c.requires.known.0 in
    let k = c.requires.known.1 in
    let few = claims_few c.args.self.now p k in
    let room = k.room.last in
    subst (λ (m : Moment). length m ≤ vec_capacity c.args.self.now.last) (sym (c.claims-then-not-ends_none.ensures ∙ ap (λ (s : LockState). s.claims) c.requires.known.2)) (omega arith)
