use Rattle.std.proofs.Common.{◌==◌, Some, cond, slice_get, sym, ap, ◌∙◌}
use Rattle.rcover.specs.declared.shares.Share.{Share}
use Rattle.rcover.specs.Shares.{share_of}
use Rattle.rcover.proofs.heads_told.Heads.{get_set}
use Rattle.rcover.proofs.shares.note_share.Goals as goal

pub returns-then-x-clause-shares : goal.returns-then-x-clause-shares
returns-then-x-clause-shares c = λ seat.
    let x = c.args.x.now in
    let ss = c.args.shares.now in
    get_set ss x.claim.seat c.share_of.result seat c.requires
    ∙ ap (λ (s : Share). cond (seat == x.claim.seat) (Some s) (slice_get ss seat)) c.share_of.ensures
    ∙ sym (ap (λ b. cond b (cond (seat == x.claim.seat) (Some (share_of x.claim)) (slice_get ss seat)) (slice_get ss seat)) c.if-x.true)
