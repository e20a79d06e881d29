use Rattle.std.proofs.Common.{◌≡◌, ◌∷◌, ◌++◌, [], length, get_or, arith, ◌∙◌}
use Rattle.std.proofs.Math.ListN.{set}
use Rattle.std.proofs.Math.Seq.{set-append_seam, get_or-append_seam}
use Rattle.rmodel.specs.Settling.{with_status}
use Rattle.rplain.proofs.new_claim.push_at.Goals as goal

pub returns-clause-items : goal.returns-clause-items
returns-clause-items c =
    let xs = c.args.claims.now.items in
    let x = c.args.x.now in
    let m = c.index_mut.result.now in
    let items : c.push_reserved.new.self.items ≡ xs ++ x ∷ [] = c.push_reserved.ensures.items in
    let place : c.len-place.result ≡ length xs = omega arith in
    let there : m ≡ x = c.index_mut.ensures.value ∙ (λ i. get_or (items i) (place i) m) ∙ get_or-append_seam xs x [] m in
    (λ i. set (items i) (place i) (with_status (there i) c.args.status)) ∙ set-append_seam xs x [] (with_status x c.args.status)
