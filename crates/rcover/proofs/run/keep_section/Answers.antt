use Rattle.std.proofs.Common.{◌≤◌, ◌∷◌, ◌++◌, [], cond, length, length-append, sym, subst, arith, ◌∙◌}
use Rattle.std.specs.Prelude.{vec_capacity}
use Rattle.rcover.specs.Kept.{claims_of}
use Rattle.rcover.proofs.Kept.{length_claims}
use Rattle.rcover.proofs.run.keep_section.Goals as goal

pub push_section-requires : goal.push_section-requires
push_section-requires c =
    let cs = claims_of c.args.writes.now.items in
    let e = c.args.section.now.claim in
    let room : length (cs ++ e ∷ []) ≤ vec_capacity c.args.writes.now
    = subst (λ b. length (cond b cs (cs ++ e ∷ [])) ≤ vec_capacity c.args.writes.now) (sym c.is_claim.ensures ∙ c.if-is_claim.false) c.requires.room in
    omega (arith, length-append cs (e ∷ []), length_claims c.args.writes.now.items, room)
