use Rattle.std.proofs.Common.{◌≡◌, Bool, true, false, ◌&&◌, cond, refl, ap, ◌∙◌}
use Rattle.std.specs.FinSet.{empty, union}
use Rattle.rset.specs.Sets.{Set}
use Rattle.rset.proofs.SetLemmas.{union_empty_right}
use Rattle.rmodel.specs.Claims.{is_active, is_satisfied}
use Rattle.rplain.proofs.seen.with_seen.Goals as goal

-- a set that is empty unless the claim is a write
of_write : (write holds : Bool) (all set : Set) → (write ≡ false → set ≡ empty) → cond holds (union all set) all ≡ cond (write && holds) (union all set) all
of_write true holds all set none = refl
of_write false true all set none = ap (union all) (none refl) ∙ union_empty_right all
of_write false false all set none = refl

pub returns : goal.returns
returns c =
    let all = c.args.all in
    let x = c.args.x.now in
    (λ i. record {
      active = (c.and_where.ensures ∙ ap (λ b. cond b (union all.active x.claim.writes) all.active) c.is_active-active.ensures ∙ of_write x.claim.write_half (is_active x) all.active x.claim.writes c.requires) i;
      kept = (c.and_where-2.ensures ∙ ap (λ b. cond b (union all.kept x.claim.writes) all.kept) c.is_satisfied-satisfied.ensures ∙ of_write x.claim.write_half (is_satisfied x) all.kept x.claim.writes c.requires) i;
      bars = c.with_bars.ensures i;
    })
