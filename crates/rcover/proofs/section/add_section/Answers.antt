use Rattle.std.proofs.Common.{◌≡◌, ◌≤◌, List, ◌∷◌, ◌++◌, [], cond, length, length-append, sym, ap, subst, arith, ◌∙◌}
use Rattle.std.specs.List.{list_any}
use Rattle.std.specs.Prelude.{vec_capacity}
use Rattle.rclaim.specs.declared.claim.Claim.{Claim}
use Rattle.rcover.specs.declared.section.CoverSection.{CoverSection}
use Rattle.rcover.specs.Kept.{claims_of}
use Rattle.rcover_laws.specs.Moments.{is_claim}
use Rattle.rcover.proofs.Kept.{any_claims, length_claims}
use Rattle.rcover.proofs.section.add_section.Goals as goal

has : (d : Claim) (ss all : List CoverSection) → ss ≡ all → list_any (λ s. is_claim s.claim d) ss ≡ list_any (λ e. is_claim e d) (claims_of all)
has d ss all is = any_claims (λ e. is_claim e d) ss ∙ ap (λ xs. list_any (λ e. is_claim e d) (claims_of xs)) is

pub returns-then-has_section-clause-claims : goal.returns-then-has_section-clause-claims
returns-then-has_section-clause-claims c =
    let cs = claims_of c.args.sections.now.items in
    ap (λ b. cond b cs (cs ++ c.args.section.now.claim ∷ [])) (sym c.if-has_section.true ∙ c.has_section.ensures ∙ has c.args.section.now.claim c.deref.result.now c.args.sections.now.items c.deref.ensures.value)

pub push_section-requires : goal.push_section-requires
push_section-requires c =
    let cs = claims_of c.args.sections.now.items in
    let room : length (cs ++ c.args.section.now.claim ∷ []) ≤ vec_capacity c.args.sections.now
    = subst (λ b. length (cond b cs (cs ++ c.args.section.now.claim ∷ [])) ≤ vec_capacity c.args.sections.now)
    (sym (has c.args.section.now.claim c.deref.result.now c.args.sections.now.items c.deref.ensures.value) ∙ sym c.has_section.ensures ∙ c.if-has_section.false) c.requires in
    omega (arith, length-append cs (c.args.section.now.claim ∷ []), length_claims c.args.sections.now.items, room)

pub returns-clause-claims : goal.returns-clause-claims
returns-clause-claims c =
    let cs = claims_of c.args.sections.now.items in
    c.push_section.ensures.claims
    ∙ ap (λ b. cond b cs (cs ++ c.args.section.now.claim ∷ [])) (sym c.if-has_section.false ∙ c.has_section.ensures ∙ has c.args.section.now.claim c.deref.result.now c.args.sections.now.items c.deref.ensures.value)
