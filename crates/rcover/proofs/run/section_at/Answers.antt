use Rattle.std.proofs.Common.{◌≡◌, sym, ap, subst, ◌∙◌}
use Rattle.std.specs.Option.{IfSome, option_map}
use Rattle.rcover_laws.specs.Lists.{is_wanted}
use Rattle.rcover.specs.Kept.{claim_if, section_of}
use Rattle.rcover.proofs.Kept.{claim_same, taken_has}
use Rattle.rcover.proofs.run.section_at.Goals as goal

pub returns-clause-section : goal.returns-clause-section
returns-clause-section c = c.section_if.ensures ∙ ap (option_map (section_of c.args.lengths.now)) c.first_at.ensures

pub returns-clause-claim : goal.returns-clause-claim
returns-clause-claim c =
    ap claim_if c.section_if.ensures ∙ claim_same c.args.lengths.now c.first_at.result ∙ c.first_at.ensures

pub returns-clause-lengths : goal.returns-clause-lengths
returns-clause-lengths c = λ len are.
    subst (λ o. IfSome o (λ s. s.len ≡ len s.claim)) (sym (c.section_if.ensures ∙ ap (option_map (section_of c.args.lengths.now)) c.first_at.ensures))
    (taken_has c.args.lengths.now len (is_wanted c.args.wanted.now) c.args.moment.now are)
