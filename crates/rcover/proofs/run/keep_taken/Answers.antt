use Rattle.std.proofs.Common.{◌≡◌, ◌≤◌, length, sym, ap, subst, ◌∙◌}
use Rattle.std.specs.Option.{IfSome}
use Rattle.std.specs.Prelude.{vec_capacity}
use Rattle.rcover_laws.specs.Lists.{reads_against, with_option}
use Rattle.rcover.specs.Kept.{claims_of, claim_if}
use Rattle.rcover.specs.Last.{first_at}
use Rattle.rcover.proofs.Kept.{claim_same, taken_has}
use Rattle.rcover.proofs.run.keep_taken.Goals as goal

pub add_found-requires : goal.add_found-requires
add_found-requires c =
    let found = first_at (reads_against c.args.least.now) c.args.last.now in
    subst (λ o. length (with_option (claims_of c.args.reads.now.items) o) ≤ vec_capacity c.args.reads.now) (sym (ap claim_if c.find_taken.ensures.section ∙ claim_same c.args.lengths.now found)) c.requires.room

pub returns-clause-claims : goal.returns-clause-claims
returns-clause-claims c =
    let found = first_at (reads_against c.args.least.now) c.args.last.now in
    c.add_found.ensures.claims ∙ ap (with_option (claims_of c.args.reads.now.items)) (ap claim_if c.find_taken.ensures.section ∙ claim_same c.args.lengths.now found)

pub returns-clause-lengths : goal.returns-clause-lengths
returns-clause-lengths c = λ len are have.
    c.add_found.ensures.lengths len
    (subst (λ o. IfSome o (λ s. s.len ≡ len s.claim)) (sym c.find_taken.ensures.section) (taken_has c.args.lengths.now len (reads_against c.args.least.now) c.args.last.now are)) have
