use Rattle.std.proofs.Common.{◌≡◌, ◌<◌, ◌/◌, ℕ, true, length, refl, sym, ap, ◌∙◌, arith}
use Rattle.std.specs.Prelude.{Option, Some, None, IfSome, IsTrue, is_some}
use Rattle.std.specs.FinSet.{contains}
use Rattle.rset.specs.declared.TheConstants.{RESOURCES}
use Rattle.rset.proofs.SetLemmas.{all_below_at}
use Rattle.rset.proofs.SetMembers.{contrary}
use Rattle.rexpand.specs.declared.TheConstants.{BLOCKS}
use Rattle.rexpand.proofs.NotedLemmas.{inside_by_number, inside_no_number}
use Rattle.rexpand.proofs.noting.is_inside.Goals as goal

-- a number in the set, with what is known of it
number_of : (P Q : ℕ → Type 0) (n : Option ℕ) → is_some n ≡ true → IfSome n P → IfSome n Q → (j : ℕ) × P j × Q j
number_of P Q None there p q = contrary true refl (sym there)
number_of P Q (Some j) there p q = (j, p, q)

pub around-requires-clause-member : goal.around-requires-clause-member
around-requires-clause-member c = all_below_at (length c.args.noted.now / BLOCKS) c.args.set c.requires.within c.args.l c.requires.member

pub returns-then-is_some : goal.returns-then-is_some
returns-then-is_some c = λ groups few kept.
    let found = number_of (λ j. IsTrue (contains c.around.result j)) (λ j. j < RESOURCES) c.first.result (sym c.is_some.ensures ∙ c.if-is_some.true) c.first.ensures.member c.first.ensures.bound in
    sym (inside_by_number (length c.args.noted.now / BLOCKS) groups c.args.noted.now c.args.set c.args.l c.loop-block.block found.0 kept c.requires.within c.around.ensures.within c.requires.member c.loop-block-test.true found.2
    (ap (λ s. contains s found.0) (sym c.around.ensures.value) ∙ found.1))

pub returns : goal.returns
returns c = λ groups few kept. sym (inside_no_number (length c.args.noted.now / BLOCKS) groups c.args.noted.now c.args.set c.args.l few kept c.requires.within c.requires.member (λ block small. c.loop-block.invariant block (omega (arith, c.loop-block-test.false))))
