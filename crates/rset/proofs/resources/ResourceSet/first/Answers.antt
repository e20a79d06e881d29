use Rattle.std.proofs.Common.{◌≡◌, refl, sym, ap, ◌∙◌}
use Rattle.std.specs.Prelude.{slice_get}
use Rattle.std.specs.Int.{trailing_zeros}
use mir.Syntax.{w64}
use Rattle.std.specs.FinSet.{contains, empty}
use Rattle.std.proofs.lemmas.Bool.{true≢false}
use Rattle.rset.specs.Sets.{rising}
use Rattle.rset.specs.Words.{set_of}
use Rattle.rset.proofs.SetsRising.{rising_empty, rising_first}
use Rattle.rset.proofs.WordLemmas.{set_of-zero, empty_word, least_there, least_small, least_first}
use Rattle.rset.proofs.resources.ResourceSet.first.Goals as goal

pub returns-then-self-eq0-clause-value : goal.returns-then-self-eq0-clause-value
returns-then-self-eq0-clause-value c =
    let none : c.args.self ≡ empty = sym c.self.view_is ∙ ap set_of c.if-self-eq0.true ∙ set_of-zero in
    sym (ap (λ s. slice_get (rising s) 0) none ∙ ap (λ xs. slice_get xs 0) rising_empty)

pub returns-then-self-eq0-clause-none : goal.returns-then-self-eq0-clause-none
returns-then-self-eq0-clause-none c =
    ((λ _. sym c.self.view_is ∙ ap set_of c.if-self-eq0.true ∙ set_of-zero), (λ _. refl))

pub returns-else-self-eq0-clause-value : goal.returns-else-self-eq0-clause-value
returns-else-self-eq0-clause-value c =
    let n = c.self.inside.word in
    sym (ap (λ s. slice_get (rising s) 0) (sym c.self.view_is)
    ∙ rising_first (set_of n) (trailing_zeros w64 n) (least_small n c.self.invariant c.if-self-eq0.false) (least_there n c.self.invariant c.if-self-eq0.false) (least_first n c.self.invariant c.if-self-eq0.false))

pub returns-else-self-eq0-clause-none : goal.returns-else-self-eq0-clause-none
returns-else-self-eq0-clause-none c =
    ((λ same. absurd (true≢false same)), (λ none. absurd (c.if-self-eq0.false (empty_word c.self.inside.word c.self.invariant (c.self.view_is ∙ none)))))

pub returns-else-self-eq0-clause-member : goal.returns-else-self-eq0-clause-member
returns-else-self-eq0-clause-member c =
    let n = c.self.inside.word in
    ap (λ s. contains s (trailing_zeros w64 n)) (sym c.self.view_is) ∙ least_there n c.self.invariant c.if-self-eq0.false

pub returns-else-self-eq0-clause-least : goal.returns-else-self-eq0-clause-least
returns-else-self-eq0-clause-least c m there =
    least_first c.self.inside.word c.self.invariant c.if-self-eq0.false m (ap (λ s. contains s m) c.self.view_is ∙ there)
