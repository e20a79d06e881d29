-- A line that is due is the one that is there, where the test says so; for a wait this holds of all but the bound.
use Rattle.std.proofs.Common.{◌≡◌, ℕ, Bool, true, false, ◌==◌, ◌&&◌, List, [], ◌∷◌, drop, refl, sym, ap, ◌∙◌, true≢false}
use Rattle.std.proofs.lemmas.Bool.{and_parts, and_from, eqb-true, eq-eqb}
use Rattle.rset.specs.Sets.{equals}
use Rattle.rset.specs.SetFacts.{equals-true, equals_itself}
use Rattle.rbound.specs.Bounds.{Numbers, no_wait}
use Rattle.rvalue.specs.declared.ledger.Ledger.{Ledger}
use Rattle.rtrace_form.specs.Lines.{Line, BecomesEntitled, BecomesSatisfied, Grants, Waits, Leaves}
use Rattle.rtrace_form.specs.Faults.{same_answer, same_ledger, same_stage, same_numbers, is_same_line, is_first, is_change, is_ledger}
use Rattle.rtrace_form.specs.declared.word.Stage.{Stage}
use Rattle.rtrace_form.specs.declared.word.Stage.TheVariants as stage
use Rattle.rtrace_form.proofs.lists.BlankLines.{without_bound, AreBlank, first_blank}

same_is : (a b : Bool) → same_answer a b ≡ true → a ≡ b
same_is true b h = sym h
same_is false true h = absurd (true≢false (sym h))
same_is false false h = refl

ledger_is : (a b : Ledger) → same_ledger a b ≡ true → a ≡ b
ledger_is a b h =
    let parts = and_parts (a.balance == b.balance) (a.edits == b.edits) h in
    let one = eqb-true a.balance b.balance parts.0 in
    let two = eqb-true a.edits b.edits parts.1 in
    λ i. record { balance = one i; edits = two i }

stage_is : (a b : Stage) → same_stage a b ≡ true → a ≡ b
stage_is stage.First stage.First h = refl
stage_is stage.Rise stage.Rise h = refl
stage_is stage.Ask stage.Ask h = refl
stage_is stage.First stage.Rise h = absurd (true≢false (sym h))
stage_is stage.First stage.Ask h = absurd (true≢false (sym h))
stage_is stage.Rise stage.First h = absurd (true≢false (sym h))
stage_is stage.Rise stage.Ask h = absurd (true≢false (sym h))
stage_is stage.Ask stage.First h = absurd (true≢false (sym h))
stage_is stage.Ask stage.Rise h = absurd (true≢false (sym h))

pub numbers_are : (a b : Numbers) → same_numbers a b ≡ true → a ≡ b
numbers_are a b h =
    let parts = and_parts (a.reads == b.reads) ((a.writes == b.writes) && (a.units == b.units)) h in
    let rest = and_parts (a.writes == b.writes) (a.units == b.units) parts.1 in
    let one = eqb-true a.reads b.reads parts.0 in
    let two = eqb-true a.writes b.writes rest.0 in
    let three = eqb-true a.units b.units rest.1 in
    λ i. record { reads = one i; writes = two i; units = three i }

line_is : (a b : Line) → is_same_line a b ≡ true → without_bound a ≡ without_bound b
line_is (BecomesEntitled seat half) (BecomesEntitled other claim) h =
    let parts = and_parts (seat == other) (same_answer half claim) h in λ i. BecomesEntitled (eqb-true seat other parts.0 i) (same_is half claim parts.1 i)
line_is (BecomesSatisfied seat half) (BecomesSatisfied other claim) h =
    let parts = and_parts (seat == other) (same_answer half claim) h in λ i. BecomesSatisfied (eqb-true seat other parts.0 i) (same_is half claim parts.1 i)
line_is (Grants seat set) (Grants other members) h =
    let parts = and_parts (seat == other) (equals set members) h in λ i. Grants (eqb-true seat other parts.0 i) (equals-true set members parts.1 i)
line_is (Waits seat which cover bound) (Waits other kind numbers more) h =
    let parts = and_parts (seat == other) (same_stage which kind && same_numbers cover numbers) h in
    let rest = and_parts (same_stage which kind) (same_numbers cover numbers) parts.1 in
    λ i. Waits (eqb-true seat other parts.0 i) (stage_is which kind rest.0 i) (numbers_are cover numbers rest.1 i) no_wait
line_is (Leaves place ledger) (Leaves other left) h =
    let parts = and_parts (place == other) (same_ledger ledger left) h in λ i. Leaves (eqb-true place other parts.0 i) (ledger_is ledger left parts.1 i)
line_is _ _ h = absurd (true≢false (sym h))

-- the line is the first of those that are due, where these have no bounds
pub first_is : (due : List Line) (line : Line) → AreBlank due → is_first due line ≡ true → due ≡ without_bound line ∷ drop 1 due
first_is [] line blank h = absurd (true≢false (sym h))
first_is (first ∷ due) line blank h = ap (λ x. x ∷ due) (sym (first_blank first due blank) ∙ line_is first line h)

-- ---- and back: a line of those that may be due is the same as itself

is_same : (a : Bool) → same_answer a a ≡ true
is_same true = refl
is_same false = refl

equal_self : (n : ℕ) → (n == n) ≡ true
equal_self n = eq-eqb n n refl

pub stage_itself : (a : Stage) → same_stage a a ≡ true
stage_itself stage.First = refl
stage_itself stage.Rise = refl
stage_itself stage.Ask = refl

pub numbers_itself : (a : Numbers) → same_numbers a a ≡ true
numbers_itself a = and_from _ _ (equal_self a.reads) (and_from _ _ (equal_self a.writes) (equal_self a.units))

pub change_itself : (line : Line) → is_change line ≡ true → is_same_line line line ≡ true
change_itself (BecomesEntitled seat half) h = and_from _ _ (equal_self seat) (is_same half)
change_itself (BecomesSatisfied seat half) h = and_from _ _ (equal_self seat) (is_same half)
change_itself (Grants seat set) h = and_from _ _ (equal_self seat) (equals_itself set)
change_itself (Waits seat which cover bound) h = and_from _ _ (equal_self seat) (and_from _ _ (stage_itself which) (numbers_itself cover))
change_itself _ h = absurd (true≢false (sym h))

pub ledger_itself : (line : Line) → is_ledger line ≡ true → is_same_line line line ≡ true
ledger_itself (Leaves place ledger) h = and_from _ _ (equal_self place) (and_from _ _ (equal_self ledger.balance) (equal_self ledger.edits))
ledger_itself _ h = absurd (true≢false (sym h))
