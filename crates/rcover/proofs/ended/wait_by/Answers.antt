use Rattle.std.proofs.Common.{ℕ, ◌-◌, Bool, cond, Option, Some, None, sym, ap, ◌∙◌}
use Rattle.rbound.specs.declared.which.Which.{Which}
use Rattle.rbound.specs.declared.which.Which.TheVariants.{First, Rise, Ask}
use Rattle.rcover_laws.specs.History.{last_ask}
use Rattle.rcover_laws.specs.Told.{waits_to_rise, waits_for_ask}
use Rattle.rcover.proofs.ended.wait_by.Goals as goal

-- which wait these tests give
abbrev by_tests : Bool → Bool → Bool → ℕ → Option Which
by_tests a b d number = cond a (Some First) (cond b (Some Rise) (cond d (Some (Ask number)) None))

pub returns-then-waits_first-clause-which : goal.returns-then-waits_first-clause-which
returns-then-waits_first-clause-which c = λ m rose es asks.
    let x = c.args.x.now in
    ap (λ b. by_tests b (waits_to_rise m x) (waits_for_ask m x) (last_ask es x.claim)) (sym c.if-waits_first.true ∙ c.waits_first.ensures m)

pub returns-then-still_rises-clause-which : goal.returns-then-still_rises-clause-which
returns-then-still_rises-clause-which c = λ m rose es asks.
    let x = c.args.x.now in
    let first = sym c.if-waits_first.false ∙ c.waits_first.ensures m in
    let rise = sym c.if-still_rises.true ∙ c.still_rises.ensures ∙ sym rose in
    (λ i. by_tests (first i) (rise i) (waits_for_ask m x) (last_ask es x.claim))

pub returns-then-waits_for_ask-clause-which : goal.returns-then-waits_for_ask-clause-which
returns-then-waits_for_ask-clause-which c = λ m rose es asks.
    let first = sym c.if-waits_first.false ∙ c.waits_first.ensures m in
    let rise = sym c.if-still_rises.false ∙ c.still_rises.ensures ∙ sym rose in
    let ask = sym c.if-waits_for_ask.true ∙ c.waits_for_ask.ensures m in
    (λ i. by_tests (first i) (rise i) (ask i) ((c.saturating_sub.ensures ∙ ap (λ n. n - 1) asks) i))

pub returns-else-waits_for_ask-clause-which : goal.returns-else-waits_for_ask-clause-which
returns-else-waits_for_ask-clause-which c = λ m rose es asks.
    let first = sym c.if-waits_first.false ∙ c.waits_first.ensures m in
    let rise = sym c.if-still_rises.false ∙ c.still_rises.ensures ∙ sym rose in
    let ask = sym c.if-waits_for_ask.false ∙ c.waits_for_ask.ensures m in
    (λ i. by_tests (first i) (rise i) (ask i) (last_ask es c.args.x.now.claim))

pub returns-then-waits_first-clause-waits : goal.returns-then-waits_first-clause-waits
returns-then-waits_first-clause-waits c = λ m rose. sym (c.waits_first.ensures m) ∙ c.if-waits_first.true

pub returns-then-still_rises-clause-waits : goal.returns-then-still_rises-clause-waits
returns-then-still_rises-clause-waits c = λ m rose. rose ∙ sym c.still_rises.ensures ∙ c.if-still_rises.true

pub returns-then-waits_for_ask-clause-waits : goal.returns-then-waits_for_ask-clause-waits
returns-then-waits_for_ask-clause-waits c = λ m rose. sym (c.waits_for_ask.ensures m) ∙ c.if-waits_for_ask.true
