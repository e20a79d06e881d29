use Rattle.std.proofs.Common.{ℕ, Bool, cond, Option, Some, None, sym, ap, ◌∙◌}
use Rattle.rbound.specs.declared.which.Which.{Which}
use Rattle.rbound.specs.declared.which.Which.TheVariants.{First, Rise, Ask}
use Rattle.rcover_laws.specs.History.{last_ask}
use Rattle.rcover_laws.specs.Told.{waits_to_rise, waits_for_ask}
use Rattle.rcover_plain.proofs.by_definition.wait_of.Goals as goal

-- which wait these tests give
abbrev by_tests : Bool → Bool → Bool → ℕ → Option Which
by_tests a b d number = cond a (Some First) (cond b (Some Rise) (cond d (Some (Ask number)) None))

pub returns-then-waits_first : goal.returns-then-waits_first
returns-then-waits_first c =
    let m = c.args.moment.now in
    let x = c.args.x.now in
    ap (λ b. by_tests b (waits_to_rise m x) (waits_for_ask m x) (last_ask c.args.events.now x.claim)) (sym c.if-waits_first.true ∙ c.waits_first.ensures m)

pub returns-then-waits_for_ask : goal.returns-then-waits_for_ask
returns-then-waits_for_ask c =
    let m = c.args.moment.now in
    let first = sym c.if-waits_first.false ∙ c.waits_first.ensures m in
    let rise = sym c.if-waits_to_rise.false ∙ c.waits_to_rise.ensures in
    let ask = sym c.if-waits_for_ask.true ∙ c.waits_for_ask.ensures m in
    (λ i. by_tests (first i) (rise i) (ask i) (c.last_ask.ensures i))

pub returns-else-waits_for_ask : goal.returns-else-waits_for_ask
returns-else-waits_for_ask c =
    let m = c.args.moment.now in
    let first = sym c.if-waits_first.false ∙ c.waits_first.ensures m in
    let rise = sym c.if-waits_to_rise.false ∙ c.waits_to_rise.ensures in
    let ask = sym c.if-waits_for_ask.false ∙ c.waits_for_ask.ensures m in
    (λ i. by_tests (first i) (rise i) (ask i) (last_ask c.args.events.now c.args.x.now.claim))
