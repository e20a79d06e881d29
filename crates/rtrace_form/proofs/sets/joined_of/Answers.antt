use Rattle.std.proofs.Common.{◌==◌, refl, sym, subst₂, arith, rules, tests}
use Rattle.std.specs.List.{slice_split}
use Rattle.std.proofs.lemmas.List.{length_push}
use Rattle.std.proofs.lemmas.Iterator.Consumers.{YieldsList-turn, YieldsList-end}
use Rattle.std.proofs.lemmas.Iterator.Splits.{YieldsList-from_slice_split}
use Rattle.rtrace_form.proofs.SetNames.{IsGathered, gathered-none, gathered-more, gathered-unknown, gathered-all, set_told-pieces}
use Rattle.rtrace_form.proofs.sets.joined_of.Goals as goal

pub loop-name-init : goal.loop-name-init
loop-name-init c = rw c.empty-set.ensures (gathered-none _ _)

pub returns-in_err-number_of-clause-value : goal.returns-in_err-number_of-clause-value
returns-in_err-number_of-clause-value c =
    let turn = YieldsList-turn (YieldsList-from_slice_split {s = c.into_iter-name-iterator.result} _ (λ b. b == 43) c.args.field.now (cc) (cc) (cc) (λ x r q k. search (rules, tests)))
    c.loop-name.yielded _ c.loop-name.yielded_by _ _ c.in-Some.name c.in-Some.is c.next.ensures.steps in
    let pieces = set_told-pieces c.args.names.now c.args.field.now _ refl c.requires in
    let unknown = gathered-unknown c.loop-name.invariant c.in-Some.name.now turn.0 turn.1 (sym c.in_err-number_of.ensures.value) in
    cc

pub loop-name-preserved : goal.loop-name-preserved
loop-name-preserved c =
    let turn = YieldsList-turn (YieldsList-from_slice_split {s = c.into_iter-name-iterator.result} _ (λ b. b == 43) c.args.field.now (cc) (cc) (cc) (λ x r q k. search (rules, tests)))
    c.loop-name.yielded _ c.loop-name.yielded_by _ _ c.in-Some.name c.in-Some.is c.next.ensures.steps in
    let more = gathered-more c.loop-name.invariant c.in-Some.name.now c.in_ok-number_of.field-0 turn.0 turn.1 (sym c.in_ok-number_of.ensures.value) c.in_ok-number_of.ensures.below in
    subst₂ (λ i s. IsGathered c.args.names.now (slice_split (λ b. b == 43) c.args.field.now) i s)
    (sym (length_push c.loop-name.yielded c.in-Some.name)) (sym c.with-set.ensures) more

pub returns-clause-value : goal.returns-clause-value
returns-clause-value c =
    let end = YieldsList-end (YieldsList-from_slice_split {s = c.into_iter-name-iterator.result} _ (λ b. b == 43) c.args.field.now (cc) (cc) (cc) (λ x r q k. search (rules, tests)))
    c.loop-name.yielded _ c.loop-name.yielded_by _ _ c.in-None.is c.next.ensures.steps in
    let pieces = set_told-pieces c.args.names.now c.args.field.now _ refl c.requires in
    let all = gathered-all c.loop-name.invariant (omega (arith, end.1)) in
    cc

pub returns-clause-below : goal.returns-clause-below
returns-clause-below c = c.loop-name.invariant.below
