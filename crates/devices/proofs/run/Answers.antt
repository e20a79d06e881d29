use Rattle.std.proofs.Common.{rules, ◌≡◌, map, Some, Result, Ok, Err, sym, ap, subst, ◌∙◌}
use Rattle.std.specs.Prelude.{IfOk, unwrap_or}
use Rattle.std.specs.Result.{result_ok}
use Rattle.rnlp_lock.specs.Seats.{AreAllOf, who, who_of}
use Rattle.rnlp_lock.proofs.Conserving.{holds_of_list}
use Rattle.devices.specs.declared.device.Mode.TheVariants.{Ready}
use Rattle.devices.proofs.run.Goals as goal

-- what holds of a result that is there
at_some : {A E : Type 0} (r : Result A E) (x : A) (P : A → Type 0) → result_ok r ≡ Some x → IfOk r P → P x
at_some (Ok a) x P is held = subst P (ap (λ o. unwrap_or o a) is) held
at_some (Err e) x P is held = absurd cc

pub of-requires : goal.of-requires
of-requires g c = record { law = holds_of_list (λ _. Unit {0}) c.in_ok-devices.devices.items (record { mode = Ready; runs = 0 }) tt }

pub seats-requires : goal.seats-requires
seats-requires g c = record { each = at_some c.of.result (c.in_ok-lock.lock, c.in_ok-lock.passes) _ (sym c.ok-2.ensures.value ∙ c.in_ok-lock.was) c.of.ensures.each }

pub leave-requires : goal.leave-requires
leave-requires g c =
    let all : AreAllOf c.in_ok-lock.lock (map (who_of c.in_ok-lock.lock) c.in_ok-lock.passes.items) = search rules in
    let seats : map who c.in_ok-seats.seats.items ≡ map (who_of c.in_ok-lock.lock) c.in_ok-lock.passes.items = search rules in
    subst (AreAllOf c.in_ok-lock.lock) (sym (c.together.ensures ∙ seats)) all

pub close-history-requires-clause-all : goal.close-history-requires-clause-all
close-history-requires-clause-all g c =
    let all : AreAllOf c.in_ok-lock.lock (map (who_of c.in_ok-lock.lock) c.in_ok-lock.passes.items) =
    at_some c.of.result (c.in_ok-lock.lock, c.in_ok-lock.passes) (λ opened. AreAllOf opened.0 (map (who_of opened.0) opened.1.items)) (sym c.ok-2.ensures.value ∙ c.in_ok-lock.was) c.of.ensures.all in
    let seats : map who c.in_ok-seats.seats.items ≡ map (who_of c.in_ok-lock.lock) c.in_ok-lock.passes.items = at_some c.seats.result c.in_ok-seats.seats _ (sym c.ok-3.ensures.value ∙ c.in_ok-seats.was) c.seats.ensures in
    let back : map (who_of c.in_ok-lock.lock) c.in_ok-passes.passes.items ≡ map who c.together.new.seats.items = at_some c.leave.result c.in_ok-passes.passes _ (sym c.ok-4.ensures.value ∙ c.in_ok-passes.was) c.leave.ensures.all in
    subst (AreAllOf c.in_ok-lock.lock) (sym (back ∙ c.together.ensures ∙ seats)) all
