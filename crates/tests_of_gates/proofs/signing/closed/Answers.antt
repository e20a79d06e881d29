use Rattle.std.proofs.Common.{rules, ◌≡◌, ◌<◌, ℕ, List, length, get_or, true, None, [], sym, ap, ◌∙◌, subst}
use Rattle.std.proofs.lemmas.List.{get_or_default}
use Rattle.rlock.specs.Known.{Known}
use Rattle.rlock.specs.declared.roll.Roll.{Roll}
use Rattle.rlock.specs.declared.roll.Signature.{Signature}
use Rattle.tests_of_gates.proofs.signing.closed.Goals as goal

pub close-requires-clause-all : goal.close-requires-clause-all
close-requires-clause-all g c = λ n low. let d : Known Roll ℕ Signature = record { gate = c.args.gate.gate; number = 0; opening = None; seen = []; mine = []; last = None; turns = 0 } in let passes = c.args.passes.items in let same = c.as_slice.ensures.value in
    let inside : n < length passes = search rules in let yes : c.are_in_order.result ≡ true = search rules in (
      n,
      get_or passes n d,
      inside,
      get_or_default passes n (get_or passes n d) d inside,
      ap (λ (l : List (Known Roll ℕ Signature)). (get_or l n d).number) (sym same) ∙ c.are_in_order.ensures yes n d (subst (λ (l : List (Known Roll ℕ Signature)). n < length l) (sym same) inside),
    )
