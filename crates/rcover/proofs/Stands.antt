-- Whether a write is there in a wait is decided at its own place.
use Rattle.std.proofs.Common.{◌≡◌, Bool, true, false, ◌&&◌, ◌||◌, cond, Some, [], ◌∷◌, find, refl, sym, ap, ◌∙◌, arith}
use Rattle.std.proofs.lemmas.Bool.{and_parts}
use Rattle.std.specs.List.{list_any, AllByRecursion}
use Rattle.std.specs.Option.{option_map, unwrap_or}
use Rattle.rclaim.specs.declared.claim.Claim.{Claim}
use Rattle.rmodel.specs.declared.claimed.Claimed.{Claimed}
use Rattle.rmodel.specs.WellFormed.{EachPair, Rises}
use Rattle.rmodel.proofs.ListFacts.{false_from}
use Rattle.rmodel.proofs.settling.OneSettlement.{both_cases}
use Rattle.rcover_laws.specs.Moments.{Moment, is_claim}
use Rattle.rcover_laws.proofs.runs.Moments.{are_one}

module _ (test : Claimed → Bool) (c : Claim) (write : c.write_half ≡ true) where
  -- no claim after a write is that write
  none_behind : (x : Claimed) → is_claim c x.claim ≡ true → (ys : Moment) → AllByRecursion (Rises x) ys → list_any (λ y. is_claim c y.claim && test y) ys ≡ false
  none_behind x is [] all = refl
  none_behind x is (y ∷ ys) all =
      ap (λ b. b || list_any (λ z. is_claim c z.claim && test z) ys)
      (false_from (is_claim c y.claim && test y) (λ on.
      let a = are_one c x.claim is in
      let b = are_one c y.claim (and_parts (is_claim c y.claim) (test y) on).0 in
      let below = all.0.after_write (sym a.half ∙ write) in
      let s = a.stamp in
      let t = b.stamp in
      absurd (omega arith)))
      ∙ none_behind x is ys all.1

  or_false : (b : Bool) → (b || false) ≡ b
  or_false true = refl
  or_false false = refl

  pub stands_first : (m : Moment) → EachPair Rises m → unwrap_or (option_map test (find (λ x. is_claim c x.claim) m)) false ≡ list_any (λ x. is_claim c x.claim && test x) m
  stands_first [] rising = refl
  stands_first (x ∷ xs) rising =
      both_cases (is_claim c x.claim)
      (λ on.
      ap (λ b. unwrap_or (option_map test (cond b (Some x) (find (λ y. is_claim c y.claim) xs))) false) on
      ∙ sym ((λ i. (on i && test x) || none_behind x on xs rising.0 i) ∙ or_false (test x)))
      (λ off.
      ap (λ b. unwrap_or (option_map test (cond b (Some x) (find (λ y. is_claim c y.claim) xs))) false) off
      ∙ stands_first xs rising.1
      ∙ sym (ap (λ b. (b && test x) || list_any (λ y. is_claim c y.claim && test y) xs) off))
