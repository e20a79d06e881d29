-- What was written of parts of a text.
use Rattle.std.proofs.Common.{ℕ, ◌+◌, List, ◌++◌, length, take, Option, None, Some, Result, Ok, Err, OnOk, sym, ap, ◌∙◌, arith, append_assoc}
use Rattle.std.specs.Result.{IsOk}
use Rattle.std.proofs.lemmas.List.{length-append, take-append-le}
use Rattle.std.proofs.Math.Seq.{take-append-add}
use Rattle.io_ends.specs.Ends.{Appends, AppendsPrefix}

-- what is said of a success holds of one
pub always_on_ok : {T E P : Type 0} (r : Result T E) → P → OnOk r P
always_on_ok (Ok x) p = p
always_on_ok (Err e) p = tt

-- what is so of a success is so where there is one
pub given_ok : {T E P : Type 0} (r : Result T E) → IsOk r → OnOk r P → P
given_ok (Ok v) is so = so
given_ok (Err e) is so = cc

module _ (a b : List ℕ) where
  -- the first, and then the second, are both
  pub appends_both : (before between after : Option (List ℕ)) → Appends before between a → Appends between after b → Appends before after (a ++ b)
  appends_both None between after whole more = tt
  appends_both (Some w) between after whole more = (rw whole at more) ∙ ap Some (append_assoc w a b)

  -- a front part of the first is one of both
  pub prefix_before : (before after : Option (List ℕ)) → AppendsPrefix before after a → AppendsPrefix before after (a ++ b)
  prefix_before None after p = (p.0, omega (arith, p.1, length-append a b), tt)
  prefix_before (Some w) after p = (p.0, omega (arith, p.1, length-append a b), p.2 ∙ ap (λ t. Some (w ++ t)) (sym (take-append-le p.0 a b (omega (arith, p.1)))))

  -- a front part of the second, after the first, is one of both
  pub prefix_behind : (before between after : Option (List ℕ)) → Appends before between a → AppendsPrefix between after b → AppendsPrefix before after (a ++ b)
  prefix_behind None between after whole p = (length a + p.0, omega (arith, p.1, length-append a b), tt)
  prefix_behind (Some w) between after whole p = (
    length a + p.0,
    omega (arith, p.1, length-append a b),
    (rw whole at p.2) ∙ ap Some (append_assoc w a (take p.0 b) ∙ ap (λ t. w ++ t) (sym (take-append-add a b p.0))),
  )
