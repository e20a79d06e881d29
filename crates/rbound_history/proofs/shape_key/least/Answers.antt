use Rattle.std.proofs.Common.{◌≡◌, ◌≤◌, ℕ, true, Option, is_some, ap, subst}
use Rattle.std.specs.Prelude.{IfSome}
use Rattle.std.specs.FinSet.{contains}
use Rattle.rbound_history.specs.SetOrderFacts.{first_is}
use Rattle.rbound_history.proofs.shape_key.least.Goals as goal

pub returns : goal.returns
returns c =
    first_is c.args.set c.first.result (λ e. c.first.ensures.none.0 (ap is_some e))
    (λ m e. record {
      member = subst (λ (r : Option ℕ). IfSome r (λ l. contains c.args.set l ≡ true)) e c.first.ensures.member;
      low = subst (λ (r : Option ℕ). IfSome r (λ l. (m : ℕ) → contains c.args.set m ≡ true → l ≤ m)) e c.first.ensures.least;
    })
