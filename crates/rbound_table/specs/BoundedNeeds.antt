-- What tasks need, and how many requests may be incomplete.
use Rattle.std.specs.Prelude.{ℕ, refl}
use Rattle.std.specs.Coded.{Coded, code_by, coded×, coded_ℕ}
use Rattle.rbound.specs.TaskNeeds.{TaskNeeds, task_needs_code}

-- needs under a cap
pub record BoundedNeeds : Type 0 where
  pub needs : TaskNeeds
  pub cap : ℕ

-- they are coded as the pair of both
abbrev pub bounded_needs_code : Coded BoundedNeeds
bounded_needs_code = code_by (TaskNeeds × ℕ) (coded× task_needs_code coded_ℕ) (λ b. (b.needs, b.cap)) (λ p. record { needs = p.0; cap = p.1 }) (λ _. refl)
