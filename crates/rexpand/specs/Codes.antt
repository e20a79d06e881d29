-- How proofs distinguish read groups: by their parts.
use Rattle.std.specs.Prelude.{ℕ, List, refl}
use Rattle.std.specs.Coded.{Coded, code_by, coded_ℕ, coded×, coded_list}
use Rattle.std.specs.FinSet as set
use Rattle.rset.specs.Sets.{Set}
use Rattle.rexpand.specs.Groups.{ReadGroups}

abbrev pub groups_code : Coded ReadGroups
groups_code =
    code_by (ℕ × List Set) (coded× coded_ℕ (coded_list (set.code coded_ℕ))) (λ g. (g.q, g.groups)) (λ p. record { q = p.0; groups = p.1 }) (λ _. refl)
