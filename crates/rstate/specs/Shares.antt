-- Shares of one value.
use Rattle.std.specs.Prelude.{ℕ, ◌+◌, ◌-◌, refl}
use Rattle.std.specs.Coded.{Coded, code_by, coded_ℕ, coded×}

-- How many shares of a value are there, how many were made, and the value itself, which stays known when no share is there
pub record ShareFields (V : Type 0) : Type 0 where
  pub count : ℕ
  pub full : ℕ
  pub value : V

-- they are stored as the tuple of the fields
abbrev pub share_code : {V : Type 0} → Coded V → Coded (ShareFields V)
share_code {V} code =
    code_by (ℕ × (ℕ × V)) (coded× coded_ℕ (coded× coded_ℕ code))
    (λ s. (s.count, (s.full, s.value)))
    (λ p. record { count = p.0; full = p.1.0; value = p.1.1 })
    (λ _. refl)

module _ {V : Type 0} where
  -- n shares of the value, and all of them are there
  abbrev pub whole : ℕ → V → ShareFields V
  whole n v = record { count = n; full = n; value = v }

  -- one share fewer is there
  abbrev pub less : ShareFields V → ShareFields V
  less s = record s { count = s.count - 1 }

  -- one share more is there
  abbrev pub more : ShareFields V → ShareFields V
  more s = record s { count = s.count + 1 }

  -- all of them were taken away
  abbrev pub absent : ShareFields V → ShareFields V
  absent s = record s { count = 0; full = 0 }
