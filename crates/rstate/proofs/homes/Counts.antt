-- Homes by what seats have taken: whether a seat has it for writing, and how many have it for reading.
use Rattle.std.proofs.Common.{◌≡◌, ℕ, ◌+◌, ◌-◌, ◌<◌, ◌≤◌, Bool, false, cond, replicate, sym, ap, ◌∙◌, arith}
use Rattle.std.specs.FinSet.{contains}
use Rattle.rset.proofs.SetLemmas.{contains_empty}
use Rattle.rmodel.specs.declared.granted.Granted.{Granted}
use Rattle.rmodel.specs.Holds.{nothing}
use Rattle.rstate.specs.Homes.{readers, home_of}
use Rattle.rstate.specs.Shares.{ShareFields, whole, less, more}
use Rattle.rstate.proofs.homes.Lists.{any_none, count_none, get_replicate}

-- a home when somebody has taken the resource for writing, or so many have taken it for reading
abbrev pub home_by : {V : Type 0} → ℕ → Bool → ℕ → V → ShareFields V
home_by seats written readers value = record { count = cond written 0 ((seats + 1) - readers); full = cond written 0 (seats + 1); value = value }

module _ {V : Type 0} (seats : ℕ) (v : V) where
  pub home_whole : whole (seats + 1) v ≡ home_by seats false 0 v
  home_whole = (λ i. record { count = none (seats + 1) i; full = seats + 1; value = v })
    where
      none : (n : ℕ) → n ≡ n - 0
      none n = omega arith

  pub home_less : (r : ℕ) → less (home_by seats false r v) ≡ home_by seats false (r + 1) v
  home_less r = (λ i. record { count = one (seats + 1) r i; full = seats + 1; value = v })
    where
      one : (n r : ℕ) → (n - r) - 1 ≡ n - (r + 1)
      one n r = omega arith

  pub home_more : (r : ℕ) → r ≤ seats → more (home_by seats false (r + 1) v) ≡ home_by seats false r v
  home_more r few = (λ i. record { count = one seats r few i; full = seats + 1; value = v })
    where
      one : (n r : ℕ) → r ≤ n → ((n + 1) - (r + 1)) + 1 ≡ (n + 1) - r
      one n r few = omega arith

  -- a share is at home if nobody writes
  pub home_some : (r : ℕ) → r ≤ seats → 0 < (home_by seats false r v).count
  home_some r few = omega arith

  -- a share is missing if somebody reads
  pub home_missed : (r : ℕ) → (home_by seats false (r + 1) v).count < (home_by seats false (r + 1) v).full
  home_missed r = omega arith

-- if nobody has taken anything, all shares are at home
pub home_at_first : {V : Type 0} (seats n l : ℕ) (v : V) → home_of seats (replicate n nothing) l v ≡ whole (seats + 1) v
home_at_first seats n l v =
    (λ i. home_by seats (any_none (λ g. contains g.writes l) (replicate n nothing) (λ k g there. ap (λ (h : Granted). contains h.writes l) (get_replicate n k nothing g there) ∙ contains_empty l) i)
    (count_none (λ g. contains g.reads l) (replicate n nothing) (λ k g there. ap (λ (h : Granted). contains h.reads l) (get_replicate n k nothing g there) ∙ contains_empty l) i) v)
    ∙ sym (home_whole seats v)
