-- Of two claims of a seat, the later is in no wait.
use Rattle.std.proofs.Common.{◌≡◌, ◌==◌, nat_lt, true, false, not, ◌&&◌, [], ◌∷◌, refl, ap, inl, inr}
use Rattle.std.proofs.lemmas.Bool.{and_parts, and_from, eq-eqb}
use Rattle.std.specs.FinSet.{len}
use Rattle.rmodel.specs.declared.claimed.Claimed.{Claimed}
use Rattle.rmodel.specs.WellFormed.{Among, AreHalves, Distinct, EachPair}
use Rattle.rmodel.proofs.ListFacts.{contrary, false_from, all_at, all_from, any_among}
use Rattle.rbound.specs.declared.which.Which.{Which}
use Rattle.rbound.specs.declared.which.Which.TheVariants.{First, Rise, Ask}
use Rattle.rcover_laws.specs.Ended.{waits_in}
use Rattle.rcover_laws.specs.Moments.{Moment}
use Rattle.rcover_laws.specs.Told.{is_rising_half, has_read_claim}
use Rattle.rcover.specs.Quiet.{OneWaits}
use Rattle.rcover.proofs.told.Asking.{asks_nested}
use Rattle.rmodel.specs.Claims.{is_nested, is_satisfied, is_upgrade}
use Rattle.rmodel.specs.Holds.{held_by, is_nothing}
use Rattle.rmodel.specs.Reached.{IsReached}
use Rattle.rmodel.specs.State.{LockState}
use Rattle.rmodel.proofs.reaching.OneOfSeat.{not_nested}
use Rattle.rmodel.proofs.reaching.Soundness.{read_of_half}
use Rattle.rmodel.proofs.settling.Keeping.{not_false}

module _ (s : LockState) (reached : IsReached s) where
  later_not : (x y : Claimed) → Among x s.claims → Among y s.claims → AreHalves x.claim y.claim → x.claim.seat ≡ y.claim.seat → (w : Which) → waits_in w s.claims y ≡ false
  later_not x y in_x in_y h seated w = false_from (waits_in w s.claims y) (never w)
    where
      half : is_rising_half y.claim ≡ true
      half = and_from (is_upgrade y.claim.kind) y.claim.write_half h.upgrade h.writes

      never : (w : Which) → waits_in w s.claims y ≡ true → ⊥
      never First on = contrary (is_rising_half y.claim) half (not_false (is_rising_half y.claim) (and_parts (is_nothing (held_by y)) (not (is_rising_half y.claim)) on).1)
      never Rise on =
          let first = and_parts (is_rising_half y.claim) (not (has_read_claim s.claims y.claim)) (and_parts (is_rising_half y.claim && not (has_read_claim s.claims y.claim)) (not (is_satisfied y)) on).0 in
          contrary (has_read_claim s.claims y.claim)
          (any_among (λ z. (z.claim.seat == y.claim.seat) && not z.claim.write_half) s.claims x in_x
          (and_from (x.claim.seat == y.claim.seat) (not x.claim.write_half) (eq-eqb x.claim.seat y.claim.seat seated) (ap not (read_of_half x.claim h.reads))))
          (not_false (has_read_claim s.claims y.claim) first.1)
      never (Ask k) on =
          contrary (is_nested y.claim.kind) (asks_nested s reached y in_y (and_parts (not (is_nothing (held_by y))) (nat_lt 0 (len y.asked)) on).1) (not_nested y.claim.kind h.upgrade)

  one_each : (xs : Moment) → ((x : Claimed) → Among x xs → Among x s.claims) → EachPair Distinct xs → EachPair (OneWaits s.claims) xs
  one_each [] in_claims distinct = tt
  one_each (x ∷ xs) in_claims distinct = (
    all_from (OneWaits s.claims x) xs (λ y there seated w. later_not x y (in_claims x (inl refl)) (in_claims y (inr there)) (all_at (Distinct x) xs y distinct.0 there seated) seated w),
    one_each xs (λ y there. in_claims y (inr there)) distinct.1,
  )

  pub one_waits : EachPair (OneWaits s.claims) s.claims
  one_waits = one_each s.claims (λ x there. there) reached.sound.one_each
