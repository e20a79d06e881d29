-- A list of claims settles in one way at most.
use Rattle.std.proofs.Common.{◌≡◌, ℕ, zero, suc, ◌<◌, ◌≤◌, Bool, true, false, not, ◌&&◌, ◌||◌, nat_lt, List, refl, sym, ap, ◌∙◌, inl, inr, arith}
use Rattle.std.proofs.lemmas.Bool.{ltb-true, lt-ltb, or_right, or_cases, true≢false}
use Rattle.std.specs.List.{AllZip}
use Rattle.rclaim.specs.declared.claim.Claim.{Claim}
use Rattle.rclaim.specs.declared.claim.Status.{Status}
use Rattle.rclaim.specs.declared.claim.Status.TheVariants.{Waiting, Entitled, Satisfied}
use Rattle.rmodel.specs.declared.claimed.Claimed.{Claimed}
use Rattle.rmodel.specs.Claims.{is_satisfied, is_active, satisfied_by, active_by}
use Rattle.rmodel.specs.Rules.{is_kept_out, may_enter, is_held_up, is_kept, SettlesAt, Settles}
use Rattle.rmodel.proofs.ListFacts.{zip_join, zip_weaker, zip_equal, zip_each, zip_apply}
use Rattle.rmodel.proofs.settling.Alike.{counts, counts_more, Alike, SameSatisfied, may_enter_alike, is_held_up_alike, same_satisfied_alike, is_kept_same}

-- a status is told by whether it is satisfied and whether it is active
pub status_told : (a b : Status) → satisfied_by a ≡ satisfied_by b → active_by a ≡ active_by b → a ≡ b
status_told Waiting Waiting s t = refl
status_told Waiting Entitled s t = absurd (true≢false (sym t))
status_told Waiting Satisfied s t = absurd (true≢false (sym t))
status_told Entitled Waiting s t = absurd (true≢false t)
status_told Entitled Entitled s t = refl
status_told Entitled Satisfied s t = absurd (true≢false (sym s))
status_told Satisfied Waiting s t = absurd (true≢false t)
status_told Satisfied Entitled s t = absurd (true≢false s)
status_told Satisfied Satisfied s t = refl

told : (y z : Claimed) → y.claim ≡ z.claim → y.asked ≡ z.asked → y.granted ≡ z.granted → y.status ≡ z.status → y ≡ z
told y z c a g e = (λ i. record { claim = c i; status = e i; asked = a i; granted = g i })

pub both_cases : {P : Type 0} (b : Bool) → (b ≡ true → P) → (b ≡ false → P) → P
both_cases true yes' no' = yes' refl
both_cases false yes' no' = no' refl

module _ (s t u : List Claimed) (to_t : Settles s t) (to_u : Settles s u) where
  -- the two outcomes of a claim have one claim
  one_claim : (x y z : Claimed) → SettlesAt s t x y → SettlesAt s u x z → y.claim ≡ z.claim
  one_claim x y z a b = a.same ∙ sym b.same

  -- a write whose outcome follows from what is alike
  active_alike : (x y z : Claimed) → SettlesAt s t x y → SettlesAt s u x z → AllZip (Alike z.claim.stamp) t u → z.claim.write_half ≡ true → is_active y ≡ is_active z
  active_alike x y z a b zip w =
      a.entitlement (ap (λ c. c.write_half) (one_claim x y z a b) ∙ w)
      ∙ ap (λ c. is_active x || may_enter t c) (one_claim x y z a b)
      ∙ ap (λ m. is_active x || m) (may_enter_alike z.claim.stamp t u zip z.claim refl)
      ∙ sym (b.entitlement w)

  write_alike : (x y z : Claimed) → SettlesAt s t x y → SettlesAt s u x z → AllZip (Alike z.claim.stamp) t u → z.claim.write_half ≡ true → is_satisfied y ≡ is_satisfied z
  write_alike x y z a b zip w =
      a.satisfaction (ap (λ c. c.write_half) (one_claim x y z a b) ∙ w)
      ∙ ap (λ e. is_satisfied x || (e && not (is_held_up t y.claim))) (active_alike x y z a b zip w)
      ∙ ap (λ c. is_satisfied x || (is_active z && not (is_held_up t c))) (one_claim x y z a b)
      ∙ ap (λ h. is_satisfied x || (is_active z && not h)) (is_held_up_alike z.claim.stamp t u zip z.claim refl)
      ∙ sym (b.satisfaction w)

  read_alike : (x y z : Claimed) → SettlesAt s t x y → SettlesAt s u x z → z.claim.write_half ≡ false → is_satisfied y ≡ is_satisfied z
  read_alike x y z a b r =
      a.reads (ap (λ c. c.write_half) (one_claim x y z a b) ∙ r)
      ∙ ap (λ c. is_satisfied x || not (is_kept_out s c)) (one_claim x y z a b)
      ∙ sym (b.reads r)

  -- what is alike below a stamp is alike below a smaller one
  lower : (c : Claim) (n : ℕ) → AllZip (Alike n) t u → c.stamp ≤ n → AllZip (Alike c.stamp) t u
  lower c n zip le = zip_weaker (Alike n) (Alike c.stamp) (λ x y h. record { claim = h.claim; satisfied = λ k. h.satisfied (counts_more c.stamp n y.claim le k) }) t u zip

  at_most : (c : Claim) (n : ℕ) → c.write_half ≡ true → counts (suc n) c ≡ true → c.stamp ≤ n
  at_most c n w h = let below : c.stamp < suc n = ltb-true c.stamp (suc n) (ap (λ b. not b || nat_lt c.stamp (suc n)) (sym w) ∙ h) in omega arith

  -- the outcomes are equally satisfied below each stamp
  alike_below : (n : ℕ) → AllZip (Alike n) t u
  alike_below zero =
      zip_join (SettlesAt s t) (SettlesAt s u) (Alike zero)
      (λ x y z a b. record {
        claim = one_claim x y z a b;
        satisfied = λ h. elim (or_cases (not z.claim.write_half) (nat_lt z.claim.stamp zero) h) [
          | inl read ↦ read_alike x y z a b (read_of z.claim.write_half read)
          | inr low ↦ absurd (none_below z.claim.stamp (ltb-true z.claim.stamp zero low))
        ];
      })
      s t u to_t to_u
    where
      read_of : (w : Bool) → not w ≡ true → w ≡ false
      read_of true h = sym h
      read_of false h = refl

      none_below : (m : ℕ) → m < zero → ⊥
      none_below m h = omega arith
  alike_below (suc n) =
      zip_join (SettlesAt s t) (SettlesAt s u) (Alike (suc n))
      (λ x y z a b. record {
        claim = one_claim x y z a b;
        satisfied = λ h. both_cases z.claim.write_half
            (λ w. write_alike x y z a b (lower z.claim n (alike_below n) (at_most z.claim n w h)) w)
            (λ r. read_alike x y z a b r);
      })
      s t u to_t to_u

  same_satisfied : AllZip SameSatisfied t u
  same_satisfied =
      zip_weaker (λ y z. (n : ℕ) → Alike n y z) SameSatisfied
      (λ y z h. record { claim = (h zero).claim; satisfied = (h (suc z.claim.stamp)).satisfied (or_right (not z.claim.write_half) (nat_lt z.claim.stamp (suc z.claim.stamp)) (own z.claim.stamp)) })
      t u (zip_each Alike t u alike_below zero)
    where
      own : (m : ℕ) → nat_lt m (suc m) ≡ true
      own m = lt-ltb m (suc m) (omega arith)

  one_outcome : (x y z : Claimed) → SettlesAt s t x y → SettlesAt s u x z → SameSatisfied y z → y ≡ z
  one_outcome x y z a b same = told y z same.claim (a.asked ∙ sym b.asked) (a.granted ∙ sym b.granted) (status_told y.status z.status same.satisfied (both_cases z.claim.write_half
      (λ w. active_alike x y z a b (same_satisfied_alike z.claim.stamp t u same_satisfied) w)
      (λ r.
      a.kept_reads (ap (λ c. c.write_half) same.claim ∙ r)
      ∙ ap (λ e. e || is_kept t y.claim) same.satisfied
      ∙ ap (λ c. is_satisfied z || is_kept t c) same.claim
      ∙ ap (λ k. is_satisfied z || k) (is_kept_same t u same_satisfied z.claim)
      ∙ sym (b.kept_reads r))))

  pub only_one : t ≡ u
  only_one =
      zip_equal t u (zip_apply SameSatisfied (λ y z. y ≡ z) t u
      (zip_join (SettlesAt s t) (SettlesAt s u) (λ y z. SameSatisfied y z → y ≡ z) one_outcome s t u to_t to_u) same_satisfied)
