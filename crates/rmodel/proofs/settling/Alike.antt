-- What the tests of the rules read of a list: each claim, and whether it is satisfied, of writes of smaller stamp alone.
use Rattle.std.proofs.Common.{◌≡◌, ℕ, ◌<◌, ◌≤◌, Bool, true, false, not, ◌&&◌, ◌||◌, nat_lt, List, refl, sym, ap, ◌∙◌, inl, inr, arith}
use Rattle.std.proofs.lemmas.Bool.{ltb-true, lt-ltb, or_left, or_right, or_cases}
use Rattle.std.specs.List.{AllZip}
use Rattle.rset.specs.Sets.{meets}
use Rattle.rclaim.specs.declared.claim.Claim.{Claim}
use Rattle.rmodel.specs.declared.claimed.Claimed.{Claimed}
use Rattle.rmodel.specs.Claims.{conflicts, touches, share_place, is_satisfied}
use Rattle.rmodel.specs.Rules.{is_earlier_write, has_read_between, may_enter, is_held_up, is_kept}
use Rattle.rmodel.proofs.ListFacts.{any_zip, all_zip, zip_weaker}

-- a read, or a write of a stamp below n
abbrev pub counts : ℕ → Claim → Bool
counts n c = not c.write_half || nat_lt c.stamp n

-- one claim, equally satisfied where it counts below n
pub record Alike (n : ℕ) (x y : Claimed) : Type 0 where
  pub claim : x.claim ≡ y.claim
  pub satisfied : counts n y.claim ≡ true → is_satisfied x ≡ is_satisfied y

-- one claim, equally satisfied
pub record SameSatisfied (x y : Claimed) : Type 0 where
  pub claim : x.claim ≡ y.claim
  pub satisfied : is_satisfied x ≡ is_satisfied y

-- a test that reads no more answers alike
alike_test : (n : ℕ) (F : Claim → Bool → Bool) → ((k : Claim) (a b : Bool) → (counts n k ≡ true → a ≡ b) → F k a ≡ F k b)
    → (x y : Claimed) → Alike n x y → F x.claim (is_satisfied x) ≡ F y.claim (is_satisfied y)
alike_test n F reads x y same = ap (λ k. F k (is_satisfied x)) same.claim ∙ reads y.claim (is_satisfied x) (is_satisfied y) same.satisfied

waits_alike : (w l a b p q : Bool) → ((not w || l) ≡ true → a ≡ b) → (not w && not a && p && q) ≡ (not w && not b && p && q)
waits_alike true l a b p q same = refl
waits_alike false l a b p q same = ap (λ c. true && not c && p && q) (same refl)

makes_way_alike : (w l a b s p q : Bool) → ((not w || l) ≡ true → a ≡ b) → (not ((w && l) && s) || (a && p && q)) ≡ (not ((w && l) && s) || (b && p && q))
makes_way_alike false l a b s p q same = refl
makes_way_alike true false a b s p q same = refl
makes_way_alike true true a b s p q same = ap (λ c. not s || (c && p && q)) (same refl)

and_false : (a : Bool) → (a && false) ≡ false
and_false true = refl
and_false false = refl

holds_up_alike : (w l a b p : Bool) → ((not w || l) ≡ true → a ≡ b) → (a && (not w || (w && l)) && p) ≡ (b && (not w || (w && l)) && p)
holds_up_alike false l a b p same = ap (λ c. c && true && p) (same refl)
holds_up_alike true true a b p same = ap (λ c. c && true && p) (same refl)
holds_up_alike true false a b p same = ap (λ c. c && p) (and_false a ∙ sym (and_false b))

module _ (n : ℕ) (xs ys : List Claimed) (zip : AllZip (Alike n) xs ys) where
  pub has_read_between_alike : (v c : Claim) → has_read_between xs v c ≡ has_read_between ys v c
  has_read_between_alike v c =
      any_zip (Alike n) _ _
      (alike_test n (λ k a. not k.write_half && not a && conflicts k v && touches k c.places)
      (λ k a b same. waits_alike k.write_half (nat_lt k.stamp n) a b (conflicts k v) (touches k c.places) same))
      xs ys zip

  pub may_enter_alike : (c : Claim) → c.stamp ≡ n → may_enter xs c ≡ may_enter ys c
  may_enter_alike c is =
      all_zip (Alike n) _ _
      (λ x y same.
      ap (λ r. not (is_earlier_write c x.claim && share_place x.claim c) || (is_satisfied x && not (meets x.claim.writes c.places) && not r)) (has_read_between_alike x.claim c)
      ∙ alike_test n (λ k a. not (is_earlier_write c k && share_place k c) || (a && not (meets k.writes c.places) && not (has_read_between ys k c)))
      (λ k a b h. makes_way_alike k.write_half (nat_lt k.stamp c.stamp) a b (share_place k c) (not (meets k.writes c.places)) (not (has_read_between ys k c))
      (λ t. h (ap (λ m. not k.write_half || nat_lt k.stamp m) (sym is) ∙ t)))
      x y same)
      xs ys zip

  pub is_held_up_alike : (c : Claim) → c.stamp ≡ n → is_held_up xs c ≡ is_held_up ys c
  is_held_up_alike c is =
      any_zip (Alike n) _ _
      (alike_test n (λ k a. a && (not k.write_half || is_earlier_write c k) && conflicts k c)
      (λ k a b h. holds_up_alike k.write_half (nat_lt k.stamp c.stamp) a b (conflicts k c)
      (λ t. h (ap (λ m. not k.write_half || nat_lt k.stamp m) (sym is) ∙ t))))
      xs ys zip

pub same_satisfied_alike : (n : ℕ) (xs ys : List Claimed) → AllZip SameSatisfied xs ys → AllZip (Alike n) xs ys
same_satisfied_alike n xs ys zip = zip_weaker SameSatisfied (Alike n) (λ x y h. record { claim = h.claim; satisfied = λ _. h.satisfied }) xs ys zip

pub is_kept_same : (xs ys : List Claimed) → AllZip SameSatisfied xs ys → (c : Claim) → is_kept xs c ≡ is_kept ys c
is_kept_same xs ys zip c =
    any_zip SameSatisfied _ _ (λ x y h. ap (λ k. k.write_half && is_satisfied x && conflicts k c) h.claim ∙ ap (λ a. y.claim.write_half && a && conflicts y.claim c) h.satisfied) xs ys zip

-- what counts below a stamp counts below a greater one
pub counts_more : (m n : ℕ) (c : Claim) → m ≤ n → counts m c ≡ true → counts n c ≡ true
counts_more m n c le h =
    elim (or_cases (not c.write_half) (nat_lt c.stamp m) h) [
      | inl read ↦ or_left (not c.write_half) (nat_lt c.stamp n) read
      | inr low ↦ or_right (not c.write_half) (nat_lt c.stamp n) (let below : c.stamp < m = ltb-true c.stamp m low in lt-ltb c.stamp n (omega arith))
    ]
