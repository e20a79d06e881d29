-- The leaders give the two longest of all tasks but any one.
use Rattle.std.proofs.Common.{◌≡◌, ◌==◌, ◌⊎◌, ℕ, Bool, true, false, cond, Option, Some, None, refl, sym, ap, ◌∙◌, inl, inr}
use Rattle.std.specs.List.{range_with_len}
use Rattle.std.proofs.lemmas.Bool.Decides.{eqb_tells}
use Rattle.rmodel.specs.WellFormed.{Among}
use Rattle.rbound.specs.Longest.{longer, longest_of}
use Rattle.rbound.specs.ZoneRows.{beside}
use Rattle.rbound.proofs.LongestClaims.{longest_of_same}
use Rattle.rbound.proofs.BesideFacts.{unless_me, beside_is}
use Rattle.rbound_table.specs.Two.{two_at, two_of}
use Rattle.rbound_table.specs.Leaders.{leaders_of, led_beside}
use Rattle.rbound_table.specs.declared.two.TwoLongest.{TwoLongest}
use Rattle.rbound_table.proofs.TwoFacts.{IsFair, two_beside_at, two_beside_fair, two_of_leads, longest_is_of_all}
use Rattle.rbound_table.proofs.TopFacts.{in_longest, over_all, top_is, under_unless}

crossed : (b c : Bool) (o : Option ℕ) → cond b None (cond c None o) ≡ cond c None (cond b None o)
crossed true true o = refl
crossed true false o = refl
crossed false c o = refl

nothing_longer : (top x : Option ℕ) → top ≡ None → longer top x ≡ top → x ≡ top
nothing_longer None x none h = h
nothing_longer (Some a) x none h = absurd cc

module _ (tasks but me : ℕ) (f : ℕ → Option ℕ) where
  -- the longest of all tasks but two is the same, whichever of the two is left out first
  exchanged : beside tasks but (λ t. cond (t == me) None (f t)) ≡ beside tasks me (λ t. cond (t == but) None (f t))
  exchanged =
      beside_is tasks but (λ t. cond (t == me) None (f t))
      ∙ longest_of_same (unless_me but (λ t. cond (t == me) None (f t))) (unless_me me (λ t. cond (t == but) None (f t))) (range_with_len 0 tasks) (λ t there. crossed (t == but) (t == me) (f t))
      ∙ sym (beside_is tasks me (λ t. cond (t == but) None (f t)))

  -- where the longest of all is of neither task, it is the longest of the others
  of_neither : ((two_of tasks f).task == but) ≡ false → ((two_of tasks f).task == me) ≡ false → (two_of tasks f).longest ≡ beside tasks me (λ t. cond (t == but) None (f t))
  of_neither first second = sym (beside_is tasks me (λ t. cond (t == but) None (f t)) ∙ at (two_of_leads tasks f))
    where
      top : Option ℕ
      top = (two_of tasks f).longest

      rest : ℕ → Option ℕ
      rest = unless_me me (λ t. cond (t == but) None (f t))

      over : (t : ℕ) → Among t (range_with_len 0 tasks) → longer top (rest t) ≡ top
      over t there =
          under_unless (t == me) top (cond (t == but) None (f t))
          (under_unless (t == but) top (f t) (ap (λ x. longer x (f t)) (longest_is_of_all tasks f) ∙ in_longest f (range_with_len 0 tasks) t there ∙ sym (longest_is_of_all tasks f)))

      at : (top ≡ None) ⊎ (Among (two_of tasks f).task (range_with_len 0 tasks) × (f (two_of tasks f).task ≡ top)) → longest_of rest (range_with_len 0 tasks) ≡ top
      at (inl none) = nothing_longer top (longest_of rest (range_with_len 0 tasks)) none (over_all rest (range_with_len 0 tasks) top over)
      at (inr some) =
          top_is rest (range_with_len 0 tasks) top over (two_of tasks f).task some.0
          (ap (λ c. cond c None (cond ((two_of tasks f).task == but) None (f (two_of tasks f).task))) second ∙ ap (λ c. cond c None (f (two_of tasks f).task)) first ∙ some.1)

  -- *The leaders give the longest of all tasks but two*
  pub led_beside_at : two_at (led_beside (leaders_of tasks f) but) me ≡ beside tasks me (λ t. cond (t == but) None (f t))
  led_beside_at = elim (eqb_tells (two_of tasks f).task but) [
    | inl same ↦
        ap (λ c. two_at (cond c (leaders_of tasks f).others others_led) me) same.0
        ∙ two_beside_at tasks (two_of tasks f).task me f
        ∙ ap (λ k. beside tasks me (λ t. cond (t == k) None (f t))) same.1
    | inr other ↦ ap (λ c. two_at (cond c (leaders_of tasks f).others others_led) me) other.0 ∙ elim (eqb_tells (two_of tasks f).task me) [
      | inl mine ↦
          ap (λ c. cond c (two_at (leaders_of tasks f).others but) (two_of tasks f).longest) mine.0
          ∙ two_beside_at tasks (two_of tasks f).task but f
          ∙ ap (λ k. beside tasks but (λ t. cond (t == k) None (f t))) mine.1
          ∙ exchanged
      | inr apart ↦ ap (λ c. cond c (two_at (leaders_of tasks f).others but) (two_of tasks f).longest) apart.0 ∙ of_neither other.0 apart.0
    ]
  ]
    where
      others_led : TwoLongest
      others_led = record { task = (two_of tasks f).task; longest = (two_of tasks f).longest; next = two_at (leaders_of tasks f).others but }

pub led_beside_fair : (tasks but : ℕ) (f : ℕ → Option ℕ) → IsFair (led_beside (leaders_of tasks f) but)
led_beside_fair tasks but f = at ((two_of tasks f).task == but)
  where
    top : Option ℕ
    top = (two_of tasks f).longest

    rest : ℕ → Option ℕ
    rest t = cond (t == (two_of tasks f).task) None (f t)

    over : (t : ℕ) → Among t (range_with_len 0 tasks) → longer top (unless_me but rest t) ≡ top
    over t there =
        under_unless (t == but) top (rest t)
        (under_unless (t == (two_of tasks f).task) top (f t) (ap (λ x. longer x (f t)) (longest_is_of_all tasks f) ∙ in_longest f (range_with_len 0 tasks) t there ∙ sym (longest_is_of_all tasks f)))

    at : (c : Bool) → IsFair (cond c (leaders_of tasks f).others (record { task = (two_of tasks f).task; longest = top; next = two_at (leaders_of tasks f).others but }))
    at true = two_beside_fair tasks (two_of tasks f).task f
    at false = ap (longer top) (two_beside_at tasks (two_of tasks f).task but f ∙ beside_is tasks but rest) ∙ over_all (unless_me but rest) (range_with_len 0 tasks) top over
