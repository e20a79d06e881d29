-- What is answered of a wait of a request is its bound.
use Rattle.std.proofs.Common.{◌≡◌, ◌<◌, ◌&&◌, ◌==◌, ℕ, Bool, true, false, cond, List, [], ◌∷◌, length, slice_get, Option, Some, None, IfSome, IsTrue, refl, sym, ap, subst, ◌∙◌, inl, inr}
use Rattle.std.specs.Prelude.{find}
use Rattle.std.specs.FinSet.{intersection}
use Rattle.std.proofs.lemmas.Bool.{eqb-true, and_parts}
use Rattle.rset.specs.Sets.{Set, all_below}
use Rattle.rset.specs.declared.TheConstants.{RESOURCES}
use Rattle.rmodel.specs.WellFormed.{Among}
use Rattle.rmodel.proofs.settling.OneSettlement.{both_cases}
use Rattle.rbound.specs.Needs.{Needed, is_of_request, first_need, write_need}
use Rattle.rbound.specs.TaskNeeds.{TaskNeeds, asks_at, needed_in, bound_of, bound_of_part}
use Rattle.rbound.specs.Bounds.{no_wait, write_bound, read_bound, bound_of_first, bound_of_rise, bound_of_ask}
use Rattle.rbound.specs.declared.which.Which.{Which}
use Rattle.rbound.specs.declared.which.Which.TheVariants.{First, Rise, Ask}
use Rattle.rbound_table.specs.Answers.{AreAnswers, write_answer, read_answer, first_answer, rise_answer, asked_answer}
use Rattle.rbound_table.specs.declared.answers.Answers.{Answers}
use Rattle.rbound_table.proofs.AnswerFacts.{writes_answered, reads_answered, asks_answered}

-- what is found is in the list, and passes
found : (p : Needed → Bool) (ns : List Needed) (n : Needed) → find p ns ≡ Some n → Among n ns × (p n ≡ true)
found p [] n is = absurd cc
found p (m ∷ ns) n is = at (p m) refl is (found p ns n)
  where
    at : (b : Bool) → p m ≡ b → cond b (Some m) (find p ns) ≡ Some n → (find p ns ≡ Some n → Among n ns × (p n ≡ true)) → Among n (m ∷ ns) × (p n ≡ true)
    at true h e rest = let same : m ≡ n = cc in (inl (sym same), ap p (sym same) ∙ h)
    at false h e rest = let r = rest e in (inr r.0, r.1)

module _ (ns : List Needed) (tasks : ℕ) (a : Answers) (so : AreAnswers ns tasks a) (task k : ℕ) (some : task < tasks) where
  seat_is : (n : Needed) → is_of_request task k n ≡ true → n.claim.seat < tasks
  seat_is n h = let seat = eqb-true n.claim.seat task (and_parts (n.claim.seat == task) (n.claim.stamp == k) h).0 in subst (λ (t : ℕ). t < tasks) (sym seat) some

  first_is : (n : Needed) → first_need ns task k ≡ Some n → IsTrue (all_below RESOURCES n.claim.reads) → first_answer a n.claim ≡ bound_of_first ns tasks a.cap (first_need ns task k)
  first_is n is below =
      let there = found (is_of_request task k) ns n is in
      both_cases n.claim.write_half
      (λ h.
      ap (λ b. cond b (write_answer a n.claim.seat n.claim.places) (read_answer a n.claim)) h
      ∙ writes_answered ns tasks a so n there.0 h
      ∙ sym (ap (λ b. cond b (write_bound ns tasks a.cap n.claim) (read_bound ns n.claim)) h))
      (λ h.
      ap (λ b. cond b (write_answer a n.claim.seat n.claim.places) (read_answer a n.claim)) h
      ∙ reads_answered ns tasks a so n.claim (seat_is n there.1) (so.sound.writes n there.0 h) below
      ∙ sym (ap (λ b. cond b (write_bound ns tasks a.cap n.claim) (read_bound ns n.claim)) h))
      ∙ sym (ap (bound_of_first ns tasks a.cap) is)

  write_found : (n : Needed) → write_need ns task k ≡ Some n → Among n ns × (is_of_request task k n ≡ true) × (n.claim.write_half ≡ true)
  write_found n is =
      let there = found (λ m. is_of_request task k m && m.claim.write_half) ns n is in
      let parts = and_parts (is_of_request task k n) n.claim.write_half there.1 in
      (there.0, parts.0, parts.1)

  rise_is : (o : Option Needed) → write_need ns task k ≡ o → rise_answer a o ≡ bound_of_rise ns tasks a.cap o
  rise_is None is = refl
  rise_is (Some n) is = let w = write_found n is in writes_answered ns tasks a so n w.0 w.2

  ask_is : (part : Set) (o : Option Needed) → write_need ns task k ≡ o → IfSome o (λ n. IsTrue (all_below RESOURCES (intersection part n.claim.writes))) → asked_answer a part o ≡ bound_of_ask ns part o
  ask_is part None is below = refl
  ask_is part (Some n) is below = let w = write_found n is in asks_answered ns tasks a so n.claim part (seat_is n w.1) below

-- ---- from the needs

module _ (needs : TaskNeeds) (a : Answers) (so : AreAnswers (needed_in needs) (length needs.tasks) a) (task k : ℕ) (some : task < length needs.tasks) (which : Which) where
  pub first_bounds : (n : Needed) → which ≡ First → first_need (needed_in needs) task k ≡ Some n → IsTrue (all_below RESOURCES n.claim.reads) → first_answer a n.claim ≡ bound_of needs a.cap task k which
  first_bounds n is of below = first_is (needed_in needs) (length needs.tasks) a so task k some n of below ∙ sym (ap (bound_of needs a.cap task k) is)

  pub rise_bounds : (o : Option Needed) → which ≡ Rise → o ≡ write_need (needed_in needs) task k → rise_answer a o ≡ bound_of needs a.cap task k which
  rise_bounds o is of =
      rise_is (needed_in needs) (length needs.tasks) a so task k some o (sym of) ∙ ap (bound_of_rise (needed_in needs) (length needs.tasks) a.cap) of ∙ sym (ap (bound_of needs a.cap task k) is)

  pub ask_bounds : (i : ℕ) (part : Set) (o : Option Needed) → which ≡ Ask i → Some part ≡ slice_get (asks_at needs.tasks task k) i → o ≡ write_need (needed_in needs) task k
      → IfSome o (λ n. IsTrue (all_below RESOURCES (intersection part n.claim.writes))) → asked_answer a part o ≡ bound_of needs a.cap task k which
  ask_bounds i part o is at of below =
      ask_is (needed_in needs) (length needs.tasks) a so task k some part o (sym of) below
      ∙ ap (bound_of_ask (needed_in needs) part) of
      ∙ ap (bound_of_part (needed_in needs) task k) at
      ∙ sym (ap (bound_of needs a.cap task k) is)

  pub no_ask_bounds : (i : ℕ) → which ≡ Ask i → None ≡ slice_get (asks_at needs.tasks task k) i → no_wait ≡ bound_of needs a.cap task k which
  no_ask_bounds i is at = ap (bound_of_part (needed_in needs) task k) at ∙ sym (ap (bound_of needs a.cap task k) is)
