-- What records of one word say, from what their fields say.
use Rattle.std.proofs.Common.{◌≡◌, ℕ, Bool, true, false, ◌&&◌, cond, List, Some, None, refl, sym, ap, true≢false}
use Rattle.std.specs.Prelude.{option_map}
use Rattle.rset.specs.Names.{number_in}
use Rattle.rset.specs.Sets.{Set}
use Rattle.rclaim.specs.declared.event.Event.TheVariants as event
use Rattle.rtrace_form.specs.Records.{Row}
use Rattle.rtrace_form.specs.Numbers.{is_number, read_on, number_told}
use Rattle.rtrace_form.specs.SetFields.{set_told}
use Rattle.rtrace_form.specs.Fields.{paired, all_counted}
use Rattle.rtrace_form.specs.Decided.{field_of}
use Rattle.rtrace_form.specs.Words.{fields_of}
use Rattle.rtrace_form.specs.Lines.{Happens, Does, Grants, Leaves, HasGroup, line_by}
use Rattle.rtrace_form.specs.Reports.{status_line}
use Rattle.rtrace_form.specs.declared.word.Word.{Word}
use Rattle.rtrace_form.specs.declared.word.Word.TheVariants as word
use Rattle.rtrace_form.proofs.facts.Choices.{some_none}
use Rattle.rtrace_form.proofs.facts.ReadGood.{chosen}
use Rattle.rtrace_form.specs.Told.{names_by, IsOf, Says, IsUnknown, is_act, is_status, is_event, act_by, change_by}
use Rattle.rtrace_form.proofs.Places.{says_at, unknown_at, uncounted_at}

pub number_is : (x : List ℕ) (n : ℕ) → number_told x ≡ Some n → is_number x ≡ true
number_is x n h = (chosen (is_number x) (read_on 0 x) n h).0

pub number_none : (x : List ℕ) → number_told x ≡ None → is_number x ≡ false
number_none x h = at (is_number x) h
  where
    at : (b : Bool) → cond b (Some (read_on 0 x)) None ≡ None → b ≡ false
    at true e = absurd (some_none (sym e))
    at false e = refl

-- the word of an event that is not any of the others is that of an ask
pub ask_by : (w : Word) → is_event w ≡ true → ((kind : _) → w ≡ word.Issue kind → ⊥) → (w ≡ word.Finish → ⊥) → (w ≡ word.Rise → ⊥) → w ≡ word.Ask
ask_by (word.Issue kind) h a b c = absurd (a kind refl)
ask_by word.Finish h a b c = absurd (b refl)
ask_by word.Rise h a b c = absurd (c refl)
ask_by word.Ask h a b c = refl
ask_by _ h a b c = absurd (true≢false (sym h))

-- a change in a record is of the seat that the record names
pub change_seat : (w : Word) (seat : ℕ) → (change_by w seat).seat ≡ seat
change_seat (word.Entitled half) seat = refl
change_seat (word.Satisfied half) seat = refl
change_seat _ seat = refl

module _ (rs ts : List (List ℕ)) (row : Row) where
  -- ---- events

  pub finish_says : (seat : ℕ) → IsOf word.Finish row → number_in ts (field_of row 1) ≡ Some seat → Says (names_by rs ts) word.Finish row (Happens (event.Finish seat))
  finish_says seat form task = says_at (names_by rs ts) word.Finish row form _ refl (ap (λ o. option_map (line_by word.Finish) (paired o (Some tt))) task)

  pub rise_says : (seat : ℕ) → IsOf word.Rise row → number_in ts (field_of row 1) ≡ Some seat → Says (names_by rs ts) word.Rise row (Happens (event.Rise seat))
  rise_says seat form task = says_at (names_by rs ts) word.Rise row form _ refl (ap (λ o. option_map (line_by word.Rise) (paired o (Some tt))) task)

  pub ask_says : (seat : ℕ) (set : Set) → IsOf word.Ask row → number_in ts (field_of row 1) ≡ Some seat → set_told rs (field_of row 2) ≡ Some set
      → Says (names_by rs ts) word.Ask row (Happens (event.Ask seat set))
  ask_says seat set form task members =
      says_at (names_by rs ts) word.Ask row form _ refl (λ i. option_map (line_by word.Ask) (paired (task i) (paired (members i) (Some tt))))

  pub ask_unknown : (seat : ℕ) → IsOf word.Ask row → number_in ts (field_of row 1) ≡ Some seat → set_told rs (field_of row 2) ≡ None → IsUnknown (names_by rs ts) word.Ask row
  ask_unknown seat form task members = unknown_at (names_by rs ts) word.Ask row form refl (λ i. paired (task i) (paired (members i) (Some tt)))

  pub finish_unknown : IsOf word.Finish row → number_in ts (field_of row 1) ≡ None → IsUnknown (names_by rs ts) word.Finish row
  finish_unknown form none = unknown_at (names_by rs ts) word.Finish row form refl (ap (λ o. paired o (Some tt)) none)

  -- an event that is not an issue names a task that is not declared
  pub task_unknown : (w : Word) → is_event w ≡ true → ((kind : _) → w ≡ word.Issue kind → ⊥) → IsOf w row → number_in ts (field_of row 1) ≡ None → IsUnknown (names_by rs ts) w row
  task_unknown (word.Issue kind) h other form none = absurd (other kind refl)
  task_unknown word.Finish h other form none = finish_unknown form none
  task_unknown word.Rise h other form none = unknown_at (names_by rs ts) word.Rise row form refl (ap (λ o. paired o (Some tt)) none)
  task_unknown word.Ask h other form none = unknown_at (names_by rs ts) word.Ask row form refl (ap (λ o. paired o (paired (set_told rs (field_of row 2)) (Some tt))) none)
  task_unknown _ h other form none = absurd (true≢false (sym h))

  -- ---- acts

  pub act_says : (w : Word) (place n : ℕ) → is_act w ≡ true → IsOf w row → number_in rs (field_of row 1) ≡ Some place → number_told (field_of row 2) ≡ Some n
      → Says (names_by rs ts) w row (Does (act_by w place n))
  act_says word.Show place n h form at told =
      says_at (names_by rs ts) word.Show row form _ (ap (λ b. b && true) (number_is (field_of row 2) n told)) (λ i. option_map (line_by word.Show) (paired (at i) (paired (told i) (Some tt))))
  act_says (word.Add done) place n h form at told =
      says_at (names_by rs ts) (word.Add done) row form _ (ap (λ b. b && true) (number_is (field_of row 2) n told)) (λ i. option_map (line_by (word.Add done)) (paired (at i) (paired (told i) (Some tt))))
  act_says (word.Take done) place n h form at told =
      says_at (names_by rs ts) (word.Take done) row form _ (ap (λ b. b && true) (number_is (field_of row 2) n told)) (λ i. option_map (line_by (word.Take done)) (paired (at i) (paired (told i) (Some tt))))
  act_says (word.Put done) place n h form at told =
      says_at (names_by rs ts) (word.Put done) row form _ (ap (λ b. b && true) (number_is (field_of row 2) n told)) (λ i. option_map (line_by (word.Put done)) (paired (at i) (paired (told i) (Some tt))))
  act_says _ place n h form at told = absurd (true≢false (sym h))

  pub act_unknown : (w : Word) (n : ℕ) → is_act w ≡ true → IsOf w row → number_in rs (field_of row 1) ≡ None → number_told (field_of row 2) ≡ Some n → IsUnknown (names_by rs ts) w row
  act_unknown word.Show n h form at told = unknown_at (names_by rs ts) word.Show row form (ap (λ b. b && true) (number_is (field_of row 2) n told)) (λ i. paired (at i) (paired (told i) (Some tt)))
  act_unknown (word.Add done) n h form at told = unknown_at (names_by rs ts) (word.Add done) row form (ap (λ b. b && true) (number_is (field_of row 2) n told)) (λ i. paired (at i) (paired (told i) (Some tt)))
  act_unknown (word.Take done) n h form at told = unknown_at (names_by rs ts) (word.Take done) row form (ap (λ b. b && true) (number_is (field_of row 2) n told)) (λ i. paired (at i) (paired (told i) (Some tt)))
  act_unknown (word.Put done) n h form at told = unknown_at (names_by rs ts) (word.Put done) row form (ap (λ b. b && true) (number_is (field_of row 2) n told)) (λ i. paired (at i) (paired (told i) (Some tt)))
  act_unknown _ n h form at told = absurd (true≢false (sym h))

  pub act_uncounted : (w : Word) → is_act w ≡ true → IsOf w row → number_told (field_of row 2) ≡ None → all_counted (fields_of w) row ≡ false
  act_uncounted word.Show h form none = uncounted_at (names_by rs ts) word.Show row form (ap (λ b. b && true) (number_none (field_of row 2) none))
  act_uncounted (word.Add done) h form none = uncounted_at (names_by rs ts) (word.Add done) row form (ap (λ b. b && true) (number_none (field_of row 2) none))
  act_uncounted (word.Take done) h form none = uncounted_at (names_by rs ts) (word.Take done) row form (ap (λ b. b && true) (number_none (field_of row 2) none))
  act_uncounted (word.Put done) h form none = uncounted_at (names_by rs ts) (word.Put done) row form (ap (λ b. b && true) (number_none (field_of row 2) none))
  act_uncounted _ h form none = absurd (true≢false (sym h))

  -- ---- changes of a status, and grants

  pub change_says : (w : Word) (seat : ℕ) → is_status w ≡ true → IsOf w row → number_in ts (field_of row 1) ≡ Some seat → Says (names_by rs ts) w row (status_line (change_by w seat))
  change_says (word.Entitled half) seat h form task = says_at (names_by rs ts) (word.Entitled half) row form _ refl (ap (λ o. option_map (line_by (word.Entitled half)) (paired o (Some tt))) task)
  change_says (word.Satisfied half) seat h form task = says_at (names_by rs ts) (word.Satisfied half) row form _ refl (ap (λ o. option_map (line_by (word.Satisfied half)) (paired o (Some tt))) task)
  change_says _ seat h form task = absurd (true≢false (sym h))

  pub change_unknown : (w : Word) → is_status w ≡ true → IsOf w row → number_in ts (field_of row 1) ≡ None → IsUnknown (names_by rs ts) w row
  change_unknown (word.Entitled half) h form none = unknown_at (names_by rs ts) (word.Entitled half) row form refl (ap (λ o. paired o (Some tt)) none)
  change_unknown (word.Satisfied half) h form none = unknown_at (names_by rs ts) (word.Satisfied half) row form refl (ap (λ o. paired o (Some tt)) none)
  change_unknown _ h form none = absurd (true≢false (sym h))

  pub grant_says : (seat : ℕ) (set : Set) → IsOf word.Grant row → number_in ts (field_of row 1) ≡ Some seat → set_told rs (field_of row 2) ≡ Some set → Says (names_by rs ts) word.Grant row (Grants seat set)
  grant_says seat set form task members =
      says_at (names_by rs ts) word.Grant row form _ refl (λ i. option_map (line_by word.Grant) (paired (task i) (paired (members i) (Some tt))))

  pub grant_no_task : IsOf word.Grant row → number_in ts (field_of row 1) ≡ None → IsUnknown (names_by rs ts) word.Grant row
  grant_no_task form none = unknown_at (names_by rs ts) word.Grant row form refl (ap (λ o. paired o (paired (set_told rs (field_of row 2)) (Some tt))) none)

  pub grant_unknown : (seat : ℕ) → IsOf word.Grant row → number_in ts (field_of row 1) ≡ Some seat → set_told rs (field_of row 2) ≡ None → IsUnknown (names_by rs ts) word.Grant row
  grant_unknown seat form task members = unknown_at (names_by rs ts) word.Grant row form refl (λ i. paired (task i) (paired (members i) (Some tt)))

  -- ---- ledgers

  two_numbers : (a b : Bool) → a ≡ true → b ≡ true → (a && (b && true)) ≡ true
  two_numbers a b p q = rw (p, q) refl

  pub ledger_says : (place balance edits : ℕ) → IsOf word.Ledger row → number_in rs (field_of row 1) ≡ Some place → number_told (field_of row 2) ≡ Some balance → number_told (field_of row 3) ≡ Some edits
      → Says (names_by rs ts) word.Ledger row (Leaves place (record { balance = balance; edits = edits }))
  ledger_says place balance edits form at low high =
      says_at (names_by rs ts) word.Ledger row form _ (two_numbers _ _ (number_is (field_of row 2) balance low) (number_is (field_of row 3) edits high))
      (λ i. option_map (line_by word.Ledger) (paired (at i) (paired (low i) (paired (high i) (Some tt)))))

  pub ledger_unknown : (balance edits : ℕ) → IsOf word.Ledger row → number_in rs (field_of row 1) ≡ None → number_told (field_of row 2) ≡ Some balance → number_told (field_of row 3) ≡ Some edits
      → IsUnknown (names_by rs ts) word.Ledger row
  ledger_unknown balance edits form at low high =
      unknown_at (names_by rs ts) word.Ledger row form (two_numbers _ _ (number_is (field_of row 2) balance low) (number_is (field_of row 3) edits high))
      (λ i. paired (at i) (paired (low i) (paired (high i) (Some tt))))

  pub ledger_no_balance : IsOf word.Ledger row → number_told (field_of row 2) ≡ None → all_counted (fields_of word.Ledger) row ≡ false
  ledger_no_balance form none = uncounted_at (names_by rs ts) word.Ledger row form (ap (λ b. b && (is_number (field_of row 3) && true)) (number_none (field_of row 2) none))

  and_false : (a b : Bool) → b ≡ false → (a && (b && true)) ≡ false
  and_false true b h = ap (λ x. x && true) h
  and_false false b h = refl

  pub ledger_no_edits : IsOf word.Ledger row → number_told (field_of row 3) ≡ None → all_counted (fields_of word.Ledger) row ≡ false
  ledger_no_edits form none = uncounted_at (names_by rs ts) word.Ledger row form (and_false (is_number (field_of row 2)) (is_number (field_of row 3)) (number_none (field_of row 3) none))

  -- ---- groups

  pub group_says : (set : Set) → IsOf word.Group row → set_told rs (field_of row 1) ≡ Some set → Says (names_by rs ts) word.Group row (HasGroup set)
  group_says set form members = says_at (names_by rs ts) word.Group row form _ refl (ap (λ o. option_map (line_by word.Group) (paired o (Some tt))) members)

  pub group_unknown : IsOf word.Group row → set_told rs (field_of row 1) ≡ None → IsUnknown (names_by rs ts) word.Group row
  group_unknown form members = unknown_at (names_by rs ts) word.Group row form refl (ap (λ o. paired o (Some tt)) members)
