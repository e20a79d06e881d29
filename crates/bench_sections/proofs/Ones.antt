-- What entries that only add 1s do to the ledgers.
use Rattle.std.proofs.Common.{◌≡◌, ℕ, zero, suc, ◌+◌, ◌-◌, ◌*◌, ◌/◌, ◌%◌, ◌<◌, ◌≤◌, ◌==◌, Bool, true, false, cond, List, [], ◌∷◌, ◌++◌, map, length, fold, refl, sym, ap, subst, ◌∙◌, inl, inr, arith, append-nil, append_assoc, length-append}
use Rattle.std.specs.List.{AllByRecursion, range_with_len, sum_by}
use Rattle.std.proofs.lemmas.Bool.{eqb-true, cases_eq, eq-eqb, ne_eqb}
use Rattle.std.proofs.lemmas.List.Sums.{sum_by-cons, sum_by-append}
use Rattle.rset.specs.declared.TheConstants.{RESOURCES}
use Rattle.rset.specs.Sets.{Set}
use Rattle.rclaim.specs.declared.event.Event.TheVariants.{Issue, Finish}
use Rattle.rmodel.proofs.ListFacts.{all_append}
use Rattle.rvalue.specs.InTurn.{AllInTurn}
use Rattle.rvalue.specs.declared.act.Act.{Act}
use Rattle.rvalue.specs.declared.act.Act.TheVariants.{Edited, Shown}
use Rattle.rvalue.specs.declared.ledger.Ledger.{Ledger}
use Rattle.rvalue.specs.declared.ledger.Edit.{Edit}
use Rattle.rvalue.specs.declared.ledger.Edit.TheVariants.{Add}
use Rattle.rvalue.specs.Ledgers.{opening_ledger, is_taken, value_after}
use Rattle.rvalue.specs.Acts.{edits_in, value_within, IsAnsweredAfter, AnswersAreRight}
use Rattle.rvalue.specs.Entries.{EntryFields, is_finish, edits_of}
use Rattle.rvalue.specs.Histories.{edits_on, value_of, EntryAnswersRightly}
use Rattle.rvalue.proofs.ValueLemmas.{value_within-append, value_of-longer}
use Rattle.rguard.specs.Seats.{bare}
use Rattle.bench_sections.specs.Sections.{one_added, request_of, acts_of}
use Rattle.bench_sections.specs.Measure.{writes_at, write_count, entries_of}
use Rattle.bench_sections.specs.declared.words.Asked.{Asked}
use Rattle.bench_sections.proofs.Sums.{sum_of_none, sum_of_both, sum_at_one}

-- the act adds 1 to the ledger of a resource, and is taken
abbrev pub IsOne : Act Edit → Type 0
IsOne (Edited place edit done) = (place < RESOURCES) × (edit ≡ Add 1) × (done ≡ true)
IsOne (Shown place number) = ⊥

-- the entry does nothing else, and nothing at all if no section ends with it
pub record AddsOnes (entry : EntryFields Edit) : Type 0 where
  pub each : AllByRecursion IsOne entry.acts
  pub ends : is_finish entry.event ≡ false → entry.acts ≡ []

-- how many acts it has
abbrev pub act_count : EntryFields Edit → ℕ
act_count entry = length entry.acts

-- ---- one ledger

-- one act
grows_by_act : (v : Ledger) (b : Bool) (edit : Edit) → edit ≡ Add 1 → (b ≡ true → is_taken v edit ≡ true) → (fold value_after v (cond b (edit ∷ []) [] ++ [])).balance ≡ v.balance + length (cond b (edit ∷ []) [])
grows_by_act v true edit is taken =
    subst (λ (e : Edit). (value_after v e).balance ≡ v.balance + 1) (sym is)
    (ap (λ (t : Bool). (cond t (record v { balance = v.balance + 1; edits = v.edits + 1 }) v).balance) (ap (is_taken v) (sym is) ∙ taken refl))
grows_by_act v false edit is taken = omega arith

module _ (values : ℕ → Ledger) where
  -- acts that have right answers
  pub grows_by_acts : (earlier acts : List (Act Edit)) → AllInTurn (IsAnsweredAfter value_after is_taken (λ (ledger : Ledger). ledger.balance) values) earlier acts → AllByRecursion IsOne acts → (l : ℕ)
      → (value_within value_after (values l) (earlier ++ acts) l).balance ≡ (value_within value_after (values l) earlier l).balance + length (edits_in acts l)
  grows_by_acts earlier [] turns ones l = ap (λ (xs : List (Act Edit)). (value_within value_after (values l) xs l).balance) (append-nil earlier) ∙ omega arith
  grows_by_acts earlier (Shown place number ∷ acts) turns ones l = absurd ones.0
  grows_by_acts earlier (Edited place edit done ∷ acts) turns ones l =
      ap (λ (xs : List (Act Edit)). (value_within value_after (values l) xs l).balance) (sym (append_assoc earlier (Edited place edit done ∷ []) acts))
      ∙ grows_by_acts (earlier ++ Edited place edit done ∷ []) acts turns.1 ones.1 l
      ∙ ap (λ n. n + length (edits_in acts l)) (ap (λ (v : Ledger). v.balance) (value_within-append value_after (values l) earlier (Edited place edit done ∷ []) l) ∙ grows_by_act (value_within value_after (values l) earlier l) (place == l) edit ones.0.1 taken)
      ∙ regroup (value_within value_after (values l) earlier l).balance (length (cond (place == l) (edit ∷ []) [])) (length (edits_in acts l))
      ∙ ap (λ n. (value_within value_after (values l) earlier l).balance + n) (sym (length-append (cond (place == l) (edit ∷ []) []) (edits_in acts l)))
    where
      taken : (place == l) ≡ true → is_taken (value_within value_after (values l) earlier l) edit ≡ true
      taken is = ap (λ n. is_taken (value_within value_after (values n) earlier n) edit) (sym (eqb-true place l is)) ∙ sym turns.0 ∙ ones.0.2

      regroup : (a b c : ℕ) → a + b + c ≡ a + (b + c)
      regroup a b c = omega arith

  -- one entry
  pub grows_by_entry : (ends : Bool) (acts : List (Act Edit)) → AnswersAreRight value_after is_taken (λ (ledger : Ledger). ledger.balance) values acts → AllByRecursion IsOne acts → (l : ℕ)
      → (fold value_after (values l) (cond ends (edits_in acts l) [])).balance ≡ (values l).balance + length (cond ends (edits_in acts l) [])
  grows_by_entry true acts right ones l = grows_by_acts [] acts right ones l
  grows_by_entry false acts right ones l = omega arith

-- the ledger after the entries
abbrev pub ledger_after : List (EntryFields Edit) → ℕ → Ledger
ledger_after entries l = value_of value_after opening_ledger entries l

pub grows_by_one : (earlier : List (EntryFields Edit)) (entry : EntryFields Edit) → EntryAnswersRightly value_after is_taken (λ (ledger : Ledger). ledger.balance) (λ l. opening_ledger) earlier entry → AddsOnes entry
    → (l : ℕ) → (ledger_after (earlier ++ entry ∷ []) l).balance ≡ (ledger_after earlier l).balance + length (edits_of entry l)
grows_by_one earlier entry right adds l =
    ap (λ (v : Ledger). v.balance) (value_of-longer value_after opening_ledger earlier entry l) ∙ grows_by_entry (ledger_after earlier) (is_finish entry.event) entry.acts right adds.each l

-- ---- all ledgers

-- each act is an edit of one of them
edits_of_acts : (acts : List (Act Edit)) → AllByRecursion IsOne acts → sum_by (λ l. length (edits_in acts l)) (range_with_len 0 RESOURCES) ≡ length acts
edits_of_acts [] ones = sum_of_none (range_with_len 0 RESOURCES)
edits_of_acts (Shown place number ∷ acts) ones = absurd ones.0
edits_of_acts (Edited place edit done ∷ acts) ones =
    ap (λ (f : ℕ → ℕ). sum_by f (range_with_len 0 RESOURCES)) (λ i l. one l i)
    ∙ sum_of_both (λ l. cond (place == l) 1 0) (λ l. length (edits_in acts l)) (range_with_len 0 RESOURCES)
    ∙ (λ i. sum_at_one place 1 RESOURCES 0 (omega arith) (omega (arith, ones.0.0)) i + edits_of_acts acts ones.1 i)
    ∙ more (length acts)
  where
    short : (b : Bool) → length (cond b (edit ∷ []) []) ≡ cond b 1 0
    short true = refl
    short false = refl

    one : (l : ℕ) → length (cond (place == l) (edit ∷ []) [] ++ edits_in acts l) ≡ cond (place == l) 1 0 + length (edits_in acts l)
    one l = length-append (cond (place == l) (edit ∷ []) []) (edits_in acts l) ∙ ap (λ n. n + length (edits_in acts l)) (short (place == l))

    more : (n : ℕ) → 1 + n ≡ suc n
    more n = omega arith

edits_of_entry : (ends : Bool) (acts : List (Act Edit)) → AllByRecursion IsOne acts → (ends ≡ false → acts ≡ []) → sum_by (λ l. length (cond ends (edits_in acts l) [])) (range_with_len 0 RESOURCES) ≡ length acts
edits_of_entry true acts ones none = edits_of_acts acts ones
edits_of_entry false acts ones none = sum_of_none (range_with_len 0 RESOURCES) ∙ sym (ap (λ (xs : List (Act Edit)). length xs) (none refl))

pub edits_of_all : (entries : List (EntryFields Edit)) → AllByRecursion AddsOnes entries → sum_by (λ l. length (edits_on entries l)) (range_with_len 0 RESOURCES) ≡ sum_by act_count entries
edits_of_all [] adds = sum_of_none (range_with_len 0 RESOURCES)
edits_of_all (entry ∷ entries) adds =
    ap (λ (f : ℕ → ℕ). sum_by f (range_with_len 0 RESOURCES)) (λ i l. length-append (edits_of entry l) (edits_on entries l) i)
    ∙ sum_of_both (λ l. length (edits_of entry l)) (λ l. length (edits_on entries l)) (range_with_len 0 RESOURCES)
    ∙ (λ i. edits_of_entry (is_finish entry.event) entry.acts adds.0.each adds.0.ends i + edits_of_all entries adds.1 i)
    ∙ sym (sum_by-cons act_count entry entries)

-- ---- the sections of a seat

-- one section more: one more writes if it does
count_next : (reads : Bool) (k : ℕ) → cond reads (suc k / 10) (suc k) ≡ cond reads (k / 10) k + cond (cond reads (k % 10 == 9) true) 1 0
count_next false k = omega arith
count_next true k = elim (cases_eq (k % 10) 9) [
  | inl same ↦ last same ∙ ap (λ (b : Bool). k / 10 + cond b 1 0) (sym (eq-eqb (k % 10) 9 same))
  | inr other ↦ among other ∙ ap (λ (b : Bool). k / 10 + cond b 1 0) (sym (ne_eqb (k % 10) 9 other))
]
  where
    last : k % 10 ≡ 9 → suc k / 10 ≡ k / 10 + 1
    last same = omega arith

    among : (k % 10 ≡ 9 → ⊥) → suc k / 10 ≡ k / 10 + 0
    among other = omega arith

module _ (asked : Asked) (set : Set) (seat : ℕ) where
  -- each entry of them adds 1s where it has acts
  pub entries_add : AllByRecursion IsOne (one_added set) → (count : ℕ) → AllByRecursion AddsOnes (entries_of asked set seat count)
  entries_add ones zero = tt
  entries_add ones (suc k) =
      all_append AddsOnes (entries_of asked set seat k) (bare (Issue seat (request_of (writes_at asked k) set)) ∷ record { event = Finish seat; acts = acts_of (writes_at asked k) set } ∷ []) (entries_add ones k)
      (record { each = tt; ends = λ no. refl }, (record { each = each (writes_at asked k); ends = λ no. absurd (cc) }, tt))
    where
      each : (writes : Bool) → AllByRecursion IsOne (acts_of writes set)
      each true = ones
      each false = tt

  -- together they have the acts of those that write
  pub acts_of_entries : (count : ℕ) → sum_by act_count (entries_of asked set seat count) ≡ write_count asked count * length (one_added set)
  acts_of_entries zero = none asked.reads (length (one_added set))
    where
      none : (reads : Bool) (n : ℕ) → 0 ≡ cond reads (0 / 10) 0 * n
      none true n = omega arith
      none false n = omega arith
  acts_of_entries (suc k) =
      sum_by-append act_count (entries_of asked set seat k) (bare (Issue seat (request_of (writes_at asked k) set)) ∷ record { event = Finish seat; acts = acts_of (writes_at asked k) set } ∷ [])
      ∙ (λ i. acts_of_entries k i + (0 + 0 + of_one (writes_at asked k) i))
      ∙ more (write_count asked k) (length (one_added set)) (writes_at asked k) (count_next asked.reads k)
    where
      of_one : (writes : Bool) → length (acts_of writes set) ≡ cond writes (length (one_added set)) 0
      of_one true = refl
      of_one false = refl

      one_more_of : (c n : ℕ) → c * n + (0 + 0 + n) ≡ suc c * n
      one_more_of c n = omega arith

      none_more_of : (c n : ℕ) → c * n + (0 + 0 + 0) ≡ (c + 0) * n
      none_more_of c n = omega arith

      next : (c : ℕ) → suc c ≡ c + 1
      next c = omega arith

      more : (c n : ℕ) (writes : Bool) {all : ℕ} → all ≡ c + cond writes 1 0 → c * n + (0 + 0 + cond writes n 0) ≡ all * n
      more c n true is = one_more_of c n ∙ ap (λ m. m * n) (next c ∙ sym is)
      more c n false is = none_more_of c n ∙ ap (λ m. m * n) (sym is)

-- the edits of this many numbers from the first on, which are all resources
pub ones_from : (n first : ℕ) → n ≤ RESOURCES - first → AllByRecursion IsOne (map (λ l. Edited l (Add 1) true) (range_with_len first n))
ones_from zero first within = tt
ones_from (suc n) first within = ((omega arith, refl, refl), ones_from n (first + 1) (omega arith))
