-- What is left in the ledgers of a closed runtime whose seats have made all sections that were asked for.
use Rattle.std.proofs.Common.{◌≡◌, ℕ, ◌+◌, ◌-◌, ◌*◌, ◌/◌, ◌%◌, ◌^◌, ◌<◌, ◌≤◌, ◌==◌, Bool, false, cond, length-append, List, [], ◌∷◌, ◌++◌, map, length, get_or, replicate, Some, true, refl, sym, ap, subst, ◌∙◌, arith, append-nil, append_assoc}
use Rattle.std.proofs.Math.Nat.{min-le_right, mul-le-mul_left, mul-le-mul_right}
use Rattle.std.proofs.lemmas.Bool.{eq-eqb}
use Rattle.std.proofs.lemmas.List.{length-map}
use Rattle.std.proofs.lemmas.List.Sums.{sum_by-le}
use Rattle.std.proofs.lemmas.List.FromFn.{fill_by_all, length-range_with_len}
use Rattle.std.proofs.lemmas.Option.{get_or_from_slice_get}
use Rattle.std.specs.List.{AllByRecursion, range_with_len, sum_by}
use Rattle.std.specs.Prelude.{All}
use Rattle.rset.specs.declared.TheConstants.{SEATS, RESOURCES}
use Rattle.rset.specs.Sets.{rising}
use Rattle.rexpand.specs.Groups.{ReadGroups}
use Rattle.rclaim.specs.Events.{seat_of}
use Rattle.rlock.specs.Known.{Site, entries_by}
use Rattle.rmodel.proofs.ListFacts.{in_filter, all_at, all_from}
use Rattle.rvalue.specs.InTurn.{AllInTurn}
use Rattle.rvalue.specs.declared.act.Act.TheVariants.{Edited}
use Rattle.rvalue.specs.declared.ledger.Ledger.{Ledger}
use Rattle.rvalue.specs.declared.ledger.Edit.{Edit}
use Rattle.rvalue.specs.declared.ledger.Edit.TheVariants.{Add}
use Rattle.rvalue.specs.Ledgers.{opening_ledger, is_taken, value_after}
use Rattle.rvalue.specs.Entries.{EntryFields, edits_of}
use Rattle.rvalue.specs.Histories.{edits_on}
use Rattle.rstate.specs.Histories.{Beginning, MayFollow}
use Rattle.rguard.specs.Closing.{IsClosedBy, IsLeft}
use Rattle.rguard.specs.Seats.{SeatOf}
use Rattle.rguard.proofs.Closed.{each_opens, each_listed, seats_there}
use Rattle.bench_sections.specs.Sections.{one_added}
use Rattle.bench_sections.specs.Measure.{first_record, record_count, write_count, entries_of, ones_asked, HasMadeAll, IsSumLeft}
use Rattle.bench_sections.specs.declared.words.Asked.{Asked}
use Rattle.bench_sections.proofs.Sums.{sum_alike, sum_of_map, sum_by_number}
use Rattle.bench_sections.proofs.Ones.{IsOne, AddsOnes, act_count, ledger_after, grows_by_one, edits_of_all, entries_add, acts_of_entries, ones_from}

abbrev balance : Ledger → ℕ
balance ledger = ledger.balance

-- ---- the history

module _ (b : Beginning Ledger) (values_are : b.values ≡ replicate RESOURCES opening_ledger) where
  -- entries that may follow one another and only add 1s: each ledger has 1 for each edit of it
  grows_by_all : (earlier entries : List (EntryFields Edit)) → AllInTurn (MayFollow value_after is_taken balance b) earlier entries → AllByRecursion AddsOnes entries → (l : ℕ)
      → (ledger_after (earlier ++ entries) l).balance ≡ (ledger_after earlier l).balance + length (edits_on entries l)
  grows_by_all earlier [] turns adds l = ap (λ (es : List (EntryFields Edit)). (ledger_after es l).balance) (append-nil earlier) ∙ omega arith
  grows_by_all earlier (entry ∷ entries) turns adds l =
      ap (λ (es : List (EntryFields Edit)). (ledger_after es l).balance) (sym (append_assoc earlier (entry ∷ []) entries))
      ∙ grows_by_all (earlier ++ entry ∷ []) entries turns.1 adds.1 l
      ∙ ap (λ n. n + length (edits_on entries l)) (grows_by_one earlier entry (turns.0.answers (λ k. opening_ledger) (each_opens RESOURCES opening_ledger b values_are)) adds.0 l)
      ∙ together (ledger_after earlier l).balance (length (edits_of entry l)) (length (edits_on entries l)) (length-append (edits_of entry l) (edits_on entries l))
    where
      together : (a n m : ℕ) {all : ℕ} → all ≡ n + m → a + n + m ≡ a + all
      together a n m is = omega arith

-- ---- the end

-- what is asked for fits in 64 bits
ones_fit : (asked : Asked) → asked.threads ≤ SEATS → asked.sections < 2 ^ 32 → ones_asked asked < 2 ^ 64
ones_fit asked few fits =
    let each = sum_by-le (λ n. write_count asked asked.sections * record_count asked n) (asked.sections * RESOURCES) (range_with_len 0 asked.threads) (λ k d less. of_one (get_or (range_with_len 0 asked.threads) k d)) in
    within (ones_asked asked) (length (range_with_len 0 asked.threads)) asked.threads asked.sections (length-range_with_len 0 asked.threads) few fits each
  where
    some_write : (reads : Bool) (count : ℕ) → cond reads (count / 10) count ≤ count
    some_write true count = omega arith
    some_write false count = omega arith

    of_one : (n : ℕ) → write_count asked asked.sections * record_count asked n ≤ asked.sections * RESOURCES
    of_one n =
        let within : record_count asked n ≤ RESOURCES - first_record asked n = min-le_right asked.resources (RESOURCES - first_record asked n) in
        let few_records : asked.sections * record_count asked n ≤ asked.sections * RESOURCES = mul-le-mul_left asked.sections (omega arith) in
        let few_writes : write_count asked asked.sections * record_count asked n ≤ asked.sections * record_count asked n = mul-le-mul_right (record_count asked n) (some_write asked.reads asked.sections) in
        omega arith

    within : (s n t c : ℕ) → n ≡ t → t ≤ SEATS → c < 2 ^ 32 → s ≤ n * (c * RESOURCES) → s < 2 ^ 64
    within s n t c same few fits most =
        let more : n * (c * RESOURCES) ≤ SEATS * (c * RESOURCES) = mul-le-mul_right (c * RESOURCES) (omega arith) in
        omega arith

module _ (asked : Asked) (site : Site) (seats : List (SeatOf Ledger Edit)) (made : All (HasMadeAll asked site) seats) (passes : site.passes ≡ asked.threads) (some : 0 < asked.threads) (sum : ℕ) (end : IsSumLeft seats asked.threads sum) where
  abbrev by : ℕ → List (EntryFields Edit)
  by n = entries_by (λ (entry : EntryFields Edit). seat_of entry.event) n end.entries

  -- the seat with a number, and what is known about it
  record HasNumber (n : ℕ) : Type 0 where
    pub seat : SeatOf Ledger Edit
    pub all : HasMadeAll asked site seat
    pub closes : IsClosedBy value_after is_taken balance end.entries end.values seat
    pub number : seat.number ≡ n

  abbrev with_number : (n : ℕ) → n < asked.threads → HasNumber n
  with_number n less =
      let found = end.all n less in
      record {
        seat = found.1;
        all = subst (HasMadeAll asked site) found.3 (made found.0 found.1 found.2);
        closes = subst (IsClosedBy value_after is_taken balance end.entries end.values) found.3 (end.closed found.0 found.1 found.2);
        number = found.4;
      }

  -- its own entries are its sections
  module _ (n : ℕ) (less : n < asked.threads) where
    abbrev it : HasNumber n
    it = with_number n less

    own : by n ≡ entries_of asked it.all.set it.seat.number asked.sections
    own = ap by (sym it.number) ∙ it.closes.own ∙ it.all.sections.made

    its_ones : AllByRecursion IsOne (one_added it.all.set)
    its_ones =
        subst (λ (xs : List ℕ). AllByRecursion IsOne (map (λ l. Edited l (Add 1) true) xs)) (sym it.all.sections.records)
        (ones_from (record_count asked it.seat.number) (first_record asked it.seat.number) (min-le_right asked.resources (RESOURCES - first_record asked it.seat.number)))

    by_adds : AllByRecursion AddsOnes (by n)
    by_adds = subst (AllByRecursion AddsOnes) (sym own) (entries_add asked it.all.set it.seat.number its_ones asked.sections)

    by_count : sum_by act_count (by n) ≡ write_count asked asked.sections * record_count asked n
    by_count =
        ap (λ (es : List (EntryFields Edit)). sum_by act_count es) own ∙ acts_of_entries asked it.all.set it.seat.number asked.sections
        ∙ ap (λ m. write_count asked asked.sections * m) (length-map (rising it.all.set) (λ l. Edited l (Add 1) true) ∙ ap (λ (xs : List ℕ). length xs) it.all.sections.records ∙ length-range_with_len (first_record asked it.seat.number) (record_count asked it.seat.number))
        ∙ ap (λ m. write_count asked asked.sections * record_count asked m) it.number

  abbrev first : HasNumber 0
  first = with_number 0 some

  abbrev began : Beginning Ledger
  began = first.all.sections.rests.at.of.began

  opening : first.seat.opening ≡ Some began
  opening = first.all.sections.rests.at.of.opening

  opens : began.values ≡ replicate RESOURCES opening_ledger
  opens = first.all.sections.opens began opening

  left : IsLeft value_after is_taken balance began end.entries end.values
  left = first.closes.left began opening

  there : AllByRecursion (λ (entry : EntryFields Edit). seat_of entry.event < asked.threads) end.entries
  there = all_from (λ (entry : EntryFields Edit). seat_of entry.event < asked.threads) end.entries (λ entry here.
      let less = all_at (λ (e : EntryFields Edit). seat_of e.event < began.seats) end.entries entry (seats_there value_after is_taken balance began [] end.entries left.lawful) here in
      omega (arith, less, first.all.sections.rests.at.of.all, first.all.sections.rests.at.of.within, passes))

  all_add : AllByRecursion AddsOnes end.entries
  all_add = all_from AddsOnes end.entries (λ entry here.
      let n = seat_of entry.event in
      all_at AddsOnes (by n) entry (by_adds n (all_at (λ (e : EntryFields Edit). seat_of e.event < asked.threads) end.entries entry there here))
      (in_filter (λ (e : EntryFields Edit). seat_of e.event == n) end.entries entry here (eq-eqb n n refl)))

  -- each ledger has 1 for each edit of it
  balance_at : (l : ℕ) → (ledger_after end.entries l).balance ≡ length (edits_on end.entries l)
  balance_at l = grows_by_all began opens [] end.entries left.lawful all_add l ∙ omega arith

  values_are : end.values ≡ map (ledger_after end.entries) (range_with_len 0 RESOURCES)
  values_are = fill_by_all (ledger_after end.entries) end.values RESOURCES opening_ledger
      (left.count ∙ ap (λ (g : ReadGroups). g.q) (first.all.sections.rests.at.over began opening))
      (λ l less. get_or_from_slice_get end.values l (ledger_after end.entries l) opening_ledger (left.each l opening_ledger (each_listed RESOURCES opening_ledger began opens l less)))

  -- together they have just what was asked for
  together : sum_by balance end.values ≡ ones_asked asked
  together =
      ap (λ (vs : List Ledger). sum_by balance vs) values_are ∙ sum_of_map balance (ledger_after end.entries) (range_with_len 0 RESOURCES)
      ∙ ap (λ (f : ℕ → ℕ). sum_by f (range_with_len 0 RESOURCES)) (λ i l. balance_at l i)
      ∙ edits_of_all end.entries all_add
      ∙ sym (sum_by_number (λ (entry : EntryFields Edit). seat_of entry.event) act_count asked.threads end.entries there)
      ∙ sum_alike (λ n. sum_by act_count (by n)) (λ n. write_count asked asked.sections * record_count asked n) asked.threads 0 (λ n low high. by_count n (omega arith))

  -- and the sum modulo 2^64 is just that
  pub sum_is : asked.threads ≤ SEATS → asked.sections < 2 ^ 32 → sum ≡ ones_asked asked
  sum_is few fits = end.total ∙ ap (λ n. n % 2 ^ 64) together ∙ itself (ones_asked asked) (ones_fit asked few fits)
    where
      itself : (n : ℕ) → n < 2 ^ 64 → n % 2 ^ 64 ≡ n
      itself n less = omega arith
