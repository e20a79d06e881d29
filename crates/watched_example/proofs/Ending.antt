-- What is left of the closed lock of the example.
use Rattle.std.proofs.Common.{◌≡◌, ℕ, zero, suc, ◌+◌, ◌*◌, ◌<◌, List, [], ◌∷◌, ◌++◌, map, Option, Some, None, refl, sym, ap, ◌∙◌, arith}
use Rattle.std.specs.Prelude.{All, Any, IfSome, option_map}
use Rattle.std.specs.List.{AllByRecursion, sum_by}
use Rattle.rclaim.specs.Events.{seat_of}
use Rattle.rlock.specs.Known.{Site, entries_by}
use Rattle.rmodel.proofs.ListFacts.{all_at, all_from}
use Rattle.rstate.specs.Histories.{Beginning, steps_in, first_of}
use Rattle.rstate.proofs.homes.Lists.{same_item}
use Rattle.rvalue.specs.declared.ledger.Ledger.{Ledger}
use Rattle.rvalue.specs.declared.ledger.Edit.{Edit}
use Rattle.rvalue.specs.Entries.{EntryFields}
use Rattle.rvalue.specs.Ledgers.{value_after, is_taken}
use Rattle.rwatch.specs.Laws.{weights}
use Rattle.rwatch.specs.Seen.{Seen, told_all, watched_after}
use Rattle.rwatch.specs.declared.kinds.WatchKind.TheVariants.{Issues}
use Rattle.rguard.specs.Closing.{IsClosedBy, IsToldTo, IsLeft}
use Rattle.rguard.specs.Seats.{SeatOf}
use Rattle.rguard.specs.Sections.{write_of, sections_of}
use Rattle.rguard.proofs.Closed.{seats_there}
use Rattle.watched_example.specs.Sections.{the_record, one_added, IsAtRest, IsNew, HasMade}
use Rattle.watched_example.specs.Watching.{HaveSeen, IsEnd}
use Rattle.watched_example.proofs.Counting.{issue_in, weights_are, of_two, issues_made}

abbrev balance : Ledger → ℕ
balance ledger = ledger.balance

-- each number below two has its seat
pub two_numbers : (first second : SeatOf Ledger Edit) → first.number ≡ 0 → second.number ≡ 1 → (n : ℕ) → n < 2 → Any (λ seat. seat.number ≡ n) (first ∷ second ∷ [])
two_numbers first second one other zero less = (0, first, omega arith, refl, one)
two_numbers first second one other (suc zero) less = (1, second, omega arith, refl, other)
two_numbers first second one other (suc (suc n)) less = absurd (omega arith)

-- what closing says of two seats, and of watchers if there are any
pub ended : {X : Type 0} (all : X → List Seen) (left : Option X) (entries : List (EntryFields Edit)) (values : List Ledger) (first second : SeatOf Ledger Edit)
    → All (IsClosedBy value_after is_taken balance entries values) (first ∷ second ∷ []) → All (IsToldTo (option_map all left) entries) (first ∷ second ∷ []) → IfSome left (λ x. IsEnd first second (all x))
ended all None entries values first second closes told = tt
ended all (Some x) entries values first second closes told =
    record { entries = entries; values = values; first_knows = closes 0 first (omega arith); second_knows = closes 1 second (omega arith); told = told 0 first (omega arith) }

module _ (watched after : List Seen) (site : Site) (times : ℕ) (first second first_later second_later : SeatOf Ledger Edit) (first_new : IsNew watched site 0 first) (second_new : IsNew watched site 1 second)
    (rests : IsAtRest site first_later) (first_made : HasMade times first first_later) (second_made : HasMade times second second_later) (passes : site.passes ≡ 2) (end : IsEnd first_later second_later after) where
  abbrev by : ℕ → List (EntryFields Edit)
  by n = entries_by (λ (entry : EntryFields Edit). seat_of entry.event) n end.entries

  abbrev began : Beginning Ledger
  began = rests.at.of.began

  left : IsLeft value_after is_taken balance began end.entries end.values
  left = end.first_knows.left began rests.at.of.opening

  there : AllByRecursion (λ (entry : EntryFields Edit). seat_of entry.event < 2) end.entries
  there = all_from (λ (entry : EntryFields Edit). seat_of entry.event < 2) end.entries (λ entry here.
      let less = all_at (λ (e : EntryFields Edit). seat_of e.event < began.seats) end.entries entry (seats_there value_after is_taken balance began [] end.entries left.lawful) here in
      omega (arith, less, rests.at.of.all, rests.at.of.within, passes))

  -- the entries of a seat are its sections
  issues_by : (n : ℕ) (seat later : SeatOf Ledger Edit) → IsNew watched site n seat → HasMade times seat later → IsClosedBy value_after is_taken balance end.entries end.values later → sum_by issue_in (by n) ≡ times
  issues_by n seat later new made knows =
      ap (sum_by issue_in) (ap by (sym (made.same.1 ∙ new.number_is)) ∙ knows.own ∙ made.mine ∙ ap (λ (es : List (EntryFields Edit)). es ++ sections_of seat.number (write_of the_record) one_added times) new.nothing)
      ∙ issues_made seat.number (write_of the_record) one_added times

  counted : weights Issues (steps_in began end.entries) ≡ 2 * times
  counted =
      weights_are (first_of began) end.entries ∙ sym (of_two (λ (entry : EntryFields Edit). seat_of entry.event) issue_in end.entries there)
      ∙ (λ i. issues_by 0 first first_later first_new first_made end.first_knows i + issues_by 1 second second_later second_new second_made end.second_knows i) ∙ twice times
    where
      twice : (n : ℕ) → n + n ≡ 2 * n
      twice n = omega arith

  -- the watchers were given just the steps of the history, and so all issues of both seats
  pub all_seen : HaveSeen (2 * times) watched after
  all_seen = record {
    steps = steps_in began end.entries;
    issues = counted;
    told =
        same_item after (map (told_all (steps_in began end.entries)) watched)
        (end.told began rests.at.of.opening ∙ ap (watched_after (steps_in began end.entries)) (first_new.opens began (sym first_made.same.2 ∙ rests.at.of.opening)));
  }
