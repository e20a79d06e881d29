-- How many issues a history has, and what a watcher counts of them.
use Rattle.std.proofs.Common.{◌≡◌, ℕ, zero, suc, ◌+◌, ◌<◌, ◌≤◌, ◌==◌, cond, List, [], ◌∷◌, map, filter, length, min, refl, sym, ap, subst, ◌∙◌, arith}
use Rattle.std.specs.List.{AllByRecursion, sum_by}
use Rattle.std.proofs.lemmas.List.Sums.{sum_by-cons, sum_by-append}
use Rattle.rclaim.specs.Requests.{RequestFields}
use Rattle.rclaim.specs.declared.event.Event.{Event}
use Rattle.rclaim.specs.declared.event.Event.TheVariants.{Issue, Finish}
use Rattle.rmodel.specs.State.{LockState}
use Rattle.rmodel.specs.Steps.{next}
use Rattle.rmodel.specs.Watching.{steps_of}
use Rattle.rvalue.specs.declared.act.Act.{Act}
use Rattle.rvalue.specs.declared.ledger.Edit.{Edit}
use Rattle.rvalue.specs.Entries.{EntryFields}
use Rattle.rwatch.specs.Laws.{weights, StepsAreHeard}
use Rattle.rwatch.specs.Seen.{Seen, watcher_at}
use Rattle.rwatch.specs.Weights.{issues, greatest}
use Rattle.rwatch.specs.declared.kinds.WatchKind.TheVariants.{Issues}
use Rattle.rguard.specs.Seats.{bare}
use Rattle.rguard.specs.Sections.{sections_of}
use Rattle.watched_example.specs.Watching.{HaveSeen, counting}

-- 1 for an entry that is an issue
abbrev pub issue_in : EntryFields Edit → ℕ
issue_in entry = issues entry.event

abbrev pub event_in : EntryFields Edit → Event
event_in entry = entry.event

-- the issues of steps are those of the entries that make them
pub weights_are : (s : LockState) (entries : List (EntryFields Edit)) → weights Issues (steps_of s (map event_in entries)) ≡ sum_by issue_in entries
weights_are s [] = refl
weights_are s (entry ∷ entries) = ap (λ n. issue_in entry + n) (weights_are (next s entry.event) entries) ∙ sym (sum_by-cons issue_in entry entries)

-- where all numbers are below two, the sum is that of the two parts
pub of_two : {X : Type 0} (number w : X → ℕ) (xs : List X) → AllByRecursion (λ x. number x < 2) xs → sum_by w (filter (λ x. number x == 0) xs) + sum_by w (filter (λ x. number x == 1) xs) ≡ sum_by w xs
of_two number w [] below = refl
of_two {X} number w (x ∷ xs) below =
    one (number x) (filter (λ y. number y == 0) xs) (filter (λ y. number y == 1) xs) below.0 ∙ ap (λ n. w x + n) (of_two number w xs below.1) ∙ sym (sum_by-cons w x xs)
  where
    left : (a b c : ℕ) → a + b + c ≡ a + (b + c)
    left a b c = omega arith

    right : (a b c : ℕ) → b + (a + c) ≡ a + (b + c)
    right a b c = omega arith

    one : (n : ℕ) (zeros ones : List X) → n < 2 → sum_by w (cond (n == 0) (x ∷ zeros) zeros) + sum_by w (cond (n == 1) (x ∷ ones) ones) ≡ w x + (sum_by w zeros + sum_by w ones)
    one zero zeros ones less = ap (λ n. n + sum_by w ones) (sum_by-cons w x zeros) ∙ left (w x) (sum_by w zeros) (sum_by w ones)
    one (suc zero) zeros ones less = ap (λ n. sum_by w zeros + n) (sum_by-cons w x ones) ∙ right (w x) (sum_by w zeros) (sum_by w ones)
    one (suc (suc n)) zeros ones less = absurd (omega arith)

-- each section has one issue
pub issues_made : (seat : ℕ) (request : RequestFields) (acts : List (Act Edit)) (count : ℕ) → sum_by issue_in (sections_of seat request acts count) ≡ count
issues_made seat request acts zero = refl
issues_made seat request acts (suc count) =
    sum_by-append issue_in (sections_of seat request acts count) (bare (Issue seat request) ∷ record { event = Finish seat; acts = acts } ∷ [])
    ∙ (λ i. issues_made seat request acts count i + one i) ∙ next_one count
  where
    one : sum_by issue_in (bare (Issue seat request) ∷ record { event = Finish seat; acts = acts } ∷ []) ≡ 1
    one = sum_by-cons issue_in (bare (Issue seat request)) (record { event = Finish seat; acts = acts } ∷ []) ∙ ap (λ n. 1 + n) (sum_by-cons issue_in (record { event = Finish seat; acts = acts }) [])

    next_one : (n : ℕ) → n + 1 ≡ suc n
    next_one n = omega arith

module _ (heard : StepsAreHeard) (issued : ℕ) (small : issued ≤ greatest) (after : List Seen) (seen : HaveSeen issued (counting 0 ∷ []) after) where
  pub is_there : 0 < length after
  is_there = subst (λ (ws : List Seen). 0 < length ws) (sym seen.told) (omega arith)

  -- a watcher that begins at 0 has counted them all
  pub count_is : (watcher_at after 0).count ≡ issued
  count_is = ap (λ (ws : List Seen). (watcher_at ws 0).count) seen.told ∙ (heard seen.steps (counting 0)).count (omega arith) ∙ ap (λ n. min (0 + n) greatest) seen.issues ∙ least issued greatest small
    where
      least : (n g : ℕ) → n ≤ g → min (0 + n) g ≡ n
      least n g le = omega (arith, le)
