-- What becomes of seats through their jobs.
use Rattle.std.proofs.Common.{◌≡◌, ◌<◌, ℕ, List, [], ◌∷◌, ◌++◌, map, take, drop, length, Option, Some, None, refl, sym, ap, subst, ◌∙◌, inl, inr, append_assoc, append-nil, arith}
use Rattle.std.proofs.lemmas.List.{map-append, length-map, take_all, drop_all}
use Rattle.std.proofs.lemmas.Option.{get_or_from_slice_get, slice_get_cases}
use Rattle.std.specs.Prelude.{slice_get, slice_index_or, IsSome, IsSomeAnd, All}
use Rattle.rlock.specs.Known.{Site}
use Rattle.rvalue.specs.declared.ledger.Edit.{Edit}
use Rattle.rvalue.specs.declared.ledger.Ledger.{Ledger}
use Rattle.rstate.proofs.homes.Lists.{get_map, get_there}
use Rattle.rrun.specs.Statement.{Statement}
use Rattle.rrun.specs.Scripts.{ScriptFields}
use Rattle.rguard.specs.Seats.{SeatOf}
use Rattle.rrun.specs.Seats.{IsSeatFor}
use Rattle.rrun.specs.declared.jobs.Job.{Job}
use Rattle.rrun.specs.declared.tasks.Ended.{Ended}
use Rattle.rrun.specs.Endings.{waiting, resting, AreEnded}
use Rattle.rrun.specs.Jobs.{IsDone, AreReady, AreDone}
use Rattle.rrun.specs.Tasks.{AreSeatsFor}

module _ {M : Type 0} where
  -- one more job
  pub ended_more : (made : List (Ended M)) (now : List (Ended M)) (rest all old : List (Job (SeatOf Ledger Edit))) (job : Job (SeatOf Ledger Edit)) (seat : SeatOf Ledger Edit) → old ≡ job ∷ rest → job.seat ≡ Some seat
      → now ≡ made ++ record { seat = seat; stopped = job.stopped } ∷ [] → map (resting {M = M}) made ++ old ≡ all → map (resting {M = M}) now ++ rest ≡ all
  ended_more made now rest all old job seat next seat_is now_is was =
      ap (λ (es : List (Ended M)). map (resting {M = M}) es ++ rest) now_is
      ∙ ap (λ (js : List (Job (SeatOf Ledger Edit))). js ++ rest) (map-append (resting {M = M}) made (record { seat = seat; stopped = job.stopped } ∷ []))
      ∙ append_assoc (map (resting {M = M}) made) (record { seat = Some seat; stopped = job.stopped } ∷ []) rest
      ∙ (λ i. map (resting {M = M}) made ++ (record { seat = seat_is' i; stopped = job.stopped } ∷ rest))
      ∙ ap (λ (js : List (Job (SeatOf Ledger Edit))). map (resting {M = M}) made ++ js) (sym next) ∙ was
    where
      seat_is' : Some seat ≡ job.seat
      seat_is' = sym seat_is

-- what was written back in place of all jobs
pub written_back : {X : Type 0} (now old : List X) (count : ℕ) → length now ≡ length old → count ≡ length old → take count (now ++ drop (length now) old) ≡ now
written_back now old count same all =
    ap (λ (xs : List _). take count (now ++ xs)) (drop_all (length now) old (omega (arith, same))) ∙ ap (λ (xs : List _). take count xs) (append-nil now) ∙ take_all count now (omega (arith, same, all))

some_of : {X : Type 0} (P : X → Type 0) (o : Option X) → IsSomeAnd o P → IsSome o
some_of P (Some x) is = refl
some_of P None is = absurd is

pub less_from_slice_get : {X : Type 0} (xs : List X) (k : ℕ) (x : X) → slice_get xs k ≡ Some x → k < length xs
less_from_slice_get xs k x there = elim ((slice_get_cases xs k).1) [
  | inl here ↦ here.1
  | inr past ↦ absurd (some_none x (sym there ∙ past.1))
]
  where
    some_none : {X : Type 0} (x : X) → Some x ≡ None → ⊥
    some_none x h = cc

less_by : (k a b c d : ℕ) → k < a → a ≡ b → b ≡ c → d ≡ c → k < d
less_by k a b c d less ab bc dc = omega arith

module _ (site : Site) (p : ScriptFields) (seats : List (SeatOf Ledger Edit)) (are : AreSeatsFor site p seats) (before : List (Job (SeatOf Ledger Edit))) (first : before ≡ map waiting seats) where
  long : length before ≡ length seats
  long = ap length first ∙ length-map seats waiting

  -- the job of a seat
  job_of : (k : ℕ) (seat : SeatOf Ledger Edit) (d : Job (SeatOf Ledger Edit)) → slice_get seats k ≡ Some seat → slice_index_or before k d ≡ waiting seat
  job_of k seat d there = get_or_from_slice_get before k (waiting seat) d (ap (λ (js : List (Job (SeatOf Ledger Edit))). slice_get js k) first ∙ get_map waiting seats k seat there)

  pub are_ready : AreReady site p before
  are_ready k d less =
      let there = get_there seats k (subst (λ n. k < n) long less) in
      subst (λ (job : Job (SeatOf Ledger Edit)). IsSomeAnd job.seat (IsSeatFor site p k)) (sym (job_of k there.0 d there.1)) (are.each k there.0 there.1)

  module _ (paired : length p.steps ≡ length p.tasks) (after : List (Job (SeatOf Ledger Edit))) (count : length after ≡ length before) (done : AreDone site p before after) where
    steps_at : (k : ℕ) → k < length after → (statements : List Statement) × (slice_get p.steps k ≡ Some statements)
    steps_at k less = get_there p.steps k (less_by k (length after) (length seats) (length p.tasks) (length p.steps) less (count ∙ long) are.count paired)

    -- each job that was done has its seat
    pub are_there : All (λ (job : Job (SeatOf Ledger Edit)). IsSome job.seat) after
    are_there k d less =
        let statements = steps_at k less in
        some_of (IsSeatFor site p k) (slice_index_or after k d).seat (done k d statements.0 (subst (λ n. k < n) count less) statements.1).ready

    module _ {M : Type 0} (ended : List (Ended M)) (rests : after ≡ map (resting {M = M}) ended) where
      rest_of : (k : ℕ) (e : Ended M) (d : Job (SeatOf Ledger Edit)) → slice_get ended k ≡ Some e → slice_index_or after k d ≡ resting {M = M} e
      rest_of k e d there = get_or_from_slice_get after k (resting {M = M} e) d (ap (λ (js : List (Job (SeatOf Ledger Edit))). slice_get js k) rests ∙ get_map (resting {M = M}) ended k e there)

      many : length ended ≡ length after
      many = sym (ap length rests ∙ length-map ended (resting {M = M}))

      within : (k : ℕ) (e : Ended M) → slice_get ended k ≡ Some e → k < length after
      within k e there = subst (λ n. k < n) many (less_from_slice_get ended k e there)

      pub are_ended : AreEnded {M = M} site p seats ended
      are_ended = record {
        count = many ∙ count ∙ long ∙ are.count;
        seats_are = λ k e there.
            let less = within k e there in
            let statements = steps_at k less in
            subst (λ (job : Job (SeatOf Ledger Edit)). IsSomeAnd job.seat (IsSeatFor site p k)) (rest_of k e (resting {M = M} e) there)
            (done k (resting {M = M} e) statements.0 (subst (λ n. k < n) count less) statements.1).ready;
        each = λ k statements seat e steps_is seat_is there.
            let d = resting {M = M} e in
            let one = done k d statements (subst (λ n. k < n) count (within k e there)) steps_is in
            let two : IsDone site p k statements (waiting seat) (resting {M = M} e) = subst (λ (job : Job (SeatOf Ledger Edit)). IsDone site p k statements (waiting seat) job) (rest_of k e d there)
            (subst (λ (job : Job (SeatOf Ledger Edit)). IsDone site p k statements job (slice_index_or after k d)) (job_of k seat d seat_is) one) in
            two.ended seat e.seat refl refl;
      }
