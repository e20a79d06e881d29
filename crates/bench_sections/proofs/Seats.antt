-- What is known about the seats as they begin, in their order, and after their jobs have run.
use Rattle.std.proofs.Common.{Bool, List, get_or, Option, Some, None}
use Rattle.std.specs.Prelude.{All, IsTrue, IsSomeAnd}
use Rattle.rlock.specs.Known.{Site}
use Rattle.rvalue.specs.declared.ledger.Ledger.{Ledger}
use Rattle.rvalue.specs.declared.ledger.Edit.{Edit}
use Rattle.rguard.specs.Seats.{SeatOf}
use Rattle.bench_sections.specs.Measure.{HasMadeAll, HasRun}
use Rattle.bench_sections.specs.declared.words.Asked.{Asked}

-- jobs that have run, all of which are done, have seats that have made all of their sections
module _ {J : Type 0} (asked : Asked) (site : Site) (seat_in : J → Option (SeatOf Ledger Edit)) (done_in : J → Bool) where
  pub all_made : (jobs : List J) → All (λ j. IsSomeAnd (seat_in j) (HasRun asked site (done_in j))) jobs → All (λ j. IsTrue (done_in j)) jobs → All (λ j. IsSomeAnd (seat_in j) (HasMadeAll asked site)) jobs
  all_made jobs run done k d less = of_one (seat_in (get_or jobs k d)) (done_in (get_or jobs k d)) (run k d less) (done k d less)
    where
      of_one : (seat : Option (SeatOf Ledger Edit)) (b : Bool) → IsSomeAnd seat (HasRun asked site b) → IsTrue b → IsSomeAnd seat (HasMadeAll asked site)
      of_one None b has is = absurd has
      of_one (Some seat) b has is = has.made is
