-- What the threads are asked to do, what their seats have done, and what is left in the ledgers.
use Rattle.std.specs.Prelude.{◌≡◌, ℕ, ◌-◌, ◌*◌, ◌/◌, ◌%◌, ◌^◌, ◌<◌, ◌==◌, min, Bool, true, IsTrue, zero, suc, if◌then◌else◌, List, [], ◌∷◌, ◌++◌, replicate, sum_by, All, Any}
use Rattle.std.specs.List.{range_with_len}
use Rattle.rset.specs.declared.TheConstants.{RESOURCES}
use Rattle.rset.specs.Sets.{Set, rising}
use Rattle.rexpand.specs.Groups.{no_groups}
use Rattle.rclaim.specs.declared.event.Event.TheVariants.{Issue, Finish}
use Rattle.rlock.specs.Known.{Site}
use Rattle.rvalue.specs.declared.ledger.Ledger.{Ledger}
use Rattle.rvalue.specs.declared.ledger.Edit.{Edit}
use Rattle.rvalue.specs.Ledgers.{opening_ledger, is_taken, value_after}
use Rattle.rvalue.specs.Entries.{EntryFields}
use Rattle.rguard.specs.Closing.{IsClosedBy}
use Rattle.rguard.specs.Seats.{SeatOf, bare}
use Rattle.rguard.specs.Guards.{AsSeen}
use Rattle.rguard.specs.Resting.{Rests}
use Rattle.bench_sections.specs.Sections.{request_of, acts_of}
use Rattle.bench_sections.specs.declared.words.Asked.{Asked}

-- the numbers of the records from this one on: this many, as far as there are any
abbrev pub records_from : ℕ → ℕ → List ℕ
records_from first count = range_with_len first (min count (RESOURCES - first))

-- the first record of the thread: the first of all, or, if the threads are apart, the one after those of the threads
-- before it
abbrev pub first_record : Asked → ℕ → ℕ
first_record asked n = if asked.apart then n * asked.resources else 0

-- how many records the thread has: as many as asked for, as far as there are any
abbrev pub record_count : Asked → ℕ → ℕ
record_count asked n = min asked.resources (RESOURCES - first_record asked n)

-- whether the section with this number writes: each one, or the last of each ten
abbrev pub writes_at : Asked → ℕ → Bool
writes_at asked k = if asked.reads then k % 10 == 9 else true

-- how many of this many sections write
abbrev pub write_count : Asked → ℕ → ℕ
write_count asked count = if asked.reads then count / 10 else count

-- how many 1s the sections that are asked for add: for each thread, the number of its sections that write times the
-- number of its records
abbrev pub ones_asked : Asked → ℕ
ones_asked asked = sum_by (λ n. write_count asked asked.sections * record_count asked n) (range_with_len 0 asked.threads)

-- the entries of a seat's first sections, this many: of each the issue of its request and its finish
abbrev pub entries_of : Asked → Set → ℕ → ℕ → List (EntryFields Edit)
entries_of asked set seat zero = []
entries_of asked set seat (suc k) =
    entries_of asked set seat k ++ (bare (Issue seat (request_of (writes_at asked k) set)) ∷ record { event = Finish seat; acts = acts_of (writes_at asked k) set } ∷ [])

-- the lock of the seat began with an opening ledger for each resource
abbrev pub OpensWithLedgers : SeatOf Ledger Edit → Type 0
OpensWithLedgers seat = AsSeen seat (λ b. b.values ≡ replicate RESOURCES opening_ledger)

-- and the seat has done nothing yet
abbrev pub IsNew : SeatOf Ledger Edit → Type 0
IsNew seat = (seat.mine ≡ []) × OpensWithLedgers seat

-- at its lock as many requests may be incomplete at once as there are seats
abbrev pub HasCapOfSeats : SeatOf Ledger Edit → Type 0
HasCapOfSeats seat = AsSeen seat (λ b. b.cap ≡ b.seats)

-- a resting seat that has made this many whole sections and nothing else, each of which added 1 to each of the records
-- of its thread, the members of this set, or read
pub record HasMade (asked : Asked) (site : Site) (set : Set) (count : ℕ) (seat : SeatOf Ledger Edit) : Type 0 where
  pub rests : Rests (no_groups RESOURCES) site seat
  pub opens : OpensWithLedgers seat
  pub records : rising set ≡ records_from (first_record asked seat.number) asked.resources
  pub made : seat.mine ≡ entries_of asked set seat.number count

-- a seat that has made all sections that are asked for; those that write wrote this set
pub record HasMadeAll (asked : Asked) (site : Site) (seat : SeatOf Ledger Edit) : Type 0 where
  pub set : Set
  pub sections : HasMade asked site set asked.sections seat

-- a resting seat, which has made all of them if all was done
pub record HasRun (asked : Asked) (site : Site) (done : Bool) (seat : SeatOf Ledger Edit) : Type 0 where
  pub rests : Rests (no_groups RESOURCES) site seat
  pub made : IsTrue done → HasMadeAll asked site seat

-- this much is in all ledgers of a lock that was closed by these seats, numbered below this number, modulo 2^64
pub record IsSumLeft (seats : List (SeatOf Ledger Edit)) (count sum : ℕ) : Type 0 where
  pub entries : List (EntryFields Edit)
  pub values : List Ledger
  pub all : (n : ℕ) → n < count → Any (λ seat. seat.number ≡ n) seats
  pub closed : All (λ seat. IsClosedBy value_after is_taken (λ ledger. ledger.balance) entries values seat) seats
  pub total : sum ≡ sum_by (λ ledger. ledger.balance) values % 2 ^ 64
