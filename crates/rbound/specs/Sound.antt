-- What is known of all needed claims, because they are claims of requests in normal form.
use Rattle.std.specs.Prelude.{◌≡◌, ◌<◌, ℕ, true, false, List}
use Rattle.std.specs.List.{AllByRecursion}
use Rattle.std.specs.FinSet.{empty, contains}
use Rattle.rmodel.specs.Claims.{is_read_half}
use Rattle.rmodel.specs.WellFormed.{Among}
use Rattle.rbound.specs.Needs.{Needed}

-- each is of one of the tasks and has a place; a read claim writes nothing, and its places are what it reads; a read half has a write half
-- beside it, which writes what the read half reads, and so do all write claims of its request
pub record AreSound (ns : List Needed) (tasks : ℕ) : Type 0 where
  pub seats : AllByRecursion (λ (n : Needed). n.claim.seat < tasks) ns
  pub writes : (n : Needed) → Among n ns → n.claim.write_half ≡ false → n.claim.writes ≡ empty
  pub places : (n : Needed) → Among n ns → n.claim.write_half ≡ false → n.claim.places ≡ n.claim.reads
  pub place : (n : Needed) → Among n ns → (l : ℕ) × (contains n.claim.places l ≡ true)
  pub write_of : (n : Needed) → Among n ns → is_read_half n.claim ≡ true
      → (v : Needed) × Among v ns × (v.claim.write_half ≡ true) × (v.claim.seat ≡ n.claim.seat) × (v.claim.stamp ≡ n.claim.stamp) × (v.claim.writes ≡ n.claim.reads)
  pub writes_it : (n v : Needed) → Among n ns → is_read_half n.claim ≡ true → Among v ns → v.claim.write_half ≡ true → v.claim.seat ≡ n.claim.seat → v.claim.stamp ≡ n.claim.stamp → v.claim.writes ≡ n.claim.reads
