-- The numbers of a bound are small, where what is needed lasts no longer than a request is allowed to.
use Rattle.std.proofs.Common.{◌≤◌, ◌<◌, ◌^◌, ℕ, zero, suc, ◌+◌, ◌-◌, ◌*◌, Bool, true, false, cond, max, List, [], ◌∷◌, length, map, Option, Some, None, arith}
use Rattle.std.specs.List.{AllByRecursion, list_any, slice_get}
use Rattle.std.proofs.Math.Nat.{mul-le-mul_left}
use Rattle.rset.specs.Sets.{Set}
use Rattle.rset.specs.declared.TheConstants.{SEATS}
use Rattle.rclaim.specs.declared.TheConstants.{LENGTH_LIMIT}
use Rattle.rclaim.specs.declared.claim.Claim.{Claim}
use Rattle.rmodel.proofs.ListFacts.{all_map}
use Rattle.rbound.specs.Bounds.{Numbers, greatest, largest, one_if, tasks_of, writes_of, reads_of, units_of, reads_there, none_beside, write_length, write_bound, read_bound, may_keep, may_delay, may_bar, bound_of_first, bound_of_rise, bound_of_ask}
use Rattle.rbound.specs.Needs.{Needed, first_need, write_need}
use Rattle.rbound.specs.TaskNeeds.{TaskNeeds, needed_in, asks_at, bound_of, bound_of_part}
use Rattle.rbound.specs.Zones.{zone_of}
use Rattle.rbound.specs.declared.which.Which.{Which}
use Rattle.rbound.specs.declared.which.Which.TheVariants as which
use Rattle.rtrace_form.proofs.waits.ShortNeeds.{AreShort}

-- numbers that a field may hold
pub record AreTellable (n : Numbers) : Type 0 where
  pub reads : n.reads < 2 ^ 64
  pub writes : n.writes < 2 ^ 64
  pub units : n.units < 2 ^ 64

greatest_short : (p : Needed → Bool) (ns : List Needed) → AreShort ns → greatest p ns ≤ LENGTH_LIMIT
greatest_short p [] short = omega arith
greatest_short p (n ∷ ns) short = at (p n) (greatest_short p ns short.1)
  where
    at : (b : Bool) → greatest p ns ≤ LENGTH_LIMIT → cond b (max n.len (greatest p ns)) (greatest p ns) ≤ LENGTH_LIMIT
    at true rest = let one = short.0 in omega (arith, one, rest)
    at false rest = rest

largest_short : (k : ℕ) (xs : List ℕ) → AllByRecursion (λ x. x ≤ LENGTH_LIMIT) xs → largest k xs ≤ k * LENGTH_LIMIT
largest_short zero xs short = omega arith
largest_short (suc k) [] short = omega arith
largest_short (suc k) (x ∷ xs) short =
    let one = short.0 in let fewer = largest_short k xs short.1 in let without = largest_short (suc k) xs short.1 in omega (arith, one, fewer, without)

one_at_most : (b : Bool) → one_if b ≤ 1
one_at_most true = omega arith
one_at_most false = omega arith

module _ (ns : List Needed) (short : AreShort ns) (tasks cap : ℕ) (some : 1 ≤ cap) (few : cap ≤ SEATS) where
  write_tellable : (c : Claim) → AreTellable (write_bound ns tasks cap c)
  write_tellable c =
      let zone = zone_of ns c.places in
      let w = writes zone in
      let r = reads zone in
      record { reads = omega (arith, r, few); writes = omega (arith, w, few); units = units zone }
    where
      writes : (zone : Set) → writes_of ns tasks cap c.seat zone ≤ cap - 1
      writes zone = omega arith

      at : (a b : Bool) (w : ℕ) → w ≤ cap - 1 → cond a (cond b w (w + 1)) 0 ≤ cap
      at true true w h = omega (arith, h, some)
      at true false w h = omega (arith, h, some)
      at false b w h = omega arith

      reads : (zone : Set) → reads_of ns tasks cap c.seat zone ≤ cap
      reads zone = at (list_any (reads_there c.seat zone) ns) (none_beside ns tasks cap c.seat zone) (writes_of ns tasks cap c.seat zone) (writes zone)

      units : (zone : Set) → units_of ns tasks cap c.seat zone < 2 ^ 64
      units zone =
          let w = writes zone in
          let r = reads zone in
          let lengths = map (write_length ns c.seat zone) (tasks_of tasks) in
          let all = all_map (write_length ns c.seat zone) (λ x. x ≤ LENGTH_LIMIT) (tasks_of tasks) (λ task there. greatest_short _ ns short) in
          let a = largest_short (writes_of ns tasks cap c.seat zone) lengths all in
          let b = mul-le-mul_left (reads_of ns tasks cap c.seat zone) (greatest_short (reads_there c.seat zone) ns short) in
          sums (largest (writes_of ns tasks cap c.seat zone) lengths) (reads_of ns tasks cap c.seat zone * greatest (reads_there c.seat zone) ns) (writes_of ns tasks cap c.seat zone) (reads_of ns tasks cap c.seat zone)
          a b (omega (arith, w, few)) (omega (arith, r, few))
        where
          sums : (x y w r : ℕ) → x ≤ w * LENGTH_LIMIT → y ≤ r * LENGTH_LIMIT → w ≤ SEATS → r ≤ SEATS → x + y < 2 ^ 64
          sums x y w r a b p q = omega (arith, a, b, p, q)

  read_tellable : (c : Claim) → AreTellable (read_bound ns c)
  read_tellable c =
      let keep = greatest_short (may_keep c) ns short in
      let delay = greatest_short (may_delay ns c) ns short in
      record { reads = omega (arith, one_at_most); writes = omega (arith, one_at_most); units = omega (arith, keep, delay) }

  first_tellable : (n : Option Needed) → AreTellable (bound_of_first ns tasks cap n)
  first_tellable None = record { reads = omega arith; writes = omega arith; units = omega arith }
  first_tellable (Some n) = at n.claim.write_half
    where
      at : (b : Bool) → AreTellable (cond b (write_bound ns tasks cap n.claim) (read_bound ns n.claim))
      at true = write_tellable n.claim
      at false = read_tellable n.claim

  rise_tellable : (n : Option Needed) → AreTellable (bound_of_rise ns tasks cap n)
  rise_tellable None = record { reads = omega arith; writes = omega arith; units = omega arith }
  rise_tellable (Some n) = write_tellable n.claim

  ask_tellable : (part : Set) (n : Option Needed) → AreTellable (bound_of_ask ns part n)
  ask_tellable part None = record { reads = omega arith; writes = omega arith; units = omega arith }
  ask_tellable part (Some n) =
      let bar = greatest_short (may_bar n.claim part) ns short in
      record { reads = omega (arith, one_at_most); writes = omega arith; units = omega (arith, bar) }

  part_tellable : (task number : ℕ) (part : Option Set) → AreTellable (bound_of_part ns task number part)
  part_tellable task number None = record { reads = omega arith; writes = omega arith; units = omega arith }
  part_tellable task number (Some part) = ask_tellable part (write_need ns task number)

-- *A bound may be written*
pub bound_tellable : (n : TaskNeeds) (cap task number : ℕ) (w : Which) → AreShort (needed_in n) → 1 ≤ cap → cap ≤ SEATS → AreTellable (bound_of n cap task number w)
bound_tellable n cap task number which.First short some few = first_tellable (needed_in n) short (length n.tasks) cap some few (first_need (needed_in n) task number)
bound_tellable n cap task number which.Rise short some few = rise_tellable (needed_in n) short (length n.tasks) cap some few (write_need (needed_in n) task number)
bound_tellable n cap task number (which.Ask i) short some few = part_tellable (needed_in n) short (length n.tasks) cap some few task number (slice_get (asks_at n.tasks task number) i)
