-- When a wait is covered.
use Rattle.std.specs.Prelude.{◌≡◌, ◌≢◌, ◌≤◌, ◌+◌, true, false, not, Some, List, [], length, filter, ◌⊎◌, is_some}
use Rattle.std.specs.List.{AllByRecursion}
use Rattle.std.specs.FinSet.{intersection}
use Rattle.rset.specs.Sets.{Set, meets}
use Rattle.rclaim.specs.declared.claim.Claim.{Claim}
use Rattle.rmodel.specs.declared.claimed.Claimed.{Claimed}
use Rattle.rmodel.specs.Laws.{keeps_out}
use Rattle.rmodel.specs.WellFormed.{Among, EachPair}
use Rattle.rcover_laws.specs.Line.{least_of, is_least, leasts, kept_moments, read_for, write_sections}
use Rattle.rcover_laws.specs.Moments.{Moment, is_claim, holds_at}
use Rattle.rcover_laws.specs.Sections.{Covers, keeper_of, moments_without, read_sections, ask_sections}

-- at a moment an entitled or satisfied write keeps the read claim c waiting: v, and no other write
pub record IsKeptBy (c v : Claim) (m : Moment) : Type 0 where
  pub at : Claimed
  pub among : Among at m
  pub is : at.claim ≡ v
  pub keeps : keeps_out c at ≡ true
  pub alone : AllByRecursion (λ x. keeps_out c x ≡ true → x.claim ≡ v) m

-- the wait of a read claim is covered, over these moments
pub record IsReadCovered (c : Claim) (ms : List Moment) : Type 0 where
  -- one and the same write keeps it waiting at all moments
  pub keeper : Claim
  pub is_keeper : keeper_of c ms ≡ Some keeper
  pub kept : AllByRecursion (IsKeptBy c keeper) ms
  -- once it is satisfied it stays so to the end of the wait
  pub stays : EachPair (λ m n. holds_at keeper m ≡ true → holds_at keeper n ≡ true) ms
  -- one of its sections goes on at each moment
  pub covered : Covers (read_sections c ms) ms
  -- one section is taken that counts as a read, if the write is not satisfied at some moment, and else no such section; and at most one that counts
  -- as a write
  pub one_read : moments_without keeper ms ≢ [] → length (read_sections c ms).reads ≡ 1
  pub no_read : moments_without keeper ms ≡ [] → (read_sections c ms).reads ≡ []
  pub one_write : length (read_sections c ms).writes ≤ 1
  -- the section that counts as a read reads what the write writes
  pub reads_written : AllByRecursion (λ x. meets x.reads keeper.writes ≡ true) (read_sections c ms).reads

-- each claim but c belongs to another seat than c, and no two of them to the same seat
pub record AreOfOtherSeats (c : Claim) (ds : List Claim) : Type 0 where
  pub from_it : AllByRecursion (λ d. (d ≡ c) ⊎ (d.seat ≢ c.seat)) ds
  pub among_them : EachPair (λ d e. d.seat ≢ e.seat) ds

-- the wait of a write claim is covered, over these moments
pub record IsWriteCovered (c : Claim) (ms : List Moment) : Type 0 where
  -- the least claim of the line only rises
  pub rises : EachPair (λ m n. (least_of c m).stamp ≤ (least_of c n).stamp) ms
  -- each least claim but the claim itself belongs to another seat, and no two of them to the same seat
  pub other_seats : AreOfOtherSeats c (leasts c ms)
  -- once one of them is satisfied as the least, it stays so as long as it is the least
  pub stays : AllByRecursion (λ d. EachPair (λ m n. is_least c d m ≡ true → is_least c d n ≡ true → holds_at d m ≡ true → holds_at d n ≡ true) ms) (leasts c ms)
  -- a read is taken for each that is not satisfied at some moment at which it is the least
  pub reads_exist : AllByRecursion (λ d. kept_moments c d ms ≢ [] → is_some (read_for c ms d) ≡ true) (leasts c ms)
  -- one of its sections goes on at each moment
  pub covered : Covers (write_sections c ms) ms
  -- no write section is taken of the claim itself; so there are at most as many as other claims are the least, and at most one read section more
  pub not_itself : AllByRecursion (λ d. is_claim d c ≡ false) (write_sections c ms).writes
  pub few_writes : length (write_sections c ms).writes ≤ length (filter (λ d. not (is_claim d c)) (leasts c ms))
  pub few_reads : length (write_sections c ms).reads ≤ length (filter (λ d. not (is_claim d c)) (leasts c ms)) + 1

-- the wait of an ask for this part is covered, over these moments
pub record IsAskCovered (c : Claim) (part : Set) (ms : List Moment) : Type 0 where
  -- one section is taken, and it goes on at each moment
  pub covered : Covers (ask_sections c part ms) ms
  pub one_read : length (ask_sections c part ms).reads ≡ 1
  -- it reads what the asker asks to write
  pub reads_asked : AllByRecursion (λ x. meets x.reads (intersection part c.writes) ≡ true) (ask_sections c part ms).reads
