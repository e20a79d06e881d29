-- A seat takes more of what it holds: why it may, and what the state then keeps.
use Rattle.std.proofs.Common.{◌≡◌, ℕ, ◌<◌, ◌≤◌, ◌==◌, ◌++◌, Bool, true, false, List, map, length, Some, refl, sym, ap, subst, ◌∙◌}
use Rattle.std.specs.Prelude.{slice_get, slice_set, slice_index_or}
use Rattle.std.specs.FinSet.{contains, difference, is_subset}
use Rattle.std.specs.List.{AllByRecursion}
use Rattle.std.proofs.lemmas.Bool.{eqb-true, and_parts, or_left, or_right}
use Rattle.std.proofs.lemmas.List.{length-set}
use Rattle.std.proofs.lemmas.Option.{slice_get_read}
use Rattle.rset.specs.Sets.{Set, rising, all_below}
use Rattle.rset.specs.declared.TheConstants.{RESOURCES}
use Rattle.rset.proofs.SetLemmas.{within_at, apart_at, all_below_at, all_below_within, all_below_empty}
use Rattle.rmodel.specs.declared.claimed.Claimed.{Claimed}
use Rattle.rmodel.specs.declared.granted.Granted.{Granted}
use Rattle.rmodel.specs.Holds.{nothing, holds_of, held_by, is_within}
use Rattle.rmodel.specs.Reached.{IsReached}
use Rattle.rmodel.specs.State.{LockState}
use Rattle.rmodel.specs.StateLaws.{IsBelow, HoldsOneWay}
use Rattle.rmodel.specs.Steps.{after}
use Rattle.rmodel.proofs.ListFacts.{Among, contrary, false_from, all_at}
use Rattle.rmodel.proofs.reaching.HeldBySeat.{HeldBy, holding, held_within, within_itself}
use Rattle.rmodel.proofs.reaching.OneOfSeat.{each_alone}
use Rattle.rmodel.proofs.theorems.Exclusive.{exclusive}
use Rattle.rmodel.proofs.theorems.HistoryLaws.{claims_are_below, held_one_way}
use Rattle.rvalue.specs.Entries.{EntryFields}
use Rattle.rvalue.specs.Histories.{value_of}
use Rattle.rstate.specs.Contents.{Contents, AreTaken, IsKept, IsState}
use Rattle.rstate.specs.Histories.{Beginning, first_of}
use Rattle.rstate.specs.Homes.{AreHome}
use Rattle.rstate.specs.Lent.{LentFields, IsLent}
use Rattle.rstate.specs.Moves.{after_changes, HaveShares, loans_from, wholes_from}
use Rattle.rstate.specs.Shares.{ShareFields, less, absent}
use Rattle.rstate.proofs.histories.Following.{event_of, lock_is_after, accepted_lawful}
use Rattle.rstate.proofs.histories.Staying.{unwritten_by}
use Rattle.rstate.proofs.homes.Lending.{lent_more}
use Rattle.rstate.proofs.homes.Lists.{get_here, get_else, same_item}
use Rattle.rstate.proofs.homes.Moved.{changes_length}
use Rattle.rstate.proofs.homes.Taken.{homes_after}
use Rattle.rstate.proofs.homes.Taking.{MayTake, have_reads, have_writes}
use Rattle.rstate.proofs.keeping.Pushing.{kept_reached}

-- what a seat holds are resources that exist, if that is so of what claims read and write
record AreBelow (q : ℕ) (g : Granted) : Type 0 where
  reads : all_below q g.reads ≡ true
  writes : all_below q g.writes ≡ true

held_below : (s : LockState) (q seat : ℕ) → IsReached s → ((x : Claimed) → Among x s.claims → (all_below q x.claim.reads ≡ true) × (all_below q x.claim.writes ≡ true)) → AreBelow q (holds_of s.claims seat)
held_below s q seat reached low = holding s.claims seat (each_alone s reached) by_one none
  where
    by_one : HeldBy s.claims seat → AreBelow q (holds_of s.claims seat)
    by_one h =
        let within = and_parts (is_subset (held_by h.by).reads h.by.claim.reads) (is_subset (held_by h.by).writes h.by.claim.writes) (held_within h.by) in
        subst (AreBelow q) (sym h.is) (record {
          reads = all_below_within q (held_by h.by).reads h.by.claim.reads within.0 (low h.by h.there).0;
          writes = all_below_within q (held_by h.by).writes h.by.claim.writes within.1 (low h.by h.there).1;
        })

    none : holds_of s.claims seat ≡ nothing → AreBelow q (holds_of s.claims seat)
    none is = subst (AreBelow q) (sym is) (record { reads = all_below_empty q; writes = all_below_empty q })

not_in : (g h : Granted) (l : ℕ) → is_within g h ≡ true → (contains h.reads l ≡ false → contains g.reads l ≡ false) × (contains h.writes l ≡ false → contains g.writes l ≡ false)
not_in g h l within =
    let parts = and_parts (is_subset g.reads h.reads) (is_subset g.writes h.writes) within in (
      λ none. false_from (contains g.reads l) (λ is. contrary (contains h.reads l) (within_at g.reads h.reads parts.0 l is) none),
      λ none. false_from (contains g.writes l) (λ is. contrary (contains h.writes l) (within_at g.writes h.writes parts.1 l is) none),
    )

module _ {V E : Type 0} (after_edit : V → E → V) (taken_by : V → E → Bool) (number : V → ℕ)
    (m : LockState) (spare : ℕ) (c : Contents V E) (kept : IsKept after_edit taken_by number m spare c) (seat : ℕ) (g : Granted) (there : slice_get c.taken seat ≡ Some g) where
  same : m ≡ after (first_of c.beginning) (map event_of c.entries)
  same = kept.machine_is ∙ lock_is_after c.beginning c.entries

  one_way : HoldsOneWay m seat
  one_way = subst (λ (s : LockState). HoldsOneWay s seat) (sym same)
      (held_one_way c.beginning.groups c.beginning.seats c.beginning.cap (map event_of c.entries) seat (accepted_lawful after_edit taken_by number c.beginning c.entries kept.lawful))

  pub may_take : MayTake c.taken seat g (holds_of m.claims seat) (length c.beginning.values)
  may_take = record {
    there = there;
    more = kept.taken_is.within seat g there;
    one_way = λ l writes. false_from (contains (holds_of m.claims seat).reads l) (λ reads.
        contrary (contains (holds_of m.claims seat).writes l) writes (apart_at (holds_of m.claims seat).reads (holds_of m.claims seat).writes one_way l reads));
    unwritten = λ k l h differ at_k reads. (not_in h (holds_of m.claims k) l (kept.taken_is.within k h at_k)).1
        (unwritten_by m seat k l reached differ (or_left (contains (holds_of m.claims seat).reads l) (contains (holds_of m.claims seat).writes l) reads));
    not_written = λ k l h differ at_k writes. (not_in h (holds_of m.claims k) l (kept.taken_is.within k h at_k)).1
        (unwritten_by m seat k l reached differ (or_right (contains (holds_of m.claims seat).reads l) (contains (holds_of m.claims seat).writes l) writes));
    not_read = λ k l h differ at_k writes. (not_in h (holds_of m.claims k) l (kept.taken_is.within k h at_k)).0
        (apart_at (holds_of m.claims seat).writes (holds_of m.claims k).reads (exclusive m seat k reached (λ e. differ (sym e))).not_read l writes);
    reads_below = λ l reads. subst (λ n. l < n) (sym kept.values) (all_below_at c.beginning.groups.q (holds_of m.claims seat).reads low.reads l reads);
    writes_below = λ l writes. subst (λ n. l < n) (sym kept.values) (all_below_at c.beginning.groups.q (holds_of m.claims seat).writes low.writes l writes);
  }
    where
      reached : IsReached m
      reached = kept_reached after_edit taken_by number m spare c kept

      low : AreBelow c.beginning.groups.q (holds_of m.claims seat)
      low = held_below m c.beginning.groups.q seat reached (λ x in_m.
          let each : IsBelow c.beginning.groups x = all_at (IsBelow c.beginning.groups) m.claims x all in_m in
          (each.reads, each.writes))
        where
          all : AllByRecursion (IsBelow c.beginning.groups) m.claims
          all = subst (λ (s : LockState). AllByRecursion (IsBelow c.beginning.groups) s.claims) (sym same)
              (claims_are_below c.beginning.groups c.beginning.seats c.beginning.cap (map event_of c.entries) (accepted_lawful after_edit taken_by number c.beginning c.entries kept.lawful))

-- what each seat has taken lies within what it holds after a seat has taken all of it
taken_all : (claims : List Claimed) (seats : ℕ) (taken : List Granted) (seat : ℕ) (g : Granted) → slice_get taken seat ≡ Some g → AreTaken claims seats taken → AreTaken claims seats (slice_set taken seat (holds_of claims seat))
taken_all claims seats taken seat g there was = record {
  each_seat = length-set taken seat (holds_of claims seat) ∙ was.each_seat;
  within = λ k h at_k. by_test k h at_k (seat == k) refl;
}
  where
    by_test : (k : ℕ) (h : Granted) → slice_get (slice_set taken seat (holds_of claims seat)) k ≡ Some h → (b : Bool) → (seat == k) ≡ b → is_within h (holds_of claims k) ≡ true
    by_test k h at_k true is =
        let e = eqb-true seat k is in
        let all : holds_of claims seat ≡ h = same_item (holds_of claims seat) h (sym (get_here taken seat g (holds_of claims seat) there) ∙ ap (slice_get (slice_set taken seat (holds_of claims seat))) e ∙ at_k) in
        ap (λ (x : Granted). is_within x (holds_of claims k)) (sym all) ∙ ap (λ n. is_within (holds_of claims n) (holds_of claims k)) e ∙ within_itself (holds_of claims k)
    by_test k h at_k false differ = was.within k h (sym (get_else taken seat k (holds_of claims seat) differ) ∙ at_k)

-- what a list of what is taken has at a seat
pub taken_at : (taken : List Granted) (seats i seat : ℕ) (g : Granted) → length taken ≡ seats → i ≡ seat → seat < seats → g ≡ slice_index_or taken i g → slice_get taken seat ≡ Some g
taken_at taken seats i seat g long same below is =
    ap (slice_get taken) (sym same) ∙ slice_get_read taken seats i g (sym long) (subst (λ n. n < seats) (sym same) below) is

-- In this module `h` is what the seat holds, `g` what it has taken of it, and `rs` and `ws` what it has not
module _ {V E : Type 0} (after_edit : V → E → V) (taken_by : V → E → Bool) (number : V → ℕ)
    (m : LockState) (spare : ℕ) (b : Beginning V) (entries : List (EntryFields E)) (taken : List Granted) (at_home : List (ShareFields V)) (given room : ℕ)
    (was : IsState after_edit taken_by number m spare (record { beginning = b; entries = entries; taken = taken }) at_home given room)
    (seat : ℕ) (g h : Granted) (rs ws : Set) (there : slice_get taken seat ≡ Some g) (h_is : h ≡ holds_of m.claims seat)
    (rs_is : rs ≡ difference h.reads g.reads) (ws_is : ws ≡ difference h.writes g.writes) where
  all_reads : rs ≡ difference (holds_of m.claims seat).reads g.reads
  all_reads = rs_is ∙ ap (λ (x : Granted). difference x.reads g.reads) h_is

  all_writes : ws ≡ difference (holds_of m.claims seat).writes g.writes
  all_writes = ws_is ∙ ap (λ (x : Granted). difference x.writes g.writes) h_is

  pub may : MayTake taken seat g (holds_of m.claims seat) (length b.values)
  may = may_take after_edit taken_by number m spare (record { beginning = b; entries = entries; taken = taken }) was.kept seat g there

  pub have_new_reads : HaveShares less at_home (rising rs)
  have_new_reads = subst (λ (s : Set). HaveShares less at_home (rising s)) (sym all_reads)
      (have_reads b.seats seat g (holds_of m.claims seat) taken b.values (λ l v. value_of after_edit v entries l) at_home may was.kept.taken_is.each_seat was.homes.each)

  pub have_new_writes : (mid : List (ShareFields V)) → mid ≡ after_changes less at_home (rising rs) → HaveShares absent mid (rising ws)
  have_new_writes mid mid_is =
      subst (λ (hs : List (ShareFields V)). HaveShares absent hs (rising ws)) (sym (mid_is ∙ ap (λ (s : Set). after_changes less at_home (rising s)) all_reads))
      (subst (λ (s : Set). HaveShares absent (after_changes less at_home (rising (difference (holds_of m.claims seat).reads g.reads))) (rising s)) (sym all_writes)
      (have_writes b.seats seat g (holds_of m.claims seat) taken b.values (λ l v. value_of after_edit v entries l) at_home may was.kept.taken_is.each_seat was.homes.each))

  pub state_taken : (mid last : List (ShareFields V)) (k : ℕ) → k ≡ seat → mid ≡ after_changes less at_home (rising rs) → last ≡ after_changes absent mid (rising ws)
      → all_below RESOURCES rs ≡ true → all_below RESOURCES ws ≡ true
      → IsState after_edit taken_by number m spare (record { beginning = b; entries = entries; taken = slice_set taken k h }) last given room
  state_taken mid last k k_is mid_is last_is known_reads known_writes =
      subst (λ (n : ℕ). IsState after_edit taken_by number m spare (record { beginning = b; entries = entries; taken = slice_set taken n h }) last given room) (sym k_is)
      (subst (λ (x : Granted). IsState after_edit taken_by number m spare (record { beginning = b; entries = entries; taken = slice_set taken seat x }) last given room) (sym h_is) (record {
        kept = record {
          machine_is = was.kept.machine_is;
          lawful = was.kept.lawful;
          taken_is = taken_all m.claims b.seats taken seat g there was.kept.taken_is;
          room = was.kept.room;
          values = was.kept.values;
        };
        homes = record {
          each = subst (λ (hs : List (ShareFields V)). AreHome b.seats (slice_set taken seat (holds_of m.claims seat)) b.values (λ l v. value_of after_edit v entries l) hs)
              (sym (last_is ∙ ap (λ (hs : List (ShareFields V)). after_changes absent hs (rising ws)) (mid_is ∙ ap (λ (s : Set). after_changes less at_home (rising s)) all_reads)
              ∙ ap (λ (s : Set). after_changes absent (after_changes less at_home (rising (difference (holds_of m.claims seat).reads g.reads))) (rising s)) all_writes))
              (homes_after b.seats seat g (holds_of m.claims seat) taken b.values (λ l v. value_of after_edit v entries l) at_home may was.kept.taken_is.each_seat was.homes.each
              (subst (λ (s : Set). all_below RESOURCES s ≡ true) all_reads known_reads) (subst (λ (s : Set). all_below RESOURCES s ≡ true) all_writes known_writes));
          all = as_many ∙ was.homes.all;
        };
        none_given = was.none_given;
        closing = subst (λ n. n ≤ room) (sym as_many) was.closing;
      }))
    where
      as_many : length last ≡ length at_home
      as_many = ap length last_is ∙ changes_length absent mid (rising ws) ∙ ap length mid_is ∙ changes_length less at_home (rising rs)

  pub lent_taken : (mid : List (ShareFields V)) (lent lent2 : LentFields V) → mid ≡ after_changes less at_home (rising rs) → all_below RESOURCES rs ≡ true → all_below RESOURCES ws ≡ true
      → IsLent b.seats g b.values (λ l v. value_of after_edit v entries l) (λ l v. value_of after_edit v entries l) lent
      → lent2.reads ≡ lent.reads ++ loans_from at_home (rising rs) → lent2.writes ≡ lent.writes ++ wholes_from mid (rising ws)
      → IsLent b.seats (holds_of m.claims seat) b.values (λ l v. value_of after_edit v entries l) (λ l v. value_of after_edit v entries l) lent2
  lent_taken mid lent lent2 mid_is known_reads known_writes old reads_are writes_are =
      lent_more b.seats seat g (holds_of m.claims seat) taken b.values (λ l v. value_of after_edit v entries l) at_home may was.kept.taken_is.each_seat was.homes.each
      (subst (λ (s : Set). all_below RESOURCES s ≡ true) all_reads known_reads) (subst (λ (s : Set). all_below RESOURCES s ≡ true) all_writes known_writes)
      lent lent2 old
      (reads_are ∙ ap (λ (s : Set). lent.reads ++ loans_from at_home (rising s)) all_reads)
      (writes_are ∙ ap (λ (hs : List (ShareFields V)). lent.writes ++ wholes_from hs (rising ws)) (mid_is ∙ ap (λ (s : Set). after_changes less at_home (rising s)) all_reads)
      ∙ ap (λ (s : Set). lent.writes ++ wholes_from (after_changes less at_home (rising (difference (holds_of m.claims seat).reads g.reads))) (rising s)) all_writes)
