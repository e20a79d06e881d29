-- The rows answer what bounds the waits of reads and asks.
use Rattle.std.proofs.Common.{◌≡◌, ◌<◌, ◌&&◌, ◌||◌, ◌==◌, not, ℕ, Bool, true, false, List, Option, None, refl, sym, ap, ◌∙◌}
use Rattle.std.specs.List.{list_any}
use Rattle.std.specs.FinSet.{empty, contains}
use Rattle.std.proofs.lemmas.Bool.{and_parts, and_from}
use Rattle.rset.specs.Sets.{Set, meets, rising, all_below}
use Rattle.rset.specs.declared.TheConstants.{RESOURCES}
use Rattle.rset.proofs.SetLemmas.{same_test, meets_from, meets_common, meets_empty_left, meets_empty_right, meets_symmetric, rising_below, rising_has, rising_member}
use Rattle.rclaim.specs.declared.claim.Claim.{Claim}
use Rattle.rmodel.specs.Claims.{conflicts}
use Rattle.rmodel.specs.WellFormed.{Among}
use Rattle.rmodel.proofs.ListFacts.{any_among, passing}
use Rattle.rbound.specs.Needs.{Needed}
use Rattle.rbound.specs.Bounds.{can_hold_up, may_keep, may_delay}
use Rattle.rbound.specs.Longest.{longest}
use Rattle.rbound.specs.Sound.{AreSound}
use Rattle.rbound.proofs.LongestClaims.{longest_any, longest_same, longest_of_same, folded}
use Rattle.rbound.proofs.BesideFacts.{beside_same, beside_all}
use Rattle.rbound_table.specs.Tables.{key_of, cell_at, IsTable}
use Rattle.rbound_table.specs.AllTables.{AreTables}
use Rattle.rbound_table.specs.Lengths.{others_at, others_in, length_at, longest_over}
use Rattle.rbound_table.specs.Two.{no_length, two_at}
use Rattle.rbound_table.specs.Delays.{delayed, delayers_in, delayers_at, delay_at, delays_in}
use Rattle.rbound_table.specs.declared.table.Cell.{Cell}
use Rattle.rbound_table.specs.declared.table.Key.TheVariants.{Reads, Writes}
use Rattle.rbound_table.specs.declared.tables.Tables.{Tables}
use Rattle.rbound_table.proofs.QueryFacts.{among_any, any_at, any_and, meets_rising}
use Rattle.rbound_table.proofs.RowFacts.{nth_row}
use Rattle.rbound_table.proofs.HoldFacts.{holds_beside, delays_is}

module _ (ns : List Needed) (tasks : ℕ) (are : AreSound ns tasks) (tables : Tables) (ts : AreTables ns tasks tables) (me : ℕ) (some : me < tasks) where
  other_is : (key : Needed → Set) (cells : List Cell) (rows : List (List (Option ℕ))) → IsTable key ns tasks cells → rows ≡ others_in cells tasks → (l : ℕ) → l < RESOURCES
      → length_at rows l me ≡ longest (λ n. not (n.claim.seat == me) && contains (key n) l) ns
  other_is key cells rows is rs l within =
      nth_row (others_at cells tasks) None rows RESOURCES tasks l me rs within some
      ∙ beside_all ns tasks are.seats me (λ t. (cell_at cells t l).longest) (λ n. contains (key n) l) (λ t below. ap (λ (c : Cell). c.longest) (is.has t l below within))

  -- over some resources
  others_are : (key : Needed → Set) (cells : List Cell) (rows : List (List (Option ℕ))) → IsTable key ns tasks cells → rows ≡ others_in cells tasks → (s : Set) → all_below RESOURCES s ≡ true
      → longest_over rows me s ≡ longest (λ n. not (n.claim.seat == me) && meets (key n) s) ns
  others_are key cells rows is rs s below =
      folded (λ l. length_at rows l me) (rising s)
      ∙ longest_of_same (λ l. length_at rows l me) (λ l. longest (λ n. not (n.claim.seat == me) && contains (key n) l) ns) (rising s) (λ l there. other_is key cells rows is rs l (rising_below s l (among_any (rising s) l there)))
      ∙ sym (longest_any (λ l n. not (n.claim.seat == me) && contains (key n) l) (rising s) ns)
      ∙ longest_same (λ n. list_any (λ l. not (n.claim.seat == me) && contains (key n) l) (rising s)) (λ n. not (n.claim.seat == me) && meets (key n) s) ns
      (λ n there. any_and (not (n.claim.seat == me)) (contains (key n)) (rising s) ∙ ap (λ b. not (n.claim.seat == me) && b) (meets_rising (key n) s below))

  pub barrer_is : (bars : List (List (Option ℕ))) → bars ≡ others_in tables.reads.items tasks → (s : Set) → all_below RESOURCES s ≡ true → longest_over bars me s ≡ longest (λ n. not (n.claim.seat == me) && meets n.claim.reads s) ns
  barrer_is bars rs s below = others_are (key_of Reads) tables.reads.items bars ts.reads rs s below

  delayer_is : (s l : ℕ) → s < tasks → l < RESOURCES → delayers_at (delayers_in tables tasks) s l ≡ delayed tables tasks s l
  delayer_is s l writer within = nth_row (delayed tables tasks) no_length (delayers_in tables tasks) tasks RESOURCES s l refl writer within

  delay_is : (delays : List (List (Option ℕ))) → delays ≡ delays_in tables tasks → (l : ℕ) → l < RESOURCES → length_at delays l me ≡ longest (λ n. not (n.claim.seat == me) && list_any (holds_beside ns tasks are l me n) ns) ns
  delay_is delays rs l within =
      nth_row (delay_at (delayers_in tables tasks) tasks) None delays RESOURCES tasks l me rs within some
      ∙ beside_same tasks me (λ s. two_at (delayers_at (delayers_in tables tasks) s l) me) (λ s. two_at (delayed tables tasks s l) me) (λ s writer. ap (λ two. two_at two me) (delayer_is s l writer within))
      ∙ delays_is ns tasks are tables ts l me within

  module _ (r : Claim) (mine : r.seat ≡ me) (none : r.writes ≡ empty) (below : all_below RESOURCES r.reads ≡ true) where
    -- a write claim of another task keeps the read waiting exactly where it writes something that the read reads
    conflict_is : (v : Claim) → conflicts v r ≡ meets v.writes r.reads
    conflict_is v =
        (λ i. (meets r.reads v.writes || meets (none i) v.writes) || (meets v.reads (none i) || meets v.writes (none i)))
        ∙ (λ i. (meets_symmetric r.reads v.writes i || meets_symmetric empty v.writes i) || (meets v.reads empty || meets v.writes empty))
        ∙ (λ i. (meets v.writes r.reads || meets_empty_right v.writes i) || (meets_empty_right v.reads i || meets_empty_right v.writes i))
        ∙ or_none (meets v.writes r.reads)
      where
        or_none : (b : Bool) → ((b || false) || (false || false)) ≡ b
        or_none true = refl
        or_none false = refl

    keeps_same : (v : Needed) → Among v ns → (not (v.claim.seat == me) && meets v.claim.writes r.reads) ≡ may_keep r v
    keeps_same v there = ap (λ k. not (v.claim.seat == k) && meets v.claim.writes r.reads) (sym mine) ∙ at v.claim.write_half refl
      where
        neither : (b : Bool) → (b && false) ≡ false
        neither true = refl
        neither false = refl

        at : (b : Bool) → v.claim.write_half ≡ b → (not (v.claim.seat == r.seat) && meets v.claim.writes r.reads) ≡ ((v.claim.write_half && not (v.claim.seat == r.seat)) && conflicts v.claim r)
        at true h = ap (λ b. not (v.claim.seat == r.seat) && b) (sym (conflict_is v.claim)) ∙ sym (ap (λ b. (b && not (v.claim.seat == r.seat)) && conflicts v.claim r) h)
        at false h =
            ap (λ s. not (v.claim.seat == r.seat) && meets s r.reads) (are.writes v there h)
            ∙ ap (λ b. not (v.claim.seat == r.seat) && b) (meets_empty_left r.reads)
            ∙ neither (not (v.claim.seat == r.seat))
            ∙ sym (ap (λ b. (b && not (v.claim.seat == r.seat)) && conflicts v.claim r) h)

    pub keepers : (keeps : List (List (Option ℕ))) → keeps ≡ others_in tables.writes.items tasks → longest_over keeps me r.reads ≡ longest (may_keep r) ns
    keepers keeps rs = others_are (key_of Writes) tables.writes.items keeps ts.writes rs r.reads below ∙ longest_same (λ n. not (n.claim.seat == me) && meets n.claim.writes r.reads) (may_keep r) ns keeps_same

    held_up : (n : Needed) → list_any (λ l. list_any (holds_beside ns tasks are l me n) ns) (rising r.reads) ≡ list_any (λ v. may_keep r v && can_hold_up n.claim v.claim) ns
    held_up n = same_test _ _
        (λ h.
        let l = passing (λ l. list_any (holds_beside ns tasks are l me n) ns) (rising r.reads) h in
        let v = passing (holds_beside ns tasks are l.0 me n) ns l.2 in
        let a = and_parts v.0.claim.write_half (not (v.0.claim.seat == me) && (contains v.0.claim.writes l.0 && can_hold_up n.claim v.0.claim)) v.2 in
        let b = and_parts (not (v.0.claim.seat == me)) (contains v.0.claim.writes l.0 && can_hold_up n.claim v.0.claim) a.1 in
        let c = and_parts (contains v.0.claim.writes l.0) (can_hold_up n.claim v.0.claim) b.1 in
        let read : contains r.reads l.0 ≡ true = rising_member r.reads l.0 (among_any (rising r.reads) l.0 l.1) in
        let keeps : may_keep r v.0 ≡ true = sym (keeps_same v.0 v.1) ∙ and_from (not (v.0.claim.seat == me)) (meets v.0.claim.writes r.reads) b.0 (meets_from v.0.claim.writes r.reads l.0 c.0 read) in
        any_among (λ v. may_keep r v && can_hold_up n.claim v.claim) ns v.0 v.1 (and_from (may_keep r v.0) (can_hold_up n.claim v.0.claim) keeps c.1))
        (λ h.
        let v = passing (λ v. may_keep r v && can_hold_up n.claim v.claim) ns h in
        let a = and_parts (may_keep r v.0) (can_hold_up n.claim v.0.claim) v.2 in
        let b = and_parts (v.0.claim.write_half && not (v.0.claim.seat == r.seat)) (conflicts v.0.claim r) a.0 in
        let w = and_parts v.0.claim.write_half (not (v.0.claim.seat == r.seat)) b.0 in
        let k = and_parts (not (v.0.claim.seat == me)) (meets v.0.claim.writes r.reads) (keeps_same v.0 v.1 ∙ a.0) in
        let l = meets_common v.0.claim.writes r.reads k.1 in
        any_among (λ l. list_any (holds_beside ns tasks are l me n) ns) (rising r.reads) l.0 (any_at (rising r.reads) l.0 (rising_has r.reads below l.0 ∙ l.2))
        (any_among (holds_beside ns tasks are l.0 me n) ns v.0 v.1
        (and_from v.0.claim.write_half _ w.0 (and_from (not (v.0.claim.seat == me)) _ k.0 (and_from (contains v.0.claim.writes l.0) (can_hold_up n.claim v.0.claim) l.1 a.1)))))

    pub delayers : (delays : List (List (Option ℕ))) → delays ≡ delays_in tables tasks → longest_over delays me r.reads ≡ longest (may_delay ns r) ns
    delayers delays rs =
        folded (λ l. length_at delays l me) (rising r.reads)
        ∙ longest_of_same (λ l. length_at delays l me) (λ l. longest (λ n. not (n.claim.seat == me) && list_any (holds_beside ns tasks are l me n) ns) ns) (rising r.reads)
        (λ l there. delay_is delays rs l (rising_below r.reads l (among_any (rising r.reads) l there)))
        ∙ sym (longest_any (λ l n. not (n.claim.seat == me) && list_any (holds_beside ns tasks are l me n) ns) (rising r.reads) ns)
        ∙ longest_same (λ n. list_any (λ l. not (n.claim.seat == me) && list_any (holds_beside ns tasks are l me n) ns) (rising r.reads)) (may_delay ns r) ns
        (λ n there.
        any_and (not (n.claim.seat == me)) (λ l. list_any (holds_beside ns tasks are l me n) ns) (rising r.reads)
        ∙ (λ i. not (n.claim.seat == sym mine i) && held_up n i))
