-- No write wait goes above its bound.
use Rattle.std.proofs.Common.{◌≡◌, ◌≢◌, ◌<◌, ◌≤◌, ℕ, suc, ◌+◌, ◌-◌, ◌*◌, ◌==◌, nat_lt, Bool, true, false, not, ◌&&◌, ◌||◌, cond, length, None, List, ◌∷◌, filter, map, refl, sym, ap, subst, ◌∙◌, inl, inr, arith}
use Rattle.std.proofs.lemmas.Bool.{and_from, and_parts, or_cases, eq-eqb, eqb-true, le-ltb, ltb-false}
use Rattle.std.specs.List.{list_any, filter_map, AllByRecursion}
use Rattle.rset.specs.Sets.{Set}
use Rattle.rclaim.specs.declared.claim.Claim.{Claim}
use Rattle.rclaim.specs.declared.event.Event.{Event}
use Rattle.rmodel.specs.declared.claimed.Claimed.{Claimed}
use Rattle.rmodel.specs.Claims.{is_read_half, is_upgrade}
use Rattle.rmodel.specs.Reached.{IsReached}
use Rattle.rmodel.specs.State.{LockState}
use Rattle.rmodel.specs.Steps.{AreAccepted}
use Rattle.rmodel.specs.WellFormed.{EachPair, Distinct}
use Rattle.rmodel.proofs.ListFacts.{Among, contrary, false_from, all_at, all_from, all_among, any_among, none_among, among_filter, pair_among, pairs_filter, pairs_with}
use Rattle.rmodel.proofs.reaching.Soundness.{read_of_half}
use Rattle.rmodel.proofs.settling.Keeping.{not_false}
use Rattle.rmodel.proofs.settling.OneSettlement.{both_cases}
use Rattle.rbound.specs.Bounds.{IsWithin, greatest, largest, tasks_of, reads_there, upgrades_there, is_writer, writers, writes_of, all_may_write, none_beside, reads_of, write_length, write_bound}
use Rattle.rbound.specs.Needs.{Needed}
use Rattle.rbound.specs.Zones.{is_there, zone_of}
use Rattle.rcover_laws.specs.Line.{least_of, leasts, is_least, write_sections}
use Rattle.rcover_laws.specs.Moments.{Moment, moments, is_claim, holds_at, There}
use Rattle.rcover_laws.specs.Sections.{holder_of}
use Rattle.rcover_laws.specs.Waits.{WriteWaits}
use Rattle.rcover_laws.specs.Within.{numbers_of}
use Rattle.rcover_laws.proofs.bounds.Knowing.{IsNeed, AreKnown, sum_is_total}
use Rattle.rcover_laws.proofs.bounds.WriteSections.{IsTakenRead, taken_read, IsOtherWrite, other_write, writes_zone, write_less, IsOtherRead, other_read, read_less}
use Rattle.rcover_laws.proofs.covers.WriteCover.{each_there, least_is_of_first, least_among, holds_up, taken_for, no_section, of_other_seats, write_covered}
use Rattle.rcover_laws.proofs.lists.Counting.{total, pigeons, weights, total_within, in_range}
use Rattle.rcover_laws.proofs.lists.Different.{are_different, different_shorter, filter_map_fewer, one_less}
use Rattle.rcover_laws.proofs.lists.Found.{list_parts, all_so}
use Rattle.rcover_laws.proofs.runs.LineOverTime.{satisfied_first}
use Rattle.rcover_laws.proofs.runs.Moments.{are_one, one_from, is_other, is_itself, sat_holds}
use Rattle.rcover_laws.proofs.states.AtRest.{Sat}
use Rattle.rcover_laws.proofs.states.LeastOfLine.{IsWriteThere, least_there, least_entitled, least_held}
use Rattle.rcover_laws.proofs.states.Lines.{least_is}

-- ---- claims of one state

-- a claim is in a state, and is no read half of an upgrade
record StandsWhole (d : Claim) (m : Moment) : Type 0 where
  there : There d m
  whole : is_read_half d ≡ false

-- different claims of a state are at most as many as the cap
within_cap : (s : LockState) → IsReached s → (ds : List Claim) → EachPair (λ d e. is_claim d e ≡ false) ds → AllByRecursion (λ d. StandsWhole d s.claims) ds → length ds ≤ s.cap
within_cap s reached ds pairs each =
    let counted = pigeons (λ (d : Claim) (y : Claimed). is_claim d y.claim) (λ y. not (is_read_half y.claim)) s.claims ds
    (pairs_with (λ d. Unit {0}) (λ d e. is_claim d e ≡ false) (λ d e. (y : Claimed) → is_claim d y.claim ≡ true → is_claim e y.claim ≡ false)
    (λ d e a b other y h. false_from (is_claim e y.claim) (λ h'.
    let one = are_one d y.claim h in
    let two = are_one e y.claim h' in
    contrary (is_claim d e) (one_from d e (record { stamp = one.stamp ∙ sym two.stamp; half = one.half ∙ sym two.half })) other)) ds (all_from (λ d. Unit {0}) ds (λ d there. tt)) pairs)
    (all_so (λ d. StandsWhole d s.claims) (λ d. list_any (λ y. not (is_read_half y.claim) && is_claim d y.claim) s.claims ≡ true)
    (λ d w. any_among (λ y. not (is_read_half y.claim) && is_claim d y.claim) s.claims w.there.at w.there.among
    (and_from (not (is_read_half w.there.at.claim)) (is_claim d w.there.at.claim) (ap not (ap is_read_half w.there.is ∙ w.whole)) (is_other d w.there.at.claim (sym w.there.is)))) ds each) in
    let most = reached.sound.within_cap in omega arith

whole_write : (d : Claim) → d.write_half ≡ true → is_read_half d ≡ false
whole_write d write = ap (λ b. is_upgrade d.kind && not b) write ∙ never (is_upgrade d.kind)
  where
    never : (a : Bool) → (a && false) ≡ false
    never true = refl
    never false = refl

-- ---- claims of different tasks

module _ (s : LockState) (reached : IsReached s) where
  seat_below : (d : Claim) → There d s.claims → d.seat < s.seats
  seat_below d h = let below = all_at (λ x. x.claim.seat < s.seats) s.claims h.at reached.sound.seated h.among in let same = ap (λ x. x.seat) h.is in omega arith

  seat_among : (d : Claim) → d.seat < s.seats → Among d.seat (tasks_of s.seats)
  seat_among d below = subst (λ (n : ℕ). Among n (tasks_of s.seats)) (omega arith) (in_range s.seats 0 d.seat below)

apart_seats : (ds : List Claim) → EachPair (λ d e. d.seat ≢ e.seat) ds → EachPair (λ d e. (t : ℕ) → (d.seat == t) ≡ true → (e.seat == t) ≡ false) ds
apart_seats ds pairs =
    pairs_with (λ (d : Claim). Unit {0}) (λ d e. d.seat ≢ e.seat) (λ d e. (t : ℕ) → (d.seat == t) ≡ true → (e.seat == t) ≡ false)
    (λ d e a b other t h. false_from (e.seat == t) (λ h'. other (eqb-true d.seat t h ∙ sym (eqb-true e.seat t h')))) ds (all_from (λ (d : Claim). Unit {0}) ds (λ d there. tt)) pairs

-- ---- the bound

module _ (c : Claim) (s : LockState) (es : List Event) (reached : IsReached s) (accepted : AreAccepted s es) (waits : AllByRecursion (WriteWaits c) (moments s es))
    (ns : List Needed) (len number : Claim → ℕ) (known : AllByRecursion (AreKnown ns len number) (moments s es)) (need : Needed) (in_ns : Among need ns) (is : IsNeed len number c need) where
  abbrev ms : List Moment
  ms = moments s es

  abbrev task : ℕ
  task = need.claim.seat

  abbrev zone : Set
  zone = zone_of ns need.claim.places

  abbrev others : List Claim
  others = filter (λ d. not (is_claim d c)) (leasts c ms)

  abbrev w : ℕ
  w = writes_of ns s.seats s.cap task zone

  abbrev Other : Claim → Type 0
  Other d = IsOtherWrite c s es reached accepted waits ns len number known need in_ns is d

  abbrev Reader : Claim → Type 0
  Reader d = IsOtherRead c s es reached accepted waits ns len number known need in_ns is d

  are_others : AllByRecursion Other others
  are_others = all_from Other others (λ d there.
      let h = among_filter (λ d. not (is_claim d c)) (leasts c ms) d there in
      other_write c s es reached accepted waits ns len number known need in_ns is d h.0 (not_false (is_claim d c) h.1))

  -- the other writers

  writer_hit : (d : Claim) → There d s.claims → is_writer ns task zone d.seat ≡ true → list_any (λ t. is_writer ns task zone t && (d.seat == t)) (tasks_of s.seats) ≡ true
  writer_hit d there writes =
      any_among (λ t. is_writer ns task zone t && (d.seat == t)) (tasks_of s.seats) d.seat (seat_among s reached d (seat_below s reached d there)) (and_from (is_writer ns task zone d.seat) (d.seat == d.seat) writes (eq-eqb d.seat d.seat refl))

  other_hit : (d : Claim) → Other d → list_any (λ t. is_writer ns task zone t && (d.seat == t)) (tasks_of s.seats) ≡ true
  other_hit d o = writer_hit d o.there.there (writes_zone c s es reached accepted waits ns len number known need in_ns is d o)

  seats_apart : EachPair (λ d e. d.seat ≢ e.seat) others
  seats_apart = pairs_filter (λ (d e : Claim). d.seat ≢ e.seat) (λ d. not (is_claim d c)) (leasts c ms) (of_other_seats c s es reached accepted waits).among_them

  few_writers : length others ≤ writers ns s.seats task zone
  few_writers =
      pigeons (λ (d : Claim) (t : ℕ). d.seat == t) (is_writer ns task zone) (tasks_of s.seats) others (apart_seats others seats_apart)
      (all_so Other (λ d. list_any (λ t. is_writer ns task zone t && (d.seat == t)) (tasks_of s.seats) ≡ true) other_hit others are_others)

  -- the claims that are beside the waiting one

  is_c : is_claim c c ≡ true
  is_c = is_itself c

  c_whole : StandsWhole c s.claims
  c_whole = let h = (each_there c s es reached accepted waits).0 in record { there = h.there; whole = whole_write c h.write }

  turned : (d e : Claim) → is_claim d e ≡ false → is_claim e d ≡ false
  turned d e other = false_from (is_claim e d) (λ h. let one = are_one e d h in contrary (is_claim d e) (one_from d e (record { stamp = sym one.stamp; half = sym one.half })) other)

  others_differ : EachPair (λ d e. is_claim d e ≡ false) (c ∷ others)
  others_differ = (
    all_from (λ d. is_claim c d ≡ false) others (λ d there. turned d c (not_false (is_claim d c) (among_filter (λ d. not (is_claim d c)) (leasts c ms) d there).1)),
    pairs_filter (λ d e. is_claim d e ≡ false) (λ d. not (is_claim d c)) (leasts c ms) (are_different (map (least_of c) ms)),
  )

  others_whole : AllByRecursion (λ d. StandsWhole d s.claims) (c ∷ others)
  others_whole = (c_whole, all_so Other (λ d. StandsWhole d s.claims) (λ d o. record { there = o.there.there; whole = whole_write d o.there.write }) others are_others)

  few_claims : suc (length others) ≤ s.cap
  few_claims = within_cap s reached (c ∷ others) others_differ others_whole

  others_within : length others ≤ w
  others_within = let a = few_writers in let b = few_claims in omega arith

  -- a reader beside them that is no upgrade

  module _ (x : Claim) (reader : Reader x) (sat : Sat x s.claims) (read : x.write_half ≡ false) (whole : is_read_half x ≡ false) where
    x_there : There x s.claims
    x_there = record { at = sat.at; among = sat.among; is = sat.is }

    read_differs : (d : Claim) → d.write_half ≡ true → is_claim x d ≡ false
    read_differs d write = false_from (is_claim x d) (λ h. contrary d.write_half write (sym (are_one x d h).half ∙ read))

    more_claims : suc (suc (length others)) ≤ s.cap
    more_claims =
        within_cap s reached (x ∷ c ∷ others)
        ((read_differs c (each_there c s es reached accepted waits).0.write, all_so Other (λ d. is_claim x d ≡ false) (λ d o. read_differs d o.there.write) others are_others), others_differ)
        (record { there = x_there; whole = whole }, others_whole)

    seat_apart : (d : Claim) → IsWriteThere d s.claims → x.seat ≢ d.seat
    seat_apart d h seats =
        let at_one : sat.at.claim.seat ≡ h.there.at.claim.seat = ap (λ y. y.seat) sat.is ∙ seats ∙ ap (λ y. y.seat) (sym h.there.is) in
        elim (pair_among Distinct s.claims sat.at h.there.at reached.sound.one_each sat.among h.there.among) [
          | inl same ↦ contrary d.write_half h.write (ap (λ y. y.write_half) (sym h.there.is) ∙ ap (λ (z : Claimed). z.claim.write_half) (sym same) ∙ ap (λ y. y.write_half) sat.is ∙ read)
          | inr (inl two) ↦ contrary (is_read_half x) (ap is_read_half (sym sat.is) ∙ (two at_one).reads) whole
          | inr (inr two) ↦ contrary d.write_half h.write (ap (λ y. y.write_half) (sym h.there.is) ∙ read_of_half h.there.at.claim (two (sym at_one)).reads)
        ]

    more_writers : is_writer ns task zone x.seat ≡ true → suc (length others) ≤ writers ns s.seats task zone
    more_writers writes =
        pigeons (λ (d : Claim) (t : ℕ). d.seat == t) (is_writer ns task zone) (tasks_of s.seats) (x ∷ others)
        (apart_seats (x ∷ others) (all_so Other (λ d. x.seat ≢ d.seat) (λ d o. seat_apart d o.there) others are_others, seats_apart))
        (writer_hit x x_there writes, all_so Other (λ d. list_any (λ t. is_writer ns task zone t && (d.seat == t)) (tasks_of s.seats) ≡ true) other_hit others are_others)

    room_for_it : ((w == (s.cap - 1)) || all_may_write ns task zone) ≡ true → suc (length others) ≤ w
    room_for_it either = elim (or_cases (w == (s.cap - 1)) (all_may_write ns task zone) either) [
      | inl full ↦ (let same = eqb-true w (s.cap - 1) full in let more = more_claims in omega arith)
      | inr all ↦
          let n = reader.of_zone.known in
          let writes = elim (or_cases (not (reads_there task zone n.need)) (is_writer ns task zone n.need.claim.seat)
          (all_among (λ n. not (reads_there task zone n) || is_writer ns task zone n.claim.seat) ns n.need all n.among)) as (λ o. is_writer ns task zone x.seat ≡ true) [
            | inl off ↦ contrary (reads_there task zone n.need) reader.passes (not_false (reads_there task zone n.need) off)
            | inr on ↦ ap (is_writer ns task zone) (sym n.is.seat) ∙ on
          ] in
          let a = more_writers writes in let b = more_claims in omega arith
    ]

  -- the reads that are taken

  abbrev taken_reads : List Claim
  taken_reads = (write_sections c ms).reads

  abbrev all_reads : List Claim
  all_reads = filter_map (taken_for c s es reached accepted waits) (leasts c ms)

  reader_of : (x : Claim) → IsTakenRead c s es reached accepted waits x → Reader x
  reader_of x t =
      other_read c s es reached accepted waits ns len number known need in_ns is x t.least (least_is_of_first c s es reached accepted waits t.least t.among_leasts) t.read t.conflict t.moment t.among t.sat

  readers : AllByRecursion Reader taken_reads
  readers = all_from Reader taken_reads (λ x there. reader_of x (taken_read c s es reached accepted waits x there))

  no_reads : list_any (reads_there task zone) ns ≡ false → length taken_reads ≡ 0
  no_reads none = elim (list_parts taken_reads) [
    | inl empty ↦ ap length empty
    | inr some ↦
        let r = all_at Reader taken_reads some.0 readers (subst (λ (xs : List Claim). Among some.0 xs) (sym some.2) (inl refl)) in
        contrary (reads_there task zone r.of_zone.known.need) r.passes (none_among (reads_there task zone) ns r.of_zone.known.need none r.of_zone.known.among)
  ]

  abbrev first_least : Claim
  first_least = least_of c s.claims

  -- if the first least is satisfied at once, no read is taken for it
  fewer_reads : holds_at first_least s.claims ≡ true → length taken_reads ≤ length others
  fewer_reads on =
      let there = each_there c s es reached accepted waits in
      let l = least_there s reached c there.0 in
      let empty = satisfied_first c s es reached accepted there (sat_holds s reached first_least l.write l.there on) in
      let none : taken_for c s es reached accepted waits first_least ≡ None = ap (holder_of (holds_up first_least)) empty in
      let a = filter_map_fewer (taken_for c s es reached accepted waits) (leasts c ms) first_least (least_among c s es reached accepted waits s.claims (inl refl)) none in
      let b = different_shorter all_reads in
      let e = one_less c (leasts c ms) (are_different (map (least_of c) ms)) in omega arith

  -- if not, a reader holds it up at the first moment
  held_first : none_beside ns s.seats s.cap task zone ≡ true → holds_at first_least s.claims ≡ false → suc (length others) ≤ w
  held_first beside off =
      let there = each_there c s es reached accepted waits in
      let held = least_held s reached c there.0 (least_entitled s reached c there.0 off) in
      let reader = other_read c s es reached accepted waits ns len number known need in_ns is held.by first_least (least_is c s.claims) held.right held.holds_up.conflict s.claims (inl refl) held.sat in
      let parts = and_parts (not (list_any (upgrades_there task zone) ns)) ((w == (s.cap - 1)) || all_may_write ns task zone) beside in
      room_for_it held.by reader held.sat held.right (no_upgrade held.by reader (not_false (list_any (upgrades_there task zone) ns) parts.0)) parts.1
    where
      no_upgrade : (x : Claim) → (r : Reader x) → list_any (upgrades_there task zone) ns ≡ false → is_read_half x ≡ false
      no_upgrade x r none = false_from (is_read_half x) (λ h.
          let n = r.of_zone.known in
          let of_kind = and_parts (is_upgrade x.kind) (not x.write_half) h in
          let passes = and_parts (not (n.need.claim.seat == task) && not n.need.claim.write_half) (is_there zone n.need) r.passes in
          let elsewhere = and_parts (not (n.need.claim.seat == task)) (not n.need.claim.write_half) passes.0 in
          contrary (upgrades_there task zone n.need)
          (and_from (not (n.need.claim.seat == task) && is_upgrade n.need.claim.kind) (is_there zone n.need)
          (and_from (not (n.need.claim.seat == task)) (is_upgrade n.need.claim.kind) elsewhere.0 (ap is_upgrade n.is.kind ∙ of_kind.0)) passes.1)
          (none_among (upgrades_there task zone) ns n.need none n.among))

  reads_with_none_beside : none_beside ns s.seats s.cap task zone ≡ true → length taken_reads ≤ w
  reads_with_none_beside beside =
      both_cases (holds_at first_least s.claims)
      (λ on. let a = fewer_reads on in let b = others_within in omega arith)
      (λ off. let a = held_first beside off in let b = (write_covered c s es reached accepted waits).few_reads in omega arith)

  reads_number : length taken_reads ≤ reads_of ns s.seats s.cap task zone
  reads_number =
      at (list_any (reads_there task zone) ns) (none_beside ns s.seats s.cap task zone) no_reads reads_with_none_beside
      (let a = (write_covered c s es reached accepted waits).few_reads in let b = others_within in omega arith)
    where
      at : (a b : Bool) → (a ≡ false → length taken_reads ≡ 0) → (b ≡ true → length taken_reads ≤ w) → length taken_reads ≤ w + 1 → length taken_reads ≤ cond a (cond b w (w + 1)) 0
      at false b none few most = let e = none refl in omega arith
      at true true none few most = few refl
      at true false none few most = most

  reads_units : total len taken_reads ≤ reads_of ns s.seats s.cap task zone * greatest (reads_there task zone) ns
  reads_units =
      total_within len (greatest (reads_there task zone) ns) (reads_of ns s.seats s.cap task zone) taken_reads reads_number
      (all_so Reader (λ x. len x ≤ greatest (reads_there task zone) ns) (read_less c s es reached accepted waits ns len number known need in_ns is) taken_reads readers)

  -- the writes

  abbrev taken_writes : List Claim
  taken_writes = (write_sections c ms).writes

  abbrev is_taken : Claim → Bool
  is_taken d = list_any (λ m. is_least c d m && holds_at d m) ms

  are_writes : AllByRecursion Other taken_writes
  are_writes = all_from Other taken_writes (λ d there.
      let h = among_filter is_taken (leasts c ms) d there in
      other_write c s es reached accepted waits ns len number known need in_ns is d h.0 (no_section c s es reached accepted waits d h.1))

  writes_number : length taken_writes ≤ w
  writes_number = let a = (write_covered c s es reached accepted waits).few_writes in let b = others_within in omega arith

  abbrev longest : ℕ → ℕ
  longest t = write_length ns task zone t

  -- a write hits its task, if its length is at most the longest there
  abbrev hits : Claim → ℕ → Bool
  hits d t = (d.seat == t) && not (nat_lt (longest t) (len d))

  writes_units : total len taken_writes ≤ largest w (map longest (tasks_of s.seats))
  writes_units =
      weights hits len longest (λ d t h. ltb-false (longest t) (len d) (not_false (nat_lt (longest t) (len d)) (and_parts (d.seat == t) (not (nat_lt (longest t) (len d))) h).1)) w (tasks_of s.seats) taken_writes apart
      (all_so Other (λ d. list_any (hits d) (tasks_of s.seats) ≡ true) hit taken_writes are_writes) writes_number
    where
      apart : EachPair (λ d e. (t : ℕ) → hits d t ≡ true → hits e t ≡ false) taken_writes
      apart =
          pairs_with (λ (d : Claim). Unit {0}) (λ d e. (t : ℕ) → (d.seat == t) ≡ true → (e.seat == t) ≡ false) (λ d e. (t : ℕ) → hits d t ≡ true → hits e t ≡ false)
          (λ d e a b other t h. ap (λ b. b && not (nat_lt (longest t) (len e))) (other t (and_parts (d.seat == t) (not (nat_lt (longest t) (len d))) h).0)) taken_writes (all_from (λ (d : Claim). Unit {0}) taken_writes (λ d there. tt))
          (apart_seats taken_writes (pairs_filter (λ (d e : Claim). d.seat ≢ e.seat) is_taken (leasts c ms) (of_other_seats c s es reached accepted waits).among_them))

      hit : (d : Claim) → Other d → list_any (hits d) (tasks_of s.seats) ≡ true
      hit d o =
          any_among (hits d) (tasks_of s.seats) d.seat (seat_among s reached d (seat_below s reached d o.there.there))
          (and_from (d.seat == d.seat) (not (nat_lt (longest d.seat) (len d))) (eq-eqb d.seat d.seat refl)
          (ap not (le-ltb (longest d.seat) (len d) (write_less c s es reached accepted waits ns len number known need in_ns is d o))))

  pub write_within : IsWithin (numbers_of len (write_sections c ms)) (write_bound ns s.seats s.cap need.claim)
  write_within = record {
    reads = reads_number;
    writes = writes_number;
    units = (let a = reads_units in let b = writes_units in let e = sum_is_total len taken_reads in let f = sum_is_total len taken_writes in omega arith);
  }
