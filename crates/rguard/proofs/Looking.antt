-- A look: what a wait keeps is kept, and makes what a guard keeps.
use Rattle.std.proofs.Common.{◌≡◌, ℕ, ◌+◌, ◌≤◌, ◌⊎◌, inl, inr, Bool, true, false, not, ◌&&◌, List, [], length, Some, refl, sym, ap, subst, ◌∙◌, arith}
use Rattle.std.specs.Prelude.{slice_get}
use Rattle.std.specs.FinSet.{contains, difference}
use Rattle.std.proofs.lemmas.Bool.{or_left, or_right, true≢false}
use Rattle.rset.specs.Sets.{rising}
use Rattle.rset.specs.declared.TheConstants.{RESOURCES}
use Rattle.rset.proofs.SetLemmas.{rising_few}
use Rattle.rlock.specs.Known.{Site}
use Rattle.rmodel.specs.declared.granted.Granted.{Granted}
use Rattle.rmodel.specs.Claims.{is_read_half, is_nested}
use Rattle.rmodel.specs.Holds.{holds_of, has_request, may_rise, may_ask, is_within}
use Rattle.rmodel.specs.State.{LockState}
use Rattle.rmodel.specs.Steps.{is_not_holding}
use Rattle.rmodel.proofs.ListFacts.{all_at, all_from}
use Rattle.rmodel.proofs.reaching.HeldBySeat.{within_all, within_itself}
use Rattle.rvalue.specs.declared.act.Act.{Act}
use Rattle.rvalue.specs.Acts.{value_within}
use Rattle.rvalue.specs.Histories.{value_of}
use Rattle.rstate.specs.Contents.{Contents, lock_of, value_now, is_ready, IsLentNow}
use Rattle.rstate.specs.Histories.{Beginning, lock_after}
use Rattle.rstate.specs.Laws.{is_held_by}
use Rattle.rstate.specs.Lent.{LentFields, IsLent, has}
use Rattle.rstate.specs.Moves.{HasRoomFor}
use Rattle.rstate.proofs.histories.Staying.{still_from}
use Rattle.rstate.proofs.homes.Lists.{same_item}
use Rattle.rstate.proofs.homes.Moved.{place_among}
use Rattle.rguard.specs.declared.kind.GuardKind.{GuardKind}
use Rattle.rguard.specs.declared.kind.GuardKind.TheVariants.{Read, Write, Rise, Nest}
use Rattle.rguard.specs.LentGuards.{IsReady}
use Rattle.rguard.specs.Seats.{SeatOf}
use Rattle.rguard.specs.LentSections.{held_at, HasTaken, IsAs, value_seen, AreCopies, HasLent, Knows, ActsAreRight, HoldsFrom, WaitsFrom, HasRoom, HasRoomWithin, claim_reads, claim_writes}
use Rattle.rguard.proofs.Rooms.{room_within}
use Rattle.rguard.proofs.seats.Acting.{held_more, places_held, answers_same}
use Rattle.rguard.proofs.seats.Claims.{is_of, of_seat, may_rise_by, may_ask_by, of_seat_and}
use Rattle.rguard.proofs.seats.Finding.{Finds, lock_is, reached_now, within_later, value_later, claim_later}
use Rattle.rguard.proofs.Lending.{lent_same, within_reads, within_writes}

module _ {V E : Type 0} (after : V → E → V) (taken : V → E → Bool) (number : V → ℕ) (b : Beginning V) (k : SeatOf V E) (found : Contents V E) (f : Finds after taken number b k found) where
  -- the acts of the seat are still right
  pub right_later : (acts : List (Act E)) → ActsAreRight after taken number b k.seen k.number acts → ActsAreRight after taken number b found.entries k.number acts
  right_later acts right = record {
    held = held_more (lock_after b k.seen) (lock_after b found.entries) k.number (λ l. still_from (lock_after b k.seen) (lock_after b found.entries) k.number l (within_later after taken number b k found f)) acts right.held;
    answers = λ openings are. answers_same after taken number (λ l. is_held_by (lock_after b k.seen) k.number l ≡ true) (λ l. value_of after (openings l) k.seen l) (λ l. value_of after (openings l) found.entries l)
        (λ l held. value_later after taken number b k found f l held (openings l)) [] acts (places_held (lock_after b k.seen) k.number acts right.held) (right.answers openings are);
  }

  -- whether nothing of the seat is pending, as a seat knows that has seen this state
  pub ready_seen : (later : SeatOf V E) (ready : Bool) → later.opening ≡ Some b → later.seen ≡ found.entries → later.number ≡ k.number → is_ready (lock_of found) k.number ≡ ready → IsReady later ready
  ready_seen later ready opening seen same is = λ d its.
      let e : b ≡ d = same_item b d (sym opening ∙ its) in
      (λ i. is_ready (lock_after (sym e i) (seen i)) (same i)) ∙ ap (λ (s : LockState). is_ready s k.number) (sym (lock_is after taken number b k found f)) ∙ is

  module _ (g : Granted) (within : is_within g (held_at b k) ≡ true) where
    pub value_read : (l : ℕ) → contains g.reads l ≡ true → (v : V) → value_of after v found.entries l ≡ value_of after v k.seen l
    value_read l reads v = value_later after taken number b k found f l (or_left (contains (held_at b k).reads l) (contains (held_at b k).writes l) (within_reads g (held_at b k) l within reads)) v

    pub value_written : (l : ℕ) → contains g.writes l ≡ true → (v : V) → value_of after v found.entries l ≡ value_of after v k.seen l
    value_written l writes v = value_later after taken number b k found f l (or_right (contains (held_at b k).reads l) (contains (held_at b k).writes l) (within_writes g (held_at b k) l within writes)) v

    pub within_now : is_within g (holds_of (lock_after b found.entries).claims k.number) ≡ true
    within_now = within_all g (held_at b k) (holds_of (lock_after b found.entries).claims k.number) within (within_later after taken number b k found f)

    -- what is lent is still lent
    pub lent_later : (lent : LentFields V) → IsLent b.seats g b.values (value_seen after k) (value_seen after k) lent → IsLentNow after found g lent
    lent_later lent was =
        subst (λ (d : Beginning V). IsLent d.seats g d.values (value_now after found) (value_now after found) lent) (sym f.began)
        (lent_same b.seats g b.values (value_seen after k) (value_seen after k) (value_now after found) (value_now after found) lent
        (λ l reads v listed. value_read l reads v) (λ l writes v listed. value_written l writes v) was)

  -- what a kind of guard has besides is still there, with the acts that a wait has
  pub as_later : (kind : GuardKind) (site : Site) (later : SeatOf V E) (lent lent2 : LentFields V) (own : List (ℕ × V)) (acts : List (Act E)) → later.seen ≡ found.entries → later.number ≡ k.number
      → IsAs kind b (record { site = site; seat = k; lent = lent; own = own; acts = acts }) → IsAs kind b (record { site = site; seat = later; lent = lent2; own = own; acts = acts })
  as_later Read site later lent lent2 own acts seen same was = was
  as_later Write site later lent lent2 own acts seen same was = tt
  as_later Rise site later lent lent2 own acts seen same was =
      (was.0, (λ i. may_rise (lock_after b (seen i)).claims (same i)) ∙ claim_later after taken number b k found f (may_rise_by k.number) (of_seat_and k.number is_read_half) ∙ was.1)
  as_later Nest site later lent lent2 own acts seen same was =
      (λ i. may_ask (lock_after b (seen i)).claims (same i)) ∙ claim_later after taken number b k found f (may_ask_by k.number) (of_seat_and k.number (λ c. is_nested c.kind)) ∙ was

  -- the copies are still right, of what was taken then or more
  pub copies_later : (g h : Granted) (site : Site) (later : SeatOf V E) (lent lent2 : LentFields V) (own : List (ℕ × V)) (acts : List (Act E)) → is_within g (held_at b k) ≡ true → is_within g h ≡ true → later.seen ≡ found.entries
      → AreCopies after b g (record { site = site; seat = k; lent = lent; own = own; acts = acts }) → AreCopies after b h (record { site = site; seat = later; lent = lent2; own = own; acts = acts })
  copies_later g h site later lent lent2 own acts within more seen was = record {
    once = was.once;
    written = λ l there. within_writes g h l more (was.written l there);
    are = all_from (λ copy. (opening : V) → slice_get b.values copy.0 ≡ Some opening → copy.1 ≡ value_within after (value_of after opening later.seen copy.0) acts copy.0) own (λ copy there opening listed.
        all_at (λ copy. (opening : V) → slice_get b.values copy.0 ≡ Some opening → copy.1 ≡ value_within after (value_of after opening k.seen copy.0) acts copy.0) own copy was.are there opening listed
        ∙ ap (λ v. value_within after v acts copy.0)
        (sym (value_written g within copy.0 (was.written copy.0 (place_among copy own there)) opening) ∙ ap (λ es. value_of after opening es copy.0) (sym seen)));
    unedited = was.unedited;
  }

-- A wait of this kind, whose seat finds this state and goes on to `later` with no entry
module _ {V E : Type 0} (after : V → E → V) (taken : V → E → Bool) (number : V → ℕ) (kind : GuardKind) (b : Beginning V) (site : Site) (k : SeatOf V E) (lent : LentFields V) (own : List (ℕ × V)) (acts : List (Act E))
    (w : WaitsFrom after taken number kind b (record { site = site; seat = k; lent = lent; own = own; acts = acts })) (found : Contents V E) (f : Finds after taken number b k found) where
  abbrev held_now : Granted
  held_now = holds_of (lock_after b found.entries).claims k.number

  had_within : is_within w.had held_now ≡ true
  had_within = within_now after taken number b k found f w.had w.within

  pub held_is : holds_of (lock_of found).claims k.number ≡ held_now
  held_is = ap (λ (s : LockState). holds_of s.claims k.number) (lock_is after taken number b k found f)

  -- what the seat has taken
  pub has_had : (g : Granted) → slice_get found.taken k.number ≡ Some g → w.had ≡ g
  has_had g there = same_item w.had g (sym (f.has_taken w.had w.has_lent.taken) ∙ there)

  pub may_take_lent : (n : ℕ) → n ≡ k.number → (g : Granted) → slice_get found.taken n ≡ Some g → IsLentNow after found g lent
  may_take_lent n same g there =
      subst (λ (h : Granted). IsLentNow after found h lent) (has_had g (ap (slice_get found.taken) (sym same) ∙ there))
      (lent_later after taken number b k found f w.had w.within lent w.has_lent.lent)

  -- the claims of the seat are still the same
  room_later : HasRoomWithin (lock_after b k.seen).claims k.number lent → HasRoomWithin (lock_after b found.entries).claims k.number lent
  room_later room = record {
    most = room.most;
    reads_in = λ l h. room.reads_in l (sym (claim_later after taken number b k found f (claim_reads k.number l) (of_seat_and k.number (λ c. contains c.reads l))) ∙ h);
    writes_in = λ l h. room.writes_in l (sym (claim_later after taken number b k found f (claim_writes k.number l) (of_seat_and k.number (λ c. contains c.writes l))) ∙ h);
    reads = room.reads;
    writes = room.writes;
  }

  pub may_take_room : (n : ℕ) → n ≡ k.number → (g : Granted) → slice_get found.taken n ≡ Some g → HasRoomFor g (holds_of (lock_of found).claims n) lent
  may_take_room n same g there = in_room w.room
    where
      fits : (a n c : ℕ) → n ≤ RESOURCES → a + RESOURCES ≤ c → a + n ≤ c
      fits a n c few room = omega arith

      in_room : HasRoom lent ⊎ HasRoomWithin (lock_after b k.seen).claims k.number lent → HasRoomFor g (holds_of (lock_of found).claims n) lent
      in_room (inl room) = record {
        reads = fits (length lent.reads) (length (rising (difference (holds_of (lock_of found).claims n).reads g.reads))) lent.reads_room (rising_few (difference (holds_of (lock_of found).claims n).reads g.reads)) room.reads;
        writes = fits (length lent.writes) (length (rising (difference (holds_of (lock_of found).claims n).writes g.writes))) lent.writes_room (rising_few (difference (holds_of (lock_of found).claims n).writes g.writes)) room.writes;
      }
      in_room (inr room) =
          subst (λ m. HasRoomFor g (holds_of (lock_of found).claims m) lent) (sym same)
          (subst (λ (s : LockState). HasRoomFor g (holds_of s.claims k.number) lent) (sym (lock_is after taken number b k found f))
          (room_within (lock_after b found.entries) k.number lent g (reached_now after taken number b k found f) (room_later room)))

  still_room : (later : SeatOf V E) → later.seen ≡ found.entries → later.number ≡ k.number → HasRoom lent ⊎ HasRoomWithin (lock_after b k.seen).claims k.number lent
      → HasRoom lent ⊎ HasRoomWithin (lock_after b later.seen).claims later.number lent
  still_room later seen same (inl room) = inl room
  still_room later seen same (inr room) =
      inr (subst (λ es. HasRoomWithin (lock_after b es).claims later.number lent) (sym seen) (subst (λ n. HasRoomWithin (lock_after b found.entries).claims n lent) (sym same) (room_later room)))

  requested : has_request (lock_after b found.entries).claims k.number ≡ true
  requested = claim_later after taken number b k found f (is_of k.number) (of_seat k.number) ∙ w.issued

  -- it still waits
  pub waits_still : (later : SeatOf V E) → later.seen ≡ found.entries → later.number ≡ k.number → HasTaken later w.had → Knows after taken number b site later
      → WaitsFrom after taken number kind b (record { site = site; seat = later; lent = lent; own = own; acts = acts })
  waits_still later seen same has knows = record {
    knows = knows;
    issued = (λ i. has_request (lock_after b (seen i)).claims (same i)) ∙ requested;
    right = subst (λ es. ActsAreRight after taken number b es later.number acts) (sym seen) (subst (λ n. ActsAreRight after taken number b found.entries n acts) (sym same) (right_later after taken number b k found f acts w.right));
    had = w.had;
    within = subst (λ es. is_within w.had (holds_of (lock_after b es).claims later.number) ≡ true) (sym seen) (subst (λ n. is_within w.had (holds_of (lock_after b found.entries).claims n) ≡ true) (sym same) had_within);
    has_lent = record {
      taken = has;
      lent = lent_same b.seats w.had b.values (value_seen after k) (value_seen after k) (value_seen after later) (value_seen after later) lent
          (λ l reads v listed. ap (λ es. value_of after v es l) seen ∙ value_read after taken number b k found f w.had w.within l reads v)
          (λ l writes v listed. ap (λ es. value_of after v es l) seen ∙ value_written after taken number b k found f w.had w.within l writes v) w.has_lent.lent;
      copies = copies_later after taken number b k found f w.had w.had site later lent lent own acts w.within (within_itself w.had) seen w.has_lent.copies;
    };
    as_kind = as_later after taken number b k found f kind site later lent lent own acts seen same w.as_kind;
    room = still_room later seen same w.room;
  }

  -- it is over if nothing of the seat is pending, and all that the seat holds was lent to it
  pub holds_now : (later : SeatOf V E) (lent2 : LentFields V) → later.seen ≡ found.entries → later.number ≡ k.number → is_ready (lock_of found) k.number ≡ true → HasTaken later held_now
      → IsLentNow after found (holds_of (lock_of found).claims k.number) lent2 → Knows after taken number b site later
      → HoldsFrom after taken number kind b (record { site = site; seat = later; lent = lent2; own = own; acts = acts })
  holds_now later lent2 seen same ready has lent_is knows = record {
    knows = knows;
    holding = (λ i. is_not_holding (lock_after b (seen i)).claims (same i)) ∙ holding;
    right = subst (λ es. ActsAreRight after taken number b es later.number acts) (sym seen) (subst (λ n. ActsAreRight after taken number b found.entries n acts) (sym same) (right_later after taken number b k found f acts w.right));
    has_lent = subst (λ (g : Granted). HasLent after b g (record { site = site; seat = later; lent = lent2; own = own; acts = acts })) (sym all_held) (record {
      taken = has;
      lent = lent_same b.seats held_now b.values (value_now after found) (value_now after found) (value_seen after later) (value_seen after later) lent2
          (λ l reads v listed. ap (λ es. value_of after v es l) seen) (λ l writes v listed. ap (λ es. value_of after v es l) seen)
          (subst (λ (d : Beginning V). IsLent d.seats held_now d.values (value_now after found) (value_now after found) lent2) f.began (subst (λ (g : Granted). IsLentNow after found g lent2) held_is lent_is));
      copies = copies_later after taken number b k found f w.had held_now site later lent lent2 own acts w.within had_within seen w.has_lent.copies;
    });
    as_kind = as_later after taken number b k found f kind site later lent lent2 own acts seen same w.as_kind;
  }
    where
      all_held : held_at b later ≡ held_now
      all_held = (λ i. holds_of (lock_after b (seen i)).claims (same i))

      not_both : (x y : Bool) → not (x && y) ≡ true → x ≡ true → y ≡ false
      not_both true true h x_is = absurd (true≢false (sym h))
      not_both true false h x_is = refl
      not_both false y h x_is = absurd (true≢false (sym x_is))

      holding : is_not_holding (lock_after b found.entries).claims k.number ≡ false
      holding = not_both (has_request (lock_after b found.entries).claims k.number) (is_not_holding (lock_after b found.entries).claims k.number)
          (ap (λ (s : LockState). is_ready s k.number) (sym (lock_is after taken number b k found f)) ∙ ready) requested
