-- What a follower knows of the events that it followed holds with one more event.
use Rattle.std.proofs.Common.{◌≡◌, ℕ, zero, suc, ◌*◌, ◌≤◌, ◌<◌, true, false, not, ◌&&◌, List, [], ◌∷◌, ◌++◌, append_assoc, length, length-append, refl, sym, ap, subst, ◌∙◌, arith}
use Rattle.std.specs.Vec.{with_items}
use Rattle.std.specs.declared.vec.Vec.{Vec}
use Rattle.std.specs.declared.alloc.Global.{Global}
use Rattle.std.specs.List.{AllByRecursion}
use Rattle.std.specs.Prelude.{slice_index}
use Rattle.rset.specs.declared.TheConstants.{SEATS}
use Rattle.rexpand.specs.Groups.{ReadGroups}
use Rattle.rclaim.specs.Events.{seat_of}
use Rattle.rclaim.specs.declared.claim.Claim.{Claim}
use Rattle.rclaim.specs.declared.event.Event.{Event}
use Rattle.rclaim.specs.declared.event.Event.TheVariants.{Issue, Finish, Rise, Ask}
use Rattle.rmodel.specs.declared.claimed.Claimed.{Claimed}
use Rattle.rmodel.specs.Reached.{IsReached}
use Rattle.rmodel.specs.State.{LockState}
use Rattle.rmodel.specs.Steps.{Comes, next}
use Rattle.rmodel.specs.WellFormed.{Among, EachPair, Rises, Distinct}
use Rattle.rmodel.proofs.ListFacts.{all_at, all_from}
use Rattle.rmodel.proofs.reaching.FewClaims.{few_claims}
use Rattle.rmodel.proofs.reaching.Histories.{accepted_push, after_append, sizes_after, sizes_next}
use Rattle.rmodel.proofs.reaching.Reached.{reached_after, reached_next, reached_opening}
use Rattle.rbound.specs.declared.which.Which.{Which}
use Rattle.rbound.specs.declared.which.Which.TheVariants.{First}
use Rattle.rbound.specs.declared.which.Which.TheVariants as which
use Rattle.rcover_laws.specs.Ended.{waits_in, ended_by}
use Rattle.rcover_laws.specs.History.{length_in, count_ask, asks_since}
use Rattle.rcover_laws.specs.Lists.{AreAtMost}
use Rattle.rcover_laws.specs.Moments.{Moment}
use Rattle.rcover_laws.specs.Sections.{Sections}
use Rattle.rcover_laws.proofs.lists.Pushed.{same_ends}
use Rattle.rcover_laws.proofs.runs.Push.{append_none}
use Rattle.rcover.specs.declared.following.Following.{Following}
use Rattle.rcover.specs.declared.run.Run.{Run}
use Rattle.rcover.specs.declared.section.CoverSection.{CoverSection}
use Rattle.rcover.specs.Kept.{claims_of, kept_in, length_by, HasRoom, AreLong, AreOf, may_wait, WaitApart, kept_of}
use Rattle.rcover.specs.Follow.{table_of}
use Rattle.rcover.specs.Follows.{IsEmpty, HaveRoom, Follows}
use Rattle.rcover.specs.declared.lines.Head.{Head}
use Rattle.rcover.specs.Lines.{TellAt, TellHeads, GoesBy, IsLost, IsTouched, HoldBehind, tells_write_of}
use Rattle.rcover.proofs.ending.Lost.{HoldWritten, behind_before, goes_by, read_stays, shares_before, told_before}
use Rattle.rcover.specs.Due.{ReadStays, StoodBy}
use Rattle.rcover.specs.Past.{Past, begun, with_event, start_of, state_of, noted, is_issue}
use Rattle.rcover.specs.Tracked.{shown, told}
use Rattle.rcover.specs.NotedSeats.{HoldAsking, HoldReading, TellWanted, HoldWaiting, TellRising}
use Rattle.rcover.specs.Waiting.{has_end, with_seat}
use Rattle.rcover_laws.specs.declared.wait_end.WaitEnd.{WaitEnd}
use Rattle.rcover.specs.Heads.{IsMoment, TellsNow, TellsWrites}
use Rattle.rcover.specs.declared.shares.Share.{Share}
use Rattle.rcover.specs.Shares.{share_of, is_written, AreLeft, TellShares, TellWrites}
use Rattle.rcover.proofs.Kept.{length_claims}
use Rattle.rcover.proofs.told.Noted.{lengths_next, lengths_stay, asks_more}
use Rattle.rcover.proofs.over.Rooms.{waits_apart, kept_each, all_next_few}
use Rattle.rmodel.specs.Changes.{changes_between}
use Rattle.rcover.specs.Quiet.{GoesOn}
use Rattle.rclaim.specs.declared.changes.StatusChange.{StatusChange}
use Rattle.rset.specs.Sets.{Set}
use Rattle.std.specs.FinSet.{contains}
use Rattle.rcover.proofs.ending.Writers.{writers_next}
use Rattle.rcover.proofs.told.Gone.{waiting_over}
use Rattle.rcover.proofs.ending.Grants.{goes_on}
use Rattle.rcover.proofs.told.Stood.{stood_by}
use Rattle.rcover.proofs.over.Tracking.{shown_at_most, told_are_ended, tracked_next, tracked_opening}
use Rattle.rcover.proofs.heads_told.Refilled.{refill}
use Rattle.rcover.proofs.heads_told.Writers.{told_written}

-- what runs with room keep is at most as much as there are seats
run_few : (r : Run) → HasRoom r → AreAtMost SEATS (kept_in r)
run_few r room =
    let reads = r.reads.ok in
    let writes = r.writes.ok in
    let r_reads = room.reads in
    let r_writes = room.writes in
    let some_reads = length_claims r.reads.items in
    let some_writes = length_claims r.writes.items in
    record { reads = omega arith; writes = omega arith }

runs_few : (rs : List Run) → AllByRecursion HasRoom rs → (seat : ℕ) → AreAtMost SEATS (table_of rs seat)
runs_few [] rooms seat = record { reads = omega arith; writes = omega arith }
runs_few (r ∷ rs) rooms zero = run_few r rooms.0
runs_few (r ∷ rs) rooms (suc seat) = runs_few rs rooms.1 seat

pub refilled : (v : Vec Run Global) (rs : List Run) → length rs ≡ length v.items → (with_items v rs).items ≡ rs
refilled v rs same = refill v rs same

-- the same lengths by another name
renamed : (by by' len : Claim → ℕ) → ((c : Claim) → by' c ≡ by c) → (m : Moment) → AreOf by len m → AreOf by' len m
renamed by by' len is [] are = tt
renamed by by' len is (x ∷ xs) are = (is x.claim ∙ are.0, renamed by by' len is xs are.1)

-- what is reported to be written, by the shares of all writes, is all that those write
pub all_written : (written : Set) (statuses : List StatusChange) (ss : List Share) → ((l : ℕ) → contains written l ≡ is_written ss statuses l) → (m : Moment) → TellShares ss m → HoldWritten written statuses m
all_written written statuses ss is [] tell = tt
all_written written statuses ss is (x ∷ xs) tell = ((λ write on. told_written ss statuses written is x.claim.seat (share_of x.claim) on (tell.0 write)), all_written written statuses ss is xs tell.1)

module _ (a : Following) (p : Past) (k : Follows a p) where
  abbrev o : LockState
  o = start_of p

  abbrev es : List Event
  es = p.events

  abbrev m : Moment
  m = (state_of p).claims

  abbrev table : ℕ → Sections
  table = table_of a.runs.items

  pub reached : IsReached (state_of p)
  reached = reached_after o es (reached_opening p.groups p.seats p.cap) k.accepted

  seats_are : (state_of p).seats ≡ p.seats
  seats_are = (sizes_after o es).seats

  pub claims_few : length m ≤ 2 * SEATS
  claims_few =
      let few = few_claims (state_of p) reached.sound in
      let are = seats_are in
      let most = k.seats in
      omega arith

  seat_in : (x : Claimed) → Among x m → x.claim.seat < SEATS
  seat_in x there =
      let h = all_at (λ y. y.claim.seat < (state_of p).seats) m x reached.sound.seated there in
      let are = seats_are in
      let most = k.seats in
      omega arith

  pub seats_now : AllByRecursion (λ x. (x.claim.seat < length a.runs.items) × (x.claim.seat < length a.asks)) m
  seats_now =
      all_from (λ x. (x.claim.seat < length a.runs.items) × (x.claim.seat < length a.asks)) m
      (λ x there. (subst (λ l. x.claim.seat < l) (sym k.room.seats) (seat_in x there), subst (λ l. x.claim.seat < l) (sym k.room.asks) (seat_in x there)))

  pub seats_at : (l : ℕ) → l ≡ SEATS → AllByRecursion (λ x. x.claim.seat < l) m
  seats_at l is = all_from (λ x. x.claim.seat < l) m (λ x there. subst (λ k. x.claim.seat < k) (sym is) (seat_in x there))

  pub rising_now : EachPair Rises m
  rising_now = reached.sound.well_formed.rising

  pub one_each_now : EachPair Distinct m
  one_each_now = reached.sound.one_each

  pub is_moment_now : IsMoment m
  is_moment_now = record { few = claims_few; seats = seats_at SEATS refl; rising = rising_now; one_each = one_each_now }

  above : (b : Sections) → AreAtMost p.cap b → AreAtMost SEATS b
  above b few = let r = few.reads in let w = few.writes in let most = k.cap in record { reads = omega arith; writes = omega arith }

  pub shown_few : AllByRecursion (λ x. (w : Which) → waits_in w m x ≡ true → AreAtMost SEATS (shown w x (table x.claim.seat) m)) m
  shown_few =
      all_from (λ x. (w : Which) → waits_in w m x ≡ true → AreAtMost SEATS (shown w x (table x.claim.seat) m)) m
      (λ x there w on. above (shown w x (table x.claim.seat) m) (shown_at_most p.groups p.seats p.cap es k.accepted k.some_cap (table x.claim.seat) x there (k.tracked x there) w on))

  pub asks_now : AllByRecursion (λ x. slice_index a.asks x.claim.seat ≡ asks_since x.claim.seat es) m
  asks_now = all_from (λ x. slice_index a.asks x.claim.seat ≡ asks_since x.claim.seat es) m (λ x there. k.asks x.claim.seat (seat_in x there))

  pub lengths_now : AreOf (length_by a.lengths) (length_in es) m
  lengths_now = subst (λ (ds : List Event). AreOf (length_by a.lengths) (length_in ds) m) (append_none es) (k.lengths [])

  pub long_now : AllByRecursion (AreLong (length_in es)) a.runs.items
  long_now = subst (λ (ds : List Event). AllByRecursion (AreLong (length_in ds)) a.runs.items) (append_none es) (k.long [])

  module _ (e : Event) (comes : Comes (state_of p) e) where
    abbrev n : Moment
    n = (next (state_of p) e).claims

    seat_by : (s : LockState) (e : Event) → Comes s e → seat_of e < s.seats
    seat_by s (Issue seat r) comes = comes.fits.seat_there
    seat_by s (Finish seat) comes = comes.fits
    seat_by s (Rise seat) comes = comes.fits
    seat_by s (Ask seat part) comes = comes.fits.0

    pub event_seat : seat_of e < SEATS
    event_seat =
        let h = seat_by (state_of p) e comes in
        let are = seats_are in
        let most = k.seats in
        omega arith

    reached_on : IsReached (next (state_of p) e)
    reached_on = reached_next (state_of p) e reached comes

    seat_in_next : (x : Claimed) → Among x n → x.claim.seat < SEATS
    seat_in_next x there =
        let h = all_at (λ y. y.claim.seat < (next (state_of p) e).seats) n x reached_on.sound.seated there in
        let same = (sizes_next (state_of p) e).seats in
        let are = seats_are in
        let most = k.seats in
        omega arith

    pub seats_next_at : (l : ℕ) → l ≡ SEATS → AllByRecursion (λ x. x.claim.seat < l) n
    seats_next_at l is = all_from (λ x. x.claim.seat < l) n (λ x there. subst (λ k. x.claim.seat < k) (sym is) (seat_in_next x there))

    pub seats_next : AllByRecursion (λ x. x.claim.seat < length a.runs.items) n
    seats_next = seats_next_at (length a.runs.items) k.room.seats

    pub claims_few_next : length n ≤ 2 * SEATS
    claims_few_next =
        let few = few_claims (next (state_of p) e) reached_on.sound in
        let same = (sizes_next (state_of p) e).seats in
        let are = seats_are in
        let most = k.seats in
        omega arith

    pub rising_next : EachPair Rises n
    rising_next = reached_on.sound.well_formed.rising

    pub one_each_next : EachPair Distinct n
    one_each_next = reached_on.sound.one_each

    pub is_moment_next : IsMoment n
    is_moment_next = record { few = claims_few_next; seats = seats_next_at SEATS refl; rising = rising_next; one_each = one_each_next }

    -- a wait was there before the event, except that of the upgrade that rises
    pub stood_next : is_issue e ≡ false → AllByRecursion (StoodBy e m n) n
    stood_next old =
        all_from (StoodBy e m n) n
        (λ x there. record {
          first = λ on. stood_by p.groups p.seats p.cap es k.accepted e comes old First x there refl on;
          rise = λ on. stood_by p.groups p.seats p.cap es k.accepted e comes old which.Rise x there refl on;
        })

    -- a wait goes on if nothing is granted to it
    pub quiet_now : is_issue e ≡ false → AllByRecursion (GoesOn (seat_of e) (changes_between (state_of p) (next (state_of p) e)).grants m n) m
    quiet_now old =
        all_from (GoesOn (seat_of e) (changes_between (state_of p) (next (state_of p) e)).grants m n) m
        (λ x there quiet. goes_on (state_of p) e reached comes old x there quiet)

    -- the waits that the event ends, found from what is known before it
    pub ends_next : (last n' : Moment) (rs : List Run) (ended : List WaitEnd) → last ≡ m → n' ≡ n → rs ≡ a.runs.items
        → ((ds : List Event) → AllByRecursion (λ x. slice_index a.asks x.claim.seat ≡ asks_since x.claim.seat ds) last → AreOf (length_by a.lengths) (length_in ds) last → AllByRecursion (AreLong (length_in ds)) rs → ended ≡ told ds last n' (table_of rs))
        → ended ≡ told es m n table
    ends_next last n' rs ended is_m is_n are tells =
        tells es (subst (λ (z : Moment). AllByRecursion (λ x. slice_index a.asks x.claim.seat ≡ asks_since x.claim.seat es) z) (sym is_m) asks_now)
        (subst (λ (z : Moment). AreOf (length_by a.lengths) (length_in es) z) (sym is_m) lengths_now) (subst (λ (z : List Run). AllByRecursion (AreLong (length_in es)) z) (sym are) long_now)
        ∙ (λ i. told es (is_m i) (is_n i) (table_of (are i)))

    -- the seats that wait after it: none of their waits ended
    pub waits_next : is_issue e ≡ false → (left now : Set) (n' : Moment) (ended : List WaitEnd) (seat : ℕ) → n' ≡ n → seat ≡ seat_of e → ended ≡ told es m n table
        → ((l : ℕ) → l < SEATS → contains left l ≡ (not (has_end ended l) && contains a.waiting l)) → now ≡ with_seat left n' seat → HoldWaiting now n
    waits_next old left now n' ended seat is_n seated are without is =
        subst (λ (w : Set). HoldWaiting w n) (sym (is ∙ (λ i. with_seat left (is_n i) (seated i)))) (waiting_over (state_of p) e reached comes old es table a.waiting left k.waiting ended are without (seats_next_at SEATS refl))

    -- heads that are known for all writes before the event are known for those after it, and are carried on with them
    pub heads_turn : is_issue e ≡ false → (hs : List Head) (lost : Head) (gone came touched : Set) (last n' : Moment) (statuses : List StatusChange) → last ≡ m → n' ≡ n → AllByRecursion (IsLost lost gone e last) last → statuses ≡ (changes_between (state_of p) (next (state_of p) e)).statuses
        → ((seat : ℕ) → seat < SEATS → contains came seat ≡ tells_write_of statuses seat) → AllByRecursion (IsTouched lost.claim.seat statuses touched last) last → TellHeads hs last → TellAt hs m n' × AllByRecursion (GoesBy lost gone came touched m n') n'
    heads_turn old hs lost gone came touched last n' statuses is_m is_n is_lost are_told are touch tells = (
      subst (TellAt hs m) (sym is_n) (told_before (state_of p) e reached comes old hs (subst (TellHeads hs) is_m tells)),
      subst (λ (z : Moment). AllByRecursion (GoesBy lost gone came touched m z) z) (sym is_n)
          (all_from (GoesBy lost gone came touched m n) n
          (λ x there. goes_by (state_of p) e reached comes old came (λ seat low. are seat low ∙ ap (λ cs. tells_write_of cs seat) are_told)
          (all_from (λ y. y.claim.seat < SEATS) m (λ y in_m. seat_in y in_m)) lost gone (subst (λ (z : Moment). AllByRecursion (IsLost lost gone e z) z) is_m is_lost) touched (subst (λ (z : List StatusChange × Moment). AllByRecursion (IsTouched lost.claim.seat z.0 touched z.1) z.1) (λ i. (are_told i, is_m i)) touch) x there (seat_in_next x there))),
    )

    -- sets that hold all writes before the event hold those after it
    pub behind_turn : is_issue e ≡ false → (ss : List Set) (last n' : Moment) → last ≡ m → n' ≡ n → HoldBehind ss last last → HoldBehind ss m n'
    behind_turn old ss last n' is_m is_n hold = subst (HoldBehind ss m) (sym is_n) (behind_before (state_of p) e reached comes old ss (subst (λ (z : Moment). HoldBehind ss z z) is_m hold))

    -- the seats that have a write before the event, except the one whose write it takes away, have a write after it, which takes the same
    pub writes_turn : is_issue e ≡ false → (writers writers' : Set) (ss : List Share) (last n' : Moment) → last ≡ m → n' ≡ n → AreLeft e writers writers' → TellWrites writers ss last → TellWrites writers' ss n'
    writes_turn old writers writers' ss last n' is_m is_n left tell =
        let told = subst (TellWrites writers ss) is_m tell in
        subst (TellWrites writers' ss) (sym is_n)
        (record { seats = writers_next (state_of p) e reached comes old writers writers' told.seats left; shares = shares_before (state_of p) e reached comes old ss told.shares })

    -- a read is kept waiting as before if it reads nothing of what came to be held
    pub reads_next : is_issue e ≡ false → (written : Set) (last n' : Moment) (statuses : List StatusChange) → last ≡ m → n' ≡ n → statuses ≡ (changes_between (state_of p) (next (state_of p) e)).statuses
        → HoldWritten written statuses n' → AllByRecursion (ReadStays written last n') n'
    reads_next old written last n' statuses is_m is_n are_told hold =
        subst (λ (z : Moment × Moment). AllByRecursion (ReadStays written z.0 z.1) z.1) (λ i. (sym is_m i, sym is_n i))
        (all_from (ReadStays written m n) n
        (λ x there. read_stays (state_of p) e reached comes old written (subst (λ (z : List StatusChange × Moment). HoldWritten written z.0 z.1) (λ i. (are_told i, is_n i)) hold) x there))

    pub apart_next : EachPair (WaitApart n) n
    apart_next = waits_apart n n (λ x there. there) reached_on.sound.one_each

    pub few_next : AllByRecursion (λ x. may_wait n x ≡ true → AreAtMost SEATS (kept_of m n (table x.claim.seat) x)) n
    few_next = all_next_few p.groups p.seats p.cap es k.accepted k.some_cap k.cap e comes table k.tracked (runs_few a.runs.items k.room.runs)

    module _ (by : Claim → ℕ) (is_noted : (c : Claim) → by c ≡ noted e (length_by a.lengths) c) where
      pub lengths_stay_on : (rest : List Event) → AreOf by (length_in (es ++ e ∷ rest)) m
      lengths_stay_on rest = renamed (noted e (length_by a.lengths)) by (length_in (es ++ e ∷ rest)) is_noted m (lengths_stay (state_of p) e (length_by a.lengths) (length_in (es ++ e ∷ rest)) comes (k.lengths (e ∷ rest)))

      pub lengths_come : (rest : List Event) → AreOf by (length_in (es ++ e ∷ rest)) n
      lengths_come rest = renamed (noted e (length_by a.lengths)) by (length_in (es ++ e ∷ rest)) is_noted n (lengths_next o es e refl reached comes (length_by a.lengths) rest (k.lengths (e ∷ rest)))

    at_next : state_of (with_event p e) ≡ next (state_of p) e
    at_next = after_append o es (e ∷ [])

    behind : (rest : List Event) → es ++ e ∷ rest ≡ (es ++ e ∷ []) ++ rest
    behind rest = sym (append_assoc es (e ∷ []) rest)

    never_none : es ++ e ∷ [] ≡ [] → ⊥
    never_none none = let h = ap (λ (l : List Event). length l) none in let some = length-append es (e ∷ []) in omega arith

    pub known : (b : Following) → HaveRoom b
        → AllByRecursion (λ x. may_wait n x ≡ true → table_of b.runs.items x.claim.seat ≡ kept_of m n (table x.claim.seat) x) n
        → ((rest : List Event) → AllByRecursion (AreLong (length_in (es ++ e ∷ rest))) b.runs.items)
        → ((c : Claim) → length_by b.lengths c ≡ noted e (length_by a.lengths) c)
        → ((seat : ℕ) → seat < SEATS → slice_index b.asks seat ≡ count_ask seat (slice_index a.asks seat) e)
        → HoldWaiting b.waiting n → TellRising b.rising n → HoldAsking b.asking n → HoldReading b.reading n → TellWanted b.wanted n → TellsNow b.heads n → TellsWrites b.heads n → b.ended.items ≡ told es m n table → Follows b (with_event p e)
    known b room kept long lengths asks waiting rising asking reading wanted heads writes ended = record {
      accepted = accepted_push o es e k.accepted comes;
      seats = k.seats;
      some_cap = k.some_cap;
      cap = k.cap;
      tracked = tracked_next p.groups p.seats p.cap es k.accepted e comes table (table_of b.runs.items) k.tracked
          (λ x there. kept_each m n table (table_of b.runs.items) x (all_at (λ x. may_wait n x ≡ true → table_of b.runs.items x.claim.seat ≡ kept_of m n (table x.claim.seat) x) n x kept there));
      long = λ rest. subst (λ (ds : List Event). AllByRecursion (AreLong (length_in ds)) b.runs.items) (behind rest) (long rest);
      lengths = λ rest.
          subst (λ (z : List Event × LockState). AreOf (length_by b.lengths) (length_in z.0) z.1.claims) (λ i. (behind rest i, sym at_next i)) (lengths_come (length_by b.lengths) lengths rest);
      asks = λ seat h. asks seat h ∙ ap (λ n. count_ask seat n e) (k.asks seat h) ∙ sym (asks_more seat es e);
      waiting = subst (λ (s : LockState). HoldWaiting b.waiting s.claims) (sym at_next) waiting;
      rising = subst (λ (s : LockState). TellRising b.rising s.claims) (sym at_next) rising;
      asking = subst (λ (s : LockState). HoldAsking b.asking s.claims) (sym at_next) asking;
      reading = subst (λ (s : LockState). HoldReading b.reading s.claims) (sym at_next) reading;
      wanted = subst (λ (s : LockState). TellWanted b.wanted s.claims) (sym at_next) wanted;
      heads = subst (λ (s : LockState). TellsNow b.heads s.claims) (sym at_next) heads;
      writes = subst (λ (s : LockState). TellsWrites b.heads s.claims) (sym at_next) writes;
      room = room;
      none = λ none. absurd (never_none none);
      ended = λ before last is.
          let ends = same_ends es before e last is in
          ended ∙ told_are_ended p.groups p.seats p.cap es k.accepted table k.tracked e ∙ (λ i. ended_by o (ends.0 i) (ends.1 i));
    }

-- ---- before the first event

empty_claims : (len : Claim → ℕ) (ss : List CoverSection) → claims_of ss ≡ [] → AllByRecursion (λ s. s.len ≡ len s.claim) ss
empty_claims len [] none = tt
empty_claims len (s ∷ ss) none = cc

pub empty_long : (rs : List Run) → AllByRecursion IsEmpty rs → (len : Claim → ℕ) → AllByRecursion (AreLong len) rs
empty_long [] none len = tt
empty_long (r ∷ rs) none len =
    (record { reads = empty_claims len r.reads.items (ap (λ (b : Sections). b.reads) none.0); writes = empty_claims len r.writes.items (ap (λ (b : Sections). b.writes) none.0) }, empty_long rs none.1 len)

pub known_first : (groups : ReadGroups) (seats cap : ℕ) (a : Following) → seats ≤ SEATS → 1 ≤ cap → cap ≤ SEATS → HaveRoom a → TellsNow a.heads [] → TellsWrites a.heads []
    → ((len : Claim → ℕ) → AllByRecursion (AreLong len) a.runs.items) → ((seat : ℕ) → seat < SEATS → slice_index a.asks seat ≡ 0) → a.ended.items ≡ [] → Follows a (begun groups seats cap)
known_first groups seats cap a most some few room heads writes long asks none = record {
  accepted = tt;
  seats = most;
  some_cap = some;
  cap = few;
  tracked = tracked_opening groups seats cap (table_of a.runs.items);
  long = λ rest. long (length_in rest);
  lengths = λ rest. tt;
  asks = asks;
  waiting = tt;
  rising = tt;
  asking = tt;
  reading = tt;
  wanted = tt;
  heads = heads;
  writes = writes;
  room = room;
  none = λ _. none;
  ended = λ before last is. absurd (some_event before last is);
}
  where
    some_event : (before : List Event) (last : Event) → [] ≡ before ++ last ∷ [] → ⊥
    some_event before last is = let h = ap (λ (l : List Event). length l) is in let more = length-append before (last ∷ []) in omega arith
