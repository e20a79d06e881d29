-- A nested request asks for a further part: why it may, and what stays.
use Rattle.std.proofs.Common.{◌≡◌, ℕ, ◌==◌, nat_lt, ◌&&◌, Bool, true, false, cond, not, IsTrue, List, [], ◌∷◌, ◌++◌, map, Some, None, refl, sym, ap, subst, ◌∙◌, inl}
use Rattle.std.specs.Prelude.{slice_get}
use Rattle.std.specs.FinSet.{contains, union, is_subset, len}
use Rattle.std.specs.List.{AllByRecursion}
use Rattle.std.proofs.lemmas.Bool.{true≢false, eq-eqb, or_parts, and_parts}
use Rattle.rset.specs.Sets.{Set, all_below}
use Rattle.rset.proofs.SetLemmas.{all_below_union, all_below_within}
use Rattle.rclaim.specs.Requests.{is_part}
use Rattle.rclaim.specs.declared.event.Event.TheVariants.{Ask}
use Rattle.rlock.specs.Known.{Site, entered, left}
use Rattle.rmodel.specs.declared.claimed.Claimed.{Claimed}
use Rattle.rmodel.specs.declared.refused.Refused.TheVariants.{NotHolding, NotNested, AskOutside}
use Rattle.rmodel.specs.Claims.{is_nested}
use Rattle.rmodel.specs.Holds.{holds_of, has_request, has_ask, is_nothing, may_ask, is_part_of, is_within}
use Rattle.rmodel.specs.State.{LockState}
use Rattle.rmodel.specs.StateLaws.{IsBelow}
use Rattle.rmodel.specs.Steps.{Fits, Accepts, Comes, next, is_not_holding}
use Rattle.rmodel.proofs.ListFacts.{all_at, all_from, passing}
use Rattle.rmodel.proofs.reaching.HeldBySeat.{within_all, within_itself, is_nothing_of, idle_holds_nothing}
use Rattle.rmodel.proofs.theorems.HistoryLaws.{claims_are_below}
use Rattle.rvalue.specs.declared.act.Act.{Act}
use Rattle.rvalue.specs.Acts.{value_within, AnswersAreRight}
use Rattle.rvalue.specs.Entries.{EntryFields}
use Rattle.rvalue.specs.Histories.{value_of}
use Rattle.rvalue.proofs.InTurnLemmas.{AllInTurn-longer}
use Rattle.rvalue.proofs.ValueLemmas.{value_of-longer}
use Rattle.rstate.specs.Contents.{Contents, lock_of, is_ready}
use Rattle.rstate.specs.Histories.{Beginning, lock_after, writes_of, MayFollow, IsLawfulFrom}
use Rattle.rstate.specs.Laws.{is_held_by, IsHeldStill}
use Rattle.rstate.specs.Lent.{LentFields}
use Rattle.rstate.proofs.histories.Following.{event_of, lock_push, lock_is_after, accepted_lawful}
use Rattle.rstate.proofs.histories.Staying.{held_push, still_from, held_from}
use Rattle.rstate.proofs.homes.Lists.{same_item}
use Rattle.rstate.proofs.homes.Moved.{place_among}
use Rattle.rguard.specs.declared.kind.GuardKind.{GuardKind}
use Rattle.rguard.specs.declared.kind.GuardKind.TheVariants as kinds
use Rattle.rguard.specs.LentGuards.{KeepsValues, KeepsHolding}
use Rattle.rguard.specs.Seats.{SeatOf, bare}
use Rattle.rguard.specs.LentSections.{SectionFields, lock_seen, held_at, value_seen, value_edited, HasRoom, ActsAreRight, HoldsFrom, WaitsFrom}
use Rattle.rguard.proofs.seats.Acting.{held_more}
use Rattle.rguard.proofs.seats.Claims.{is_of, of_seat, may_ask_by, of_seat_and, claim_asked}
use Rattle.rguard.proofs.Ending.{sizes, there_now}
use Rattle.rguard.proofs.seats.Finding.{Finds, lock_is, reached_now, within_later, value_later, claim_later, holding_later}
use Rattle.rguard.proofs.Lending.{lent_same, lent_reserved}
use Rattle.rguard.proofs.Looking.{right_later, value_read, value_written}
use Rattle.rguard.proofs.seats.Turning.{seen_is, number_is, has_now, knows_now}

-- a seat that holds something has a request
request_of : (s : LockState) (n : ℕ) → is_not_holding s.claims n ≡ false → has_request s.claims n ≡ true
request_of s n holding = at (has_request s.claims n) refl
  where
    at : (b : Bool) → has_request s.claims n ≡ b → b ≡ true
    at true is = refl
    at false is = absurd (true≢false (sym (is_nothing_of (holds_of s.claims n) (idle_holds_nothing s.claims n is)) ∙ (or_parts (is_nothing (holds_of s.claims n)) (has_ask s.claims n) holding).0))

-- a guard with room for more keeps what a wait keeps
pub waits_of : {V E : Type 0} (after : V → E → V) (taken : V → E → Bool) (number : V → ℕ) (kind : GuardKind) (b : Beginning V) (s : SectionFields V E) → HoldsFrom after taken number kind b s → HasRoom s.lent → WaitsFrom after taken number kind b s
waits_of after taken number kind b s h room = record {
  knows = h.knows;
  issued = request_of (lock_seen b s.seat) s.seat.number h.holding;
  right = h.right;
  had = held_at b s.seat;
  within = within_itself (held_at b s.seat);
  has_lent = h.has_lent;
  as_kind = h.as_kind;
  room = inl room;
}

-- a guard with more room keeps what it keeps
pub holds_reserved : {V E : Type 0} (after : V → E → V) (taken : V → E → Bool) (number : V → ℕ) (b : Beginning V) (s : SectionFields V E) (roomy : LentFields V) → roomy.reads ≡ s.lent.reads → roomy.writes ≡ s.lent.writes
    → HoldsFrom after taken number kinds.Nest b s → HoldsFrom after taken number kinds.Nest b (record { site = s.site; seat = s.seat; lent = roomy; own = s.own; acts = s.acts })
holds_reserved after taken number b s roomy reads writes h = record {
  knows = h.knows;
  holding = h.holding;
  right = h.right;
  has_lent = record {
    taken = h.has_lent.taken;
    lent = lent_reserved b.seats (held_at b s.seat) b.values (value_seen after s.seat) (value_seen after s.seat) s.lent roomy reads writes h.has_lent.lent;
    copies = record { once = h.has_lent.copies.once; written = h.has_lent.copies.written; are = h.has_lent.copies.are; unedited = h.has_lent.copies.unedited };
  };
  as_kind = h.as_kind;
}

-- a seat that holds something and has no pending ask is ready
pub ready_of : (s : LockState) (n : ℕ) → is_not_holding s.claims n ≡ false → is_ready s n ≡ true
ready_of s n holding = ap (λ (b : Bool). not (has_request s.claims n && b)) holding ∙ none (has_request s.claims n)
  where
    none : (b : Bool) → not (b && false) ≡ true
    none true = refl
    none false = refl

-- A guard of seat `k`, of a nested request, finds this state
module _ {V E : Type 0} (after : V → E → V) (taken : V → E → Bool) (number : V → ℕ) (b : Beginning V) (s : SectionFields V E) (h : HoldsFrom after taken number kinds.Nest b s) (found : Contents V E) (f : Finds after taken number b s.seat found)
    (part : Set) (is_of_it : is_part_of (lock_seen b s.seat).claims s.seat.number part ≡ true) where
  abbrev n : ℕ
  n = s.seat.number

  holding : is_not_holding (lock_after b found.entries).claims n ≡ false
  holding = holding_later after taken number b s.seat found f h.holding

  nested : may_ask (lock_after b found.entries).claims n ≡ true
  nested = claim_later after taken number b s.seat found f (may_ask_by n) (of_seat_and n (λ c. is_nested c.kind)) ∙ h.as_kind

  within_request : is_part_of (lock_after b found.entries).claims n part ≡ true
  within_request = claim_later after taken number b s.seat found f (λ c. (c.seat == n) && is_part part (union c.reads c.writes)) (of_seat_and n (λ c. is_part part (union c.reads c.writes))) ∙ is_of_it

  accepts : Accepts (lock_after b found.entries) (Ask n part)
  accepts = (λ i. cond (holding i) (Some NotHolding) (cond (not (nested i)) (Some NotNested) (cond (not (within_request i)) (Some AskOutside) None)))

  part_below : IsTrue (all_below (lock_after b found.entries).groups.q part)
  part_below =
      let claims = (lock_after b found.entries).claims in
      let x = passing (λ (x : Claimed). (x.claim.seat == n) && is_part part (union x.claim.reads x.claim.writes)) claims within_request in
      let is = and_parts (x.0.claim.seat == n) (is_part part (union x.0.claim.reads x.0.claim.writes)) x.2 in
      let subset = and_parts (nat_lt 0 (len part)) (is_subset part (union x.0.claim.reads x.0.claim.writes)) is.1 in
      let all : AllByRecursion (IsBelow b.groups) claims = subst (λ (t : LockState). AllByRecursion (IsBelow b.groups) t.claims) (sym (lock_is_after b found.entries))
      (claims_are_below b.groups b.seats b.cap (map event_of found.entries) (accepted_lawful after taken number b found.entries f.lawful)) in
      let each : IsBelow b.groups x.0 = all_at (IsBelow b.groups) claims x.0 all x.1 in
      subst (λ q. all_below q part ≡ true) (ap (λ g. g.q) (sym (sizes b found.entries).groups))
      (all_below_within b.groups.q part (union x.0.claim.reads x.0.claim.writes) subset.1 (all_below_union b.groups.q x.0.claim.reads x.0.claim.writes each.reads each.writes))

  pub ask_fits : (m : ℕ) → m ≡ n → Fits (lock_of found) (Ask m part)
  ask_fits m same = subst (λ (t : LockState). Fits t (Ask m part)) (sym (lock_is after taken number b s.seat found f)) (subst (λ k. Fits (lock_after b found.entries) (Ask k part)) (sym same)
      (there_now after taken number b s.seat found f h.knows.there, part_below))

  pub ask_accepted : (m : ℕ) → m ≡ n → Accepts (lock_of found) (Ask m part)
  ask_accepted m same = subst (λ (t : LockState). Accepts t (Ask m part)) (sym (lock_is after taken number b s.seat found f)) (subst (λ k. Accepts (lock_after b found.entries) (Ask k part)) (sym same) accepts)

  comes : Comes (lock_after b found.entries) (Ask n part)
  comes = record { fits = (there_now after taken number b s.seat found f h.knows.there, part_below); normal = tt; accepted = accepts }

  abbrev entry : EntryFields E
  entry = bare (Ask n part)

  -- it then waits for the part
  module _ (room : HasRoom s.lent) (now : Contents V E) (pass later : SeatOf V E) (longer : now.entries ≡ found.entries ++ entry ∷ []) (pass_is : pass ≡ entered s.seat found.entries) (left_is : later ≡ left pass now.entries now)
      (now_began : now.beginning ≡ found.beginning) (now_lawful : IsLawfulFrom after taken number now.beginning now.entries) (now_taken : now.taken ≡ found.taken) where
    lawful_later : IsLawfulFrom after taken number b now.entries
    lawful_later = subst (λ d. IsLawfulFrom after taken number d now.entries) (now_began ∙ f.began) now_lawful

    may_follow : MayFollow after taken number b found.entries entry
    may_follow = ((AllInTurn-longer (MayFollow after taken number b) found.entries entry).0 (subst (λ es. IsLawfulFrom after taken number b es) longer lawful_later)).1

    seen : later.seen ≡ found.entries ++ entry ∷ []
    seen = seen_is after taken number b s.seat found now pass later (entry ∷ []) f longer pass_is left_is ∙ longer

    same_seat : later.number ≡ n
    same_seat = number_is after taken number b s.seat found now pass later (entry ∷ []) f longer pass_is left_is

    lock_next : lock_after b later.seen ≡ next (lock_after b found.entries) (Ask n part)
    lock_next = ap (lock_after b) seen ∙ lock_push b found.entries entry

    grows : is_within (holds_of (lock_after b found.entries).claims n) (holds_of (lock_after b (found.entries ++ entry ∷ [])).claims n) ≡ true
    grows = held_push after taken number b n found.entries entry (reached_now after taken number b s.seat found f) may_follow refl

    value_same : (l : ℕ) (v : V) → value_of after v later.seen l ≡ value_of after v found.entries l
    value_same l v = ap (λ es. value_of after v es l) seen ∙ value_of-longer after v found.entries entry l

    within : is_within (held_at b s.seat) (held_at b later) ≡ true
    within = subst (λ es. is_within (held_at b s.seat) (holds_of (lock_after b es).claims later.number) ≡ true) (sym seen)
        (subst (λ m. is_within (held_at b s.seat) (holds_of (lock_after b (found.entries ++ entry ∷ [])).claims m) ≡ true) (sym same_seat)
        (within_all (held_at b s.seat) (holds_of (lock_after b found.entries).claims n) (holds_of (lock_after b (found.entries ++ entry ∷ [])).claims n) (within_later after taken number b s.seat found f) grows))

    right_now : ActsAreRight after taken number b (found.entries ++ entry ∷ []) n s.acts
    right_now =
        let before = right_later after taken number b s.seat found f s.acts h.right in
        record {
          held = held_more (lock_after b found.entries) (lock_after b (found.entries ++ entry ∷ [])) n (λ l. still_from (lock_after b found.entries) (lock_after b (found.entries ++ entry ∷ [])) n l grows) s.acts before.held;
          answers = λ openings are. subst (λ (values : ℕ → V). AnswersAreRight after taken number values s.acts) (λ i l. sym (value_of-longer after (openings l) found.entries entry l) i) (before.answers openings are);
        }

    pub waits_for_part : WaitsFrom after taken number kinds.Nest b (record { site = s.site; seat = later; lent = s.lent; own = s.own; acts = s.acts })
    waits_for_part = record {
      knows = knows_now after taken number b s.seat found now pass later (entry ∷ []) f longer pass_is left_is s.site h.knows lawful_later (ap (λ (c : Bool). cond c (entry ∷ []) []) (eq-eqb n n refl));
      issued = (λ i. has_request (lock_next i).claims (same_seat i)) ∙ claim_asked n (is_of n) (of_seat n) (lock_after b found.entries) part (reached_now after taken number b s.seat found f) comes ∙ request_of (lock_after b found.entries) n holding;
      right = subst (λ es. ActsAreRight after taken number b es later.number s.acts) (sym seen) (subst (λ m. ActsAreRight after taken number b (found.entries ++ entry ∷ []) m s.acts) (sym same_seat) right_now);
      had = held_at b s.seat;
      within = within;
      has_lent = record {
        taken = has_now after taken number b s.seat found now pass later (entry ∷ []) f longer pass_is left_is (held_at b s.seat) (ap (λ ts. slice_get ts n) now_taken ∙ f.has_taken (held_at b s.seat) h.has_lent.taken);
        lent = lent_same b.seats (held_at b s.seat) b.values (value_seen after s.seat) (value_seen after s.seat) (value_seen after later) (value_seen after later) s.lent
            (λ l reads v listed. value_same l v ∙ value_read after taken number b s.seat found f (held_at b s.seat) (within_itself (held_at b s.seat)) l reads v)
            (λ l writes v listed. value_same l v ∙ value_written after taken number b s.seat found f (held_at b s.seat) (within_itself (held_at b s.seat)) l writes v) h.has_lent.lent;
        copies = record {
          once = h.has_lent.copies.once;
          written = h.has_lent.copies.written;
          are = all_from (λ copy. (opening : V) → slice_get b.values copy.0 ≡ Some opening → copy.1 ≡ value_within after (value_of after opening later.seen copy.0) s.acts copy.0) s.own (λ copy there opening listed.
              all_at (λ copy. (opening : V) → slice_get b.values copy.0 ≡ Some opening → copy.1 ≡ value_edited after s copy.0 opening) s.own copy h.has_lent.copies.are there opening listed
              ∙ ap (λ v. value_within after v s.acts copy.0) (sym (value_same copy.0 opening
              ∙ value_written after taken number b s.seat found f (held_at b s.seat) (within_itself (held_at b s.seat)) copy.0 (h.has_lent.copies.written copy.0 (place_among copy s.own there)) opening)));
          unedited = h.has_lent.copies.unedited;
        };
      };
      as_kind = (λ i. may_ask (lock_next i).claims (same_seat i)) ∙ claim_asked n (may_ask_by n) (of_seat_and n (λ c. is_nested c.kind)) (lock_after b found.entries) part (reached_now after taken number b s.seat found f) comes ∙ nested;
      room = inl room;
    }

-- what the guard holds still has the value that it had, after a turn without an entry
pub keeps_values : {V E : Type 0} (after : V → E → V) (taken : V → E → Bool) (number : V → ℕ) (b : Beginning V) (site site2 : Site) (k later : SeatOf V E) (acts : List (Act E)) (found : Contents V E) (f : Finds after taken number b k found)
    → k.opening ≡ Some b → later.opening ≡ k.opening → later.seen ≡ found.entries → KeepsValues after (record { site = site; seat = k; acts = acts }) (record { site = site2; seat = later; acts = acts })
keeps_values after taken number b site site2 k later acts found f opens same seen l value held has d its =
    let was = has b opens in
    let e : b ≡ d = same_item b d (sym opens ∙ sym same ∙ its) in (
      was.0,
      ap (λ x. slice_get x.values l) (sym e) ∙ was.1,
      was.2 ∙ ap (λ v. value_within after v acts l) (sym (ap (λ es. value_of after was.0 es l) seen ∙ value_later after taken number b k found f l (held b opens) was.0)),
    )

-- and it still holds that, and may ask for the same
pub keeps_holding : {V E : Type 0} (after : V → E → V) (taken : V → E → Bool) (number : V → ℕ) (b : Beginning V) (k later : SeatOf V E) (found : Contents V E) (f : Finds after taken number b k found)
    → k.opening ≡ Some b → later.opening ≡ k.opening → later.number ≡ k.number → later.seen ≡ found.entries → KeepsHolding k later
keeps_holding {V} {E} after taken number b k later found f opens same same_seat seen = record {
  holds = λ l held d its. now d its (λ s n. is_held_by s n l ≡ true) (held_from (lock_after b k.seen) (lock_after b found.entries) k.number l (still l) (held b opens));
  writes = λ l held d its. now d its (λ s n. contains (writes_of s n) l ≡ true) ((still l).writes (held b opens));
  asks = λ part is d its. now d its (λ s n. is_part_of s.claims n part ≡ true)
      (claim_later after taken number b k found f (λ c. (c.seat == k.number) && is_part part (union c.reads c.writes)) (of_seat_and k.number (λ c. is_part part (union c.reads c.writes))) ∙ is b opens);
}
  where
    still : (l : ℕ) → IsHeldStill (lock_after b k.seen) (lock_after b found.entries) k.number l
    still l = still_from (lock_after b k.seen) (lock_after b found.entries) k.number l (within_later after taken number b k found f)

    now : (d : Beginning V) → later.opening ≡ Some d → (P : LockState → ℕ → Type 0) → P (lock_after b found.entries) k.number → P (lock_after d later.seen) later.number
    now d its P p = subst (λ (e : Beginning V). P (lock_after e later.seen) later.number) (same_item b d (sym opens ∙ sym same ∙ its))
        (subst (λ es. P (lock_after b es) later.number) (sym seen) (subst (λ m. P (lock_after b found.entries) m) (sym same_seat) p))
