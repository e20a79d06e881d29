-- No wait goes above its bound, by the needs of any history that begins with the events so far.
use Rattle.std.proofs.Common.{◌≡◌, ◌<◌, ℕ, Bool, true, false, ◌&&◌, cond, Option, List, [], ◌∷◌, ◌++◌, refl, sym, subst, ◌∙◌, inl, inr, arith}
use Rattle.std.specs.List.{AllByRecursion}
use Rattle.rset.specs.Sets.{Set}
use Rattle.rset.proofs.SetLemmas.{within_reflexive}
use Rattle.rbound.specs.Groups.{ReadGroups}
use Rattle.rclaim.specs.declared.claim.Claim.{Claim}
use Rattle.rclaim.specs.declared.event.Event.{Event}
use Rattle.rmodel.specs.declared.claimed.Claimed.{Claimed}
use Rattle.rmodel.specs.Claims.{is_upgrade}
use Rattle.rmodel.specs.Reached.{IsReached}
use Rattle.rmodel.specs.State.{LockState, opening}
use Rattle.rmodel.specs.Steps.{next, after, AreAccepted}
use Rattle.rmodel.proofs.ListFacts.{Among, all_at}
use Rattle.rmodel.proofs.reaching.Histories.{accepted_parts, sizes_next, sizes_after}
use Rattle.rmodel.proofs.reaching.Reached.{reached_next, reached_after, reached_opening}
use Rattle.rbound.specs.Bounds.{IsWithin, bound_of_first, bound_of_rise, bound_of_ask, first_bound, rise_bound, ask_bound_of, write_bound, read_bound}
use Rattle.rbound.specs.Needs.{Needed, length_of, is_of_request}
use Rattle.rcover_laws.specs.History.{requests_of, number_from, length_in, number_in}
use Rattle.rcover_laws.specs.Line.{write_sections}
use Rattle.rcover_laws.specs.Moments.{Moment, moments}
use Rattle.rcover_laws.specs.Promises.{WaitsAreWithinBounds}
use Rattle.rcover_laws.specs.Sections.{read_sections, ask_sections}
use Rattle.rcover_laws.specs.Waits.{ReadWaits, WriteWaits, AskWaits}
use Rattle.rcover_laws.specs.Within.{numbers_of, needed_by, AreWithin}
use Rattle.rcover_laws.proofs.bounds.AskBound.{ask_within}
use Rattle.rcover_laws.proofs.bounds.Finding.{IsFound, found, find_among, renumbered}
use Rattle.rcover_laws.proofs.bounds.Issued.{IsIssueAt, IsIssued, AreIssuedFrom, issued_after, issued_moments, length_is, request_is}
use Rattle.rcover_laws.proofs.bounds.Knowing.{IsNeed, IsKnown, AreKnown}
use Rattle.rcover_laws.proofs.bounds.ReadBound.{read_within}
use Rattle.rcover_laws.proofs.bounds.WriteBound.{write_within}
use Rattle.rcover_laws.proofs.lists.Found.{all_both, all_so}
use Rattle.rcover_laws.proofs.states.Asking.{ask_entitled}

-- the seats of claims exist, at each moment
seated_moments : (s : LockState) (es : List Event) → IsReached s → AreAccepted s es → (seats : ℕ) → s.seats ≡ seats → AllByRecursion (λ m. (x : Claimed) → Among x m → x.claim.seat < seats) (moments s es)
seated_moments s es reached accepted seats same = at_all s es reached accepted same
  where
    here : (s : LockState) → IsReached s → s.seats ≡ seats → (x : Claimed) → Among x s.claims → x.claim.seat < seats
    here s reached same x there = let below = all_at (λ x. x.claim.seat < s.seats) s.claims x reached.sound.seated there in omega arith

    at_all : (s : LockState) (es : List Event) → IsReached s → AreAccepted s es → s.seats ≡ seats → AllByRecursion (λ m. (x : Claimed) → Among x m → x.claim.seat < seats) (moments s es)
    at_all s [] reached accepted same = (here s reached same, tt)
    at_all s (e ∷ es) reached accepted same = (here s reached same, at_all (next s e) es (reached_next s e reached accepted.0) accepted.1 ((sizes_next s e).seats ∙ same))

module _ (groups : ReadGroups) (history : List Event) (seats : ℕ) where
  abbrev ns : List Needed
  ns = needed_by groups seats history

  abbrev len : Claim → ℕ
  len c = length_in history c

  abbrev number : Claim → ℕ
  number c = number_in history c

  -- the need of a claim of the history, and that it is found
  record HasNeed (c : Claim) : Type 0 where
    one : Needed
    is : IsNeed len number c one
    found : IsFound groups.groups (λ t. requests_of t history) seats c (number c) one

  has_need : (c : Claim) → c.seat < seats → IsIssued history groups.groups c → HasNeed c
  has_need c below h = record {
    one = record { claim = renumbered (number c) c; len = length_of h.request c };
    is = record {
      seat = refl;
      stamp = refl;
      kind = refl;
      half = refl;
      reads = refl;
      writes = refl;
      places = within_reflexive c.places;
      lasts = sym (length_is history c.stamp c.seat h.request c h.at);
    };
    found = found groups.groups (λ t. requests_of t history) seats c (number c) h.request below (request_is history c.stamp c.seat h.request h.at) h.among;
  }

  in_needs : (c : Claim) → (h : HasNeed c) → Among h.one ns
  in_needs c h = by_half c.write_half refl
    where
      by_half : (b : Bool) → c.write_half ≡ b → Among h.one ns
      by_half true w = find_among (λ n. is_of_request c.seat (number c) n && n.claim.write_half) ns h.one (h.found.write w)
      by_half false r = find_among (is_of_request c.seat (number c)) ns h.one (h.found.first (inl r))

  known : (c : Claim) → HasNeed c → IsKnown ns len number c
  known c h = record { need = h.one; among = in_needs c h; is = h.is }

  module _ (s : LockState) (es : List Event) (reached : IsReached s) (accepted : AreAccepted s es) (same : s.seats ≡ seats) (left : List Event) (issued : AreIssuedFrom history groups.groups s (es ++ left)) where
    abbrev ms : List Moment
    ms = moments s es

    each_need : AllByRecursion (λ m. (x : Claimed) → Among x m → HasNeed x.claim) ms
    each_need =
        all_both (λ m. (x : Claimed) → Among x m → IsIssued history groups.groups x.claim) (λ m. (x : Claimed) → Among x m → x.claim.seat < seats) (λ m. (x : Claimed) → Among x m → HasNeed x.claim)
        (λ m a b x there. has_need x.claim (b x there) (a x there)) ms (issued_moments history groups.groups s es left reached accepted issued) (seated_moments s es reached accepted seats same)

    all_known : AllByRecursion (AreKnown ns len number) ms
    all_known = all_so (λ m. (x : Claimed) → Among x m → HasNeed x.claim) (AreKnown ns len number) (λ m f x there. known x.claim (f x there)) ms each_need

    first_need_of : (c : Claim) (x : Claimed) → Among x s.claims → x.claim ≡ c → HasNeed c
    first_need_of c x there is = subst HasNeed is (each_need.0 x there)

    stamps : (a b : Claim) → a.seat ≡ b.seat → a.stamp ≡ b.stamp → number a ≡ number b
    stamps a b seats stamp = (λ i. number_from history (stamp i) (seats i))

    of_reads : (c : Claim) → AllByRecursion (ReadWaits c) ms → IsWithin (numbers_of len (read_sections c ms)) (first_bound ns s.seats s.cap c.seat (number c))
    of_reads c waits =
        let w = waits.0 in
        let h = first_need_of c w.at w.among w.is in
        let by_need = read_within s es reached accepted c waits ns len number stamps all_known h.one h.is in
        subst (λ (o : Option Needed). IsWithin (numbers_of len (read_sections c ms)) (bound_of_first ns s.seats s.cap o)) (sym (h.found.first (inl w.read)))
        (subst (λ (b : Bool). IsWithin (numbers_of len (read_sections c ms)) (cond b (write_bound ns s.seats s.cap h.one.claim) (read_bound ns h.one.claim))) (sym (h.is.half ∙ w.read)) by_need)

    by_write_need : (c : Claim) → (waits : AllByRecursion (WriteWaits c) ms) → (h : HasNeed c) → IsWithin (numbers_of len (write_sections c ms)) (write_bound ns s.seats s.cap h.one.claim)
    by_write_need c waits h = write_within c s es reached accepted waits ns len number all_known h.one (in_needs c h) h.is

    of_writes : (c : Claim) → is_upgrade c.kind ≡ false → AllByRecursion (WriteWaits c) ms → IsWithin (numbers_of len (write_sections c ms)) (first_bound ns s.seats s.cap c.seat (number c))
    of_writes c plain waits =
        let w = waits.0 in
        let h = first_need_of c w.at w.among w.is in
        subst (λ (o : Option Needed). IsWithin (numbers_of len (write_sections c ms)) (bound_of_first ns s.seats s.cap o)) (sym (h.found.first (inr plain)))
        (subst (λ (b : Bool). IsWithin (numbers_of len (write_sections c ms)) (cond b (write_bound ns s.seats s.cap h.one.claim) (read_bound ns h.one.claim))) (sym (h.is.half ∙ w.write)) (by_write_need c waits h))

    of_rises : (c : Claim) → AllByRecursion (WriteWaits c) ms → IsWithin (numbers_of len (write_sections c ms)) (rise_bound ns s.seats s.cap c.seat (number c))
    of_rises c waits =
        let w = waits.0 in
        let h = first_need_of c w.at w.among w.is in
        subst (λ (o : Option Needed). IsWithin (numbers_of len (write_sections c ms)) (bound_of_rise ns s.seats s.cap o)) (sym (h.found.write w.write)) (by_write_need c waits h)

    of_asks : (c : Claim) (part : Set) → AllByRecursion (AskWaits c part) ms → IsWithin (numbers_of len (ask_sections c part ms)) (ask_bound_of ns c.seat (number c) part)
    of_asks c part waits =
        let w = waits.0 in
        let h = first_need_of c w.at w.among w.is in
        subst (λ (o : Option Needed). IsWithin (numbers_of len (ask_sections c part ms)) (bound_of_ask ns part o)) (sym (h.found.write (ask_entitled s reached c part w).write))
        (ask_within s es reached accepted c part waits ns len number all_known h.one h.is)

    pub within : AreWithin ns len number s.seats s.cap ms
    within = record { reads = of_reads; writes = of_writes; rises = λ c upgrade waits. of_rises c waits; asks = of_asks }

-- ---- the theorem

pub waits_are_within_bounds : WaitsAreWithinBounds
waits_are_within_bounds groups seats cap events more rest accepted =
    let first = opening groups seats cap in
    let start = reached_opening groups seats cap in
    let history = events ++ (more ++ rest) in
    let parts = accepted_parts first events more accepted in
    let reached = reached_after first events start parts.0 in
    let sizes = sizes_after first events in
    let issued = issued_after history groups.groups first events (more ++ rest) start parts.0 (record {
      issued = λ x there. absurd there;
      left_over = λ k seat r at. subst (λ (n : ℕ). IsIssueAt history n seat r) (omega arith) at;
      same = refl;
    }) in
    subst (λ (p : ℕ × ℕ). AreWithin (needed_by groups seats history) (length_in history) (number_in history) p.0 p.1 (moments (after first events) more)) (λ i. (sizes.seats i, sizes.cap i))
    (within groups history seats (after first events) more reached parts.1 sizes.seats rest issued)
