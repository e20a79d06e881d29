-- A seat issues a request: why it may, and what its wait keeps.
use Rattle.std.proofs.Common.{◌≡◌, ℕ, ◌<◌, ◌≤◌, ◌==◌, Bool, true, false, cond, List, [], ◌∷◌, ◌++◌, length, Some, refl, sym, ap, subst, ◌∙◌, inr, arith, append-nil}
use Rattle.std.specs.Prelude.{slice_get, IsTrue}
use Rattle.std.proofs.lemmas.Bool.{eqb-true, eq-eqb, true≢false}
use Rattle.rset.specs.Sets.{all_below, rising}
use Rattle.rclaim.specs.Events.{seat_of}
use Rattle.rclaim.specs.Requests.{RequestFields}
use Rattle.rclaim.specs.declared.event.Event.TheVariants.{Issue}
use Rattle.rclaim.specs.declared.request.Kind.{Kind}
use Rattle.rclaim.specs.declared.request.Kind.TheVariants as kinds
use Rattle.rlock.specs.Known.{Site, IsTrueOf, entered, left}
use Rattle.rlock.proofs.Entries.{IsPrefix-trans}
use Rattle.rmodel.specs.declared.granted.Granted.{Granted}
use Rattle.rmodel.specs.Claims.{is_admitted}
use Rattle.rmodel.specs.Holds.{nothing, holds_of, has_request, may_rise, may_ask, is_within}
use Rattle.rmodel.specs.Reached.{IsReached}
use Rattle.rmodel.specs.State.{LockState}
use Rattle.rmodel.specs.Steps.{Comes, next, incomplete_of}
use Rattle.rmodel.proofs.ListFacts.{false_from}
use Rattle.rmodel.proofs.reaching.HeldBySeat.{nothing_within, within_nothing, idle_holds_nothing}
use Rattle.rmodel.proofs.reaching.IdleSeats.{has_room}
use Rattle.rvalue.specs.Entries.{EntryFields}
use Rattle.rvalue.proofs.InTurnLemmas.{AllInTurn-longer}
use Rattle.rstate.specs.Contents.{Contents, lock_of, AreTaken, MayIssue}
use Rattle.rstate.specs.Histories.{Beginning, lock_after, MayFollow, IsLawfulFrom}
use Rattle.rstate.specs.Lent.{LentFields}
use Rattle.rstate.proofs.histories.Following.{lock_push, reached_lawful}
use Rattle.rstate.proofs.homes.Lists.{same_item, get_there}
use Rattle.rguard.specs.LentGuards.{kind_for}
use Rattle.rguard.specs.Seats.{SeatOf, IsOf, SuitsSeat, Goes, IsOneTurn, bare, is_busy}
use Rattle.rguard.specs.LentSections.{IsAs, Knows, WaitsFrom, HasRoomWithin, HasRoomToIssue}
use Rattle.rguard.proofs.Rooms.{room_issued}
use Rattle.rguard.proofs.seats.Claims.{issued_next, may_rise_next, may_ask_next}
use Rattle.rguard.proofs.Ending.{sizes}
use Rattle.rguard.proofs.seats.Finding.{Finds}
use Rattle.rguard.proofs.seats.Idle.{idle_has_none}
use Rattle.rguard.proofs.Lending.{lent_nothing}
use Rattle.rguard.proofs.seats.Turning.{went, one_turn, seen_is, number_is, has_now, knows_now}

-- The seat `k` of the lock has entered and found this state
module _ {V E : Type 0} (after : V → E → V) (taken : V → E → Bool) (number : V → ℕ) (site : Site) (k : SeatOf V E) (found : Contents V E) (of : IsOf site k)
    (tells : IsTrueOf (λ (entry : EntryFields E). seat_of entry.event) (λ n (before later : Contents V E). slice_get later.taken n ≡ slice_get before.taken n) k found.beginning found.entries found)
    (lawful : IsLawfulFrom after taken number found.beginning found.entries) (values : length found.beginning.values ≡ found.beginning.groups.q) where
  -- the seat, as if it had seen all this before
  abbrev seeing : SeatOf V E
  seeing = record k { seen = found.entries }

  began_is : found.beginning ≡ of.began
  began_is = same_item found.beginning of.began (sym tells.its_opening ∙ of.opening)

  lawful_now : IsLawfulFrom after taken number of.began found.entries
  lawful_now = subst (λ d. IsLawfulFrom after taken number d found.entries) began_is lawful

  knows : Knows after taken number of.began site seeing
  knows = record {
    gate = of.gate;
    opening = of.opening;
    there = of.there;
    all = of.all;
    enough = of.enough;
    lawful = lawful_now;
    own = tells.own;
    values = subst (λ (d : Beginning V). length d.values ≡ d.groups.q) began_is values;
  }

  reached : IsReached (lock_after of.began found.entries)
  reached = reached_lawful after taken number of.began found.entries lawful_now

  pub finds_itself : Finds after taken number of.began seeing found
  finds_itself = record {
    began = began_is;
    more = [];
    is = sym (append-nil found.entries);
    others = tt;
    reached = reached;
    fits = tt;
    lawful = lawful_now;
    own = tells.own;
    has_taken = λ g took. tells.its_last.2 ∙ took tells.its_last.0 tells.its_last.1;
  }

  lock_same : lock_of found ≡ lock_after of.began found.entries
  lock_same = ap (λ (d : Beginning V). lock_after d found.entries) began_is

  module _ (idle : is_busy k.mine ≡ false) where
    no_request : has_request (lock_after of.began found.entries).claims k.number ≡ false
    no_request = idle_has_none after taken number of.began k.number found.entries lawful_now (ap is_busy tells.own ∙ idle)

    seat_there : k.number < (lock_after of.began found.entries).seats
    seat_there = subst (λ n. k.number < n) (sym (sizes of.began found.entries).seats) of.there

    not_full : (incomplete_of (lock_after of.began found.entries) == (lock_after of.began found.entries).cap) ≡ false
    not_full = false_from (incomplete_of (lock_after of.began found.entries) == (lock_after of.began found.entries).cap) (λ h.
        apart (incomplete_of (lock_after of.began found.entries)) (lock_after of.began found.entries).cap (lock_after of.began found.entries).seats of.began.seats of.began.cap
        (has_room (lock_after of.began found.entries) k.number reached.sound seat_there no_request).fewer (sizes of.began found.entries).seats (sizes of.began found.entries).cap of.enough
        (eqb-true (incomplete_of (lock_after of.began found.entries)) (lock_after of.began found.entries).cap h))
      where
        apart : (m c s s0 c0 : ℕ) → m < s → s ≡ s0 → c ≡ c0 → s0 ≤ c0 → m ≡ c → ⊥
        apart m c s s0 c0 less seats cap enough same = omega arith

    pub may_issue : (n : ℕ) (r : RequestFields) → n ≡ k.number → SuitsSeat k r → MayIssue (lock_of found) n r
    may_issue n r same suits =
        let fits = suits of.began of.opening in
        let size = sizes of.began found.entries in
        subst (λ (s : LockState). MayIssue s n r) (sym lock_same) (subst (λ m. MayIssue (lock_after of.began found.entries) m r) (sym same) (record {
          seat_there = seat_there;
          reads = subst (λ q. IsTrue (all_below q r.reads)) (ap (λ x. x.q) (sym size.groups)) fits.reads;
          writes = subst (λ q. IsTrue (all_below q r.writes)) (ap (λ x. x.q) (sym size.groups)) fits.writes;
          admitted = subst (λ gs. IsTrue (is_admitted gs r)) (ap (λ x. x.groups) (sym size.groups)) fits.admitted;
          idle = no_request;
          room = not_full;
        }))

    -- what it has taken: nothing
    pub has_taken_none : AreTaken (lock_of found).claims found.beginning.seats found.taken → slice_get found.taken k.number ≡ Some nothing
    has_taken_none are =
        let g = get_there found.taken k.number (subst (λ n. k.number < n) (sym are.each_seat) (subst (λ (d : Beginning V). k.number < d.seats) (sym began_is) of.there)) in
        let within : is_within g.0 nothing ≡ true = subst (λ (h : Granted). is_within g.0 h ≡ true)
        (ap (λ (s : LockState). holds_of s.claims k.number) lock_same ∙ idle_holds_nothing (lock_after of.began found.entries).claims k.number no_request) (are.within k.number g.0 g.1) in
        g.1 ∙ ap Some (within_nothing g.0 within)

  -- it leaves the state with one more entry, or with none
  module _ (now : Contents V E) (pass later : SeatOf V E) (more : List (EntryFields E)) (longer : now.entries ≡ found.entries ++ more) (pass_is : pass ≡ entered k found.entries) (left_is : later ≡ left pass now.entries now) where
    pub goes_on : Goes k more later
    goes_on =
        let goes = went after taken number of.began seeing found now pass later more finds_itself longer pass_is left_is in
        record { same = goes.same; seen = IsPrefix-trans k.seen found.entries later.seen tells.begins goes.seen; mine = goes.mine }

    pub takes_turn : IsOneTurn k more later
    takes_turn =
        let turn = one_turn after taken number of.began seeing found now pass later more finds_itself longer pass_is left_is in
        record {
          found = found.entries;
          begins = tells.begins;
          seen = seen_is after taken number of.began seeing found now pass later more finds_itself longer pass_is left_is ∙ longer;
          turns = turn.turns;
        }

  module _ (idle : is_busy k.mine ≡ false) (r : RequestFields) (now : Contents V E) (pass later : SeatOf V E)
      (longer : now.entries ≡ found.entries ++ bare (Issue k.number r) ∷ []) (pass_is : pass ≡ entered k found.entries) (left_is : later ≡ left pass now.entries now)
      (now_began : now.beginning ≡ found.beginning) (now_lawful : IsLawfulFrom after taken number now.beginning now.entries) (now_taken : now.taken ≡ found.taken) (are : AreTaken (lock_of found).claims found.beginning.seats found.taken) where
    lawful_later : IsLawfulFrom after taken number of.began now.entries
    lawful_later = subst (λ d. IsLawfulFrom after taken number d now.entries) (now_began ∙ began_is) now_lawful

    comes : Comes (lock_after of.began found.entries) (Issue k.number r)
    comes = ((AllInTurn-longer (MayFollow after taken number of.began) found.entries (bare (Issue k.number r))).0 (subst (λ es. IsLawfulFrom after taken number of.began es) longer lawful_later)).1.comes

    lock_next : lock_after of.began later.seen ≡ next (lock_after of.began found.entries) (Issue k.number r)
    lock_next = ap (lock_after of.began) (seen_is after taken number of.began seeing found now pass later (bare (Issue k.number r) ∷ []) finds_itself longer pass_is left_is ∙ longer) ∙ lock_push of.began found.entries (bare (Issue k.number r))

    same : later.number ≡ k.number
    same = number_is after taken number of.began seeing found now pass later (bare (Issue k.number r) ∷ []) finds_itself longer pass_is left_is

    as_new : (kind : Kind) (lent : LentFields V) → r.kind ≡ kind → IsAs (kind_for kind) of.began (record { site = site; seat = later; lent = lent; own = []; acts = [] })
    as_new kinds.Read lent is = tt
    as_new kinds.Write lent is = tt
    as_new kinds.Mixed lent is = tt
    as_new kinds.Upgrade lent is = (tt, (λ i. may_rise (lock_next i).claims (same i)) ∙ may_rise_next (lock_after of.began found.entries) k.number r reached comes is)
    as_new kinds.Nested lent is = (λ i. may_ask (lock_next i).claims (same i)) ∙ may_ask_next (lock_after of.began found.entries) k.number r reached comes is

    -- what its wait keeps when it begins
    pub waits_first : (lent : LentFields V) → HasRoomToIssue r lent
        → WaitsFrom after taken number (kind_for r.kind) of.began (record { site = site; seat = later; lent = lent; own = []; acts = [] })
    waits_first lent has =
        let none : LentFields V = record { reads = []; writes = []; reads_room = lent.reads_room; writes_room = lent.writes_room } in
        let empty : lent ≡ none = λ i. record { reads = has.no_reads i; writes = has.no_writes i; reads_room = lent.reads_room; writes_room = lent.writes_room } in
        subst (λ (l : LentFields V). WaitsFrom after taken number (kind_for r.kind) of.began (record { site = site; seat = later; lent = l; own = []; acts = [] })) (sym empty) (record {
          knows = knows_now after taken number of.began seeing found now pass later (bare (Issue k.number r) ∷ []) finds_itself longer pass_is left_is site knows lawful_later
              (ap (λ (b : Bool). cond b (bare {E = E} (Issue k.number r) ∷ []) []) (eq-eqb k.number k.number refl));
          issued = (λ i. has_request (lock_next i).claims (same i)) ∙ issued_next (lock_after of.began found.entries) k.number r reached comes;
          right = record { held = tt; answers = λ openings are. tt };
          had = nothing;
          within = nothing_within (holds_of (lock_after of.began later.seen).claims later.number);
          has_lent = record {
            taken = has_now after taken number of.began seeing found now pass later (bare (Issue k.number r) ∷ []) finds_itself longer pass_is left_is nothing (ap (λ ts. slice_get ts k.number) now_taken ∙ has_taken_none idle are);
            lent = lent_nothing of.began.seats of.began.values _ _ lent.reads_room lent.writes_room;
            copies = record { once = tt; written = λ l there. absurd (true≢false (sym there)); are = tt; unedited = λ l none. refl };
          };
          as_kind = as_new r.kind none refl;
          room = inr (subst (λ (t : LockState). HasRoomWithin t.claims later.number none) (sym lock_next)
              (subst (λ m. HasRoomWithin (next (lock_after of.began found.entries) (Issue k.number r)).claims m none) (sym same)
              (room_issued (lock_after of.began found.entries) k.number r reached comes (no_request idle) none (omega (arith, has.reads)) (omega (arith, has.writes)))));
        })
