-- A seat issues a request, and looks in the same turn: as if it had left the state between the two.
use Rattle.std.proofs.Common.{◌≡◌, ℕ, Bool, true, false, [], ◌∷◌, ◌++◌, length, Some, refl, sym, ap, subst, ◌∙◌, append-nil}
use Rattle.std.specs.Prelude.{slice_get, slice_set}
use Rattle.rclaim.specs.Events.{seat_of}
use Rattle.rclaim.specs.Requests.{RequestFields}
use Rattle.rclaim.specs.declared.event.Event.TheVariants.{Issue}
use Rattle.rlock.specs.Known.{Site, IsTrueOf, entered, left}
use Rattle.rmodel.specs.declared.granted.Granted.{Granted}
use Rattle.rmodel.specs.Holds.{holds_of}
use Rattle.rvalue.specs.Entries.{EntryFields}
use Rattle.rstate.specs.Contents.{Contents, lock_of, AreTaken, is_ready, IsLentNow}
use Rattle.rstate.specs.Histories.{lock_after, IsLawfulFrom}
use Rattle.rstate.specs.Lent.{LentFields}
use Rattle.rstate.specs.Moves.{HasRoomFor}
use Rattle.rstate.proofs.histories.Following.{reached_lawful}
use Rattle.rstate.proofs.homes.Lists.{same_item, get_here}
use Rattle.rguard.specs.LentGuards.{IsReady, kind_for}
use Rattle.rguard.specs.Seats.{SeatOf, IsOf, bare, is_busy}
use Rattle.rguard.specs.LentSections.{HasTaken, Knows, HoldsFrom, WaitsFrom, HasRoomToIssue}
use Rattle.rguard.proofs.Beginning.{waits_first}
use Rattle.rguard.proofs.Looking.{ready_seen, held_is, may_take_lent, may_take_room, holds_now}
use Rattle.rguard.proofs.seats.Finding.{Finds}

-- The seat `k` of the lock has entered, found this state, and issued the request: then the state is `now`
module _ {V E : Type 0} (after : V → E → V) (taken : V → E → Bool) (number : V → ℕ) (site : Site) (k : SeatOf V E) (found : Contents V E) (of : IsOf site k)
    (tells : IsTrueOf (λ (entry : EntryFields E). seat_of entry.event) (λ n (before later : Contents V E). slice_get later.taken n ≡ slice_get before.taken n) k found.beginning found.entries found)
    (lawful : IsLawfulFrom after taken number found.beginning found.entries) (values : length found.beginning.values ≡ found.beginning.groups.q) (idle : is_busy k.mine ≡ false)
    (r : RequestFields) (now : Contents V E) (pass : SeatOf V E) (longer : now.entries ≡ found.entries ++ bare (Issue k.number r) ∷ []) (pass_is : pass ≡ entered k found.entries)
    (now_began : now.beginning ≡ found.beginning) (now_lawful : IsLawfulFrom after taken number now.beginning now.entries) (now_taken : now.taken ≡ found.taken) (are : AreTaken (lock_of found).claims found.beginning.seats found.taken)
    (lent : LentFields V) (room_is : HasRoomToIssue r lent) where
  -- the seat, if it left the state as it is then
  abbrev between : SeatOf V E
  between = left pass now.entries now

  pub waits_between : WaitsFrom after taken number (kind_for r.kind) of.began (record { site = site; seat = between; lent = lent; own = []; acts = [] })
  waits_between = waits_first after taken number site k found of tells lawful values idle r now pass between longer pass_is refl now_began now_lawful now_taken are lent room_is

  number_same : pass.number ≡ k.number
  number_same = ap (λ (p : SeatOf V E). p.number) pass_is

  finds_between : Finds after taken number of.began between now
  finds_between = record {
    began = now_began ∙ same_item found.beginning of.began (sym tells.its_opening ∙ of.opening);
    more = [];
    is = sym (append-nil now.entries);
    others = tt;
    reached = reached_lawful after taken number of.began now.entries waits_between.knows.lawful;
    fits = tt;
    lawful = waits_between.knows.lawful;
    own = waits_between.knows.own;
    has_taken = λ g took. took now refl;
  }

  pub first_lent : (n : ℕ) → n ≡ k.number → (g : Granted) → slice_get now.taken n ≡ Some g → IsLentNow after now g lent
  first_lent n is = may_take_lent after taken number (kind_for r.kind) of.began site between lent [] [] waits_between now finds_between n (is ∙ sym number_same)

  pub first_room : (n : ℕ) → n ≡ k.number → (g : Granted) → slice_get now.taken n ≡ Some g → HasRoomFor g (holds_of (lock_of now).claims n) lent
  first_room n is = may_take_room after taken number (kind_for r.kind) of.began site between lent [] [] waits_between now finds_between n (is ∙ sym number_same)

  ready_between : (later : SeatOf V E) (ready : Bool) (n : ℕ) → later.opening ≡ Some of.began → later.seen ≡ now.entries → later.number ≡ pass.number → n ≡ k.number → is_ready (lock_of now) n ≡ ready → IsReady later ready
  ready_between later ready n opening seen same is ready_is =
      ready_seen after taken number of.began between now finds_between later ready opening seen same (ap (is_ready (lock_of now)) (sym (is ∙ sym number_same)) ∙ ready_is)

  -- it is not ready, and leaves the state as it is
  pub not_ready : (later : SeatOf V E) (n : ℕ) → later ≡ between → n ≡ k.number → is_ready (lock_of now) n ≡ false → IsReady later false
  not_ready later n left_is is ready =
      ready_between later false n (ap (λ (x : SeatOf V E). x.opening) left_is ∙ waits_between.knows.opening) (ap (λ (x : SeatOf V E). x.seen) left_is) (ap (λ (x : SeatOf V E). x.number) left_is) is ready

  -- it is ready, all that it holds is lent to it, and it leaves the state `took`
  module _ (n : ℕ) (is : n ≡ k.number) (ready : is_ready (lock_of now) n ≡ true) (took : Contents V E) (lent2 : LentFields V) (later : SeatOf V E) (entries_same : took.entries ≡ now.entries)
      (taken_is : took.taken ≡ slice_set now.taken n (holds_of (lock_of now).claims n)) (lent_is : IsLentNow after now (holds_of (lock_of now).claims n) lent2) (left_is : later ≡ left pass took.entries took) where
    n_is : n ≡ pass.number
    n_is = is ∙ sym number_same

    later_is : later ≡ left pass now.entries took
    later_is = left_is ∙ ap (λ es. left pass es took) entries_same

    knows_later : Knows after taken number of.began site later
    knows_later =
        let w = waits_between.knows in
        subst (λ (x : SeatOf V E). Knows after taken number of.began site x) (sym later_is) (record {
          gate = w.gate;
          opening = w.opening;
          there = w.there;
          all = w.all;
          enough = w.enough;
          lawful = w.lawful;
          own = w.own;
          values = w.values;
        })

    taken_now : slice_get took.taken pass.number ≡ Some (holds_of (lock_after of.began now.entries).claims pass.number)
    taken_now =
        ap (λ ts. slice_get ts pass.number) taken_is
        ∙ (λ i. slice_get (slice_set now.taken (n_is i) (holds_of (lock_of now).claims (n_is i))) pass.number)
        ∙ get_here now.taken pass.number waits_between.had _ (finds_between.has_taken waits_between.had waits_between.has_lent.taken)
        ∙ ap Some (held_is after taken number (kind_for r.kind) of.began site between lent [] [] waits_between now finds_between)

    has_later : HasTaken later (holds_of (lock_after of.began now.entries).claims pass.number)
    has_later = subst (λ (x : SeatOf V E). HasTaken x (holds_of (lock_after of.began now.entries).claims pass.number)) (sym later_is)
        (λ last its. ap (λ (c : Contents V E). slice_get c.taken pass.number) (sym (same_item took last its)) ∙ taken_now)

    pub holds_first : HoldsFrom after taken number (kind_for r.kind) of.began (record { site = site; seat = later; lent = lent2; own = []; acts = [] })
    holds_first =
        holds_now after taken number (kind_for r.kind) of.began site between lent [] [] waits_between now finds_between later lent2
        (ap (λ (x : SeatOf V E). x.seen) later_is) (ap (λ (x : SeatOf V E). x.number) later_is)
        (ap (is_ready (lock_of now)) (sym n_is) ∙ ready)
        has_later
        (subst (λ m. IsLentNow after now (holds_of (lock_of now).claims m) lent2) n_is lent_is)
        knows_later

    pub ready_first : IsReady later true
    ready_first = ready_between later true n knows_later.opening (ap (λ (x : SeatOf V E). x.seen) later_is) (ap (λ (x : SeatOf V E). x.number) later_is) is ready
