-- Each statement does to a desk what it should.
use Rattle.std.proofs.Common.{◌≡◌, ℕ, Bool, true, false, not, ◌&&◌, List, [], ◌∷◌, ◌++◌, map, Option, Some, None, refl, sym, ap, subst, ◌∙◌}
use Rattle.std.proofs.lemmas.List.{map-append}
use Rattle.std.proofs.lemmas.List.Sums.{fold-append}
use Rattle.std.proofs.lemmas.Bool.{true≢false}
use Rattle.std.specs.Prelude.{option_map}
use Rattle.std.specs.FinSet.{contains}
use Rattle.rset.specs.Sets.{Set}
use Rattle.rset.proofs.SetLemmas.{contains_empty}
use Rattle.rclaim.specs.Requests.{RequestFields, IsNormal, FitsKind}
use Rattle.rclaim.specs.declared.event.Event.TheVariants as events
use Rattle.rclaim.specs.declared.request.Kind.{Kind}
use Rattle.rclaim.specs.declared.request.Kind.TheVariants as kinds
use Rattle.rlock.specs.Known.{Site}
use Rattle.rmodel.specs.Claims.{is_nested}
use Rattle.rvalue.specs.declared.act.Act.{Act}
use Rattle.rvalue.specs.declared.ledger.Edit.{Edit}
use Rattle.rvalue.specs.declared.ledger.Ledger.{Ledger}
use Rattle.rvalue.specs.Entries.{EntryFields}
use Rattle.rvalue.specs.Ledgers.{value_after, is_taken}
use Rattle.rstate.specs.Histories.{Beginning}
use Rattle.rscript.specs.Statements.{begun, with_asked, with_risen, section_next, held_as, is_writable, may_ask_for, is_there, is_upgrade}
use Rattle.rscript.specs.declared.place.Where.TheVariants.{InNested, BeforeRise}
use Rattle.rscript.specs.declared.section.OpenSection.{OpenSection}
use Rattle.rscript.specs.declared.statement.Statement.{Statement}
use Rattle.rscript.specs.declared.statement.Statement.TheVariants as statement
use Rattle.rguard.specs.Guards.{GuardFields, WaitFields, HasBegun, HasAsked, HasSeenLawful, HasSeenOwn, IsPartOf, kind_for}
use Rattle.rguard.specs.Looks.{fields_of, kind_of, HasAwaited, BeginsWithLook}
use Rattle.rguard.specs.Seats.{SeatOf, IsIdle, Goes, bare}
use Rattle.rguard.specs.LentSections.{may_edit}
use Rattle.rguard.specs.declared.guard.Guard.{Guard}
use Rattle.rguard.specs.declared.guard.Guard.TheVariants as guard
use Rattle.rguard.specs.declared.kind.GuardKind.TheVariants as guards
use Rattle.rguard.specs.declared.pending.Looked.{Looked}
use Rattle.rguard.specs.declared.pending.Looked.TheVariants.{Ready, NotYet}
use Rattle.rguard.proofs.AtOnce.{wait_at_once, begun_at_once, awaited_at_once}
use Rattle.rguard.proofs.Going.{goes_nowhere, goes_on}
use Rattle.rrun.specs.declared.desk.Desk.TheVariants.{Idle, Busy}
use Rattle.rrun.specs.Desks.{IsGuardOf, HasStepped}
use Rattle.rrun.specs.Runs.{deed_of, deeds_next, entry_now}
use Rattle.rrun.specs.Working.{section_told, section_made, guard_kind, IsIn, FitsAt}
use Rattle.rrun.proofs.Doing.{may_do, upgrade_held}

-- the section after one more entry
made_push : (mine : List (EntryFields Edit)) (entry : EntryFields Edit) → section_made (mine ++ entry ∷ []) ≡ section_told (section_made mine) entry.event
made_push mine entry = fold-append (λ (x : Option OpenSection) (e : EntryFields Edit). section_told x e.event) None mine (entry ∷ [])

first_kind : (k : Kind) → kind_for k ≡ guard_kind k false
first_kind kinds.Read = refl
first_kind kinds.Write = refl
first_kind kinds.Mixed = refl
first_kind kinds.Upgrade = refl
first_kind kinds.Nested = refl

-- the guard of an upgrade that had not risen, once it has risen
risen_kind : (k : Kind) (risen : Bool) → guards.Rise ≡ guard_kind k risen → guards.Write ≡ guard_kind k true
risen_kind kinds.Read risen h = absurd (differ h)
  where
    differ : guards.Rise ≡ guards.Read → ⊥
    differ h = cc
risen_kind kinds.Write risen h = refl
risen_kind kinds.Mixed risen h = refl
risen_kind kinds.Upgrade risen h = refl
risen_kind kinds.Nested risen h = absurd (differ h)
  where
    differ : guards.Rise ≡ guards.Nest → ⊥
    differ h = cc

module _ {M : Type 0} where
  -- one more act
  pub acted : (before later : Guard Ledger M Edit) (section : OpenSection) (act : Act Edit) (s : Statement) → IsGuardOf section before → kind_of later ≡ kind_of before
      → fields_of later ≡ record (fields_of before) { acts = (fields_of before).acts ++ act ∷ [] }
      → deed_of act ≡ s → ((o : Option OpenSection) → section_next o s ≡ o) → ((ds : List Statement) → deeds_next ds s ≡ ds ++ s ∷ []) → ((n : ℕ) (ds : List Statement) → entry_now n ds s ≡ [])
      → HasStepped {M = M} (Busy before) s (Busy later)
  acted before later section act s is kind fields deed stays adds none =
      let seat_is : (fields_of later).seat ≡ (fields_of before).seat = ap (λ (f : GuardFields Ledger Edit). f.seat) fields in
      record {
        is_at = (section, record { is_in = subst (IsIn section) (sym seat_is) is.is_in; kind = kind ∙ is.kind });
        section = ap (λ (k : SeatOf Ledger Edit). section_made k.mine) seat_is ∙ sym (stays (section_made (fields_of before).seat.mine));
        deeds = ap (λ (f : GuardFields Ledger Edit). map deed_of f.acts) fields ∙ map-append deed_of (fields_of before).acts (act ∷ []) ∙ ap (λ (x : Statement). map deed_of (fields_of before).acts ++ x ∷ []) deed ∙ sym (adds (map deed_of (fields_of before).acts));
        more = [];
        goes = subst (Goes (fields_of before).seat []) (sym seat_is) (goes_nowhere (fields_of before).seat);
        run = sym (none (fields_of before).seat.number (map deed_of (fields_of before).acts));
      }

  module _ (later : Guard Ledger M Edit) (lawful : HasSeenLawful value_after is_taken (λ (ledger : Ledger). ledger.balance) (fields_of later).seat) (own : HasSeenOwn (fields_of later).seat) where
    -- the section of a seat that has made one more entry
    later_in : (seat : SeatOf Ledger Edit) (entry : EntryFields Edit) (section : OpenSection) (began : Beginning Ledger) (wait : WaitFields Ledger Edit) → seat.opening ≡ Some began → Goes seat (entry ∷ []) wait.seat → HasAwaited wait later
        → section_told (section_made seat.mine) entry.event ≡ Some section → IsNormal section.request → IsIn section (fields_of later).seat
    later_in seat entry section began wait opening goes awaited tells normal =
        let all = goes_on seat wait.seat (fields_of later).seat (entry ∷ []) [] goes awaited.goes in
        let made : section_made (fields_of later).seat.mine ≡ Some section = ap section_made all.mine ∙ made_push seat.mine entry ∙ tells in
        record {
          began = began;
          opening = all.same.2 ∙ opening;
          made = made;
          normal = normal;
          may = may_do value_after is_taken (λ (ledger : Ledger). ledger.balance) (fields_of later).seat section lawful own awaited.ready made;
        }

    -- a section begins
    pub has_begun : (site : Site) (seat : SeatOf Ledger Edit) (r : RequestFields) (wait : WaitFields Ledger Edit) (began : Beginning Ledger) → seat.opening ≡ Some began → HasBegun site seat r wait → HasAwaited wait later → IsNormal r
        → HasStepped {M = M} (Idle seat) (statement.Begin r) (Busy later)
    has_begun site seat r wait began opening begins awaited normal =
        let is = later_in seat (bare (events.Issue seat.number r)) (begun r) began wait opening begins.goes awaited refl normal in
        record {
          is_at = (begun r, record { is_in = is; kind = awaited.awaited.kind ∙ begins.kind_is ∙ first_kind r.kind });
          section = is.made;
          deeds = ap (map deed_of) (awaited.awaited.acts ∙ begins.no_acts);
          more = bare (events.Issue seat.number r) ∷ [];
          goes = goes_on seat wait.seat (fields_of later).seat (bare (events.Issue seat.number r) ∷ []) [] begins.goes awaited.goes;
          run = refl;
        }

    -- a section begins that was granted in its own turn
    pub has_begun_at_once : (site : Site) (seat : SeatOf Ledger Edit) (r : RequestFields) (looked : Looked Ledger M Edit) (began : Beginning Ledger) → looked ≡ Ready later → seat.opening ≡ Some began → BeginsWithLook site seat r looked
        → IsNormal r → HasStepped {M = M} (Idle seat) (statement.Begin r) (Busy later)
    has_begun_at_once site seat r looked began is opening begins normal =
        let now : BeginsWithLook site seat r (Ready later) = subst (λ (l : Looked Ledger M Edit). BeginsWithLook site seat r l) is begins in
        has_begun site seat r (wait_at_once site seat r later now.0) began opening (begun_at_once site seat r later now.0 now.1) (awaited_at_once site seat r later now.0) normal

    -- a section begins that was not, and rested
    pub has_begun_later : (site : Site) (seat : SeatOf Ledger Edit) (r : RequestFields) (looked : Looked Ledger M Edit) (wait rested : WaitFields Ledger Edit) (began : Beginning Ledger) → looked ≡ NotYet wait → rested ≡ wait
        → seat.opening ≡ Some began → BeginsWithLook site seat r looked → HasAwaited rested later → IsNormal r → HasStepped {M = M} (Idle seat) (statement.Begin r) (Busy later)
    has_begun_later site seat r looked wait rested began is same opening begins awaited normal =
        let now : BeginsWithLook {M = M} site seat r (NotYet wait) = subst (λ (l : Looked Ledger M Edit). BeginsWithLook site seat r l) is begins in
        has_begun site seat r wait began opening now.0 (subst (λ (w : WaitFields Ledger Edit). HasAwaited w later) same awaited) normal

    -- a nested section has asked for more
    pub has_asked : (before : GuardFields Ledger Edit) (section : OpenSection) (part : Set) (wait : WaitFields Ledger Edit) → IsGuardOf {M = M} section (guard.Nest before) → HasAsked before part wait → HasAwaited wait later
        → HasStepped {M = M} (Busy (guard.Nest before)) (statement.Ask part) (Busy later)
    has_asked before section part wait is asks awaited =
        let tells : section_told (section_made before.seat.mine) (events.Ask before.seat.number part) ≡ Some (with_asked part section) = ap (λ (o : Option OpenSection). option_map (with_asked part) o) is.is_in.made in
        let now = later_in before.seat (bare (events.Ask before.seat.number part)) (with_asked part section) is.is_in.began wait is.is_in.opening asks.goes awaited tells is.is_in.normal in
        record {
          is_at = (with_asked part section, record { is_in = now; kind = awaited.awaited.kind ∙ asks.kind_is ∙ is.kind });
          section = now.made ∙ sym tells;
          deeds = ap (map deed_of) (awaited.awaited.acts ∙ asks.acts_are);
          more = bare (events.Ask before.seat.number part) ∷ [];
          goes = goes_on before.seat wait.seat (fields_of later).seat (bare (events.Ask before.seat.number part) ∷ []) [] asks.goes awaited.goes;
          run = refl;
        }

    -- an upgrade has risen
    pub has_risen : (before : GuardFields Ledger Edit) (section : OpenSection) (wait : WaitFields Ledger Edit) → IsGuardOf {M = M} section (guard.Rise before) → wait.kind ≡ guards.Write → wait.acts ≡ []
        → Goes before.seat (record { event = events.Rise before.seat.number; acts = before.acts } ∷ []) wait.seat → HasAwaited wait later
        → HasStepped {M = M} (Busy (guard.Rise before)) statement.Rise (Busy later)
    has_risen before section wait is kind acts goes awaited =
        let entry : EntryFields Edit = record { event = events.Rise before.seat.number; acts = before.acts } in
        let tells : section_told (section_made before.seat.mine) entry.event ≡ Some (with_risen section) = ap (λ (o : Option OpenSection). option_map with_risen o) is.is_in.made in
        let now = later_in before.seat entry (with_risen section) is.is_in.began wait is.is_in.opening goes awaited tells is.is_in.normal in
        record {
          is_at = (with_risen section, record { is_in = now; kind = awaited.awaited.kind ∙ kind ∙ risen_kind section.request.kind section.risen is.kind });
          section = now.made ∙ sym tells;
          deeds = ap (map deed_of) (awaited.awaited.acts ∙ acts);
          more = entry ∷ [];
          goes = goes_on before.seat wait.seat (fields_of later).seat (entry ∷ []) [] goes awaited.goes;
          run = refl;
        }

  -- a section has ended
  pub has_finished : (before : Guard Ledger M Edit) (later : SeatOf Ledger Edit) → Goes (fields_of before).seat (record { event = events.Finish (fields_of before).seat.number; acts = (fields_of before).acts } ∷ []) later → IsIdle later
      → HasStepped {M = M} (Busy before) statement.Finish (Idle later)
  has_finished before later goes idle =
      let entry : EntryFields Edit = record { event = events.Finish (fields_of before).seat.number; acts = (fields_of before).acts } in
      let made : section_made later.mine ≡ None = ap section_made goes.mine ∙ made_push (fields_of before).seat.mine entry in
      record {
        is_at = (idle, made);
        section = made;
        deeds = refl;
        more = entry ∷ [];
        goes = goes;
        run = refl;
      }

-- ---- what a guard may do where a statement may come

writable_kind : (k : Kind) (s : OpenSection) (l : ℕ) → FitsKind k s.request.reads s.request.writes → contains (held_as k s).writes l ≡ true → may_edit (guard_kind k s.risen) ≡ true
writable_kind kinds.Read s l normal h = absurd (true≢false (sym h ∙ ap (λ (t : Set). contains t l) normal.1 ∙ contains_empty l))
writable_kind kinds.Write s l normal h = refl
writable_kind kinds.Mixed s l normal h = refl
writable_kind kinds.Upgrade s l normal h = at s.risen h
  where
    at : (c : Bool) → contains (upgrade_held c s.request.reads).writes l ≡ true → may_edit (guard_kind kinds.Upgrade c) ≡ true
    at true h = refl
    at false h = absurd (true≢false (sym h ∙ contains_empty l))
writable_kind kinds.Nested s l normal h = refl

nested_kind : (k : Kind) (risen : Bool) → is_nested k ≡ true → guard_kind k risen ≡ guards.Nest
nested_kind kinds.Read risen h = absurd (true≢false (sym h))
nested_kind kinds.Write risen h = absurd (true≢false (sym h))
nested_kind kinds.Mixed risen h = absurd (true≢false (sym h))
nested_kind kinds.Upgrade risen h = absurd (true≢false (sym h))
nested_kind kinds.Nested risen h = refl

rising_kind : (k : Kind) (risen : Bool) → (is_upgrade k && not risen) ≡ true → guard_kind k risen ≡ guards.Rise
rising_kind kinds.Read risen h = absurd (true≢false (sym h))
rising_kind kinds.Write risen h = absurd (true≢false (sym h))
rising_kind kinds.Mixed risen h = absurd (true≢false (sym h))
rising_kind kinds.Upgrade true h = absurd (true≢false (sym h))
rising_kind kinds.Upgrade false h = refl
rising_kind kinds.Nested risen h = absurd (true≢false (sym h))

module _ {M : Type 0} (section : OpenSection) (guard : Guard Ledger M Edit) (is : IsGuardOf section guard) where
  abbrev seat : SeatOf Ledger Edit
  seat = (fields_of guard).seat

  pub may_edit_there : (place : ℕ) (edit : Edit) → FitsAt seat (section_made seat.mine) (statement.Edit place edit) → may_edit (kind_of guard) ≡ true
  may_edit_there place edit fits =
      ap may_edit is.kind
      ∙ writable_kind section.request.kind section place is.is_in.normal.sets (ap (λ (o : Option OpenSection). is_writable o place) (sym is.is_in.made) ∙ (fits is.is_in.began is.is_in.opening).right)

  nested_there : (part : Set) → FitsAt seat (section_made seat.mine) (statement.Ask part) → is_nested section.request.kind ≡ true
  nested_there part fits = ap (is_there InNested) (sym is.is_in.made) ∙ (fits is.is_in.began is.is_in.opening).placed

  pub may_ask_there : (part : Set) → FitsAt seat (section_made seat.mine) (statement.Ask part) → IsPartOf seat part
  may_ask_there part fits =
      is.is_in.may.asks part (nested_there part fits) (ap (λ (o : Option OpenSection). may_ask_for o part) (sym is.is_in.made) ∙ (fits is.is_in.began is.is_in.opening).right)

  pub asks_by : (part : Set) → FitsAt seat (section_made seat.mine) (statement.Ask part) → kind_of guard ≡ guards.Nest
  asks_by part fits = is.kind ∙ nested_kind section.request.kind section.risen (nested_there part fits)

  pub rises_by : FitsAt seat (section_made seat.mine) statement.Rise → kind_of guard ≡ guards.Rise
  rises_by fits =
      is.kind ∙ rising_kind section.request.kind section.risen (ap (is_there BeforeRise) (sym is.is_in.made) ∙ (fits is.is_in.began is.is_in.opening).placed)

module _ {M : Type 0} where
  -- a guard by its kind
  pub is_nest : (x : Guard Ledger M Edit) → kind_of x ≡ guards.Nest → (f : GuardFields Ledger Edit) × (x ≡ guard.Nest f)
  is_nest (guard.Read f) h = absurd (differ h)
    where
      differ : guards.Read ≡ guards.Nest → ⊥
      differ h = cc
  is_nest (guard.Write f) h = absurd (differ h)
    where
      differ : guards.Write ≡ guards.Nest → ⊥
      differ h = cc
  is_nest (guard.Rise f) h = absurd (differ h)
    where
      differ : guards.Rise ≡ guards.Nest → ⊥
      differ h = cc
  is_nest (guard.Nest f) h = (f, refl)

  pub is_rise : (x : Guard Ledger M Edit) → kind_of x ≡ guards.Rise → (f : GuardFields Ledger Edit) × (x ≡ guard.Rise f)
  is_rise (guard.Read f) h = absurd (differ h)
    where
      differ : guards.Read ≡ guards.Rise → ⊥
      differ h = cc
  is_rise (guard.Write f) h = absurd (differ h)
    where
      differ : guards.Write ≡ guards.Rise → ⊥
      differ h = cc
  is_rise (guard.Rise f) h = (f, refl)
  is_rise (guard.Nest f) h = absurd (differ h)
    where
      differ : guards.Nest ≡ guards.Rise → ⊥
      differ h = cc
