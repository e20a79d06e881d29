-- Nested sections: what they hold after each ask, and that they were made.
use Rattle.std.proofs.Common.{◌≡◌, ℕ, Bool, true, false, ◌&&◌, ◌||◌, List, [], ◌∷◌, ◌++◌, fold, Option, Some, None, Result, Ok, Err, refl, sym, ap, subst, ◌∙◌, inl, append-nil}
use Rattle.std.proofs.lemmas.List.{map-append}
use Rattle.std.proofs.lemmas.List.Sums.{fold-append}
use Rattle.std.specs.FinSet.{contains, union}
use Rattle.std.specs.Prelude.{IfOk, IfErr, OnErr}
use Rattle.rset.specs.Sets.{Set}
use Rattle.rset.proofs.SetMembers.{contains_intersection}
use Rattle.rclaim.specs.Requests.{RequestFields}
use Rattle.rclaim.specs.declared.event.Event.TheVariants.{Issue, Ask, Finish}
use Rattle.rlock.specs.Known.{Site}
use Rattle.rvalue.specs.declared.act.Act.{Act}
use Rattle.rvalue.specs.Entries.{EntryFields}
use Rattle.rguard.specs.declared.guard.Guard.{Guard}
use Rattle.rguard.specs.Guards.{GuardFields, HasSeenLawful, HasSeenOwn, IsReady, KeepsHolding}
use Rattle.rguard.specs.Looks.{HasAcquired, fields_of}
use Rattle.rguard.specs.Resting.{IsAt}
use Rattle.rguard.specs.Seats.{SeatOf, Goes, IsIdle, bare}
use Rattle.rguard.proofs.Going.{goes_on}
use Rattle.rnlp_lock.specs.Asking.{MayNest, nested_of}
use Rattle.rnlp_lock.specs.Causes.{CameToNothing, StopsNested}
use Rattle.rnlp_lock.specs.Nested.{NestPlace, NestFields, HasAsked, IsNest, BeganNest, EndedNest, MadeNest, MadeBareNest, MadeNested, nested_by, asks_of, asked_by, NestEnds}
use Rattle.rnlp_lock.specs.Seats.{LockFields, SeatFields, KeepsLaw, IsPassOf, MayTell, who, who_of}
use Rattle.rnlp_lock.specs.declared.stop.Stop.{Stop}
use Rattle.rnlp_lock.proofs.Holdings.{may_do}
use Rattle.rnlp_lock.proofs.Keeping.{keeps_on, at_on}
use Rattle.rnlp_lock.proofs.Standing.{OpenSection, begun, having_asked, section_told, section_made}

-- ---- the section of a seat, by its own entries

abbrev tells : {E : Type 0} → Option OpenSection → EntryFields E → Option OpenSection
tells section entry = section_told section entry.event

asks_told : (E : Type 0) (n : ℕ) (s : OpenSection) (parts : List Set) → fold (tells {E = E}) (Some s) (asks_of n parts) ≡ Some (record s { asked = asked_by s.asked parts })
asks_told E n s [] = refl
asks_told E n s (part ∷ parts) = asks_told E n (having_asked part s) parts

module _ {V E : Type 0} where
  -- it is open, and has asked for all that was granted
  section_is : (r : RequestFields) (start pass : SeatOf V E) (granted : Set) → HasAsked r start granted pass → section_made pass.mine ≡ Some (record { request = r; risen = false; asked = granted })
  section_is r start pass granted has =
      ap section_made has.goes.mine
      ∙ fold-append (tells {E = E}) None start.mine (bare (Issue start.number r) ∷ asks_of start.number has.parts)
      ∙ asks_told E start.number (begun r) has.parts
      ∙ ap (λ (s : Set). Some (record { request = r; risen = false; asked = s })) (sym has.granted_is)

  -- one more part was asked for
  asked_too : (r : RequestFields) (start pass later : SeatOf V E) (granted part : Set) → HasAsked r start granted pass → Goes pass (bare (Ask pass.number part) ∷ []) later → HasAsked r start (union granted part) later
  asked_too r start pass later granted part has goes = record {
    parts = has.parts ++ part ∷ [];
    goes = subst (λ (more : List (EntryFields E)). Goes start (bare (Issue start.number r) ∷ more) later) (sym (map-append (λ (p : Set). bare (Ask start.number p)) has.parts (part ∷ [])))
        (goes_on start pass later (bare (Issue start.number r) ∷ asks_of start.number has.parts) (bare (Ask start.number part) ∷ []) has.goes
        (subst (λ n. Goes pass (bare (Ask n part) ∷ []) later) has.goes.same.1 goes));
    granted_is = ap (λ (s : Set). union s part) has.granted_is ∙ sym (fold-append union r.first has.parts (part ∷ []));
  }

  -- nothing more was asked for
  asked_none : (r : RequestFields) (start pass later : SeatOf V E) (granted : Set) → HasAsked r start granted pass → Goes pass [] later → HasAsked r start granted later
  asked_none r start pass later granted has goes = record {
    parts = has.parts;
    goes = subst (λ (more : List (EntryFields E)). Goes start more later) (append-nil (bare (Issue start.number r) ∷ asks_of start.number has.parts))
        (goes_on start pass later (bare (Issue start.number r) ∷ asks_of start.number has.parts) [] has.goes goes);
    granted_is = has.granted_is;
  }

  -- ---- what its guard keeps

  module _ (allows : List (Act E) → Type 0) (held : List V → Type 0) (after : V → E → V) (taken : V → E → Bool) (number : V → ℕ) where
    ready_nest : (lock : LockFields) (start pass : SeatOf V E) (reads writes first granted : Set) (acts : List (Act E)) → HasSeenLawful after taken number pass → HasSeenOwn pass → IsReady pass true
        → HasAsked (nested_by reads writes first) start granted pass → IsAt lock.groups lock.site pass → KeepsLaw allows held pass
        → IsNest allows held (record { place = record { lock = lock; start = start; request = nested_by reads writes first }; granted = granted; pass = pass; acts = acts })
    ready_nest lock start pass reads writes first granted acts lawful own ready asked at keeps =
        let may = may_do after taken number pass (record { request = nested_by reads writes first; risen = false; asked = granted }) lawful own ready (section_is (nested_by reads writes first) start pass granted asked) in
        record {
          at = at;
          asked = asked;
          gets = λ l there. may.holds l ((λ i. contains_intersection granted reads l i || contains_intersection granted writes l i) ∙ shared (contains granted l) (contains reads l) (contains writes l) there);
          edits = λ l there. may.writes l (contains_intersection granted writes l ∙ there);
          asks = λ part there. may.asks part refl there;
          keeps = keeps;
        }
      where
        shared : (a b c : Bool) → (a && (b || c)) ≡ true → ((a && b) || (a && c)) ≡ true
        shared true b c h = h
        shared false b c h = h

    -- a section whose guard was acquired
    pub begun_nest : {M : Type 0} (lock : LockFields) (site : Site) (pass : SeatOf V E) (r : RequestFields) (guard : GuardFields V E) (acquired : Guard V M E) (start : SeatOf V E) (reads writes first granted : Set) → fields_of acquired ≡ guard
        → HasAcquired site pass r acquired → site ≡ lock.site → start ≡ pass → r ≡ nested_by reads writes first → granted ≡ first → HasSeenLawful after taken number guard.seat → HasSeenOwn guard.seat → IsPassOf allows held lock pass
        → (guard.site ≡ lock.site) × IsNest allows held (record { place = record { lock = lock; start = start; request = nested_by reads writes first }; granted = granted; pass = guard.seat; acts = guard.acts })
    begun_nest {M} lock site pass r guard acquired start reads writes first granted is has site_is start_is made granted_is lawful own of =
        let issue : List (EntryFields E) = bare (Issue pass.number (nested_by reads writes first)) ∷ [] in
        let goes : Goes pass issue guard.seat =
        subst (λ (x : RequestFields). Goes pass (bare (Issue pass.number x) ∷ []) guard.seat) made (subst (λ (x : GuardFields V E). Goes pass (bare (Issue pass.number r) ∷ []) x.seat) is has.goes) in
        let asked : HasAsked (nested_by reads writes first) start granted guard.seat =
        subst (λ (x : SeatOf V E). HasAsked (nested_by reads writes first) x granted guard.seat) (sym start_is) (record { parts = []; goes = goes; granted_is = granted_is }) in (
          sym (ap (λ (x : GuardFields V E). x.site) is) ∙ has.site_is ∙ site_is,
          ready_nest lock start guard.seat reads writes first granted guard.acts lawful own (subst (λ (x : GuardFields V E). IsReady x.seat true) is has.ready) asked (at_on allows held lock pass guard.seat issue goes of.rests.at)
              (keeps_on allows held pass guard.seat issue goes of.keeps (inl refl, tt)),
        )

    -- one more part was granted
    pub asked_more : (lock : LockFields) (start pass later : SeatOf V E) (reads writes first granted part : Set) (acts more : List (Act E)) → IsNest allows held (record { place = record { lock = lock; start = start; request = nested_by reads writes first }; granted = granted; pass = pass; acts = acts })
        → Goes pass (bare (Ask pass.number part) ∷ []) later → HasSeenLawful after taken number later → HasSeenOwn later → IsReady later true → (wider : Set) → wider ≡ union granted part
        → IsNest allows held (record { place = record { lock = lock; start = start; request = nested_by reads writes first }; granted = wider; pass = later; acts = more })
    asked_more lock start pass later reads writes first granted part acts more is goes lawful own ready wider wider_is =
        ready_nest lock start later reads writes first wider more lawful own ready
        (subst (λ (s : Set). HasAsked (nested_by reads writes first) start s later) (sym wider_is) (asked_too (nested_by reads writes first) start pass later granted part is.asked goes))
        (at_on allows held lock pass later (bare (Ask pass.number part) ∷ []) goes is.at)
        (keeps_on allows held pass later (bare (Ask pass.number part) ∷ []) goes is.keeps (inl refl, tt))

    -- none was
    pub asked_no_more : (lock : LockFields) (start pass later : SeatOf V E) (r : RequestFields) (granted : Set) (acts more : List (Act E)) → IsNest allows held (record { place = record { lock = lock; start = start; request = r }; granted = granted; pass = pass; acts = acts })
        → Goes pass [] later → KeepsHolding pass later → IsNest allows held (record { place = record { lock = lock; start = start; request = r }; granted = granted; pass = later; acts = more })
    asked_no_more lock start pass later r granted acts more is goes holding = record {
      at = at_on allows held lock pass later [] goes is.at;
      asked = asked_none r start pass later granted is.asked goes;
      gets = λ l there. holding.holds l (is.gets l there);
      edits = λ l there. holding.writes l (is.edits l there);
      asks = λ part there. holding.asks part (is.asks part there);
      keeps = keeps_on allows held pass later [] goes is.keeps tt;
    }

    -- a pass whose nested section has ended
    pub rests_nest : (nest : NestFields V E) (later : SeatOf V E) (entry : EntryFields E) → IsNest allows held nest → Goes nest.pass (entry ∷ []) later → IsIdle later → MayTell allows entry → IsPassOf allows held nest.place.lock later
    rests_nest nest later entry is goes idle may = record {
      rests = record { at = at_on allows held nest.place.lock nest.pass later (entry ∷ []) goes is.at; idle = idle };
      keeps = keeps_on allows held nest.pass later (entry ∷ []) goes is.keeps (may, tt);
    }

    -- it was made
    pub ended_nest : (nest : NestFields V E) (later : SeatOf V E) (acts : List (Act E)) → IsNest allows held nest → Goes nest.pass (record { event = Finish nest.pass.number; acts = acts } ∷ []) later
        → EndedNest acts nest (record { lock = nest.place.lock; pass = later })
    ended_nest nest later acts is goes =
        let begun : List (EntryFields E) = bare (Issue nest.place.start.number nest.place.request) ∷ asks_of nest.place.start.number is.asked.parts in
        let made = goes_on nest.place.start nest.pass later begun (record { event = Finish nest.place.start.number; acts = acts } ∷ []) is.asked.goes
        (subst (λ n. Goes nest.pass (record { event = Finish n; acts = acts } ∷ []) later) is.asked.goes.same.1 goes) in
        record {
          who_is = (λ i. record { lock = nest.place.lock; gate = made.same.0 i; number = made.same.1 i; opening = made.same.2 i });
          parts = is.asked.parts;
          made = made;
          granted_is = is.asked.granted_is;
        }

-- ---- what its calls say

module _ {V E : Type 0} where
  -- what was made of a place is made of the seat that it began with
  made_there : (acts : List (Act E)) (s : SeatFields V E) (r : RequestFields) (first last : NestFields V E) (later : SeatFields V E) → BeganNest r s first → last.place ≡ first.place → EndedNest acts last later
      → (parts : List Set) × (MadeNested r parts acts s.pass later.pass × (last.granted ≡ asked_by r.first parts))
  made_there acts s r first last later began stays ended =
      let place : last.place ≡ record { lock = s.lock; start = s.pass; request = r } = stays ∙ began.place_is in (
        ended.parts,
        (
          subst (λ (p : NestPlace V E). MadeNested p.request ended.parts acts p.start later.pass) place ended.made,
          subst (λ (p : NestPlace V E). last.granted ≡ asked_by p.request.first ended.parts) place ended.granted_is,
        ),
      )

  pub who_stays : (r : RequestFields) (s : SeatFields V E) (first last : NestFields V E) → BeganNest r s first → last.place ≡ first.place → who_of last.place.lock last.place.start ≡ who s
  who_stays r s first last began stays = ap (λ (p : NestPlace V E). who_of p.lock p.start) (stays ∙ began.place_is)

  pub made_nest : {A B : Type 0} (r : RequestFields) (Did : A → NestFields V E → NestFields V E → Type 0) (outcome result : Result A B) (s : SeatFields V E) (first last : NestFields V E) (later : SeatFields V E)
      → BeganNest r s first → last.place ≡ first.place → ((answer : A) → outcome ≡ Ok answer → Did answer first last) → IfOk result (λ answer. (outcome ≡ Ok answer) × EndedNest last.acts last later)
      → IfOk result (λ answer. MadeNest r (Did answer) s later)
  made_nest r Did outcome (Ok answer) s first last later began stays did ended =
      let there = made_there last.acts s r first last later began stays ended.1 in
      record { first = first; last = last; began = began; stays = stays; did = did answer ended.0; parts = there.0; made = there.1.0; granted_is = there.1.1 }
  made_nest r Did outcome (Err e) s first last later began stays did ended = tt

  -- and without acts where it was not
  pub no_nest : {A B : Type 0} (r : RequestFields) (result : Result A B) (s : SeatFields V E) (first last : NestFields V E) (later : SeatFields V E)
      → BeganNest r s first → last.place ≡ first.place → OnErr result (EndedNest [] last later) → OnErr result (MadeBareNest r s.pass later.pass)
  no_nest r (Ok answer) s first last later began stays ended = tt
  no_nest r (Err e) s first last later began stays ended = let there = made_there [] s r first last later began stays ended in (there.0, there.1.0)

-- ---- what a nested section came to

module _ {V E N A : Type 0} (nesting : N → NestFields V E) (Runs : N → Result A Stop → N → Type 0) (reads writes first : Set) (seat later : SeatFields V E) where
  -- by how it ended where it was made, and where it was not
  pub nest_ends_by : (result : Result A Stop) → MayNest seat.lock.groups reads writes first
      → IfOk result (λ answer. MadeNest (nested_of reads writes first) (λ begun last. (nest : N) × (ended : N) × (begun ≡ nesting nest) × (last ≡ nesting ended) × Runs nest (Ok answer) ended) seat later)
      → IfErr result (CameToNothing (StopsNested seat.lock.groups reads writes first) (λ (s : Stop). (nest : N) × (ended : N) × BeganNest (nested_of reads writes first) seat (nesting nest) × Runs nest (Err s) ended)
      (Goes seat.pass [] later.pass) (MadeBareNest (nested_of reads writes first) seat.pass later.pass))
      → NestEnds nesting Runs reads writes first seat later result
  nest_ends_by (Ok answer) may made nothing = (may, made)
  nest_ends_by (Err stop) may made nothing = nothing
