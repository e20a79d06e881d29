-- What passes and sections of a lock keep from call to call.
use Rattle.std.proofs.Common.{◌≡◌, ℕ, zero, suc, ◌<◌, Bool, true, List, [], ◌∷◌, map, length, Some, refl, sym, ap, subst, ◌∙◌, inl, inr, arith}
use Rattle.std.specs.FinSet.{contains}
use Rattle.std.specs.List.{AllByRecursion}
use Rattle.std.specs.Prelude.{All, Any, slice_get, slice_index_or}
use Rattle.std.proofs.lemmas.Option.{get_or_from_slice_get}
use Rattle.rset.specs.Sets.{Set}
use Rattle.rclaim.specs.Requests.{RequestFields}
use Rattle.rclaim.specs.declared.request.Kind.{Kind}
use Rattle.rclaim.specs.declared.event.Event.TheVariants.{Issue}
use Rattle.rlock.specs.Known.{Site, newcomer}
use Rattle.rmodel.proofs.ListFacts.{all_append}
use Rattle.rvalue.specs.declared.act.Act.{Act}
use Rattle.rvalue.specs.Entries.{EntryFields}
use Rattle.rstate.specs.Contents.{Contents}
use Rattle.rstate.specs.Histories.{Beginning}
use Rattle.rstate.proofs.homes.Lists.{same_item, get_there, get_map}
use Rattle.rguard.specs.Seats.{SeatOf, IsOf, IsIdle, Goes, bare}
use Rattle.rguard.specs.declared.guard.Guard.{Guard}
use Rattle.rguard.specs.Looks.{HasAcquired, fields_of}
use Rattle.rguard.specs.Guards.{GuardFields, HasSeenLawful, HasSeenOwn, IsReady}
use Rattle.rguard.specs.Resting.{IsAt}
use Rattle.rguard.proofs.Going.{of_later}
use Rattle.rguard.proofs.Having.{is_plain}
use Rattle.rguard.proofs.Held.{may_read, may_write}
use Rattle.rguard.proofs.Resting.{rest_new}
use Rattle.rguard.proofs.Closed.{new_seats}
use Rattle.rnlp_lock.specs.Asking.{MayWriteBy, asked}
use Rattle.rnlp_lock.specs.Seats.{LockFields, Who, MayTell, KeepsLaw, IsPassOf, AreAllOf, who_of}
use Rattle.rnlp_lock.specs.Works.{WorkFields, IsWork}

-- ---- lists

-- what holds of some item of the images holds of the image of some item
pub any_map : {A B : Type 0} (f : A → B) (P : B → Type 0) (xs : List A) → length (map f xs) ≡ length xs → Any P (map f xs) → Any (λ x. P (f x)) xs
any_map f P xs same found =
    let there = get_there xs found.0 (subst (λ n. found.0 < n) same found.2) in
    let is = get_or_from_slice_get (map f xs) found.0 (f there.0) found.1 (get_map f xs found.0 there.0 there.1) in
    (found.0, there.0, subst (λ n. found.0 < n) same found.2, get_or_from_slice_get xs found.0 there.0 there.0 there.1, subst P (sym found.3 ∙ is) found.4)

-- lists of which each item has the same image have the same images
pub same_images : {A B : Type 0} (f : A → B) (xs ys : List A) → length ys ≡ length xs → ((k : ℕ) (d : A) → k < length xs → f (slice_index_or ys k d) ≡ f (slice_index_or xs k d)) → map f ys ≡ map f xs
same_images f [] [] count each = refl
same_images f [] (y ∷ ys) count each = absurd (omega arith)
same_images f (x ∷ xs) [] count each = absurd (omega arith)
same_images f (x ∷ xs) (y ∷ ys) count each =
    (λ i. each 0 x (omega arith) i ∷ map f ys) ∙ ap (λ zs. f x ∷ zs) (same_images f xs ys (omega arith) (λ k d less. each (suc k) d (omega arith)))

-- ---- passes

-- the kinds that write at once have one claim
pub plain_write : (kind : Kind) (reads writes : Set) → MayWriteBy kind → is_plain (asked kind reads writes).kind ≡ true
plain_write kind reads writes (inl by) = subst (λ (k : Kind). is_plain (asked k reads writes).kind ≡ true) (sym by) refl
plain_write kind reads writes (inr by) = subst (λ (k : Kind). is_plain (asked k reads writes).kind ≡ true) (sym by) refl

module _ {V E : Type 0} (allows : List (Act E) → Type 0) (held : List V → Type 0) where
  pub keeps_on : (a b : SeatOf V E) (more : List (EntryFields E)) → Goes a more b → KeepsLaw allows held a → AllByRecursion (MayTell allows) more → KeepsLaw allows held b
  keeps_on a b more goes keeps may = record {
    told = subst (AllByRecursion (MayTell allows)) (sym goes.mine) (all_append (MayTell allows) a.mine more keeps.told may);
    began = λ o opens. keeps.began o (sym goes.same.2 ∙ opens);
    counted = λ o opens. keeps.counted o (sym goes.same.2 ∙ opens);
  }

  module _ (lock : LockFields) where
    pub at_on : (a b : SeatOf V E) (more : List (EntryFields E)) → Goes a more b → IsAt lock.groups lock.site a → IsAt lock.groups lock.site b
    at_on a b more goes at = record { of = of_later lock.site a b more at.of goes; over = λ o opens. at.over o (sym goes.same.2 ∙ opens) }

    -- a pass that came back
    pub back : (a b : SeatOf V E) → Goes a [] b → IsIdle b → IsPassOf allows held lock a → IsPassOf allows held lock b
    back a b goes idle is = record { rests = record { at = at_on a b [] goes is.rests.at; idle = idle }; keeps = keeps_on a b [] goes is.keeps tt }

    -- a section that was begun keeps what its guard is to keep
    pub begun : (after : V → E → V) (taken : V → E → Bool) (number : V → ℕ) (pass later : SeatOf V E) (r : RequestFields) → is_plain r.kind ≡ true → Goes pass (bare (Issue pass.number r) ∷ []) later
        → HasSeenLawful after taken number later → HasSeenOwn later → IsReady later true → IsPassOf allows held lock pass → (reads writes : Set) → reads ≡ r.reads → writes ≡ r.writes → (acts : List (Act E))
        → IsWork allows held (record { place = record { lock = lock; reads = reads; writes = writes; pass = later }; acts = acts })
    begun after taken number pass later r plain goes lawful own ready is reads writes reads_are writes_are acts = record {
      at = at_on pass later (bare (Issue pass.number r) ∷ []) goes is.rests.at;
      reads = λ l there. may_read after taken number pass later r l plain goes lawful own ready (ap (λ (s : Set). contains s l) (sym reads_are) ∙ there);
      writes = λ l there. may_write after taken number pass later r l plain goes lawful own ready (ap (λ (s : Set). contains s l) (sym writes_are) ∙ there);
      keeps = keeps_on pass later (bare (Issue pass.number r) ∷ []) goes is.keeps (inl refl, tt);
    }

    -- and so does one whose guard was acquired
    pub begun_as : {M : Type 0} (after : V → E → V) (taken : V → E → Bool) (number : V → ℕ) (site : Site) (pass : SeatOf V E) (r : RequestFields) (guard : GuardFields V E) (acquired : Guard V M E) → fields_of acquired ≡ guard
        → HasAcquired site pass r acquired → site ≡ lock.site → is_plain r.kind ≡ true → HasSeenLawful after taken number guard.seat → HasSeenOwn guard.seat → IsPassOf allows held lock pass
        → (reads writes : Set) → reads ≡ r.reads → writes ≡ r.writes
        → (guard.site ≡ lock.site) × IsWork allows held (record { place = record { lock = lock; reads = reads; writes = writes; pass = guard.seat }; acts = guard.acts })
    begun_as {M} after taken number site pass r guard acquired is has site_is plain lawful own of reads writes reads_are writes_are = (
      sym (ap (λ (x : GuardFields V E). x.site) is) ∙ has.site_is ∙ site_is,
      begun after taken number pass guard.seat r plain (subst (λ (x : GuardFields V E). Goes pass (bare (Issue pass.number r) ∷ []) x.seat) is has.goes) lawful own
          (subst (λ (x : GuardFields V E). IsReady x.seat true) is has.ready) of reads writes reads_are writes_are guard.acts,
    )

  -- a pass whose section has ended
  pub rests_again : (work : WorkFields V E) (later : SeatOf V E) (entry : EntryFields E) → IsWork allows held work → Goes work.place.pass (entry ∷ []) later → IsIdle later → MayTell allows entry → IsPassOf allows held work.place.lock later
  rests_again work later entry is goes idle may = record {
    rests = record { at = at_on work.place.lock work.place.pass later (entry ∷ []) goes is.at; idle = idle };
    keeps = keeps_on work.place.pass later (entry ∷ []) goes is.keeps (may, tt);
  }

  -- ---- a new lock

  module _ (lock : LockFields) (passes : List (SeatOf V E)) (n : ℕ) (began : Beginning V) (state : Contents V E) (count : length passes ≡ n)
      (each : (k : ℕ) → k < n → slice_get passes k ≡ Some (newcomer lock.site.gate k began state)) where
    its_opening : (k : ℕ) (d : SeatOf V E) → k < length passes → (b : Beginning V) → (slice_index_or passes k d).opening ≡ Some b → began ≡ b
    its_opening k d less b opens = same_item began b (sym (ap (λ (s : SeatOf V E). s.opening) (get_or_from_slice_get passes k _ d (each k (subst (λ m. k < m) count less)))) ∙ opens)

    -- its passes rest, and keep the law
    pub new_passes : All (λ pass. IsOf lock.site pass × IsIdle pass) passes → began.groups ≡ lock.groups → held began.values → length began.values ≡ began.groups.q → All (IsPassOf allows held lock) passes
    new_passes all over law counted k d less = record {
      rests = rest_new lock.groups lock.site passes n began state count all each over k d less;
      keeps = record {
        told = subst (AllByRecursion (MayTell allows)) (sym (new_seats lock.site.gate passes n began state began.values count each refl k d less).0) tt;
        began = λ b opens. subst (λ (x : Beginning V). held x.values) (its_opening k d less b opens) law;
        counted = λ b opens. subst (λ (x : Beginning V). length x.values ≡ x.groups.q) (its_opening k d less b opens) counted;
      };
    }

-- they are all of them
module _ {V E : Type 0} (lock : LockFields) where
  pub each_of : (passes : List (SeatOf V E)) → All (λ (w : Who V). w.lock ≡ lock) (map (who_of lock) passes)
  each_of [] k d less = absurd (omega arith)
  each_of (pass ∷ passes) zero d less = refl
  each_of (pass ∷ passes) (suc k) d less = each_of passes k d (omega arith)

  pub new_all : (passes : List (SeatOf V E)) (n : ℕ) (began : Beginning V) (state : Contents V E) → length passes ≡ n → length (map (who_of lock) passes) ≡ length passes → ((k : ℕ) → k < n → slice_get passes k ≡ Some (newcomer lock.site.gate k began state))
      → lock.site.passes ≡ n → AreAllOf lock (map (who_of lock) passes)
  new_all passes n began state count same each all = record {
    each = each_of passes;
    all = λ k less.
        let inside : k < n = subst (λ m. k < m) all less in
        let there = get_map (who_of lock) passes k (newcomer lock.site.gate k began state) (each k inside) in
        let w = who_of lock (newcomer lock.site.gate k began state) in
        (k, w, subst (λ m. k < m) (sym (same ∙ count)) inside, get_or_from_slice_get (map (who_of lock) passes) k w w there, refl);
  }
