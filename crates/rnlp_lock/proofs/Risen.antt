-- Upgrades: what their sections hold before and after a rise, and that they were made.
use Rattle.std.proofs.Common.{◌≡◌, ℕ, Bool, true, List, [], ◌∷◌, ◌++◌, Option, Some, None, Result, Ok, Err, refl, sym, ap, subst, ◌∙◌, inl}
use Rattle.std.proofs.lemmas.Bool.{or_left}
use Rattle.std.proofs.lemmas.List.Sums.{fold-append}
use Rattle.std.specs.FinSet.{empty, contains}
use Rattle.std.specs.Option.{MatchOption}
use Rattle.std.specs.Prelude.{IfOk, IfErr, OnErr}
use Rattle.rset.specs.Sets.{Set}
use Rattle.rclaim.specs.Requests.{RequestFields}
use Rattle.rclaim.specs.declared.event.Event.TheVariants.{Issue, Rise, Finish}
use Rattle.rlock.specs.Known.{Site}
use Rattle.rvalue.specs.declared.act.Act.{Act}
use Rattle.rvalue.specs.Entries.{EntryFields}
use Rattle.rguard.specs.declared.guard.Guard.{Guard}
use Rattle.rguard.specs.Guards.{GuardFields, HasSeenLawful, HasSeenOwn, IsReady}
use Rattle.rguard.specs.Looks.{HasAcquired, fields_of}
use Rattle.rguard.specs.Seats.{SeatOf, Goes, bare}
use Rattle.rguard.proofs.Going.{goes_on}
use Rattle.rnlp_lock.specs.Asking.{MayAsk}
use Rattle.rnlp_lock.specs.Causes.{CameToNothing}
use Rattle.rnlp_lock.specs.Seats.{LockFields, SeatFields, IsPassOf}
use Rattle.rnlp_lock.specs.Upgrades.{Rose, MadeRisen, MadeUpgrade, UpgradeEnds, as_risen, upgrade_of}
use Rattle.rnlp_lock.specs.Works.{Place, WorkFields, IsWork, Began, Ended, Made}
use Rattle.rnlp_lock.specs.declared.stop.Stop.{Stop}
use Rattle.rnlp_lock.proofs.Holdings.{may_do}
use Rattle.rnlp_lock.proofs.Keeping.{keeps_on, at_on}
use Rattle.rnlp_lock.proofs.Standing.{OpenSection, begun, having_risen, section_told, section_made}

-- ---- the section of a seat, by its own entries

made_push : {E : Type 0} (mine : List (EntryFields E)) (e : EntryFields E) → section_made (mine ++ e ∷ []) ≡ section_told (section_made mine) e.event
made_push {E} mine e = fold-append (λ (x : Option OpenSection) (entry : EntryFields E). section_told x entry.event) None mine (e ∷ [])

module _ {V E : Type 0} where
  -- it is begun by an issue
  pub made_begun : (a b : SeatOf V E) (r : RequestFields) → Goes a (bare (Issue a.number r) ∷ []) b → section_made b.mine ≡ Some (begun r)
  made_begun a b r goes = ap section_made goes.mine ∙ made_push a.mine (bare (Issue a.number r))

  -- and goes on with a rise
  pub made_risen : (a b : SeatOf V E) (s : OpenSection) → Goes a (bare (Rise a.number) ∷ []) b → section_made a.mine ≡ Some s → section_made b.mine ≡ Some (having_risen s)
  made_risen a b s goes was = ap section_made goes.mine ∙ made_push a.mine (bare (Rise a.number)) ∙ ap (λ x. section_told x (Rise a.number)) was

-- ---- what its guard keeps

module _ {V E : Type 0} (allows : List (Act E) → Type 0) (held : List V → Type 0) (after : V → E → V) (taken : V → E → Bool) (number : V → ℕ) where
  module _ (lock : LockFields) where
    -- an upgrade that was begun reads its set
    begun_up : (pass later : SeatOf V E) (set : Set) → Goes pass (bare (Issue pass.number (upgrade_of set)) ∷ []) later → HasSeenLawful after taken number later → HasSeenOwn later → IsReady later true
        → IsPassOf allows held lock pass → (reads writes : Set) → reads ≡ set → writes ≡ empty → (acts : List (Act E))
        → IsWork allows held (record { place = record { lock = lock; reads = reads; writes = writes; pass = later }; acts = acts })
    begun_up pass later set goes lawful own ready is reads writes reads_are writes_are acts =
        let may = may_do after taken number later (begun (upgrade_of set)) lawful own ready (made_begun pass later (upgrade_of set) goes) in
        record {
          at = at_on allows held lock pass later (bare (Issue pass.number (upgrade_of set)) ∷ []) goes is.rests.at;
          reads = λ l there. may.holds l (or_left (contains set l) (contains empty l) (ap (λ (s : Set). contains s l) (sym reads_are) ∙ there));
          writes = λ l there. may.writes l (ap (λ (s : Set). contains s l) (sym writes_are) ∙ there);
          keeps = keeps_on allows held pass later (bare (Issue pass.number (upgrade_of set)) ∷ []) goes is.keeps (inl refl, tt);
        }

    -- and so does one whose guard was acquired
    pub begun_up_as : {M : Type 0} (site : Site) (pass : SeatOf V E) (set : Set) (r : RequestFields) (guard : GuardFields V E) (acquired : Guard V M E) → fields_of acquired ≡ guard → HasAcquired site pass r acquired → site ≡ lock.site → r ≡ upgrade_of set
        → HasSeenLawful after taken number guard.seat → HasSeenOwn guard.seat → IsPassOf allows held lock pass → (reads writes : Set) → reads ≡ r.reads → writes ≡ r.writes
        → (guard.site ≡ lock.site) × IsWork allows held (record { place = record { lock = lock; reads = reads; writes = writes; pass = guard.seat }; acts = guard.acts })
    begun_up_as {M} site pass set r guard acquired is has site_is made lawful own of reads writes reads_are writes_are = (
      sym (ap (λ (x : GuardFields V E). x.site) is) ∙ has.site_is ∙ site_is,
      begun_up pass guard.seat set
          (subst (λ (x : RequestFields). Goes pass (bare (Issue pass.number x) ∷ []) guard.seat) made (subst (λ (x : GuardFields V E). Goes pass (bare (Issue pass.number r) ∷ []) x.seat) is has.goes)) lawful own
          (subst (λ (x : GuardFields V E). IsReady x.seat true) is has.ready) of reads writes (reads_are ∙ ap (λ (x : RequestFields). x.reads) made) (writes_are ∙ ap (λ (x : RequestFields). x.writes) made) guard.acts,
    )

  -- one that has risen writes it
  pub risen : (set : Set) (own : SeatFields V E) (work : WorkFields V E) (later : SeatOf V E) → Began (upgrade_of set) own work → Goes work.place.pass (bare (Rise work.place.pass.number) ∷ []) later
      → HasSeenLawful after taken number later → HasSeenOwn later → IsReady later true → IsWork allows held work → (acts : List (Act E))
      → IsWork allows held (record { place = record { lock = work.place.lock; reads = work.place.writes; writes = work.place.reads; pass = later }; acts = acts })
  risen set own work later began goes lawful of ready is acts =
      let may = may_do after taken number later (having_risen (begun (upgrade_of set))) lawful of ready (made_risen work.place.pass later (begun (upgrade_of set)) goes (made_begun own.pass work.place.pass (upgrade_of set) began.goes)) in
      record {
        at = at_on allows held work.place.lock work.place.pass later (bare (Rise work.place.pass.number) ∷ []) goes is.at;
        reads = λ l there. may.holds l (or_left (contains empty l) (contains set l) (ap (λ (s : Set). contains s l) (sym began.writes_are) ∙ there));
        writes = λ l there. may.writes l (ap (λ (s : Set). contains s l) (sym began.reads_are) ∙ there);
        keeps = keeps_on allows held work.place.pass later (bare (Rise work.place.pass.number) ∷ []) goes is.keeps (inl refl, tt);
      }

-- ---- that it was made

module _ {V E : Type 0} where
  -- a section that began, rose and ended was made
  made_all : (r : RequestFields) (s : SeatFields V E) (first second last : WorkFields V E) (later : SeatFields V E) (acts : List (Act E)) → Began r s first → Rose first second → last.place ≡ second.place → Ended acts last later
      → MadeRisen r acts s.pass later.pass
  made_all r s first second last later acts began rose stays ended =
      let n = s.pass.number in
      let finish : EntryFields E = record { event = Finish n; acts = acts } in
      let first_number : first.place.pass.number ≡ n = began.goes.same.1 in
      let second_number : second.place.pass.number ≡ n = rose.goes.same.1 ∙ first_number in
      let ends : Goes second.place.pass (finish ∷ []) later.pass =
      subst (λ m. Goes second.place.pass (record { event = Finish m; acts = acts } ∷ []) later.pass) second_number
      (subst (λ (p : Place V E). Goes p.pass (record { event = Finish p.pass.number; acts = acts } ∷ []) later.pass) stays ended.goes) in
      let rises : Goes first.place.pass (bare (Rise n) ∷ []) second.place.pass = subst (λ m. Goes first.place.pass (bare (Rise m) ∷ []) second.place.pass) first_number rose.goes in
      goes_on s.pass first.place.pass later.pass (bare (Issue n r) ∷ []) (bare (Rise n) ∷ finish ∷ []) began.goes
      (goes_on first.place.pass second.place.pass later.pass (bare (Rise n) ∷ []) (finish ∷ []) rises ends)

  pub made_upgrade : {A B : Type 0} (r : RequestFields) (Read : Type 0) (Did : A → WorkFields V E → WorkFields V E → WorkFields V E → Type 0) (outcome : Result A B) (result : Result (Option A) B) (s : SeatFields V E) (first second last : WorkFields V E) (later : SeatFields V E)
      → Began r s first → Rose first second → last.place ≡ second.place → ((answer : A) → outcome ≡ Ok answer → Did answer first second last) → IfOk result (λ answer. (as_risen outcome ≡ Ok answer) × Ended last.acts last later)
      → IfOk result (λ answer. MatchOption answer Read (λ a. MadeUpgrade r (Did a) s later))
  made_upgrade {A} {B} r Read Did (Ok a) (Ok (Some answer)) s first second last later began rose stays did ended =
      let split : Ok (Some a) ≡ Ok (Some answer) = ended.0 in
      let same : a ≡ answer = cc in
      record { first = first; risen = second; last = last; began = began; rose = rose; stays = stays; did = did answer (ap Ok same); made = made_all r s first second last later last.acts began rose stays ended.1 }
  made_upgrade {A} {B} r Read Did (Ok a) (Ok None) s first second last later began rose stays did ended = let split : Ok (Some a) ≡ Ok None = ended.0 in absurd cc
  made_upgrade {A} {B} r Read Did (Err e) (Ok x) s first second last later began rose stays did ended = let split : Err e ≡ Ok x = ended.0 in absurd cc
  made_upgrade r Read Did outcome (Err e) s first second last later began rose stays did ended = tt

  -- and without acts where it was not
  pub no_upgrade : {A B : Type 0} (r : RequestFields) (result : Result A B) (s : SeatFields V E) (first second last : WorkFields V E) (later : SeatFields V E)
      → Began r s first → Rose first second → last.place ≡ second.place → OnErr result (Ended [] last later) → OnErr result (MadeRisen r [] s.pass later.pass)
  no_upgrade r (Ok answer) s first second last later began rose stays ended = tt
  no_upgrade r (Err e) s first second last later began rose stays ended = made_all r s first second last later [] began rose stays ended

  -- and the rise is what contracts call one
  pub rose : (set : Set) (own : SeatFields V E) (work : WorkFields V E) (later : SeatOf V E) (acts : List (Act E)) → Began (upgrade_of set) own work → Goes work.place.pass (bare (Rise work.place.pass.number) ∷ []) later → acts ≡ []
      → Rose work (record { place = record { lock = work.place.lock; reads = work.place.writes; writes = work.place.reads; pass = later }; acts = acts })
  rose set own work later acts began goes fresh = record {
    who_is = (λ i. record { lock = work.place.lock; gate = goes.same.0 i; number = goes.same.1 i; opening = goes.same.2 i });
    reads_are = began.writes_are;
    writes_are = refl;
    fresh = fresh;
    goes = goes;
  }

  -- a guard that has done nothing rises without acts
  pub rises_bare : (set : Set) (own : SeatFields V E) (work : WorkFields V E) (later : SeatOf V E) → Began (upgrade_of set) own work → Goes work.place.pass (record { event = Rise work.place.pass.number; acts = work.acts } ∷ []) later
      → Goes work.place.pass (bare (Rise work.place.pass.number) ∷ []) later
  rises_bare set own work later began goes = subst (λ (acts : List (Act E)). Goes work.place.pass (record { event = Rise work.place.pass.number; acts = acts } ∷ []) later) began.fresh goes

-- ---- what an upgrade came to

module _ {V E W N A B : Type 0} (rising : W → WorkFields V E) (writing : N → WorkFields V E) (Looks : W → Option B → Type 0) (Thens : N → B → Result A Stop → N → Type 0) (Refuses : Stop → Type 0) (request : RequestFields) (seat later : SeatFields V E) where
  -- by how it ended where it was made, and where it was not
  pub ends_by : (result : Result (Option A) Stop) → MayAsk seat.lock.groups request
      → IfOk result (λ outcome. MatchOption outcome
      (Made request (λ first last. (work : W) × (first ≡ rising work) × Looks work None) seat later)
      (λ answer. MadeUpgrade request (λ first risen last. (work : W) × (seen : B) × (begun : N) × (ended : N) × (first ≡ rising work) × (risen ≡ writing begun) × (last ≡ writing ended) × Looks work (Some seen) × Thens begun seen (Ok answer) ended) seat later))
      → IfErr result (CameToNothing Refuses (λ (s : Stop). (work : W) × (seen : B) × (begun : N) × (ended : N) × Began request seat (rising work) × Looks work (Some seen) × Thens begun seen (Err s) ended)
      (Goes seat.pass [] later.pass) (MadeRisen request [] seat.pass later.pass))
      → UpgradeEnds rising writing Looks Thens Refuses request seat later result
  ends_by (Ok None) may made nothing = (may, made)
  ends_by (Ok (Some answer)) may made nothing = (may, made)
  ends_by (Err stop) may made nothing = nothing
