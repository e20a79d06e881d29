-- What a seat holds whose request was issued and is ready, by what the calls say of it. For proofs above.
use Rattle.std.proofs.Common.{◌≡◌, ℕ, ◌==◌, ◌||◌, Bool, true, false, cond, List, [], ◌∷◌, ◌++◌, refl, sym, ap, subst, ◌∙◌, append-nil}
use Rattle.std.specs.FinSet.{contains}
use Rattle.rclaim.specs.Requests.{RequestFields}
use Rattle.rclaim.specs.declared.event.Event.TheVariants.{Issue}
use Rattle.rmodel.specs.declared.granted.Granted.{Granted}
use Rattle.rmodel.specs.Holds.{holds_of}
use Rattle.rlock.specs.Known.{entries_by, Site}
use Rattle.rlock.proofs.Entries.{entries_by-append}
use Rattle.rvalue.specs.Entries.{EntryFields}
use Rattle.rstate.specs.Contents.{is_ready}
use Rattle.rstate.specs.Histories.{lock_after, IsLawfulFrom}
use Rattle.rguard.specs.Seats.{SeatOf, Goes, bare}
use Rattle.rguard.specs.Looks.{HasAcquired}
use Rattle.rguard.specs.declared.guard.Guard.{Guard}
use Rattle.rguard.specs.declared.guard.Guard.TheVariants.{Read, Write}
use Rattle.rguard.specs.Guards.{GuardFields, AsSeen, HasSeenLawful, HasSeenOwn, Holding, HoldingToWrite, IsReady}
use Rattle.rguard.proofs.seats.Along.{maker}
use Rattle.rguard.proofs.Having.{is_plain, holds_request}

-- a list has this entry as the last one of its seat: what comes before, and what comes after, which is of others
record HasLast {E : Type 0} (n : ℕ) (entry : EntryFields E) (all : List (EntryFields E)) : Type 0 where
  before : List (EntryFields E)
  more : List (EntryFields E)
  is : all ≡ (before ++ entry ∷ []) ++ more
  others : entries_by maker n more ≡ []

has_last : {E : Type 0} (n : ℕ) (entry : EntryFields E) (mine all : List (EntryFields E)) → entries_by maker n all ≡ mine ++ entry ∷ [] → HasLast n entry all
has_last n entry [] [] own = absurd cc
has_last n entry (m ∷ mine) [] own = absurd cc
has_last {E} n entry mine (x ∷ all) own = at (maker x == n) refl mine own (λ ms same. has_last n entry ms all same)
  where
    longer : HasLast n entry all → HasLast n entry (x ∷ all)
    longer h = record { before = x ∷ h.before; more = h.more; is = ap (λ es. x ∷ es) h.is; others = h.others }

    at : (b : Bool) → (maker x == n) ≡ b → (ms : List (EntryFields E)) → entries_by maker n (x ∷ all) ≡ ms ++ entry ∷ []
        → ((ms : List (EntryFields E)) → entries_by maker n all ≡ ms ++ entry ∷ [] → HasLast n entry all) → HasLast n entry (x ∷ all)
    at false is ms same further = longer (further ms (sym (ap (λ (b : Bool). cond b (x ∷ entries_by maker n all) (entries_by maker n all)) is) ∙ same))
    at true is [] same further =
        let split : x ∷ entries_by maker n all ≡ entry ∷ [] = sym (ap (λ (b : Bool). cond b (x ∷ entries_by maker n all) (entries_by maker n all)) is) ∙ same in
        record { before = []; more = all; is = ap (λ (e : EntryFields E). e ∷ all) cc; others = cc }
    at true is (m ∷ ms) same further =
        let split : x ∷ entries_by maker n all ≡ m ∷ (ms ++ entry ∷ []) = sym (ap (λ (b : Bool). cond b (x ∷ entries_by maker n all) (entries_by maker n all)) is) ∙ same in
        let rest : entries_by maker n all ≡ ms ++ entry ∷ [] = cc in
        longer (further ms rest)

module _ {V E : Type 0} (after : V → E → V) (taken : V → E → Bool) (number : V → ℕ) where
  -- it holds all that its request is about, if that is a read, a write or a mixed request
  pub holds_issued : (seat later : SeatOf V E) (r : RequestFields) → is_plain r.kind ≡ true → Goes seat (bare (Issue seat.number r) ∷ []) later
      → HasSeenLawful after taken number later → HasSeenOwn later → IsReady later true
      → AsSeen later (λ b. holds_of (lock_after b later.seen).claims later.number ≡ record { reads = r.reads; writes = r.writes })
  holds_issued seat later r plain goes lawful own ready b opens =
      let issue = bare {E = E} (Issue later.number r) in
      let renamed : later.mine ≡ seat.mine ++ issue ∷ [] = subst (λ n. later.mine ≡ seat.mine ++ bare (Issue n r) ∷ []) (sym goes.same.1) goes.mine in
      let last = has_last later.number issue seat.mine later.seen (own ∙ renamed) in
      subst (λ es. holds_of (lock_after b es).claims later.number ≡ record { reads = r.reads; writes = r.writes }) (sym last.is)
      (holds_request later.number r plain after taken number b last.before last.more
      (subst (λ es. IsLawfulFrom after taken number b es) last.is (lawful b opens))
      (entries_by-append maker later.number (last.before ++ issue ∷ []) last.more ∙ ap (λ es. entries_by maker later.number (last.before ++ issue ∷ []) ++ es) last.others ∙ append-nil (entries_by maker later.number (last.before ++ issue ∷ [])))
      (subst (λ es. is_ready (lock_after b es) later.number ≡ true) last.is (ready b opens)))

  -- so it may edit what the request writes
  pub may_write : (seat later : SeatOf V E) (r : RequestFields) (l : ℕ) → is_plain r.kind ≡ true → Goes seat (bare (Issue seat.number r) ∷ []) later
      → HasSeenLawful after taken number later → HasSeenOwn later → IsReady later true → contains r.writes l ≡ true → HoldingToWrite later l
  may_write seat later r l plain goes lawful own ready there b opens =
      ap (λ (g : Granted). contains g.writes l) (holds_issued seat later r plain goes lawful own ready b opens) ∙ there

  -- and read what the request reads
  pub may_read : (seat later : SeatOf V E) (r : RequestFields) (l : ℕ) → is_plain r.kind ≡ true → Goes seat (bare (Issue seat.number r) ∷ []) later
      → HasSeenLawful after taken number later → HasSeenOwn later → IsReady later true → contains r.reads l ≡ true → Holding later l
  may_read seat later r l plain goes lawful own ready there b opens =
      ap (λ (g : Granted). contains g.reads l || contains g.writes l) (holds_issued seat later r plain goes lawful own ready b opens) ∙ ap (λ (x : Bool). x || contains r.writes l) there

  -- a guard that was acquired to write may edit what its request writes
  pub writes_acquired : {M : Type 0} (site : Site) (seat : SeatOf V E) (r : RequestFields) (guard : GuardFields V E) (acquired : Guard V M E) (l : ℕ) → is_plain r.kind ≡ true → acquired ≡ Write guard
      → HasAcquired site seat r acquired → HasSeenLawful after taken number guard.seat → HasSeenOwn guard.seat → contains r.writes l ≡ true → HoldingToWrite guard.seat l
  writes_acquired {M} site seat r guard acquired l plain is has lawful own there =
      let now : HasAcquired site seat r (Write guard) = subst (λ (x : Guard V M E). HasAcquired site seat r x) is has in
      may_write seat guard.seat r l plain now.goes lawful own now.ready there

  -- and one that was acquired to read may read what its request reads
  pub reads_acquired : {M : Type 0} (site : Site) (seat : SeatOf V E) (r : RequestFields) (guard : GuardFields V E) (acquired : Guard V M E) (l : ℕ) → is_plain r.kind ≡ true → acquired ≡ Read guard
      → HasAcquired site seat r acquired → HasSeenLawful after taken number guard.seat → HasSeenOwn guard.seat → contains r.reads l ≡ true → Holding guard.seat l
  reads_acquired {M} site seat r guard acquired l plain is has lawful own there =
      let now : HasAcquired site seat r (Read guard) = subst (λ (x : Guard V M E). HasAcquired site seat r x) is has in
      may_read seat guard.seat r l plain now.goes lawful own now.ready there
