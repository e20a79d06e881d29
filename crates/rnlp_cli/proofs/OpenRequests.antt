-- Each claim of a state is of a seat whose last request is not finished.
use Rattle.std.proofs.Common.{◌≡◌, ℕ, ◌==◌, ◌&&◌, Bool, true, false, not, cond, List, [], ◌∷◌, ◌++◌, map, fold, append_assoc, Option, Some, None, inl, inr, refl, sym, ap, subst, ◌∙◌}
use Rattle.std.proofs.lemmas.Bool.{eq-eqb, eqb-true}
use Rattle.std.specs.Prelude.{is_some, option_map}
use Rattle.std.proofs.lemmas.List.{append-nil}
use Rattle.std.proofs.lemmas.List.Sums.{fold_push}
use Rattle.std.specs.List.{AllByRecursion}
use Rattle.rset.specs.Sets.{Set}
use Rattle.rclaim.specs.Events.{seat_of}
use Rattle.rclaim.specs.Requests.{RequestFields}
use Rattle.rclaim.specs.declared.claim.Claim.{Claim}
use Rattle.rclaim.specs.declared.event.Event.{Event}
use Rattle.rclaim.specs.declared.event.Event.TheVariants.{Issue, Finish, Rise, Ask}
use Rattle.rclaim.specs.declared.request.Kind.{Kind}
use Rattle.rclaim.specs.declared.request.Kind.TheVariants.{Read, Write, Mixed, Upgrade, Nested}
use Rattle.rmodel.specs.declared.claimed.Claimed.{Claimed}
use Rattle.rmodel.specs.Changes.{SameClaim}
use Rattle.rmodel.specs.Claims.{claims_by, claims_of, waiting}
use Rattle.rmodel.specs.Reached.{IsReached}
use Rattle.rmodel.specs.State.{LockState}
use Rattle.rmodel.specs.Steps.{AreAccepted, Comes, changed, next, after, asking}
use Rattle.rmodel.specs.WellFormed.{Among}
use Rattle.rmodel.specs.Settling.{settled}
use Rattle.rmodel.proofs.ListFacts.{contrary, false_from, none_among, among_append, among_filter, all_at, all_from, all_of_zip}
use Rattle.rmodel.proofs.settling.Giving.{same_given}
use Rattle.rmodel.proofs.settling.Settlement.{settles_settled}
use Rattle.rmodel.proofs.reaching.Came.{among_map}
use Rattle.rmodel.proofs.reaching.Reached.{reached_next}
use Rattle.rmodel.proofs.reaching.Soundness.{seat_is_idle, same_claims, sound_changed}
use Rattle.rlock.specs.Known.{entries_by}
use Rattle.rscript.specs.Statements.{section_next, with_asked, with_risen}
use Rattle.rscript.specs.declared.section.OpenSection.{OpenSection}
use Rattle.rscript.specs.declared.statement.Statement.{Statement}
use Rattle.rscript.specs.declared.statement.Statement.TheVariants as statement
use Rattle.rrun.specs.Runs.{Told, told_by, run_of, IsRunOf, deeds_next}
use Rattle.rtrace_form.specs.Reports.{Entry}
use Rattle.rtrace_form.specs.Waits.{events_of}

-- whether the request that a seat issued last is still to be finished, after one event
abbrev pub open_next : ℕ → Bool → Event → Bool
open_next seat busy (Issue other r) = cond (other == seat) true busy
open_next seat busy (Finish other) = cond (other == seat) false busy
open_next seat busy (Rise other) = busy
open_next seat busy (Ask other part) = busy

abbrev pub is_open : List Event → ℕ → Bool
is_open es seat = fold (open_next seat) false es

open_push : (es : List Event) (e : Event) (seat : ℕ) → is_open (es ++ e ∷ []) seat ≡ open_next seat (is_open es seat) e
open_push es e seat = fold_push (open_next seat) false es e

abbrev IsOpenIn : List Event → Claimed → Type 0
IsOpenIn es x = is_open es x.claim.seat ≡ true

turned : (m n : ℕ) → (n == m) ≡ false → (m == n) ≡ false
turned m n other = false_from (m == n) (λ h. contrary (n == m) (eq-eqb n m (sym (eqb-true m n h))) other)

not_true : (b : Bool) → not b ≡ true → b ≡ false
not_true true h = sym h
not_true false h = refl

-- ---- the claims of a request

module _ (groups : List Set) (stamp seat : ℕ) (r : RequestFields) where
  abbrev IsIts : Claim → Type 0
  IsIts c = c.seat ≡ seat

  its_claims_by : (k : Kind) → AllByRecursion IsIts (claims_by groups k stamp seat r.reads r.writes)
  its_claims_by Read = (refl, tt)
  its_claims_by Write = (refl, tt)
  its_claims_by Mixed = (refl, tt)
  its_claims_by Upgrade = (refl, (refl, tt))
  its_claims_by Nested = (refl, tt)

  its_claims : AllByRecursion IsIts (claims_of groups stamp seat r)
  its_claims = its_claims_by r.kind

-- ---- one more event

module _ (s : LockState) (es : List Event) (busy : AllByRecursion (IsOpenIn es) s.claims) where
  old_at : (x : Claimed) → Among x s.claims → IsOpenIn es x
  old_at x there = all_at (IsOpenIn es) s.claims x busy there

  open_changed : (e : Event) → Comes s e → (x : Claimed) → Among x (changed s e).claims → IsOpenIn (es ++ e ∷ []) x
  open_changed (Issue seat r) comes x there =
      let ns = map (waiting r.first) (claims_of s.groups.groups s.issued seat r) in
      elim (among_append s.claims ns x there) [
        | inl old ↦
            open_push es (Issue seat r) x.claim.seat
            ∙ ap (λ b. cond b true (is_open es x.claim.seat)) (turned seat x.claim.seat (none_among (λ (x : Claimed). x.claim.seat == seat) s.claims x (seat_is_idle s seat r comes.accepted) old))
            ∙ old_at x old
        | inr new ↦
            let c = among_map (waiting r.first) (claims_of s.groups.groups s.issued seat r) x new in
            let its = all_at (IsIts s.groups.groups s.issued seat r) (claims_of s.groups.groups s.issued seat r) c.0 (its_claims s.groups.groups s.issued seat r) c.1 in
            subst (IsOpenIn (es ++ Issue seat r ∷ [])) (sym c.2)
            (open_push es (Issue seat r) c.0.seat ∙ ap (λ b. cond b true (is_open es c.0.seat)) (eq-eqb seat c.0.seat (sym its)))
      ]
  open_changed (Finish seat) comes x there =
      let kept = among_filter (λ x. not (x.claim.seat == seat)) s.claims x there in
      open_push es (Finish seat) x.claim.seat ∙ ap (λ b. cond b false (is_open es x.claim.seat)) (turned seat x.claim.seat (not_true (x.claim.seat == seat) kept.1)) ∙ old_at x kept.0
  open_changed (Rise seat) comes x there =
      open_push es (Rise seat) x.claim.seat ∙ old_at x (among_filter (λ x. not ((x.claim.seat == seat) && not x.claim.write_half)) s.claims x there).0
  open_changed (Ask seat part) comes x there =
      let found = among_map (asking seat part) s.claims x there in
      open_push es (Ask seat part) x.claim.seat
      ∙ subst (λ (c : Claim). is_open es c.seat ≡ true) (sym (ap (λ (z : Claimed). z.claim) found.2 ∙ asking_claim seat part found.0)) (old_at found.0 found.1)
    where
      asking_claim : (seat : ℕ) (part : Set) (x : Claimed) → (asking seat part x).claim ≡ x.claim
      asking_claim seat part x = at (x.claim.seat == seat)
        where
          at : (b : Bool) → (cond b (record x { asked = part }) x).claim ≡ x.claim
          at true = refl
          at false = refl

  open_after : (e : Event) → IsReached s → Comes s e → AllByRecursion (IsOpenIn (es ++ e ∷ [])) (next s e).claims
  open_after e reached comes =
      let xs = (changed s e).claims in
      all_of_zip (IsOpenIn (es ++ e ∷ [])) SameClaim (IsOpenIn (es ++ e ∷ [])) (λ x y h same. subst (λ (c : Claim). is_open (es ++ e ∷ []) c.seat ≡ true) (sym same) h) xs (next s e).claims
      (all_from (IsOpenIn (es ++ e ∷ [])) xs (open_changed e comes))
      (same_given xs (settled xs) (same_claims xs (settled xs) (settles_settled xs (sound_changed s e reached.sound comes).well_formed)))

pub all_open : (s : LockState) (before es : List Event) → IsReached s → AreAccepted s es → AllByRecursion (IsOpenIn before) s.claims → AllByRecursion (IsOpenIn (before ++ es)) (after s es).claims
all_open s before [] reached accepted busy = subst (λ (es : List Event). AllByRecursion (IsOpenIn es) s.claims) (sym (append-nil before)) busy
all_open s before (e ∷ es) reached accepted busy =
    subst (λ (all : List Event). AllByRecursion (IsOpenIn all) (after (next s e) es).claims) (append_assoc before (e ∷ []) es)
    (all_open (next s e) (before ++ e ∷ []) es (reached_next s e reached accepted.0) accepted.1 (open_after s before busy e reached accepted.0))

-- ---- the events of one seat

abbrev maker : Entry → ℕ
maker entry = seat_of entry.event

same_next : (seat : ℕ) (busy : Bool) (e : Event) → (seat_of e == seat) ≡ false → open_next seat busy e ≡ busy
same_next seat busy (Issue other r) differs = ap (λ b. cond b true busy) differs
same_next seat busy (Finish other) differs = ap (λ b. cond b false busy) differs
same_next seat busy (Rise other) differs = refl
same_next seat busy (Ask other part) differs = refl

-- a seat's own entries say this
pub own_tell : (seat : ℕ) (busy : Bool) (entries : List Entry) → fold (open_next seat) busy (events_of entries) ≡ fold (open_next seat) busy (events_of (entries_by maker seat entries))
own_tell seat busy [] = refl
own_tell seat busy (entry ∷ entries) = at (maker entry == seat) refl (λ b. own_tell seat b entries)
  where
    at : (b : Bool) → (maker entry == seat) ≡ b → ((c : Bool) → fold (open_next seat) c (events_of entries) ≡ fold (open_next seat) c (events_of (entries_by maker seat entries)))
        → fold (open_next seat) (open_next seat busy entry.event) (events_of entries) ≡ fold (open_next seat) busy (events_of (cond b (entry ∷ entries_by maker seat entries) (entries_by maker seat entries)))
    at true is rest = rest (open_next seat busy entry.event)
    at false is rest = ap (λ o. fold (open_next seat) o (events_of entries)) (same_next seat busy entry.event is) ∙ rest busy

-- ---- the run of statements

abbrev pub event_told : Told → Event
event_told t = t.event

still_some : {A : Type 0} (f : A → A) (o : Option A) → is_some (option_map f o) ≡ is_some o
still_some f None = refl
still_some f (Some x) = refl

-- a request is still to be finished after the entries of statements if a section is open after them
run_open : (n : ℕ) (deeds : List Statement) (section : Option OpenSection) (statements : List Statement)
    → fold (open_next n) (is_some section) (map event_told (run_of n deeds statements)) ≡ is_some (fold section_next section statements)
run_open n deeds section [] = refl
run_open n deeds section (statement.Begin r ∷ statements) =
    ap (λ b. fold (open_next n) (cond b true (is_some section)) (map event_told (run_of n [] statements))) (eq-eqb n n refl)
    ∙ run_open n [] (section_next section (statement.Begin r)) statements
run_open n deeds section (statement.Edit place edit ∷ statements) = run_open n (deeds_next deeds (statement.Edit place edit)) section statements
run_open n deeds section (statement.Show place ∷ statements) = run_open n (deeds_next deeds (statement.Show place)) section statements
run_open n deeds section (statement.Ask part ∷ statements) =
    ap (λ b. fold (open_next n) b (map event_told (run_of n deeds statements))) (sym (still_some (with_asked part) section)) ∙ run_open n deeds (option_map (with_asked part) section) statements
run_open n deeds section (statement.Rise ∷ statements) =
    ap (λ b. fold (open_next n) b (map event_told (run_of n [] statements))) (sym (still_some with_risen section)) ∙ run_open n [] (option_map with_risen section) statements
run_open n deeds section (statement.Finish ∷ statements) =
    ap (λ b. fold (open_next n) (cond b false (is_some section)) (map event_told (run_of n [] statements))) (eq-eqb n n refl) ∙ run_open n [] None statements

pub events_told : (entries : List Entry) → events_of entries ≡ map event_told (map told_by entries)
events_told [] = refl
events_told (entry ∷ entries) = ap (λ es. entry.event ∷ es) (events_told entries)

-- after the run of statements whose last section is closed the seat has no request left to finish
pub none_open : (seat : ℕ) (statements : List Statement) (entries : List Entry) → fold section_next None statements ≡ None → IsRunOf seat statements (entries_by maker seat entries)
    → is_open (events_of entries) seat ≡ false
none_open seat statements entries closed run =
    own_tell seat false entries
    ∙ ap (fold (open_next seat) false) (events_told (entries_by maker seat entries) ∙ ap (map event_told) run)
    ∙ run_open seat [] None statements
    ∙ ap is_some closed
