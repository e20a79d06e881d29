-- What a seat may do in a section of a nested request or of an upgrade, by its own entries.
use Rattle.std.proofs.Common.{◌≡◌, ℕ, ◌<◌, ◌==◌, ◌&&◌, nat_lt, Bool, true, false, List, [], ◌∷◌, Option, None, refl, sym, ap, subst, ◌∙◌, append-nil}
use Rattle.std.proofs.lemmas.Bool.{true≢false, eq-eqb, eqb-true, and_from, or_left, or_right}
use Rattle.std.proofs.lemmas.List.Sums.{fold-append}
use Rattle.std.specs.FinSet.{empty, union, intersection, contains, len}
use Rattle.rset.specs.Sets.{Set, all_below}
use Rattle.rset.specs.declared.TheConstants.{RESOURCES}
use Rattle.rset.proofs.SetLemmas.{contains_insert, contains_union, contains_intersection, within_empty, insert_within, all_below_empty, all_below_union, all_below_difference, all_below_insert}
use Rattle.rexpand.proofs.DeclaredLemmas.{declared_inside}
use Rattle.rclaim.specs.Requests.{RequestFields, is_part}
use Rattle.rclaim.specs.declared.event.Event.TheVariants.{Issue, Rise, Ask}
use Rattle.rmodel.specs.declared.claimed.Claimed.{Claimed}
use Rattle.rmodel.proofs.ListFacts.{any_among, passing}
use Rattle.rlock.specs.Known.{Site}
use Rattle.rvalue.specs.Entries.{EntryFields}
use Rattle.rvalue.specs.declared.act.Act.{Act}
use Rattle.rstate.specs.Histories.{lock_after}
use Rattle.rscript.specs.Statements.{begun, with_asked, with_risen}
use Rattle.rscript.specs.declared.section.OpenSection.{OpenSection}
use Rattle.rguard.specs.declared.guard.Guard.{Guard}
use Rattle.rguard.specs.declared.guard.Guard.TheVariants.{Nest}
use Rattle.rguard.specs.declared.guard.Guard.TheVariants as guards
use Rattle.rguard.specs.Guards.{GuardFields, HasSeenLawful, HasSeenOwn, HoldingToWrite, IsPartOf, IsReady}
use Rattle.rguard.specs.Looks.{HasAcquired}
use Rattle.rguard.specs.Resting.{IsAt, HoldsAll, MayWriteAll, all_with}
use Rattle.rguard.proofs.Resting.{is_inside_itself, suits}
use Rattle.rguard.specs.Seats.{SeatOf, SuitsSeat, Goes, bare}
use Rattle.rrun.specs.Working.{section_told, section_made}
use Rattle.rrun.proofs.Doing.{may_do}
use Rattle.rrun.proofs.Standing.{Stands, none_in, stands}
use Rattle.tests_on_threads.specs.Begun.{single, nesting, raising, HasBegunLast}

pub contains_single : (l : ℕ) → contains (single l) l ≡ true
contains_single l = contains_insert empty l l ∙ or_left (l == l) (contains empty l) (eq-eqb l l refl)

contains_other : (one other : ℕ) → contains (union (single one) (single other)) other ≡ true
contains_other one other = contains_union (single one) (single other) other ∙ or_right (contains (single one) other) (contains (single other) other) (contains_single other)

contains_one : (one other : ℕ) → contains (union (single one) (single other)) one ≡ true
contains_one one other = contains_union (single one) (single other) one ∙ or_left (contains (single one) one) (contains (single other) one) (contains_single one)

contains_both : (s t : Set) (l : ℕ) → contains s l ≡ true → contains t l ≡ true → contains (intersection s t) l ≡ true
contains_both s t l in_s in_t = contains_intersection s t l ∙ and_from (contains s l) (contains t l) in_s in_t

-- the other resource is a part of what the nested request is about
other_is_part : (one other : ℕ) → is_part (single other) (union (nesting one other).reads (nesting one other).writes) ≡ true
other_is_part one other =
    let whole = union (nesting one other).reads (nesting one other).writes in
    and_from (nat_lt 0 (len (single other))) _ (some (nat_lt 0 (len (single other))) refl)
    (insert_within empty whole other (within_empty whole)
    (contains_union (nesting one other).reads (nesting one other).writes other ∙ or_right (contains (nesting one other).reads other) (contains (nesting one other).writes other) (contains_other one other)))
  where
    some : (b : Bool) → nat_lt 0 (len (single other)) ≡ b → b ≡ true
    some true is = refl
    some false is = absurd (true≢false (sym (contains_single other) ∙ none_in (single other) is other))

module _ {V E : Type 0} where
  -- one more own entry
  made_by : (before later : SeatOf V E) (entry : EntryFields E) → Goes before (entry ∷ []) later → section_made later.mine ≡ section_told (section_made before.mine) entry.event
  made_by before later entry goes = ap section_made goes.mine ∙ fold-append (λ (x : Option OpenSection) (e : EntryFields E). section_told x e.event) None before.mine (entry ∷ [])

  pub begun_by : (before later : SeatOf V E) (r : RequestFields) → Goes before (bare (Issue before.number r) ∷ []) later → HasBegunLast r later
  begun_by before later r goes = made_by before later (bare (Issue before.number r)) goes

  -- and no more entry
  pub begun_still : (before later : SeatOf V E) (r : RequestFields) → Goes before [] later → HasBegunLast r before → HasBegunLast r later
  begun_still before later r goes was = ap section_made (goes.mine ∙ append-nil before.mine) ∙ was

module _ {V E : Type 0} (group : Set) (site : Site) (seat : SeatOf V E) (at : IsAt (all_with group) site seat) where
  -- the requests suit the seat
  pub suits_to_nest : (one other : ℕ) → one < RESOURCES → other < RESOURCES → SuitsSeat seat (nesting one other)
  suits_to_nest one other one_below other_below =
      let none = all_below_empty RESOURCES in
      suits (all_with group) site seat (nesting one other) at
      (all_below_difference RESOURCES empty (union (single one) (single other)) none)
      (all_below_union RESOURCES (single one) (single other) (all_below_insert RESOURCES empty one none one_below) (all_below_insert RESOURCES empty other none other_below))
      refl

  pub suits_to_raise : all_below RESOURCES group ≡ true → (group ≡ empty → ⊥) → SuitsSeat seat (raising group)
  suits_to_raise below some = suits (all_with group) site seat (raising group) at below (all_below_empty RESOURCES) (declared_inside (group ∷ []) group some (is_inside_itself group))

module _ {V E M : Type 0} (site : Site) (seat : SeatOf V E) (r : RequestFields) (guard : GuardFields V E) (acquired : Guard V M E) where
  -- a guard that was acquired is ready, and its request is the last that its seat has issued
  pub nest_begun : acquired ≡ Nest guard → HasAcquired site seat r acquired → HasBegunLast r guard.seat × IsReady guard.seat true
  nest_begun is has =
      let now : HasAcquired site seat r (Nest guard) = subst (λ (x : Guard V M E). HasAcquired site seat r x) is has in
      (begun_by seat guard.seat r now.goes, now.ready)

  pub rise_begun : acquired ≡ guards.Rise guard → HasAcquired site seat r acquired → HasBegunLast r guard.seat × IsReady guard.seat true
  rise_begun is has =
      let now : HasAcquired site seat r (guards.Rise guard) = subst (λ (x : Guard V M E). HasAcquired site seat r x) is has in
      (begun_by seat guard.seat r now.goes, now.ready)

module _ {V E : Type 0} (after : V → E → V) (taken : V → E → Bool) (number : V → ℕ) where
  -- the seat of a nested request has the one resource for writing
  pub nest_writes : (seat : SeatOf V E) (one other : ℕ) → HasSeenLawful after taken number seat → HasSeenOwn seat → IsReady seat true → HasBegunLast (nesting one other) seat → HoldingToWrite seat one
  nest_writes seat one other lawful own ready made =
      (may_do after taken number seat (begun (nesting one other)) lawful own ready made).writes one (contains_both (single one) (union (single one) (single other)) one (contains_single one) (contains_one one other))

  -- it may ask for the other
  pub nest_asks : (seat : SeatOf V E) (one other : ℕ) → HasSeenLawful after taken number seat → HasSeenOwn seat → HasBegunLast (nesting one other) seat → IsPartOf seat (single other)
  nest_asks seat one other lawful own made b opens =
      let stand : Stands seat.number (begun (nesting one other)) (lock_after b seat.seen) = stands after taken number b seat.number seat.seen (lawful b opens) (begun (nesting one other)) (ap section_made own ∙ made) in
      let x = passing (λ (x : Claimed). x.claim.seat == seat.number) (lock_after b seat.seen).claims stand.some in
      let of : x.0.claim.seat ≡ seat.number = eqb-true x.0.claim.seat seat.number x.2 in
      let sets = (stand.each x.0 x.1 of).sets in
      any_among (λ (x : Claimed). (x.claim.seat == seat.number) && is_part (single other) (union x.claim.reads x.claim.writes)) (lock_after b seat.seen).claims x.0 x.1
      (and_from (x.0.claim.seat == seat.number) (is_part (single other) (union x.0.claim.reads x.0.claim.writes)) x.2 ((λ i. is_part (single other) (union (sets.0 i) (sets.1 i))) ∙ other_is_part one other))

  -- and holds it for writing then
  pub asked_writes : (seat later : SeatOf V E) (one other : ℕ) → Goes seat (bare (Ask seat.number (single other)) ∷ []) later → HasSeenLawful after taken number later → HasSeenOwn later → IsReady later true
      → HasBegunLast (nesting one other) seat → HoldingToWrite later other
  asked_writes seat later one other goes lawful own ready made =
      let both = union (single one) (single other) in
      (may_do after taken number later (with_asked (single other) (begun (nesting one other))) lawful own ready
      (made_by seat later (bare (Ask seat.number (single other))) goes ∙ ap (λ (o : Option OpenSection). section_told o (Ask seat.number (single other))) made)).writes other (contains_both both both other (contains_other one other) (contains_other one other))

  -- the seat of an upgrade reads its set
  pub raise_reads : (seat : SeatOf V E) (set : Set) → HasSeenLawful after taken number seat → HasSeenOwn seat → IsReady seat true → HasBegunLast (raising set) seat → HoldsAll set seat
  raise_reads seat set lawful own ready made l there = (may_do after taken number seat (begun (raising set)) lawful own ready made).holds l (or_left (contains set l) (contains empty l) there)

  -- and may write it once it has risen
  pub risen_writes : (seat later : SeatOf V E) (set : Set) (acts : List (Act E)) → Goes seat (record { event = Rise seat.number; acts = acts } ∷ []) later → HasSeenLawful after taken number later → HasSeenOwn later → IsReady later true
      → HasBegunLast (raising set) seat → MayWriteAll set later
  risen_writes seat later set acts goes lawful own ready made l there =
      (may_do after taken number later (with_risen (begun (raising set))) lawful own ready
      (made_by seat later (record { event = Rise seat.number; acts = acts }) goes ∙ ap (λ (o : Option OpenSection). section_told o (Rise seat.number)) made)).writes l there
