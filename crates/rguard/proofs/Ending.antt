-- The end of a section: its entry may follow, and what is lent to it comes home.
use Rattle.std.proofs.Common.{◌≡◌, ℕ, ◌<◌, Bool, false, cond, IsTrue, List, [], ◌∷◌, ◌++◌, Some, None, refl, sym, ap, subst, ◌∙◌}
use Rattle.std.specs.Prelude.{slice_get, map}
use Rattle.std.specs.List.{AllByRecursion}
use Rattle.rclaim.specs.Events.{seat_of}
use Rattle.rclaim.specs.declared.event.Event.{Event}
use Rattle.rclaim.specs.declared.event.Event.TheVariants.{Finish}
use Rattle.rmodel.specs.declared.granted.Granted.{Granted}
use Rattle.rmodel.specs.declared.refused.Refused.TheVariants.{NotHolding}
use Rattle.rmodel.specs.State.{LockState}
use Rattle.rmodel.specs.Steps.{Comes, is_not_holding}
use Rattle.rmodel.proofs.reaching.HeldBySeat.{within_itself}
use Rattle.rmodel.proofs.reaching.Histories.{SameSizes, sizes_after}
use Rattle.rvalue.specs.declared.act.Act.{Act}
use Rattle.rvalue.specs.Acts.{value_within}
use Rattle.rvalue.specs.Entries.{EntryFields}
use Rattle.rvalue.specs.Lawful.{stands_with}
use Rattle.rvalue.proofs.ValueLemmas.{value_of-longer}
use Rattle.rstate.specs.Contents.{Contents, value_now, with_entry, ComesHome}
use Rattle.rstate.specs.Histories.{Beginning, first_of, lock_after, MayFollow}
use Rattle.rstate.specs.Lent.{LentFields, IsLent}
use Rattle.rstate.proofs.histories.Following.{event_of, lock_is_after}
use Rattle.rstate.proofs.histories.Staying.{edits_none}
use Rattle.rstate.proofs.homes.Lists.{same_item}
use Rattle.rguard.specs.Seats.{SeatOf, is_busy}
use Rattle.rguard.specs.LentSections.{held_at, HasTaken, value_seen, ActsAreRight}
use Rattle.rguard.proofs.seats.Finding.{Finds, holding_later}
use Rattle.rguard.proofs.seats.Idle.{busy_push}
use Rattle.rguard.proofs.Lending.{lent_same}
use Rattle.rguard.proofs.Looking.{right_later, value_read, value_written}

-- no event changes the number of seats, or the groups
pub sizes : {V E : Type 0} (b : Beginning V) (entries : List (EntryFields E)) → SameSizes (first_of b) (lock_after b entries)
sizes b entries = subst (λ (s : LockState). SameSizes (first_of b) s) (sym (lock_is_after b entries)) (sizes_after (first_of b) (map event_of entries))

-- the end of a section may have any acts
pub all_stand : {E : Type 0} (n : ℕ) (acts : List (Act E)) → AllByRecursion (λ act. IsTrue (stands_with (Finish n) act)) acts
all_stand n [] = tt
all_stand n (act ∷ acts) = (refl, all_stand n acts)

module _ {V E : Type 0} (after : V → E → V) (taken : V → E → Bool) (number : V → ℕ) (b : Beginning V) (k : SeatOf V E) (found : Contents V E) (f : Finds after taken number b k found) where
  -- an entry of the seat whose event comes, with acts that are right, may follow
  pub follows : (e : Event) (acts : List (Act E)) → seat_of e ≡ k.number → Comes (lock_after b found.entries) e → AllByRecursion (λ act. IsTrue (stands_with e act)) acts → ActsAreRight after taken number b k.seen k.number acts
      → MayFollow after taken number found.beginning found.entries (record { event = e; acts = acts })
  follows e acts of comes stand right =
      let later = right_later after taken number b k found f acts right in
      subst (λ (d : Beginning V). MayFollow after taken number d found.entries (record { event = e; acts = acts })) (sym f.began) (record {
        comes = comes;
        stand = stand;
        held = (subst (λ n. ActsAreRight after taken number b found.entries n acts) (sym of) later).held;
        answers = later.answers;
      })

  pub there_now : k.number < b.seats → k.number < (lock_after b found.entries).seats
  there_now there = subst (λ n. k.number < n) (sym (sizes b found.entries).seats) there

  finish_comes : k.number < b.seats → is_not_holding (lock_after b k.seen).claims k.number ≡ false → Comes (lock_after b found.entries) (Finish k.number)
  finish_comes there holding = record {
    fits = there_now there;
    normal = tt;
    accepted = ap (λ (c : Bool). cond c (Some NotHolding) None) (holding_later after taken number b k found f holding);
  }

  pub finish_follows : (n : ℕ) (acts : List (Act E)) → n ≡ k.number → k.number < b.seats → is_not_holding (lock_after b k.seen).claims k.number ≡ false → ActsAreRight after taken number b k.seen k.number acts
      → MayFollow after taken number found.beginning found.entries (record { event = Finish n; acts = acts })
  finish_follows n acts same there holding right =
      subst (λ m. MayFollow after taken number found.beginning found.entries (record { event = Finish m; acts = acts })) (sym same)
      (follows (Finish k.number) acts refl (finish_comes there holding) (all_stand k.number acts) right)

  -- with its edits just what the seat has taken comes home
  pub finish_home : (n : ℕ) (acts : List (Act E)) (lent : LentFields V) → n ≡ k.number → ActsAreRight after taken number b k.seen k.number acts → HasTaken k (held_at b k)
      → IsLent b.seats (held_at b k) b.values (value_seen after k) (λ l opening. value_within after (value_seen after k l opening) acts l) lent
      → (g : Granted) → slice_get found.taken n ≡ Some g → ComesHome after found (record { event = Finish n; acts = acts }) g lent
  finish_home n acts lent same right has was g there =
      subst (λ (h : Granted). ComesHome after found (record { event = Finish n; acts = acts }) h lent)
      (same_item (held_at b k) g (sym (f.has_taken (held_at b k) has) ∙ ap (slice_get found.taken) (sym same) ∙ there)) (record {
        lent = subst (λ (d : Beginning V). IsLent d.seats (held_at b k) d.values (value_now after found) (value_now after (with_entry found (record { event = Finish n; acts = acts }))) lent) (sym f.began)
            (lent_same b.seats (held_at b k) b.values (value_seen after k) (λ l opening. value_within after (value_seen after k l opening) acts l) (value_now after found) (value_now after (with_entry found (record { event = Finish n; acts = acts }))) lent
            (λ l reads v listed. value_read after taken number b k found f (held_at b k) (within_itself (held_at b k)) l reads v)
            (λ l writes v listed. value_of-longer after v found.entries (record { event = Finish n; acts = acts }) l
            ∙ ap (λ x. value_within after x acts l) (value_written after taken number b k found f (held_at b k) (within_itself (held_at b k)) l writes v))
            was);
        edits = λ l unwritten. edits_none (held_at b k).reads (held_at b k).writes l acts unwritten right.held;
      })

-- a seat is idle after its finish
pub idle_now : {E : Type 0} (mine later : List (EntryFields E)) (n : ℕ) (acts : List (Act E)) → later ≡ mine ++ record { event = Finish n; acts = acts } ∷ [] → is_busy later ≡ false
idle_now mine later n acts is = ap is_busy is ∙ busy_push mine (record { event = Finish n; acts = acts })
