-- What a law says of the values of a lock still holds when it is closed, if its seats have recorded no more than the law allows.
use Rattle.std.proofs.Common.{◌≡◌, ◌⊎◌, ℕ, ◌<◌, ◌==◌, Bool, true, false, cond, List, [], ◌∷◌, ◌++◌, map, get_or, fold, Some, refl, sym, ap, subst, ◌∙◌, inl, inr, arith, append-nil, append_assoc}
use Rattle.std.proofs.lemmas.Bool.{eq-eqb}
use Rattle.std.specs.List.{AllByRecursion}
use Rattle.std.specs.Prelude.{slice_get, slice_index_or, option_map, length, All, Any}
use Rattle.std.proofs.lemmas.Option.{get_or_from_slice_get, slice_get_within, slice_get-map, slice_get-get_or}
use Rattle.rclaim.specs.Events.{seat_of}
use Rattle.rlock.specs.Known.{entries_by}
use Rattle.rmodel.proofs.ListFacts.{in_filter, all_at, all_from}
use Rattle.rvalue.specs.declared.act.Act.{Act}
use Rattle.rvalue.specs.Acts.{AnswersAreRight, value_within, edits_in}
use Rattle.rvalue.specs.InTurn.{AllInTurn}
use Rattle.rvalue.specs.Entries.{EntryFields, is_finish}
use Rattle.rvalue.specs.Histories.{value_of}
use Rattle.rvalue.specs.Lawful.{AreOpenings}
use Rattle.rvalue.proofs.ValueLemmas.{value_of-longer}
use Rattle.rstate.specs.Histories.{Beginning, MayFollow, IsListed}
use Rattle.rstate.proofs.homes.Lists.{same_item, get_there}
use Rattle.rguard.specs.Closing.{IsClosedBy, IsLeft}
use Rattle.rguard.specs.Seats.{SeatOf}
use Rattle.rguard.proofs.Closed.{seats_there}
use Rattle.rnlp_lock.specs.Laws.{HoldsOf}
use Rattle.rnlp_lock.specs.Seats.{LockFields, MayTell, IsPassOf}

-- the law of a list, whatever stands after its last value
pub holds_of_list : {V : Type 0} (holds : (ℕ → V) → Type 0) (values : List V) (other : V) → holds (λ l. slice_index_or values l other) → HoldsOf holds values
holds_of_list holds values other held = record { all = λ l. slice_index_or values l other; are = λ l value listed. get_or_from_slice_get values l value other listed; held = held }

module _ {V E : Type 0} (after : V → E → V) (taken : V → E → Bool) (number : V → ℕ) (holds : (ℕ → V) → Type 0) (allows : List (Act E) → Type 0)
    (keeps : (values : ℕ → V) (acts : List (Act E)) → allows acts → AnswersAreRight after taken number values acts → holds values → holds (λ l. value_within after (values l) acts l)) where
  told : (values : ℕ → V) (acts : List (Act E)) (ends : Bool) → (acts ≡ []) ⊎ allows acts → AnswersAreRight after taken number values acts → holds values → holds (λ l. fold after (values l) (cond ends (edits_in acts l) []))
  told values acts false what right held = held
  told values acts true (inl none) right held = subst (λ (xs : List (Act E)). holds (λ l. fold after (values l) (edits_in xs l))) (sym none) held
  told values acts true (inr allowed) right held = keeps values acts allowed right held

  module _ (b : Beginning V) (openings : ℕ → V) (are : AreOpenings (IsListed b.values) openings) where
    -- entries of which each records no more than is allowed keep it
    conserved : (earlier entries : List (EntryFields E)) → AllInTurn (MayFollow after taken number b) earlier entries → AllByRecursion (MayTell allows) entries
        → holds (λ l. value_of after (openings l) earlier l) → holds (λ l. value_of after (openings l) (earlier ++ entries) l)
    conserved earlier [] turns may held = subst (λ (es : List (EntryFields E)). holds (λ l. value_of after (openings l) es l)) (sym (append-nil earlier)) held
    conserved earlier (entry ∷ entries) turns may held =
        subst (λ (es : List (EntryFields E)). holds (λ l. value_of after (openings l) es l)) (append_assoc earlier (entry ∷ []) entries)
        (conserved (earlier ++ entry ∷ []) entries turns.1 may.1
        (subst holds (λ i l. sym (value_of-longer after (openings l) earlier entry l) i)
        (told (λ l. value_of after (openings l) earlier l) entry.acts (is_finish entry.event) may.0 (turns.0.answers openings are) held)))

  module _ (lock : LockFields) (passes : List (SeatOf V E)) (each : All (IsPassOf allows (HoldsOf holds) lock) passes) (all : (n : ℕ) → n < lock.site.passes → Any (λ pass. pass.number ≡ n) passes) (some : 0 < lock.site.passes)
      (entries : List (EntryFields E)) (values : List V) (closed : All (λ pass. IsClosedBy after taken number entries values pass) passes) where
    -- the seat of a number, with what is known of it
    record HasNumber (n : ℕ) : Type 0 where
      pub pass : SeatOf V E
      pub is : IsPassOf allows (HoldsOf holds) lock pass
      pub closes : IsClosedBy after taken number entries values pass
      pub number_is : pass.number ≡ n

    abbrev with_number : (n : ℕ) → n < lock.site.passes → HasNumber n
    with_number n less =
        let found = all n less in
        record {
          pass = found.1;
          is = subst (IsPassOf allows (HoldsOf holds) lock) found.3 (each found.0 found.1 found.2);
          closes = subst (IsClosedBy after taken number entries values) found.3 (closed found.0 found.1 found.2);
          number_is = found.4;
        }

    by_seat : (n : ℕ) → n < lock.site.passes → AllByRecursion (MayTell allows) (entries_by (λ (entry : EntryFields E). seat_of entry.event) n entries)
    by_seat n less =
        let found = with_number n less in
        subst (AllByRecursion (MayTell allows)) (sym found.closes.own ∙ ap (λ m. entries_by (λ (entry : EntryFields E). seat_of entry.event) m entries) found.number_is) found.is.keeps.told

    abbrev first : HasNumber 0
    first = with_number 0 some

    abbrev began : Beginning V
    began = first.is.rests.at.of.began

    opening : first.pass.opening ≡ Some began
    opening = first.is.rests.at.of.opening

    left : IsLeft after taken number began entries values
    left = first.closes.left began opening

    all_may : AllByRecursion (MayTell allows) entries
    all_may = all_from (MayTell allows) entries (λ entry there.
        let n = seat_of entry.event in
        let less : n < began.seats = all_at (λ (e : EntryFields E). seat_of e.event < began.seats) entries entry (seats_there after taken number began [] entries left.lawful) there in
        all_at (MayTell allows) (entries_by (λ (e : EntryFields E). seat_of e.event) n entries) entry (by_seat n (omega (arith, less, first.is.rests.at.of.all, first.is.rests.at.of.within)))
        (in_filter (λ (e : EntryFields E). seat_of e.event == n) entries entry there (eq-eqb n n refl)))

    law_began : HoldsOf holds began.values
    law_began = first.is.keeps.began began opening

    counted : length began.values ≡ began.groups.q
    counted = first.is.keeps.counted began opening

    -- the law holds of what is left
    pub law_left : HoldsOf holds values
    law_left = record {
      all = λ l. value_of after (law_began.all l) entries l;
      are = each_left;
      held = conserved began law_began.all law_began.are [] entries left.lawful all_may law_began.held;
    }
      where
        each_left : (l : ℕ) (value : V) → slice_get values l ≡ Some value → value_of after (law_began.all l) entries l ≡ value
        each_left l value listed =
            let inside : l < length values = slice_get_within values l value listed in
            let there = get_there began.values l (omega (arith, inside, left.count, counted)) in
            same_item _ value (sym (left.each l (law_began.all l) (there.1 ∙ ap Some (sym (law_began.are l there.0 there.1)))) ∙ listed)

    -- there are as many as there were
    pub count_left : length values ≡ lock.groups.q
    count_left = left.count ∙ ap (λ g. g.q) (first.is.rests.at.over began opening)

-- ---- what is left

-- the value that the law speaks of is the one that was left there
pub value_left : {A V : Type 0} (f : A → V) (holds : (ℕ → V) → Type 0) (items : List A) (law : HoldsOf holds (map f items)) (l : ℕ) (x : A) → l < length items → x ≡ get_or items l x → law.all l ≡ f x
value_left f holds items law l x inside is = law.are l (f x) (slice_get-map f items l ∙ ap (option_map f) (slice_get-get_or items l x inside ∙ ap Some (sym is)))
