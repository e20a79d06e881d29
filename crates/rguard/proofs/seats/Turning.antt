-- A seat after a turn.
use Rattle.std.proofs.Common.{◌≡◌, ℕ, Bool, List, [], ◌∷◌, ◌++◌, Some, refl, sym, ap, subst, ◌∙◌, append_assoc, append-nil}
use Rattle.std.specs.Prelude.{slice_get}
use Rattle.std.proofs.Math.Seq.{drop-append_seam}
use Rattle.std.proofs.lemmas.List.Elements.{All-nil, All-cons}
use Rattle.rclaim.specs.Events.{seat_of}
use Rattle.rlock.specs.Known.{Site, Appends, entered, left, new_entries, entries_by}
use Rattle.rlock.proofs.Entries.{entries_by-append}
use Rattle.rmodel.specs.declared.granted.Granted.{Granted}
use Rattle.rvalue.specs.Entries.{EntryFields}
use Rattle.rstate.specs.Contents.{Contents}
use Rattle.rstate.specs.Histories.{Beginning, IsLawfulFrom}
use Rattle.rstate.proofs.homes.Lists.{same_item}
use Rattle.rguard.specs.Seats.{SeatOf, Goes, IsOneTurn}
use Rattle.rguard.specs.LentSections.{HasTaken, Knows}
use Rattle.rguard.proofs.seats.Along.{maker}
use Rattle.rguard.proofs.seats.Finding.{Finds}

-- `found` is the state at the entry, and `now` that at the leave, with these entries added
module _ {V E : Type 0} (after : V → E → V) (taken : V → E → Bool) (number : V → ℕ) (b : Beginning V) (k : SeatOf V E) (found now : Contents V E) (pass later : SeatOf V E) (more : List (EntryFields E))
    (f : Finds after taken number b k found) (longer : now.entries ≡ found.entries ++ more) (pass_is : pass ≡ entered k found.entries) (left_is : later ≡ left pass now.entries now) where
  later_is : later ≡ left (entered k found.entries) now.entries now
  later_is = left_is ∙ ap (λ (p : SeatOf V E). left p now.entries now) pass_is

  new_are : new_entries found.entries now.entries ≡ more
  new_are = ap (new_entries found.entries) longer ∙ drop-append_seam found.entries more

  pub went : Goes k more later
  went = subst (λ (x : SeatOf V E). Goes k more x) (sym later_is) (record {
    same = (refl, refl, refl);
    seen = (f.more ++ more, sym (append_assoc k.seen f.more more) ∙ ap (λ es. es ++ more) (sym f.is) ∙ sym longer);
    mine = ap (λ es. k.mine ++ es) new_are;
  })

  pub one_turn : IsOneTurn k more later
  one_turn = subst (λ (x : SeatOf V E). IsOneTurn k more x) (sym later_is) (record {
    found = found.entries;
    begins = (f.more, sym f.is);
    seen = longer;
    turns = refl;
  })

  pub seen_is : later.seen ≡ now.entries
  seen_is = ap (λ (x : SeatOf V E). x.seen) later_is

  pub number_is : later.number ≡ k.number
  number_is = ap (λ (x : SeatOf V E). x.number) later_is

  -- what it had taken when it left
  pub has_now : (g : Granted) → slice_get now.taken k.number ≡ Some g → HasTaken later g
  has_now g there = subst (λ (x : SeatOf V E). HasTaken x g) (sym later_is) (λ last is.
      ap (λ (c : Contents V E). slice_get c.taken k.number) (sym (same_item now last is)) ∙ there)

  pub knows_now : (site : Site) → Knows after taken number b site k → IsLawfulFrom after taken number b now.entries → entries_by maker k.number more ≡ more → Knows after taken number b site later
  knows_now site knows lawful of_seat = subst (λ (x : SeatOf V E). Knows after taken number b site x) (sym later_is) (record {
    gate = knows.gate;
    opening = knows.opening;
    there = knows.there;
    all = knows.all;
    enough = knows.enough;
    lawful = lawful;
    own = ap (entries_by maker k.number) longer ∙ entries_by-append maker k.number found.entries more ∙ (λ i. f.own i ++ of_seat i) ∙ ap (λ es. k.mine ++ es) (sym new_are);
    values = knows.values;
  })

-- the list that a turn leaves has one more entry, of the seat
pub appends_one : {V E : Type 0} (k pass : SeatOf V E) (found now : Contents V E) (e : EntryFields E) → seat_of e.event ≡ k.number → now.entries ≡ found.entries ++ e ∷ [] → pass ≡ entered k found.entries
    → Appends (λ (entry : EntryFields E). seat_of entry.event) pass.number pass.seen now.entries
appends_one {V} {E} k pass found now e of longer pass_is = (
  e ∷ [],
  longer ∙ ap (λ (p : SeatOf V E). p.seen ++ e ∷ []) (sym pass_is),
  All-cons (λ (entry : EntryFields E). seat_of entry.event ≡ pass.number) e [] (of ∙ ap (λ (p : SeatOf V E). p.number) (sym pass_is)) (All-nil (λ (entry : EntryFields E). seat_of entry.event ≡ pass.number)),
)

-- or no more
pub appends_none : {V E : Type 0} (k pass : SeatOf V E) (found now : Contents V E) → now.entries ≡ found.entries → pass ≡ entered k found.entries → Appends (λ (entry : EntryFields E). seat_of entry.event) pass.number pass.seen now.entries
appends_none {V} {E} k pass found now same pass_is = (
  [],
  same ∙ ap (λ (p : SeatOf V E). p.seen) (sym pass_is) ∙ sym (append-nil pass.seen),
  All-nil (λ (entry : EntryFields E). seat_of entry.event ≡ pass.number),
)
