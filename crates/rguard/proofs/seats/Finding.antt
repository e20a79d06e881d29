-- What a seat finds in its turn: the entries of others after what it had seen, and what still holds of its own.
use Rattle.std.proofs.Common.{◌≡◌, ℕ, Bool, true, false, List, [], ◌++◌, Some, sym, ap, subst, ◌∙◌}
use Rattle.std.specs.Prelude.{slice_get}
use Rattle.std.specs.List.{list_any}
use Rattle.rclaim.specs.Events.{seat_of}
use Rattle.rclaim.specs.declared.claim.Claim.{Claim}
use Rattle.rlock.specs.Known.{Site, IsTrueOf, entries_by}
use Rattle.rmodel.specs.declared.granted.Granted.{Granted}
use Rattle.rmodel.specs.Holds.{holds_of, is_within}
use Rattle.rmodel.specs.Reached.{IsReached}
use Rattle.rmodel.specs.Steps.{is_not_holding}
use Rattle.rvalue.specs.Entries.{EntryFields}
use Rattle.rvalue.specs.Histories.{value_of}
use Rattle.rvalue.specs.InTurn.{AllInTurn}
use Rattle.rstate.specs.Contents.{Contents, lock_of}
use Rattle.rstate.specs.Histories.{Beginning, lock_after, MayFollow, IsLawfulFrom}
use Rattle.rstate.specs.Laws.{is_held_by}
use Rattle.rstate.proofs.histories.Following.{in_turn_parts, reached_lawful}
use Rattle.rstate.proofs.histories.Staying.{held_along, value_along}
use Rattle.rstate.proofs.homes.Lists.{same_item}
use Rattle.rguard.specs.Seats.{SeatOf}
use Rattle.rguard.specs.LentSections.{held_at, HasTaken, Knows}
use Rattle.rguard.proofs.seats.Along.{AreOfOthers, maker, others_behind, claim_along, holding_along, none_given}

-- the state that a seat finds, of a lock that began like this
pub record Finds {V E : Type 0} (after : V → E → V) (taken : V → E → Bool) (number : V → ℕ) (b : Beginning V) (k : SeatOf V E) (c : Contents V E) : Type 0 where
  pub began : c.beginning ≡ b
  pub more : List (EntryFields E)
  pub is : c.entries ≡ k.seen ++ more
  pub others : AreOfOthers k.number more
  pub reached : IsReached (lock_after b k.seen)
  pub fits : AllInTurn (MayFollow after taken number b) k.seen more
  pub lawful : IsLawfulFrom after taken number b c.entries
  pub own : entries_by maker k.number c.entries ≡ k.mine
  pub has_taken : (g : Granted) → HasTaken k g → slice_get c.taken k.number ≡ Some g

module _ {V E : Type 0} (after : V → E → V) (taken : V → E → Bool) (number : V → ℕ) (b : Beginning V) where
  -- by what the gate says of the seat, and the state of its history
  pub finds : (site : Site) (k : SeatOf V E) (c : Contents V E) → Knows after taken number b site k
      → IsTrueOf (λ (entry : EntryFields E). seat_of entry.event) (λ n (before later : Contents V E). slice_get later.taken n ≡ slice_get before.taken n) k c.beginning c.entries c
      → IsLawfulFrom after taken number c.beginning c.entries → Finds after taken number b k c
  finds site k c knows tells lawful = record {
    began = began;
    more = tells.begins.0;
    is = sym tells.begins.1;
    others = others_behind k.number k.seen tells.begins.0 (ap (entries_by maker k.number) tells.begins.1 ∙ tells.own ∙ sym knows.own);
    reached = reached_lawful after taken number b k.seen knows.lawful;
    fits = (in_turn_parts (MayFollow after taken number b) [] k.seen tells.begins.0 (subst (λ es. IsLawfulFrom after taken number b es) (sym tells.begins.1) lawful_b)).1;
    lawful = lawful_b;
    own = tells.own;
    has_taken = λ g took. tells.its_last.2 ∙ took tells.its_last.0 tells.its_last.1;
  }
    where
      began : c.beginning ≡ b
      began = same_item c.beginning b (sym tells.its_opening ∙ knows.opening)

      lawful_b : IsLawfulFrom after taken number b c.entries
      lawful_b = subst (λ d. IsLawfulFrom after taken number d c.entries) began lawful

  module _ (k : SeatOf V E) (c : Contents V E) (f : Finds after taken number b k c) where
    pub lock_is : lock_of c ≡ lock_after b c.entries
    lock_is = ap (λ d. lock_after d c.entries) f.began

    pub reached_now : IsReached (lock_after b c.entries)
    reached_now = reached_lawful after taken number b c.entries f.lawful

    -- what it holds it still holds
    pub within_later : is_within (held_at b k) (holds_of (lock_after b c.entries).claims k.number) ≡ true
    within_later = subst (λ es. is_within (held_at b k) (holds_of (lock_after b es).claims k.number) ≡ true) (sym f.is)
        (held_along after taken number b k.number k.seen f.more f.reached f.fits (none_given after taken number b k.number f.more f.others))

    -- and its value is the same
    pub value_later : (l : ℕ) → is_held_by (lock_after b k.seen) k.number l ≡ true → (v : V) → value_of after v c.entries l ≡ value_of after v k.seen l
    value_later l held v = subst (λ es. value_of after v es l ≡ value_of after v k.seen l) (sym f.is)
        (value_along after taken number b k.number k.seen f.more l f.reached f.fits (none_given after taken number b k.number f.more f.others) held v)

    pub claim_later : (q : Claim → Bool) → ((x : Claim) → q x ≡ true → x.seat ≡ k.number) → list_any (λ x. q x.claim) (lock_after b c.entries).claims ≡ list_any (λ x. q x.claim) (lock_after b k.seen).claims
    claim_later q of = subst (λ es. list_any (λ x. q x.claim) (lock_after b es).claims ≡ list_any (λ x. q x.claim) (lock_after b k.seen).claims) (sym f.is)
        (claim_along after taken number b k.number q of k.seen f.more f.reached f.fits f.others)

    pub holding_later : is_not_holding (lock_after b k.seen).claims k.number ≡ false → is_not_holding (lock_after b c.entries).claims k.number ≡ false
    holding_later holding = subst (λ es. is_not_holding (lock_after b es).claims k.number ≡ false) (sym f.is)
        (holding_along after taken number b k.number k.seen f.more f.reached f.fits f.others holding)
