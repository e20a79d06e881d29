-- The last state of a lock: all seats are idle, so no request is incomplete, and what a seat knows of it.
use Rattle.std.proofs.Common.{◌≡◌, ℕ, ◌<◌, ◌≤◌, ◌==◌, Bool, false, List, length, Option, Some, sym, ap, subst, ◌∙◌, inl, inr, ◌⊎◌, arith}
use Rattle.std.specs.Prelude.{slice_get, slice_index_or, All, Any}
use Rattle.std.proofs.lemmas.Bool.{eqb-true, cases_lt}
use Rattle.rclaim.specs.Events.{seat_of}
use Rattle.rlock.specs.Known.{Site, IsTrueOf}
use Rattle.rmodel.specs.declared.claimed.Claimed.{Claimed}
use Rattle.rmodel.specs.Holds.{has_request}
use Rattle.rmodel.proofs.ListFacts.{all_at, none_from, false_from}
use Rattle.rvalue.specs.Entries.{EntryFields}
use Rattle.rwatch.specs.Seen.{Seen}
use Rattle.rstate.specs.Contents.{Contents, lock_of, value_now}
use Rattle.rstate.specs.Histories.{Beginning, HaveBeenTold, IsLawfulFrom}
use Rattle.rstate.proofs.histories.Following.{reached_lawful}
use Rattle.rstate.proofs.homes.Lists.{same_item}
use Rattle.rguard.specs.Closing.{IsLeft, IsClosedBy, IsToldTo}
use Rattle.rguard.specs.Seats.{SeatOf, IsOf, IsIdle, is_busy}
use Rattle.rguard.proofs.Ending.{sizes}
use Rattle.rguard.proofs.seats.Idle.{idle_has_none}

-- what a seat knows of the last state
abbrev pub Tells : {V E : Type 0} → SeatOf V E → Contents V E → Type 0
Tells {V} {E} k c = IsTrueOf (λ (entry : EntryFields E). seat_of entry.event) (λ n (before later : Contents V E). slice_get later.taken n ≡ slice_get before.taken n) k c.beginning c.entries c

module _ {V E : Type 0} (after : V → E → V) (taken : V → E → Bool) (number : V → ℕ) (site : Site) (seats : List (SeatOf V E)) (last : Contents V E)
    (of : All (λ k. IsOf site k) seats) (idle : All (λ k. IsIdle k) seats) (all : (n : ℕ) → n < site.seats → Any (λ k. k.number ≡ n) seats)
    (tells : All (λ k. Tells k last) seats) (lawful : IsLawfulFrom after taken number last.beginning last.entries) (some : 0 < site.seats) where
  -- a seat knows how many there are
  seats_are : last.beginning.seats ≡ site.seats
  seats_are =
      let any = all 0 some in
      let its = of any.0 any.1 any.2 in
      ap (λ (d : Beginning V). d.seats) (same_item last.beginning its.began (sym (tells any.0 any.1 any.2).its_opening ∙ its.opening)) ∙ its.all

  -- no request is incomplete
  pub no_request : (n : ℕ) → has_request (lock_of last).claims n ≡ false
  no_request n = by_size (cases_lt n site.seats)
    where
      beyond : (m n s p : ℕ) → m < s → s ≡ p → p ≤ n → m ≡ n → ⊥
      beyond m n s p less is above same = omega arith

      by_size : (n < site.seats) ⊎ (site.seats ≤ n) → has_request (lock_of last).claims n ≡ false
      by_size (inl less) =
          let any = all n less in
          let k : SeatOf V E = slice_index_or seats any.0 any.1 in
          let is : k.number ≡ n = ap (λ (x : SeatOf V E). x.number) any.3 ∙ any.4 in
          subst (λ m. has_request (lock_of last).claims m ≡ false) is
          (idle_has_none after taken number last.beginning k.number last.entries lawful (ap is_busy (tells any.0 any.1 any.2).own ∙ idle any.0 any.1 any.2))
      by_size (inr above) =
          none_from (λ (x : Claimed). x.claim.seat == n) (lock_of last).claims (λ x there. false_from (x.claim.seat == n) (λ h.
          beyond x.claim.seat n (lock_of last).seats site.seats (all_at (λ x. x.claim.seat < (lock_of last).seats) (lock_of last).claims x (reached_lawful after taken number last.beginning last.entries lawful).sound.seated there)
          ((sizes last.beginning last.entries).seats ∙ seats_are) above (eqb-true x.claim.seat n h)))

-- what is left, as a seat knows it
pub closed_by : {V E : Type 0} (after : V → E → V) (taken : V → E → Bool) (number : V → ℕ) (k : SeatOf V E) (last : Contents V E) (entries : List (EntryFields E)) (values : List V) → Tells k last → entries ≡ last.entries
    → IsLawfulFrom after taken number last.beginning last.entries → length values ≡ last.beginning.groups.q
    → ((l : ℕ) (opening : V) → slice_get last.beginning.values l ≡ Some opening → slice_get values l ≡ Some (value_now after last l opening)) → IsClosedBy after taken number entries values k
closed_by {V} {E} after taken number k last entries values tells same lawful count each =
    subst (λ (es : List (EntryFields E)). IsClosedBy after taken number es values k) (sym same) (record {
      left = λ b opens. subst (λ (d : Beginning V). IsLeft after taken number d last.entries values) (same_item last.beginning b (sym tells.its_opening ∙ opens)) (record { lawful = lawful; count = count; each = each });
      begins = tells.begins;
      own = tells.own;
    })

-- and the watchers were given its steps
pub told_to : {V E : Type 0} (k : SeatOf V E) (last : Contents V E) (entries : List (EntryFields E)) (watched : Option (List Seen)) → Tells k last → entries ≡ last.entries → HaveBeenTold last.beginning last.entries watched → IsToldTo watched entries k
told_to {V} {E} k last entries watched tells same told =
    λ b opens. subst (λ (es : List (EntryFields E)). HaveBeenTold b es watched) (sym same)
    (subst (λ (d : Beginning V). HaveBeenTold d last.entries watched) (same_item last.beginning b (sym tells.its_opening ∙ opens)) told)
