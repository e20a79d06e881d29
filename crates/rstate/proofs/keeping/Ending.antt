-- A lock at its end: while no request is incomplete everything is at home.
use Rattle.std.proofs.Common.{◌≡◌, ℕ, suc, ◌+◌, ◌<◌, Bool, true, false, List, [], ◌∷◌, Some, refl, sym, ap, subst, ◌∙◌, arith}
use Rattle.std.specs.Prelude.{slice_get}
use Rattle.std.specs.FinSet.{contains}
use Rattle.std.specs.List.{AllByRecursion}
use Rattle.std.proofs.lemmas.Option.{slice_get_within}
use Rattle.rset.proofs.SetLemmas.{contains_empty}
use Rattle.rmodel.specs.declared.granted.Granted.{Granted}
use Rattle.rmodel.specs.Holds.{nothing, has_request, is_within}
use Rattle.rmodel.specs.State.{LockState}
use Rattle.rmodel.proofs.reaching.HeldBySeat.{within_nothing, idle_holds_nothing}
use Rattle.rvalue.specs.Entries.{EntryFields}
use Rattle.rvalue.specs.Histories.{value_of}
use Rattle.rstate.specs.Contents.{IsState}
use Rattle.rstate.specs.Histories.{Beginning}
use Rattle.rstate.specs.Shares.{ShareFields, whole}
use Rattle.rstate.proofs.homes.Counts.{home_by, home_whole}
use Rattle.rstate.proofs.homes.Lists.{any_none, count_none, get_there, same_item}

all_by_place : {X : Type 0} (P : X → Type 0) (xs : List X) → ((l : ℕ) (x : X) → slice_get xs l ≡ Some x → P x) → AllByRecursion P xs
all_by_place P [] each = tt
all_by_place P (x ∷ xs) each = (each 0 x refl, all_by_place P xs (λ l y there. each (suc l) y there))

module _ {V E : Type 0} (after : V → E → V) (taken_by : V → E → Bool) (number : V → ℕ)
    (m : LockState) (spare : ℕ) (b : Beginning V) (entries : List (EntryFields E)) (taken : List Granted) (at_home : List (ShareFields V)) (given room : ℕ)
    (was : IsState after taken_by number m spare (record { beginning = b; entries = entries; taken = taken }) at_home given room)
    (idle : (seat : ℕ) → has_request m.claims seat ≡ false) where
  nobody : (k : ℕ) (g : Granted) → slice_get taken k ≡ Some g → g ≡ nothing
  nobody k g there = within_nothing g (subst (λ (h : Granted). is_within g h ≡ true) (idle_holds_nothing m.claims k (idle k)) (was.kept.taken_is.within k g there))

  -- each home has all shares
  pub home_now : (l : ℕ) (v : V) → slice_get b.values l ≡ Some v → slice_get at_home l ≡ Some (whole (b.seats + 1) (value_of after v entries l))
  home_now l v listed =
      was.homes.each l v listed
      ∙ (λ i. Some (home_by b.seats
      (any_none (λ g. contains g.writes l) taken (λ k g there. ap (λ (h : Granted). contains h.writes l) (nobody k g there) ∙ contains_empty l) i)
      (count_none (λ g. contains g.reads l) taken (λ k g there. ap (λ (h : Granted). contains h.reads l) (nobody k g there) ∙ contains_empty l) i) (value_of after v entries l)))
      ∙ ap Some (sym (home_whole b.seats (value_of after v entries l)))

  pub all_home : AllByRecursion (λ home. 0 < home.count) at_home
  all_home = all_by_place (λ home. 0 < home.count) at_home (λ l x there.
      let v = get_there b.values l (subst (λ n. l < n) was.homes.all (slice_get_within at_home l x there)) in
      let is = same_item x (whole (b.seats + 1) (value_of after v.0 entries l)) (sym there ∙ home_now l v.0 v.1) in
      subst (λ (s : ShareFields V). 0 < s.count) (sym is) (some b.seats))
    where
      some : (n : ℕ) → 0 < n + 1
      some n = omega arith
