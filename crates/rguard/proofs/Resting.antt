-- What seats between two sections may ask for, and what is held of each member of a set. For proofs above.
use Rattle.std.proofs.Common.{◌≡◌, ℕ, ◌<◌, ◌==◌, ◌||◌, true, false, Bool, Some, List, [], ◌∷◌, length, refl, sym, ap, subst, ◌∙◌}
use Rattle.std.specs.Prelude.{IsTrue, All, slice_get}
use Rattle.std.specs.FinSet.{empty, contains, union}
use Rattle.std.specs.List.{AllByRecursion, list_any}
use Rattle.std.proofs.lemmas.Bool.{eq-eqb, or_left, or_right}
use Rattle.std.proofs.lemmas.Option.{get_or_from_slice_get}
use Rattle.rset.specs.Sets.{Set, all_below, rising}
use Rattle.rset.proofs.SetsBelow.{all_below_empty}
use Rattle.rset.proofs.SetsRising.{rising_member}
use Rattle.rset.proofs.SetMembers.{contains_union}
use Rattle.rset.proofs.SetsWithin.{within_reflexive}
use Rattle.rexpand.specs.Groups.{ReadGroups, is_inside}
use Rattle.rexpand.proofs.DeclaredLemmas.{declared_inside}
use Rattle.rclaim.specs.Requests.{RequestFields, normalised}
use Rattle.rclaim.specs.declared.request.Kind.TheVariants as kinds
use Rattle.rmodel.specs.Claims.{is_admitted}
use Rattle.rlock.specs.Known.{Site, newcomer}
use Rattle.rstate.specs.Histories.{Beginning}
use Rattle.rstate.specs.Contents.{Contents}
use Rattle.rstate.proofs.homes.Lists.{same_item}
use Rattle.rguard.specs.Resting.{IsAt, Rests, MayWriteAll}
use Rattle.rguard.specs.Seats.{SeatOf, IsOf, IsIdle, SuitsSeat}

-- what holds of each member holds of each by rising number
pub each_rising : (P : ℕ → Type 0) (s : Set) → ((l : ℕ) → contains s l ≡ true → P l) → AllByRecursion P (rising s)
each_rising P s holds = each (rising s) (λ l there. holds l (rising_member s l there))
  where
    each : (xs : List ℕ) → ((l : ℕ) → list_any (λ y. y == l) xs ≡ true → P l) → AllByRecursion P xs
    each [] at = tt
    each (x ∷ xs) at = (
      at x (or_left (x == x) (list_any (λ y. y == x) xs) (eq-eqb x x refl)),
      each xs (λ l there. at l (or_right (x == l) (list_any (λ y. y == l) xs) there)),
    )

module _ {V E : Type 0} where
  -- a seat that may write two sets may write each of them
  pub write_left : (s t : Set) (seat : SeatOf V E) → MayWriteAll (union s t) seat → MayWriteAll s seat
  write_left s t seat both l there = both l (contains_union s t l ∙ or_left (contains s l) (contains t l) there)

  pub write_right : (s t : Set) (seat : SeatOf V E) → MayWriteAll (union s t) seat → MayWriteAll t seat
  write_right s t seat both l there = both l (contains_union s t l ∙ or_right (contains s l) (contains t l) there)

-- the one set that is declared lies inside itself
pub is_inside_itself : (group : Set) → is_inside (group ∷ []) group ≡ true
unfolding is_inside
is_inside_itself group = ap (λ (b : Bool). b || false) (within_reflexive group)

module _ {V E : Type 0} (groups : ReadGroups) (site : Site) where
  -- a request that suits the read groups suits the seat
  pub suits : (seat : SeatOf V E) (r : RequestFields) → IsAt groups site seat → all_below groups.q r.reads ≡ true → all_below groups.q r.writes ≡ true → is_admitted groups.groups r ≡ true → SuitsSeat seat r
  suits seat r at reads writes admitted b opens =
      let is : b.groups ≡ groups = at.over b opens in
      record {
        reads = subst (λ (g : ReadGroups). IsTrue (all_below g.q r.reads)) (sym is) reads;
        writes = subst (λ (g : ReadGroups). IsTrue (all_below g.q r.writes)) (sym is) writes;
        admitted = subst (λ (g : ReadGroups). IsTrue (is_admitted g.groups r)) (sym is) admitted;
      }

  pub suits_to_write : (seat : SeatOf V E) (set : Set) → IsAt groups site seat → all_below groups.q set ≡ true → SuitsSeat seat (normalised kinds.Write set set set 1 0)
  suits_to_write seat set at below = suits seat (normalised kinds.Write set set set 1 0) at (all_below_empty groups.q) below refl

  pub suits_to_read : (seat : SeatOf V E) (set : Set) → IsAt groups site seat → all_below groups.q set ≡ true → (set ≡ empty → ⊥) → is_inside groups.groups set ≡ true → SuitsSeat seat (normalised kinds.Read set set set 1 0)
  suits_to_read seat set at below some inside = suits seat (normalised kinds.Read set set set 1 0) at below (all_below_empty groups.q) (declared_inside groups.groups set some inside)

  -- the seats of a new runtime rest
  pub rest_new : (seats : List (SeatOf V E)) (n : ℕ) (began : Beginning V) (state : Contents V E) → length seats ≡ n → All (λ seat. IsOf site seat × IsIdle seat) seats
      → ((k : ℕ) → k < n → slice_get seats k ≡ Some (newcomer site.gate k began state)) → began.groups ≡ groups → All (Rests groups site) seats
  rest_new seats n began state count all each over k d less =
      let below : k < n = subst (λ m. k < m) count less in
      record {
        at = record {
          of = (all k d less).0;
          over = λ b opens. ap (λ (x : Beginning V). x.groups) (sym (same_item began b (sym (ap (λ (s : SeatOf V E). s.opening) (get_or_from_slice_get seats k _ d (each k below))) ∙ opens))) ∙ over;
        };
        idle = (all k d less).1;
      }
