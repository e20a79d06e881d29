-- A lock as it begins.
use Rattle.std.proofs.Common.{◌≡◌, ℕ, ◌+◌, ◌≤◌, Bool, List, [], map, length, replicate, Some, refl, sym, ap, subst, ◌∙◌, arith}
use Rattle.std.proofs.lemmas.List.{length-replicate, length-map}
use Rattle.rmodel.specs.declared.granted.Granted.{Granted}
use Rattle.rmodel.specs.Holds.{nothing, holds_of, is_within}
use Rattle.rmodel.specs.State.{LockState}
use Rattle.rmodel.proofs.reaching.HeldBySeat.{nothing_within}
use Rattle.rvalue.specs.Entries.{EntryFields}
use Rattle.rstate.specs.Contents.{IsState}
use Rattle.rstate.specs.Histories.{Beginning, first_of}
use Rattle.rstate.specs.Shares.{ShareFields, whole}
use Rattle.rstate.proofs.homes.Counts.{home_at_first}
use Rattle.rstate.proofs.homes.Lists.{get_map, get_replicate}

module _ {V E : Type 0} (after : V → E → V) (taken_by : V → E → Bool) (number : V → ℕ) where
  begins : (spare : ℕ) (b : Beginning V) (room : ℕ) → length b.values ≡ b.groups.q → length (map (whole (b.seats + 1)) b.values) ≤ room
      → IsState after taken_by number (first_of b) spare (record { beginning = b; entries = []; taken = replicate b.seats nothing }) (map (whole (b.seats + 1)) b.values) 0 room
  begins spare b room many enough = record {
    kept = record {
      machine_is = refl;
      lawful = tt;
      taken_is = record {
        each_seat = length-replicate b.seats nothing;
        within = λ n g there. ap (λ (h : Granted). is_within h (holds_of [] n)) (get_replicate b.seats n nothing g there) ∙ nothing_within (holds_of [] n);
      };
      room = omega arith;
      values = many;
    };
    homes = record {
      each = λ l v there. get_map (whole (b.seats + 1)) b.values l v there ∙ ap Some (sym (home_at_first b.seats b.seats l v));
      all = length-map b.values (whole (b.seats + 1));
    };
    none_given = refl;
    closing = enough;
  }

  pub state_begins : (m : LockState) (spare : ℕ) (b : Beginning V) (entries : List (EntryFields E)) (taken : List Granted) (at_home : List (ShareFields V)) (given room : ℕ)
      → m ≡ first_of b → entries ≡ [] → taken ≡ replicate b.seats nothing → at_home ≡ map (whole (b.seats + 1)) b.values → given ≡ 0 → length b.values ≡ b.groups.q → length at_home ≤ room
      → IsState after taken_by number m spare (record { beginning = b; entries = entries; taken = taken }) at_home given room
  state_begins m spare b entries taken at_home given room first none untaken homes empty many enough =
      subst (λ (n : ℕ). IsState after taken_by number m spare (record { beginning = b; entries = entries; taken = taken }) at_home n room) (sym empty)
      (subst (λ (s : LockState). IsState after taken_by number s spare (record { beginning = b; entries = entries; taken = taken }) at_home 0 room) (sym first)
      (subst (λ (es : List (EntryFields E)). IsState after taken_by number (first_of b) spare (record { beginning = b; entries = es; taken = taken }) at_home 0 room) (sym none)
      (subst (λ (ts : List Granted). IsState after taken_by number (first_of b) spare (record { beginning = b; entries = []; taken = ts }) at_home 0 room) (sym untaken)
      (subst (λ (hs : List (ShareFields V)). IsState after taken_by number (first_of b) spare (record { beginning = b; entries = []; taken = replicate b.seats nothing }) hs 0 room) (sym homes)
      (begins spare b room many (subst (λ (hs : List (ShareFields V)). length hs ≤ room) homes enough))))))
