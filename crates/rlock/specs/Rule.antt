-- The rule of the gate, which holds between any two atomic steps.
use Rattle.std.specs.Prelude.{◌≡◌, ℕ, ◌%◌, ◌^◌, ◌<◌, ◌≤◌, ◌⊎◌, Option, Some, List, [], ◌∷◌, length, All, IsTrue}
use mathlib.Core.List.{IsPrefix}
use mathlib.Core.Option as maybe
use lib.ListN.{get_elem?}
use Rattle.atomic_table.specs.Table.{State}
use Rattle.rlock.specs.declared.view.View.{View}
use Rattle.rlock.specs.declared.view.Member.{Member}
use Rattle.rlock.specs.Known.{entries_by}
use Rattle.rlock.specs.Views.{ticket_of, has_turn, state_out, holders, drawers, turns_taken}

module _ {S O E : Type 0} where
  -- it holds of each view
  abbrev pub Each : (View S O E → Type 0) → List (View S O E) → Type 0
  Each P views = (id : ℕ) (v : View S O E) → get_elem? views id ≡ maybe.some v → P v

  -- Each number below the number of passes is in just one view, once: as that of its pass, of a pass that was joined, or of one that is still to be
  -- given out. No other number is in any view
  pub record Numbers (passes : ℕ) (views : List (View S O E)) : Type 0 where
    pub few : passes < 256
    pub once : (n : ℕ) → n < passes → holders n views ≡ 1
    pub no_other : (n : ℕ) → passes ≤ n → holders n views ≡ 0

  -- The tickets in the views are the numbers from `served` up to, not including, `drawn`, each in one view. The words count them modulo 2^64. A view with a ticket is that of a pass
  pub record Tickets (served drawn : ℕ) (words : List ℕ) (views : List (View S O E)) : Type 0 where
    pub ordered : served ≤ drawn
    pub counted : words ≡ drawn % 2 ^ 64 ∷ served % 2 ^ 64 ∷ []
    pub out : (t : ℕ) → served ≤ t → t < drawn → drawers t views ≡ 1
    pub spent : (t : ℕ) → t < served → drawers t views ≡ 0
    pub later : (t : ℕ) → drawn ≤ t → drawers t views ≡ 0
    pub of_passes : Each (λ v. length (ticket_of v.mode) ≤ length v.members) views

  -- a view has the turn only where its ticket is the one that is served
  abbrev pub HasServedTicket : ℕ → View S O E → Type 0
  HasServedTicket served v = IsTrue (has_turn v.mode) → ticket_of v.mode ≡ served ∷ []

  -- what was seen is a beginning of the kept list, and the longest of these is all of it
  pub record Prefixes (log : List E) (views : List (View S O E)) : Type 0 where
    pub seen : Each (λ v. IsPrefix v.seen log) views
    pub longest : (id : ℕ) × (v : View S O E) × (get_elem? views id ≡ maybe.some v) × (v.seen ≡ log)
    pub olds : Each (λ v. All (λ old. IsPrefix old log) v.olds) views

  -- The entries of the kept list with a member's number are those that it has made, and each has the number of a pass
  pub record OwnEntries (number : E → ℕ) (passes : ℕ) (log : List E) (views : List (View S O E)) : Type 0 where
    pub made : Each (λ v. All (λ (m : Member S O E). entries_by number m.number log ≡ m.mine) v.members) views
    pub known : All (λ e. number e < passes) log

  -- since a member left the state, others have done to it only what turns of others may. While the state is out, it is as it was found until the pass
  -- announces the state that it leaves
  abbrev pub Lasts : (ℕ → S → S → Type 0) → S → List (View S O E) → Type 0
  Lasts stays state views = Each (λ v. All (λ (m : Member S O E). stays m.number m.last state) v.members) views

  -- a view that has the turn has seen the kept list, and the state is out with it
  abbrev pub HasSeen : List E → S → View S O E → Type 0
  HasSeen log state v = IsTrue (has_turn v.mode) → (v.seen ≡ log) × (state_out v.mode ≡ Some state)

  -- away: the state is out with the one view that has the turn
  pub record IsAway (log : List E) (state : S) (homes : List (maybe.Option (Option S))) (views : List (View S O E)) : Type 0 where
    pub gone : homes ≡ maybe.none ∷ []
    pub one : turns_taken views ≡ 1
    pub its_seen : Each (HasSeen log state) views

  module _ (opening : S → O) (entries : S → List E) where
    -- at home: the slot has the state, whose list is the kept one, and no view has the turn
    pub record IsHome (o : O) (log : List E) (state : S) (homes : List (maybe.Option (Option S))) (views : List (View S O E)) : Type 0 where
      pub there : homes ≡ maybe.some (Some state) ∷ []
      pub its_opening : opening state ≡ o
      pub its_entries : entries state ≡ log
      pub nobody : turns_taken views ≡ 0

    -- all members of all views have the same opening, which at home is the state's
    pub record Home (o : O) (log : List E) (state : S) (homes : List (maybe.Option (Option S))) (views : List (View S O E)) : Type 0 where
      pub openings : Each (λ v. All (λ (m : Member S O E). m.opening ≡ o) v.members) views
      pub place : IsHome o log state homes views ⊎ IsAway log state homes views

module _ {S O E : Type 0} (opening : S → O) (entries : S → List E) (number : E → ℕ) (stays : ℕ → S → S → Type 0) (passes : ℕ) (o : O) where
  -- the rule, for some kept list, some state and some counts of tickets
  pub record GateHolds (s : State (Option S) (View S O E)) : Type 0 where
    pub log : List E
    pub state : S
    pub served : ℕ
    pub drawn : ℕ
    pub numbers : Numbers passes s.views
    pub tickets : Tickets served drawn s.words s.views
    pub turn : Each (HasServedTicket served) s.views
    pub prefixes : Prefixes log s.views
    pub own_entries : OwnEntries number passes log s.views
    pub lasts : Lasts stays state s.views
    pub home : Home opening entries o log state s.homes s.views
