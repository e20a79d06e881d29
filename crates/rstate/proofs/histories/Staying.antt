-- What a seat holds stays as it was: the seat still holds it, and nobody edits it.
use Rattle.std.proofs.Common.{◌≡◌, ◌≢◌, ℕ, ◌==◌, Bool, true, false, cond, IsTrue, List, [], ◌∷◌, ◌++◌, fold, refl, sym, ap, subst, ◌∙◌, inl, inr, append_assoc, append-nil}
use Rattle.std.proofs.lemmas.Bool.{eq-eqb, eqb-true, or_cases, or_left, or_right, and_parts}
use Rattle.std.specs.FinSet.{contains, is_subset}
use Rattle.std.specs.List.{AllByRecursion}
use Rattle.rset.specs.Sets.{Set}
use Rattle.rset.proofs.SetLemmas.{within_at, apart_at}
use Rattle.rclaim.specs.Events.{seat_of}
use Rattle.rclaim.specs.declared.event.Event.{Event}
use Rattle.rclaim.specs.declared.event.Event.TheVariants.{Issue, Finish, Rise, Ask}
use Rattle.rmodel.specs.Holds.{holds_of, is_within}
use Rattle.rmodel.specs.Reached.{IsReached}
use Rattle.rmodel.specs.State.{LockState}
use Rattle.rmodel.specs.StateLaws.{gives_back}
use Rattle.rmodel.proofs.ListFacts.{contrary, false_from}
use Rattle.rmodel.proofs.reaching.Growing.{held_next}
use Rattle.rmodel.proofs.reaching.HeldBySeat.{within_itself, within_all}
use Rattle.rmodel.proofs.theorems.Exclusive.{exclusive}
use Rattle.rvalue.specs.declared.act.Act.{Act}
use Rattle.rvalue.specs.declared.act.Act.TheVariants.{Edited, Shown}
use Rattle.rvalue.specs.Acts.{edits_in}
use Rattle.rvalue.specs.Entries.{EntryFields, is_finish}
use Rattle.rvalue.specs.Histories.{value_of}
use Rattle.rvalue.specs.InTurn.{AllInTurn}
use Rattle.rvalue.specs.Lawful.{is_held}
use Rattle.rvalue.proofs.ValueLemmas.{value_of-longer}
use Rattle.rstate.specs.Histories.{Beginning, lock_after, reads_of, writes_of, MayFollow}
use Rattle.rstate.specs.Laws.{is_held_by, IsHeldStill, HeldStaysAsItWas}
use Rattle.rstate.proofs.histories.Following.{in_turn_parts, lock_push, reached_push, reached_lawful}

-- acts of a seat that does not hold the resource for writing do not edit it
pub edits_none : {E : Type 0} (reads writes : Set) (l : ℕ) (acts : List (Act E)) → contains writes l ≡ false → AllByRecursion (λ act. IsTrue (is_held reads writes act)) acts → edits_in acts l ≡ []
edits_none reads writes l [] unwritten held = refl
edits_none reads writes l (Edited place edit done ∷ acts) unwritten held =
    let elsewhere : (place == l) ≡ false = false_from (place == l) (λ h. contrary (contains writes l) (subst (λ k. contains writes k ≡ true) (eqb-true place l h) held.0) unwritten) in
    ap (λ b. cond b (edit ∷ []) [] ++ edits_in acts l) elsewhere ∙ edits_none reads writes l acts unwritten held.1
edits_none reads writes l (Shown place number ∷ acts) unwritten held = edits_none reads writes l acts unwritten held.1

-- what a seat holds, another seat does not hold for writing
pub unwritten_by : (s : LockState) (seat other l : ℕ) → IsReached s → other ≢ seat → is_held_by s seat l ≡ true → contains (writes_of s other) l ≡ false
unwritten_by s seat other l reached differ held =
    let apart = exclusive s other seat reached differ in
    false_from (contains (writes_of s other) l) (λ h. elim (or_cases (contains (reads_of s seat) l) (contains (writes_of s seat) l) held) [
      | inl reads ↦ contrary (contains (reads_of s seat) l) reads (apart_at (writes_of s other) (reads_of s seat) apart.not_read l h)
      | inr writes ↦ contrary (contains (writes_of s seat) l) writes (apart_at (writes_of s other) (writes_of s seat) apart.not_written l h)
    ])

-- an entry of another seat does not edit it
edits_of_others : {E : Type 0} (s : LockState) (seat l : ℕ) (event : Event) (acts : List (Act E)) → IsReached s → gives_back seat event ≡ false → is_held_by s seat l ≡ true
    → AllByRecursion (λ act. IsTrue (is_held (reads_of s (seat_of event)) (writes_of s (seat_of event)) act)) acts → cond (is_finish event) (edits_in acts l) [] ≡ []
edits_of_others s seat l (Issue other request) acts reached others held acts_held = refl
edits_of_others s seat l (Finish other) acts reached others held acts_held =
    edits_none (reads_of s other) (writes_of s other) l acts
    (unwritten_by s seat other l reached (λ same. contrary (other == seat) (eq-eqb other seat same) others) held) acts_held
edits_of_others s seat l (Rise other) acts reached others held acts_held = refl
edits_of_others s seat l (Ask other part) acts reached others held acts_held = refl

-- a seat that holds at least what it held holds the resource in the same way
pub still_from : (s t : LockState) (seat l : ℕ) → is_within (holds_of s.claims seat) (holds_of t.claims seat) ≡ true → IsHeldStill s t seat l
still_from s t seat l within =
    let parts = and_parts (is_subset (reads_of s seat) (reads_of t seat)) (is_subset (writes_of s seat) (writes_of t seat)) within in
    record { reads = within_at (reads_of s seat) (reads_of t seat) parts.0 l; writes = within_at (writes_of s seat) (writes_of t seat) parts.1 l }

pub held_from : (s t : LockState) (seat l : ℕ) → IsHeldStill s t seat l → is_held_by s seat l ≡ true → is_held_by t seat l ≡ true
held_from s t seat l still held =
    elim (or_cases (contains (reads_of s seat) l) (contains (writes_of s seat) l) held) [
      | inl reads ↦ or_left (contains (reads_of t seat) l) (contains (writes_of t seat) l) (still.reads reads)
      | inr writes ↦ or_right (contains (reads_of t seat) l) (contains (writes_of t seat) l) (still.writes writes)
    ]

module _ {V E : Type 0} (after : V → E → V) (taken : V → E → Bool) (number : V → ℕ) (b : Beginning V) (seat : ℕ) where
  abbrev Follows : List (EntryFields E) → EntryFields E → Type 0
  Follows = MayFollow after taken number b

  -- no entry gives back what the seat holds
  abbrev NoneGivesBack : List (EntryFields E) → Type 0
  NoneGivesBack more = AllByRecursion (λ entry. gives_back seat entry.event ≡ false) more

  pub held_push : (earlier : List (EntryFields E)) (e : EntryFields E) → IsReached (lock_after b earlier) → Follows earlier e → gives_back seat e.event ≡ false
      → is_within (holds_of (lock_after b earlier).claims seat) (holds_of (lock_after b (earlier ++ e ∷ [])).claims seat) ≡ true
  held_push earlier e reached right others =
      subst (λ (t : LockState). is_within (holds_of (lock_after b earlier).claims seat) (holds_of t.claims seat) ≡ true) (sym (lock_push b earlier e))
      (held_next (lock_after b earlier) e.event seat reached right.comes others)

  pub held_along : (earlier more : List (EntryFields E)) → IsReached (lock_after b earlier) → AllInTurn Follows earlier more → NoneGivesBack more
      → is_within (holds_of (lock_after b earlier).claims seat) (holds_of (lock_after b (earlier ++ more)).claims seat) ≡ true
  held_along earlier [] reached fits others =
      subst (λ es. is_within (holds_of (lock_after b earlier).claims seat) (holds_of (lock_after b es).claims seat) ≡ true) (sym (append-nil earlier)) (within_itself (holds_of (lock_after b earlier).claims seat))
  held_along earlier (e ∷ more) reached fits others =
      subst (λ es. is_within (holds_of (lock_after b earlier).claims seat) (holds_of (lock_after b es).claims seat) ≡ true) (append_assoc earlier (e ∷ []) more)
      (within_all (holds_of (lock_after b earlier).claims seat) (holds_of (lock_after b (earlier ++ e ∷ [])).claims seat) (holds_of (lock_after b ((earlier ++ e ∷ []) ++ more)).claims seat)
      (held_push earlier e reached fits.0 others.0) (held_along (earlier ++ e ∷ []) more (reached_push after taken number b earlier e reached fits.0) fits.1 others.1))

  -- the value of what the seat holds
  pub value_along : (earlier more : List (EntryFields E)) (l : ℕ) → IsReached (lock_after b earlier) → AllInTurn Follows earlier more → NoneGivesBack more → is_held_by (lock_after b earlier) seat l ≡ true
      → (v : V) → value_of after v (earlier ++ more) l ≡ value_of after v earlier l
  value_along earlier [] l reached fits others held v = ap (λ es. value_of after v es l) (append-nil earlier)
  value_along earlier (e ∷ more) l reached fits others held v =
      let now = held_from (lock_after b earlier) (lock_after b (earlier ++ e ∷ [])) seat l (still_from (lock_after b earlier) (lock_after b (earlier ++ e ∷ [])) seat l (held_push earlier e reached fits.0 others.0)) held in
      ap (λ es. value_of after v es l) (sym (append_assoc earlier (e ∷ []) more))
      ∙ value_along (earlier ++ e ∷ []) more l (reached_push after taken number b earlier e reached fits.0) fits.1 others.1 now v
      ∙ value_of-longer after v earlier e l
      ∙ ap (fold after (value_of after v earlier l)) (edits_of_others (lock_after b earlier) seat l e.event e.acts reached others.0 held fits.0.held)

pub held_stays : {V E : Type 0} (after : V → E → V) (taken : V → E → Bool) (number : V → ℕ) → HeldStaysAsItWas after taken number
held_stays after taken number b begins more seat l lawful others held =
    let parts = in_turn_parts (MayFollow after taken number b) [] begins more lawful in
    let reached = reached_lawful after taken number b begins parts.0 in (
      still_from (lock_after b begins) (lock_after b (begins ++ more)) seat l (held_along after taken number b seat begins more reached parts.1 others),
      value_along after taken number b seat begins more l reached parts.1 others held,
    )
