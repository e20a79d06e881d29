-- Lists of accepted events: one more event, what stays, and that a step leads to one state.
use Rattle.std.proofs.Common.{◌≡◌, ℕ, ◌+◌, ◌≤◌, List, [], ◌∷◌, ◌++◌, length, refl, ap, ◌∙◌, arith}
use Rattle.rexpand.specs.Groups.{ReadGroups}
use Rattle.rclaim.specs.declared.event.Event.{Event}
use Rattle.rclaim.specs.declared.event.Event.TheVariants.{Issue, Finish, Rise, Ask}
use Rattle.rmodel.specs.Changes.{changes_between}
use Rattle.rmodel.specs.State.{LockState, opening}
use Rattle.rmodel.specs.Steps.{next, after, Comes, AreAccepted}
use Rattle.rmodel.specs.Watching.{steps_of}
use Rattle.rmodel.specs.WellFormed.{IsSound}
use Rattle.rmodel.proofs.reaching.Reached.{reached_after, reached_opening}

-- the state after one more event
pub after_push : (s : LockState) (es : List Event) (e : Event) → after s (es ++ e ∷ []) ≡ next (after s es) e
after_push s [] e = refl
after_push s (d ∷ es) e = after_push (next s d) es e

pub after_append : (s : LockState) (es ds : List Event) → after s (es ++ ds) ≡ after (after s es) ds
after_append s [] ds = refl
after_append s (e ∷ es) ds = after_append (next s e) es ds

-- the steps of one more event
pub steps_push : (s : LockState) (es : List Event) (e : Event) → steps_of s (es ++ e ∷ []) ≡ steps_of s es ++ (e, changes_between (after s es) (next (after s es) e)) ∷ []
steps_push s [] e = refl
steps_push s (d ∷ es) e = ap (λ more. (d, changes_between s (next s d)) ∷ more) (steps_push (next s d) es e)

-- one more event that may come in the state so far
pub accepted_push : (s : LockState) (es : List Event) (e : Event) → AreAccepted s es → Comes (after s es) e → AreAccepted s (es ++ e ∷ [])
accepted_push s [] e accepted comes = (comes, tt)
accepted_push s (d ∷ es) e accepted comes = (accepted.0, accepted_push (next s d) es e accepted.1 comes)

-- the beginning of an accepted list is accepted, and the rest is accepted after it
pub accepted_parts : (s : LockState) (es ds : List Event) → AreAccepted s (es ++ ds) → AreAccepted s es × AreAccepted (after s es) ds
accepted_parts s [] ds accepted = (tt, accepted)
accepted_parts s (e ∷ es) ds accepted = let rest = accepted_parts (next s e) es ds accepted.1 in ((accepted.0, rest.0), rest.1)

-- what no event changes
pub record SameSizes (s t : LockState) : Type 0 where
  pub groups : t.groups ≡ s.groups
  pub seats : t.seats ≡ s.seats
  pub cap : t.cap ≡ s.cap

pub sizes_next : (s : LockState) (e : Event) → SameSizes s (next s e)
sizes_next s (Issue seat r) = record { groups = refl; seats = refl; cap = refl }
sizes_next s (Finish seat) = record { groups = refl; seats = refl; cap = refl }
sizes_next s (Rise seat) = record { groups = refl; seats = refl; cap = refl }
sizes_next s (Ask seat part) = record { groups = refl; seats = refl; cap = refl }

pub sizes_after : (s : LockState) (es : List Event) → SameSizes s (after s es)
sizes_after s [] = record { groups = refl; seats = refl; cap = refl }
sizes_after s (e ∷ es) =
    let one = sizes_next s e in
    let rest = sizes_after (next s e) es in
    record { groups = rest.groups ∙ one.groups; seats = rest.seats ∙ one.seats; cap = rest.cap ∙ one.cap }

-- each event is at most one issue
pub issued_after : (s : LockState) (es : List Event) → (after s es).issued ≤ s.issued + length es
issued_after s [] = omega arith
issued_after s (e ∷ es) = let rest = issued_after (next s e) es in let one = issued_next s e in omega arith
  where
    issued_next : (s : LockState) (e : Event) → (next s e).issued ≤ s.issued + 1
    issued_next s (Issue seat r) = omega arith
    issued_next s (Finish seat) = omega arith
    issued_next s (Rise seat) = omega arith
    issued_next s (Ask seat part) = omega arith

-- the states that accepted events lead to are sound
pub sound_after : (groups : ReadGroups) (seats cap : ℕ) (es : List Event) → AreAccepted (opening groups seats cap) es → IsSound (after (opening groups seats cap) es)
sound_after groups seats cap es accepted = (reached_after (opening groups seats cap) es (reached_opening groups seats cap) accepted).sound
