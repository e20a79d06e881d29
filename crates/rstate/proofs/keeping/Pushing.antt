-- One more entry: the machine and the history go on together, and values stay that it does not edit.
use Rattle.std.proofs.Common.{◌≡◌, ℕ, ◌+◌, ◌≤◌, Bool, true, false, cond, List, [], ◌∷◌, ◌++◌, length, fold, Some, refl, sym, ap, subst, ◌∙◌, arith}
use Rattle.rclaim.specs.declared.event.Event.{Event}
use Rattle.rclaim.specs.declared.event.Event.TheVariants.{Issue, Finish, Rise, Ask}
use Rattle.rmodel.specs.declared.granted.Granted.{Granted}
use Rattle.rmodel.specs.Holds.{holds_of, is_within}
use Rattle.rmodel.specs.Reached.{IsReached}
use Rattle.rmodel.specs.State.{LockState}
use Rattle.rmodel.specs.StateLaws.{gives_back}
use Rattle.rmodel.specs.Steps.{Comes, next}
use Rattle.rmodel.proofs.reaching.Growing.{held_next}
use Rattle.rmodel.proofs.reaching.HeldBySeat.{within_all}
use Rattle.rmodel.proofs.reaching.Histories.{sizes_next}
use Rattle.rmodel.proofs.reaching.Reached.{reached_next}
use Rattle.rmodel.proofs.reaching.FewClaims.{few_claims}
use Rattle.rvalue.specs.Acts.{edits_in}
use Rattle.rvalue.specs.Entries.{EntryFields, edits_of, is_finish}
use Rattle.rvalue.specs.Histories.{value_of}
use Rattle.rvalue.proofs.InTurnLemmas.{AllInTurn-longer}
use Rattle.rvalue.proofs.ValueLemmas.{value_of-longer}
use Rattle.rstate.specs.Contents.{Contents, AreTaken, IsKept, HomesAre, IsState}
use Rattle.rstate.specs.Histories.{Beginning, MayFollow}
use Rattle.rstate.specs.Homes.{home_of}
use Rattle.rstate.specs.Shares.{ShareFields}
use Rattle.rstate.proofs.histories.Following.{lock_push, reached_lawful}

-- an entry without acts edits nothing
pub edits_of_none : {E : Type 0} (event : Event) (l : ℕ) → cond (is_finish event) (edits_in {E = E} [] l) [] ≡ []
edits_of_none (Issue seat request) l = refl
edits_of_none (Finish seat) l = refl
edits_of_none (Rise seat) l = refl
edits_of_none (Ask seat part) l = refl

-- what each seat has taken lies within what it holds after an event that gives nothing back
pub taken_next : (s t : LockState) (e : Event) (seats : ℕ) (taken : List Granted) → IsReached s → Comes s e → t ≡ next s e → ((seat : ℕ) → gives_back seat e ≡ false)
    → AreTaken s.claims seats taken → AreTaken t.claims seats taken
taken_next s t e seats taken reached comes goes gives was = record {
  each_seat = was.each_seat;
  within = λ n g there. subst (λ (u : LockState). is_within g (holds_of u.claims n) ≡ true) (sym goes)
      (within_all g (holds_of s.claims n) (holds_of (next s e).claims n) (was.within n g there) (held_next s e n reached comes (gives n)));
}

-- few claims are left after an event
pub few_after : (s t : LockState) (e : Event) → IsReached s → Comes s e → t ≡ next s e → length t.claims ≤ s.seats + s.seats
few_after s t e reached comes goes =
    let few = few_claims (next s e) (reached_next s e reached comes).sound in
    subst (λ (u : LockState). length u.claims ≤ s.seats + s.seats) (sym goes)
    (subst (λ n. length (next s e).claims ≤ n + n) (sizes_next s e).seats few)

module _ {V E : Type 0} (after : V → E → V) (taken : V → E → Bool) (number : V → ℕ) where
  -- the state of the lock is reached
  pub kept_reached : (m : LockState) (spare : ℕ) (c : Contents V E) → IsKept after taken number m spare c → IsReached m
  kept_reached m spare c kept = subst IsReached (sym kept.machine_is) (reached_lawful after taken number c.beginning c.entries kept.lawful)

  -- the state with one more entry, and room for those that follow
  pub kept_push : (m m2 : LockState) (spare spare2 : ℕ) (c : Contents V E) (entry : EntryFields E) (now : List Granted) → IsKept after taken number m spare c
      → MayFollow after taken number c.beginning c.entries entry → m2 ≡ next m entry.event → length m2.claims ≤ spare2 → AreTaken m2.claims c.beginning.seats now
      → IsKept after taken number m2 spare2 (record { beginning = c.beginning; entries = c.entries ++ entry ∷ []; taken = now })
  kept_push m m2 spare spare2 c entry now kept right goes enough taken_now = record {
    machine_is = goes ∙ ap (λ s. next s entry.event) kept.machine_is ∙ sym (lock_push c.beginning c.entries entry);
    lawful = (AllInTurn-longer (MayFollow after taken number c.beginning) c.entries entry).1 (kept.lawful, right);
    taken_is = taken_now;
    room = enough;
    values = kept.values;
  }

  -- an event that comes at the machine, with no acts, may follow
  pub bare_follows : (m : LockState) (spare : ℕ) (c : Contents V E) (e : Event) → IsKept after taken number m spare c → Comes m e → MayFollow after taken number c.beginning c.entries (record { event = e; acts = [] })
  bare_follows m spare c e kept comes = record {
    comes = subst (λ s. Comes s e) kept.machine_is comes;
    stand = tt;
    held = tt;
    answers = λ openings are. tt;
  }

module _ {V E : Type 0} (after : V → E → V) where
  -- an entry that does not edit a resource leaves its value
  pub value_push : (c : Contents V E) (entry : EntryFields E) (l : ℕ) (v : V) → edits_of entry l ≡ [] → value_of after v (c.entries ++ entry ∷ []) l ≡ value_of after v c.entries l
  value_push c entry l v none = value_of-longer after v c.entries entry l ∙ ap (fold after (value_of after v c.entries l)) none

  -- so homes stay homes if an entry edits nothing
  pub homes_push : (c : Contents V E) (entry : EntryFields E) (at_home : List (ShareFields V)) → ((l : ℕ) → edits_of entry l ≡ []) → HomesAre after c at_home
      → HomesAre after (record { beginning = c.beginning; entries = c.entries ++ entry ∷ []; taken = c.taken }) at_home
  homes_push c entry at_home none homes = record {
    each = λ l v there. homes.each l v there ∙ ap (λ x. Some (home_of c.beginning.seats c.taken l x)) (sym (value_push c entry l v (none l)));
    all = homes.all;
  }

module _ {V E : Type 0} (after : V → E → V) (taken_by : V → E → Bool) (number : V → ℕ) where
  -- the whole state goes on with an event that has no acts and gives nothing back
  pub state_add : (m m2 : LockState) (spare spare2 : ℕ) (b : Beginning V) (entries entries2 : List (EntryFields E)) (taken : List Granted) (at_home : List (ShareFields V)) (given room : ℕ) (e : Event)
      → IsState after taken_by number m spare (record { beginning = b; entries = entries; taken = taken }) at_home given room
      → Comes m e → ((seat : ℕ) → gives_back seat e ≡ false) → m2 ≡ next m e → entries2 ≡ entries ++ record { event = e; acts = [] } ∷ [] → m.seats + m.seats ≤ spare2
      → IsState after taken_by number m2 spare2 (record { beginning = b; entries = entries2; taken = taken }) at_home given room
  state_add m m2 spare spare2 b entries entries2 taken at_home given room e was comes gives goes longer enough =
      let c : Contents V E = record { beginning = b; entries = entries; taken = taken } in
      let entry : EntryFields E = record { event = e; acts = [] } in
      let reached = kept_reached after taken_by number m spare c was.kept in
      subst (λ (es : List (EntryFields E)). IsState after taken_by number m2 spare2 (record { beginning = b; entries = es; taken = taken }) at_home given room) (sym longer) (record {
        kept = kept_push after taken_by number m m2 spare spare2 c entry taken was.kept (bare_follows after taken_by number m spare c e was.kept comes) goes
            (few_enough (length m2.claims) (m.seats + m.seats) spare2 (few_after m m2 e reached comes goes) enough) (taken_next m m2 e b.seats taken reached comes goes gives was.kept.taken_is);
        homes = homes_push after c entry at_home (λ l. edits_of_none e l) was.homes;
        none_given = was.none_given;
        closing = was.closing;
      })
    where
      few_enough : (a b c : ℕ) → a ≤ b → b ≤ c → a ≤ c
      few_enough a b c p q = omega arith
