-- What the plays say of the seat of a pass.
use Rattle.std.proofs.Common.{◌≡◌, ℕ, ◌+◌, ◌%◌, ◌^◌, arith, List, [], ◌∷◌, ◌++◌, refl, sym, ap, ◌∙◌, subst, Option, Some}
use mathlib.Core.Option as maybe
use Rattle.std.specs.Prelude.{All, map}
use Rattle.std.proofs.lemmas.List.Elements.{All-nil, All-cons, All-head, All-tail}
use mathlib.Core.List.{IsPrefix, map-append}
use Rattle.atomic_table.specs.Table.{Me, step, rest}
use Rattle.rlock.specs.declared.view.View.{View}
use Rattle.rlock.specs.declared.view.Member.{Member}
use Rattle.rlock.specs.declared.view.Mode.TheVariants.{Idle, Waiting, Served, Putting}
use Rattle.rlock.specs.Known.{GateId, Known, IsTrueOf, entries_by, left}
use Rattle.rlock.specs.declared.view.Mode.{Mode}
use Rattle.rlock.specs.Views.{IsViewOf, known_from, mine_of, opening_of, last_of, times, numbers_of}
use Rattle.rlock.specs.Steps.{drawing, serving, putting, resting, joined, Holds, looked}
use Rattle.rlock.specs.Covering.{Covers}
use Rattle.rlock.proofs.Counting.{times-append, times_here}

module _ {S O E : Type 0} where
  -- what a view knows, as what its pass knows
  pub true_of : (number : E → ℕ) (stays : ℕ → S → S → Type 0) (k : Known S O E) (v : View S O E) (o : O) (list : List E) (state : S) (mode : Mode S) → IsViewOf mode k v → Holds number stays v o list state → IsTrueOf number stays k o list state
  true_of number stays k v o list state mode (p, last, has, has_last, is) h = let h' = subst (λ (z : View S O E). Holds number stays z o list state) is h in record {
    its_opening = has ∙ ap (λ (x : O). let y : Option O = Some x in y) (All-head (λ (m : Member S O E). m.opening ≡ o) _ [] h'.openings);
    begins = h'.seen;
    own = All-head (λ (m : Member S O E). entries_by number m.number list ≡ m.mine) _ [] h'.made;
    its_last = (last, has_last, All-head (λ (m : Member S O E). stays m.number m.last state) _ [] h'.lasts);
  }

  -- the view of a pass after each step of its turn
  pub drawn : (k : Known S O E) (t : ℕ) (v w : View S O E) → IsViewOf Idle k v → w ≡ drawing t v → IsViewOf (Waiting t) (record k { turns = k.turns + 1 }) w
  drawn k t v w (o, last, has, has_last, is) now = (o, last, has, has_last, now ∙ ap (drawing t) is)

  pub served : (k : Known S O E) (t : ℕ) (found : S) (list : List E) (v w : View S O E) → IsViewOf (Waiting t) k v → w ≡ serving t found list v → IsViewOf (Served t found) (record k { seen = list }) w
  served k t found list v w (o, last, has, has_last, is) now = (o, last, has, has_last, now ∙ ap (serving t found list) is)

  pub put : (k : Known S O E) (t : ℕ) (found state : S) (list : List E) (v w : View S O E) → IsViewOf (Served t found) k v → w ≡ putting t state list v → IsViewOf (Putting t state) (left k list state) w
  put k t found state list v w (o, last, has, has_last, is) now = (o, state, has, refl, now ∙ ap (putting t state list) is)

  pub rested : (k : Known S O E) (t : ℕ) (state : S) (v w : View S O E) → IsViewOf (Putting t state) k v → w ≡ resting v → IsViewOf Idle k w
  rested k t state v w (o, last, has, has_last, is) now = (o, last, has, has_last, now ∙ ap resting is)

  -- the pass is recovered from its view
  pub known_is : (gate : GateId) (n : ℕ) (v : View S O E) (mode : Mode S) (k : Known S O E) → IsViewOf mode k v → gate ≡ k.gate → n ≡ k.number → known_from gate n v ≡ k
  known_is gate n v mode k (o, last, has, has_last, is) same_gate same_number = λ i. record {
    gate = same_gate i;
    number = same_number i;
    opening = (ap (λ (z : View S O E). opening_of z.members) is ∙ sym has) i;
    seen = ap (λ (z : View S O E). z.seen) is i;
    mine = ap (λ (z : View S O E). mine_of z.members) is i;
    last = (ap (λ (z : View S O E). last_of z.members) is ∙ sym has_last) i;
    turns = ap (λ (z : View S O E). z.turns) is i;
  }

  pub known_again : (gate : GateId) (n : ℕ) (v : View S O E) (mode : Mode S) (k : Known S O E) → IsViewOf mode k v → gate ≡ k.gate → n ≡ k.number → IsViewOf mode (known_from gate n v) v
  known_again gate n v mode k is same_gate same_number = subst (λ (z : Known S O E). IsViewOf mode z v) (sym (known_is gate n v mode k is same_gate same_number)) is

  pub mode_is : (mode : Mode S) (k : Known S O E) (v : View S O E) → IsViewOf mode k v → v.mode ≡ mode
  mode_is mode k v (o, last, has, has_last, is) = ap (λ (z : View S O E). z.mode) is

  -- the one member of such a view
  pub member_is : (mode : Mode S) (k : Known S O E) (v : View S O E) (is : IsViewOf mode k v) → v.members ≡ record { number = k.number; opening = is.0; mine = k.mine; last = is.1 } ∷ []
  member_is mode k v (o, last, has, has_last, is) = ap (λ (z : View S O E). z.members) is

module _ {S O E : Type 0} where
  -- if its ticket was found, the pass has the state
  pub found : (opening : S → O) (entries : S → List E) (number : E → ℕ) (stays : ℕ → S → S → Type 0) (k : Known S O E) (t slots r : ℕ) (me me' : Me (Option S) (View S O E)) → IsViewOf (Waiting t) k me.0 → me.1 ≡ []
      → looked opening entries number stays (step slots 1 0 0 maybe.none) me r me' → r ≡ t % 2 ^ 64
      → (state : S) × IsViewOf (Served t state) (record k { seen = entries state }) me'.0 × (me'.1 ≡ (0, Some state) ∷ []) × IsTrueOf number stays k (opening state) (entries state) state
  found opening entries number stays k t slots r me me' waits none told hit = let got = (told t (mode_is (Waiting t) k me.0 waits)).0 hit in (
    got.0,
    served k t got.0 (entries got.0) me.0 me'.0 waits (ap (λ (m : Me (Option S) (View S O E)). m.0) got.1),
    ap (λ (m : Me (Option S) (View S O E)). m.1) got.1 ∙ ap (λ (cs : List (ℕ × Option S)). (0, Some got.0) ∷ cs) none,
    true_of number stays k me.0 (opening got.0) (entries got.0) got.0 (Waiting t) waits got.2,
  )

module _ {S : Type 0} where
  -- the slot that was taken last, as an exchange asks for it
  pub last_slot : (cs : List (ℕ × Option S)) (x : Option S) → cs ≡ (0, x) ∷ [] → cs ≡ (0, x) ∷ rest cs
  last_slot cs x is = is ∙ ap (λ (l : List (ℕ × Option S)). (0, x) ∷ rest l) (sym is)

  abbrev slot_value : Option S → List (ℕ × Option S) → Option S
  slot_value x [] = x
  slot_value x (c ∷ cs) = c.1

  -- what an exchange found in it, and what the seat has then
  pub exchanged : (V : Type 0) (me me' : Me (Option S) V) (x y new : Option S) → me.1 ≡ (0, x) ∷ [] → me.1 ≡ (0, y) ∷ rest me.1 → me' ≡ (me.0, (0, new) ∷ rest me.1) → (x ≡ y) × (me'.0 ≡ me.0) × (me'.1 ≡ (0, new) ∷ [])
  exchanged V me me' x y new is was now = (
    ap (slot_value x) (sym is ∙ was),
    ap (λ (m : Me (Option S) V). m.0) now,
    ap (λ (m : Me (Option S) V). m.1) now ∙ ap (λ (l : List (ℕ × Option S)). (0, new) ∷ rest l) is,
  )

module _ {X : Type 0} (P : X → Type 0) where
  pub all_left : (xs ys : List X) → All P (xs ++ ys) → All P xs
  all_left [] ys all = All-nil P
  all_left (x ∷ xs) ys all = All-cons P x xs (All-head P x (xs ++ ys) all) (all_left xs ys (All-tail P x (xs ++ ys) all))

  pub all_right : (xs ys : List X) → All P (xs ++ ys) → All P ys
  all_right [] ys all = all
  all_right (x ∷ xs) ys all = all_right xs ys (All-tail P x (xs ++ ys) all)

module _ {S O E : Type 0} (number : E → ℕ) (stays : ℕ → S → S → Type 0) where
  -- what two views know together is what each of them knows
  joined_knows : (v w : View S O E) (o : O) (list : List E) (state : S) → Holds number stays (joined v w) o list state → Holds number stays v o list state × Holds number stays w o list state
  joined_knows v w o list state h = let Stayed : Member S O E → Type 0 = λ m. stays m.number m.last state in let Begins : List E → Type 0 = λ old. IsPrefix old list in let Opened : Member S O E → Type 0 = λ m. m.opening ≡ o in let Made : Member S O E → Type 0 = λ m. entries_by number m.number list ≡ m.mine in
      let seens = all_right Begins v.olds (v.seen ∷ w.seen ∷ w.olds) h.olds in let later = All-tail Begins v.seen (w.seen ∷ w.olds) seens in (
        record { openings = all_left Opened v.members w.members h.openings; seen = All-head Begins v.seen (w.seen ∷ w.olds) seens; olds = all_left Begins v.olds (v.seen ∷ w.seen ∷ w.olds) h.olds; made = all_left Made v.members w.members h.made; lasts = all_left Stayed v.members w.members h.lasts },
        record { openings = all_right Opened v.members w.members h.openings; seen = All-head Begins w.seen w.olds later; olds = All-tail Begins w.seen w.olds later; made = all_right Made v.members w.members h.made; lasts = all_right Stayed v.members w.members h.lasts },
      )

  joined_numbers : (n : ℕ) (v w : View S O E) → times n (numbers_of (joined v w)) ≡ times n (numbers_of v) + times n (numbers_of w)
  joined_numbers n v w = let numbers = λ (ms : List (Member S O E)). map (λ (m : Member S O E). m.number) ms in omega (
    arith,
    ap (times n) (map-append (λ (m : Member S O E). m.number) v.members w.members),
    times-append n (numbers v.members) (numbers w.members),
  )

  -- a view that takes in another covers what either of them covers
  pub covers_before : (v w : View S O E) (k : Known S O E) → Covers number stays v k → Covers number stays (joined v w) k
  covers_before v w k c = record { has = omega (arith, c.has, joined_numbers k.number v w); knows = λ o list state h. c.knows o list state (joined_knows v w o list state h).0 }

  pub covers_taken : (v w : View S O E) (k : Known S O E) → Covers number stays w k → Covers number stays (joined v w) k
  covers_taken v w k c = record { has = omega (arith, c.has, joined_numbers k.number v w); knows = λ o list state h. c.knows o list state (joined_knows v w o list state h).1 }

  -- the view of a pass covers it
  pub covers_itself : (v : View S O E) (mode : Mode S) (k : Known S O E) → IsViewOf mode k v → Covers number stays v k
  covers_itself v mode k is = record {
    has = omega (arith, ap (λ (z : View S O E). times k.number (numbers_of z)) is.4, times_here k.number []);
    knows = λ o list state h. true_of number stays k v o list state mode is h;
  }
