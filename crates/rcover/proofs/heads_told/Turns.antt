-- Heads are carried on, one claim after another.
use Rattle.std.proofs.Common.{◌≡◌, ◌≢◌, ℕ, ◌==◌, Bool, true, false, ◌&&◌, ◌||◌, cond, Some, List, [], ◌∷◌, ◌++◌, refl, sym, ap, ◌∙◌, inl, inr}
use Rattle.std.proofs.lemmas.Bool.{and_from, and_parts, eq-eqb, eqb-true, or_left, or_right}
use Rattle.std.specs.List.{AllByRecursion, list_any}
use Rattle.std.specs.Prelude.{slice_get}
use Rattle.std.specs.FinSet.{contains, empty, insert, is_subset, union}
use Rattle.rset.specs.Sets.{Set}
use Rattle.rset.proofs.SetMembers.{contains_empty, contains_insert}
use Rattle.rset.proofs.SetsWithin.{within_reflexive, within_transitive, within_union_left, within_union_right}
use Rattle.rmodel.specs.declared.claimed.Claimed.{Claimed}
use Rattle.rmodel.specs.Claims.{satisfied_by}
use Rattle.rmodel.specs.WellFormed.{EachPair, Distinct}
use Rattle.rmodel.proofs.ListFacts.{contrary, false_from, all_append, any_among, passing}
use Rattle.rmodel.proofs.settling.OneSettlement.{both_cases}
use Rattle.rcover_laws.specs.Moments.{Moment}
use Rattle.rcover.specs.declared.lines.Head.{Head}
use Rattle.rcover.specs.declared.turns.Moves.{Moves}
use Rattle.rclaim.specs.declared.changes.StatusChange.{StatusChange}
use Rattle.rcover_laws.specs.Line.{least_of}
use Rattle.rcover.specs.Lines.{tells_write_of, head_of, set_at, is_touched, ArePlaced, IsTouched, IsBehind, HoldBehind, HoldBehindBut, HoldMore, GoesBy, TellAt, HeadsTell, IsNew, IsNoted, IsTurned, with_told}
use Rattle.rcover.proofs.Pairs.{pairs_before, pairs_after}
use Rattle.rcover.proofs.heads_told.Heads.{behind_more, behind_same, but_more, other_seat}

-- no other head is noted yet for the seats of these writes
abbrev pub AreNew : Moves → List Claimed → Type 0
AreNew moves zs = AllByRecursion (IsNew moves) zs

-- the heads of the claims before a place are known at n, and those after it at m
pub record AreTurned (now : List Head) (moves : Moves) (lost : Head) (gone : Set) (m n : Moment) (xs ys : List Claimed) : Type 0 where
  pub within : is_subset gone moves.dirty ≡ true
  pub heads : TellAt now n xs
  pub tell : AllByRecursion (HeadsTell now lost moves.moved moves.risen m n) xs
  pub noted : AllByRecursion (IsNoted moves.dirty m n) xs
  pub rest : TellAt now m ys
  pub untold : AreNew moves ys

none_in : (s : Set) → s ≡ empty → (seat : ℕ) → contains s seat ≡ false
none_in s none seat = ap (λ t. contains t seat) none ∙ contains_empty seat

-- before the first claim no other head is noted
pub none_told : (moves : Moves) → moves.moved ≡ empty → moves.risen ≡ empty → (zs : List Claimed) → AreNew moves zs
none_told moves moved risen [] = tt
none_told moves moved risen (z ∷ zs) = (record { unmoved = λ _. none_in moves.moved moved z.claim.seat; unrisen = λ _. none_in moves.risen risen z.claim.seat }, none_told moves moved risen zs)

module _ (now now' : List Head) (moves moves' : Moves) (lost : Head) (m n : Moment) (x : Claimed) (turned : IsTurned now moves lost now' moves' m n x) where
  -- a claim of another write
  abbrev Other : Claimed → Type 0
  Other z = z.claim.write_half ≡ true → x.claim.write_half ≡ true → z.claim.seat ≢ x.claim.seat

  tell_stays : (z : Claimed) → Other z → HeadsTell now lost moves.moved moves.risen m n z → HeadsTell now' lost moves'.moved moves'.risen m n z
  tell_stays z other tells = record {
    moved = λ write on. let are = tells.moved write (unmoved write on) in (are.0, turned.now_stays z.claim.seat (other write) ∙ are.1, are.2);
    apart = λ write on. turned.risen_stays z.claim.seat (other write) ∙ tells.apart write (unmoved write on);
    risen = λ write off on. let are = tells.risen write (unmoved write off) (unrisen write on) in (turned.now_stays z.claim.seat (other write) ∙ are.0, are.1, are.2);
    same = λ write off still. tells.same write (unmoved write off) (unrisen write still);
  }
    where
      unmoved : {b : Bool} → z.claim.write_half ≡ true → contains moves'.moved z.claim.seat ≡ b → contains moves.moved z.claim.seat ≡ b
      unmoved write h = sym (turned.moved_stays z.claim.seat (other write)) ∙ h

      unrisen : {b : Bool} → z.claim.write_half ≡ true → contains moves'.risen z.claim.seat ≡ b → contains moves.risen z.claim.seat ≡ b
      unrisen write h = sym (turned.risen_stays z.claim.seat (other write)) ∙ h

  heads_stay : (k : Moment) (zs : List Claimed) → AllByRecursion Other zs → TellAt now k zs → TellAt now' k zs
  heads_stay k [] others told = tt
  heads_stay k (z ∷ zs) others told = ((λ write. turned.now_stays z.claim.seat (others.0 write) ∙ told.0 write), heads_stay k zs others.1 told.1)

  tells_stay : (zs : List Claimed) → AllByRecursion Other zs → AllByRecursion (HeadsTell now lost moves.moved moves.risen m n) zs → AllByRecursion (HeadsTell now' lost moves'.moved moves'.risen m n) zs
  tells_stay [] others told = tt
  tells_stay (z ∷ zs) others told = (tell_stays z others.0 told.0, tells_stay zs others.1 told.1)

  new_stay : (zs : List Claimed) → AllByRecursion Other zs → AreNew moves zs → AreNew moves' zs
  new_stay [] others are = tt
  new_stay (z ∷ zs) others are = (
    record {
      unmoved = λ write. turned.moved_stays z.claim.seat (others.0 write) ∙ are.0.unmoved write;
      unrisen = λ write. turned.risen_stays z.claim.seat (others.0 write) ∙ are.0.unrisen write;
    },
    new_stay zs others.1 are.1,
  )

  noted_stay : (zs : List Claimed) → AllByRecursion (IsNoted moves.dirty m n) zs → AllByRecursion (IsNoted moves'.dirty m n) zs
  noted_stay [] noted = tt
  noted_stay (z ∷ zs) noted = (
    (λ write. elim (noted.0 write) [ inl same ↦ inl same | inr within ↦ inr (within_transitive z.claim.places moves.dirty moves'.dirty within turned.dirty_more) ]),
    noted_stay zs noted.1,
  )

  others_before : (zs : List Claimed) → AllByRecursion (λ z. Distinct z x) zs → AllByRecursion Other zs
  others_before [] all = tt
  others_before (z ∷ zs) all = ((λ write _. other_seat z x all.0 write), others_before zs all.1)

  others_behind : (zs : List Claimed) → AllByRecursion (Distinct x) zs → AllByRecursion Other zs
  others_behind [] all = tt
  others_behind (z ∷ zs) all = ((λ _ write same. other_seat x z all.0 write (sym same)), others_behind zs all.1)

  -- the head of one more claim is known
  pub turned_push : (gone : Set) (xs ys : List Claimed) → EachPair Distinct (xs ++ x ∷ ys) → AreTurned now moves lost gone m n xs (x ∷ ys) → AreTurned now' moves' lost gone m n (xs ++ x ∷ []) ys
  turned_push gone xs ys distinct are =
      let front = others_before xs (pairs_before Distinct xs x ys distinct) in
      let behind = others_behind ys (pairs_after Distinct xs x ys distinct) in
      record {
        within = within_transitive gone moves.dirty moves'.dirty are.within turned.dirty_more;
        heads = all_append (λ z. z.claim.write_half ≡ true → slice_get now' z.claim.seat ≡ Some (head_of n z.claim)) xs (x ∷ []) (heads_stay n xs front are.heads) (turned.head, tt);
        tell = all_append (HeadsTell now' lost moves'.moved moves'.risen m n) xs (x ∷ []) (tells_stay xs front are.tell) (turned.tells, tt);
        noted = all_append (IsNoted moves'.dirty m n) xs (x ∷ []) (noted_stay xs are.noted) (turned.noted, tt);
        rest = heads_stay m ys behind are.rest.1;
        untold = new_stay ys behind are.untold.1;
      }

  -- the writes of the seats that moved or rose are at their places, once that of the claim is noted
  pub placed_push : (places places' : List ℕ) (i : ℕ) → ((seat : ℕ) → slice_get places' seat ≡ cond (x.claim.write_half && (seat == x.claim.seat)) (Some i) (slice_get places seat)) → slice_get n i ≡ Some x
      → ArePlaced places moves.moved moves.risen n → ArePlaced places' moves'.moved moves'.risen n
  placed_push places places' i is there placed = λ seat on.
      both_cases (x.claim.write_half && (seat == x.claim.seat))
      (λ own.
      let parts = and_parts x.claim.write_half (seat == x.claim.seat) own in
      record { place = i; noted = is seat ∙ ap (λ b. cond b (Some i) (slice_get places seat)) own; at = x; there = there; write = parts.0; own = sym (eqb-true seat x.claim.seat parts.1) })
      (λ other.
      let apart : x.claim.write_half ≡ true → seat ≢ x.claim.seat
      = λ write same. contrary (x.claim.write_half && (seat == x.claim.seat)) ((λ k. write k && eq-eqb seat x.claim.seat same k)) other in
      let was = placed seat ((λ k. sym (turned.moved_stays seat apart) k || sym (turned.risen_stays seat apart) k) ∙ on) in
      record { place = was.place; noted = is seat ∙ ap (λ b. cond b (Some i) (slice_get places seat)) other ∙ was.noted; at = was.at; there = was.there; write = was.write; own = was.own })

-- before the first of them nothing needs to be noted
pub none_placed : (places : List ℕ) (moved risen : Set) → moved ≡ empty → risen ≡ empty → (n : Moment) → ArePlaced places moved risen n
none_placed places moved risen no_moved no_risen n = λ seat on. contrary (contains moved seat || contains risen seat) on (λ k. none_in moved no_moved seat k || none_in risen no_risen seat k)

-- ---- what may happen to a claim

module _ (now : List Head) (moves : Moves) (lost : Head) (m n : Moment) (x : Claimed) where
  -- a read has no head
  pub turned_read : x.claim.write_half ≡ false → IsTurned now moves lost now moves m n x
  turned_read read = record {
    head = λ write. contrary x.claim.write_half write read;
    tells = record {
      moved = λ write on. contrary x.claim.write_half write read;
      apart = λ write on. contrary x.claim.write_half write read;
      risen = λ write off on. contrary x.claim.write_half write read;
      same = λ write off still. contrary x.claim.write_half write read;
    };
    noted = λ write. contrary x.claim.write_half write read;
    now_stays = λ seat other. refl;
    moved_stays = λ seat other. refl;
    risen_stays = λ seat other. refl;
    dirty_more = within_reflexive moves.dirty;
  }

  module _ (write : x.claim.write_half ≡ true) where
    not_own : (seat : ℕ) → (x.claim.write_half ≡ true → seat ≢ x.claim.seat) → (seat == x.claim.seat) ≡ false
    not_own seat other = false_from (seat == x.claim.seat) (λ e. absurd (other write (eqb-true seat x.claim.seat e)))

    with_own : (s : Set) → contains (insert s x.claim.seat) x.claim.seat ≡ true
    with_own s = contains_insert s x.claim.seat x.claim.seat ∙ ap (λ b. b || contains s x.claim.seat) (eq-eqb x.claim.seat x.claim.seat refl)

    with_other : (s : Set) (seat : ℕ) → (x.claim.write_half ≡ true → seat ≢ x.claim.seat) → contains (insert s x.claim.seat) seat ≡ contains s seat
    with_other s seat other = contains_insert s x.claim.seat seat ∙ ap (λ b. b || contains s seat) (not_own seat other)

    -- the head of a write stays
    pub turned_same : slice_get now x.claim.seat ≡ Some (head_of m x.claim) → IsNew moves x → head_of n x.claim ≡ head_of m x.claim → IsTurned now moves lost now moves m n x
    turned_same told new same = record {
      head = λ _. told ∙ ap Some (sym same);
      tells = record {
        moved = λ _ on. contrary (contains moves.moved x.claim.seat) on (new.unmoved write);
        apart = λ _ _. new.unrisen write;
        risen = λ _ _ on. contrary (contains moves.risen x.claim.seat) on (new.unrisen write);
        same = λ _ _ _. same;
      };
      noted = λ _. inl (ap (λ (h : Head). h.claim.stamp) same);
      now_stays = λ seat other. refl;
      moved_stays = λ seat other. refl;
      risen_stays = λ seat other. refl;
      dirty_more = within_reflexive moves.dirty;
    }

    module _ (now' : List Head) (h : Head) (is : h ≡ head_of n x.claim) (now_is : (seat : ℕ) → slice_get now' seat ≡ cond (seat == x.claim.seat) (Some h) (slice_get now seat)) where
      here : slice_get now' x.claim.seat ≡ Some (head_of n x.claim)
      here = now_is x.claim.seat ∙ ap (λ b. cond b (Some h) (slice_get now x.claim.seat)) (eq-eqb x.claim.seat x.claim.seat refl) ∙ ap Some is

      elsewhere : (seat : ℕ) → (x.claim.write_half ≡ true → seat ≢ x.claim.seat) → slice_get now' seat ≡ slice_get now seat
      elsewhere seat other = now_is seat ∙ ap (λ b. cond b (Some h) (slice_get now seat)) (not_own seat other)

      -- it was the lost one, and is another
      pub turned_moved : IsNew moves x → head_of m x.claim ≡ lost → (least_of x.claim n).stamp ≢ lost.claim.stamp → IsTurned now moves lost now' (record { moved = insert moves.moved x.claim.seat; risen = moves.risen; dirty = union moves.dirty x.claim.places }) m n x
      turned_moved new was other = record {
        head = λ _. here;
        tells = record {
          moved = λ _ _. (was, here, other);
          apart = λ _ _. new.unrisen write;
          risen = λ _ off. contrary (contains (insert moves.moved x.claim.seat) x.claim.seat) (with_own moves.moved) off;
          same = λ _ off. contrary (contains (insert moves.moved x.claim.seat) x.claim.seat) (with_own moves.moved) off;
        };
        noted = λ _. inr (within_union_right moves.dirty x.claim.places);
        now_stays = elsewhere;
        moved_stays = with_other moves.moved;
        risen_stays = λ seat other. refl;
        dirty_more = within_union_left moves.dirty x.claim.places;
      }

      -- its least claim came to be satisfied
      pub turned_risen : IsNew moves x → head_of m x.claim ≡ record { claim = h.claim; holds = false } → h.holds ≡ true → IsTurned now moves lost now' (record { moved = moves.moved; risen = insert moves.risen x.claim.seat; dirty = moves.dirty }) m n x
      turned_risen new was holds = record {
        head = λ _. here;
        tells = record {
          moved = λ _ on. contrary (contains moves.moved x.claim.seat) on (new.unmoved write);
          apart = λ _ on. contrary (contains moves.moved x.claim.seat) on (new.unmoved write);
          risen = λ _ _ _. (here, was ∙ ap (λ (k : Head). unsatisfied k) is, ap (λ (k : Head). k.holds) (sym is) ∙ holds);
          same = λ _ _ off. contrary (contains (insert moves.risen x.claim.seat) x.claim.seat) (with_own moves.risen) off;
        };
        noted = λ _. inl (ap (λ (k : Head). k.claim.stamp) (sym is) ∙ ap (λ (k : Head). k.claim.stamp) (sym was));
        now_stays = elsewhere;
        moved_stays = λ seat other. refl;
        risen_stays = with_other moves.risen;
        dirty_more = within_reflexive moves.dirty;
      }
        where
          unsatisfied : Head → Head
          unsatisfied k = record { claim = k.claim; holds = false }

  -- a claim of a seat that is not touched goes on as it is
  pub turned_still : (gone came touched : Set) → GoesBy lost gone came touched m n x → contains touched x.claim.seat ≡ false → (x.claim.write_half ≡ true → slice_get now x.claim.seat ≡ Some (head_of m x.claim)) → IsNew moves x → IsTurned now moves lost now moves m n x
  turned_still gone came touched goes off told new = both_cases x.claim.write_half (λ write. turned_same write (told write) new (goes.still write off)) (λ read. turned_read read)

-- ---- a least claim that stays

-- a head that is satisfied stays as it is
told_held : (came : Set) (h : Head) → h.holds ≡ true → with_told came h ≡ h
told_held came h holds = at (contains came h.claim.seat)
  where
    at : (b : Bool) → cond b (let g : Head = record { claim = h.claim; holds = true } in g) h ≡ h
    at true = (λ i. let g : Head = record { claim = h.claim; holds = sym holds i } in g)
    at false = refl

-- and so does the claim of any head
told_claim : (came : Set) (h : Head) → (with_told came h).claim ≡ h.claim
told_claim came h = at (contains came h.claim.seat)
  where
    at : (b : Bool) → (cond b (let g : Head = record { claim = h.claim; holds = true } in g) h).claim ≡ h.claim
    at true = refl
    at false = refl

pub same_claim : (came : Set) (m n : Moment) (x : Claimed) → head_of n x.claim ≡ with_told came (head_of m x.claim) → least_of x.claim n ≡ least_of x.claim m
same_claim came m n x goes = ap (λ (h : Head). h.claim) goes ∙ told_claim came (head_of m x.claim)

module _ (came : Set) (now : List Head) (moves : Moves) (lost : Head) (m n : Moment) (x : Claimed) (write : x.claim.write_half ≡ true) (told : slice_get now x.claim.seat ≡ Some (head_of m x.claim)) (new : IsNew moves x)
    (goes : head_of n x.claim ≡ with_told came (head_of m x.claim)) where
  -- it was satisfied before
  pub rise_held : (head_of m x.claim).holds ≡ true → IsTurned now moves lost now moves m n x
  rise_held holds = turned_same now moves lost m n x write told new (goes ∙ told_held came (head_of m x.claim) holds)

  -- it did not come to be
  pub rise_none : contains came (least_of x.claim m).seat ≡ false → IsTurned now moves lost now moves m n x
  rise_none off =
      turned_same now moves lost m n x write told new
      (goes ∙ ap (λ b. cond b (let g : Head = record { claim = least_of x.claim m; holds = true } in g) (head_of m x.claim)) off)

  -- it did
  pub rise_told : (now' : List Head) (h : Head) → h ≡ record { claim = least_of x.claim m; holds = true } → (head_of m x.claim).holds ≡ false → contains came (least_of x.claim m).seat ≡ true
      → ((seat : ℕ) → slice_get now' seat ≡ cond (seat == x.claim.seat) (Some h) (slice_get now seat)) → IsTurned now moves lost now' (record { moved = moves.moved; risen = insert moves.risen x.claim.seat; dirty = moves.dirty }) m n x
  rise_told now' h is unsat on now_is =
      turned_risen now moves lost m n x write now' h (is ∙ sym (goes ∙ ap (λ b. cond b (let g : Head = record { claim = least_of x.claim m; holds = true } in g) (head_of m x.claim)) on)) now_is new
      (λ i. let g : Head = record { claim = ap (λ (k : Head). k.claim) (sym is) i; holds = unsat i } in g) (ap (λ (k : Head). k.holds) is)

-- ---- the sets of the seats of least claims, one claim after another

-- of the claims before a place they hold those at n, of those after it those at m whose least claim is not lost
pub record AreHeld (lost : ℕ) (ss : List Set) (m n : Moment) (xs ys : List Claimed) : Type 0 where
  pub done : HoldBehind ss n xs
  pub rest : HoldBehindBut lost ss m ys

pub held_push : (lost : ℕ) (ss ss' : List Set) (m n : Moment) (xs ys : List Claimed) (x : Claimed) → HoldMore ss ss'
    → (x.claim.write_half ≡ true → ((least_of x.claim m).seat ≢ lost → IsBehind ss m x) → IsBehind ss' n x) → AreHeld lost ss m n xs (x ∷ ys) → AreHeld lost ss' m n (xs ++ x ∷ []) ys
held_push lost ss ss' m n xs ys x wider own are = record {
  done = all_append (λ z. z.claim.write_half ≡ true → IsBehind ss' n z) xs (x ∷ []) (behind_more ss ss' wider n xs are.done) ((λ write. own write (are.rest.0 write)), tt);
  rest = but_more lost ss ss' wider m ys are.rest.1;
}

-- if nothing is touched, all stays
module _ (lost : Head) (gone came touched : Set) (none : touched ≡ empty) (m n : Moment) (hs : List Head) where
  off : (x : Claimed) → contains touched x.claim.seat ≡ false
  off x = ap (λ s. contains s x.claim.seat) none ∙ contains_empty x.claim.seat

  pub heads_same : (zs : List Claimed) → TellAt hs m zs → AllByRecursion (GoesBy lost gone came touched m n) zs → TellAt hs n zs
  heads_same [] told by = tt
  heads_same (z ∷ zs) told by = ((λ write. told.0 write ∙ ap Some (sym (by.0.still write (off z)))), heads_same zs told.1 by.1)

  pub held_same : (ss : List Set) (zs : List Claimed) → AllByRecursion (GoesBy lost gone came touched m n) zs → HoldBehindBut lost.claim.seat ss m zs → HoldBehind ss n zs
  held_same ss [] by held = tt
  held_same ss (z ∷ zs) by held = (
    (λ write. behind_same ss m n z (ap (λ (h : Head). h.claim) (by.0.still write (off z))) (held.0 write (by.0.elsewhere write (off z)))),
    held_same ss zs by.1 held.1,
  )

  pub tells_same : (moved risen : Set) → moved ≡ empty → risen ≡ empty → (zs : List Claimed) → AllByRecursion (GoesBy lost gone came touched m n) zs → AllByRecursion (HeadsTell hs lost moved risen m n) zs
  tells_same moved risen no_moved no_risen [] by = tt
  tells_same moved risen no_moved no_risen (z ∷ zs) by = (
    record {
      moved = λ write on. contrary (contains moved z.claim.seat) on (none_in moved no_moved z.claim.seat);
      apart = λ write on. contrary (contains moved z.claim.seat) on (none_in moved no_moved z.claim.seat);
      risen = λ write _ on. contrary (contains risen z.claim.seat) on (none_in risen no_risen z.claim.seat);
      same = λ write _ _. by.0.still write (off z);
    },
    tells_same moved risen no_moved no_risen zs by.1,
  )

-- the write of a seat has the least claim of a seat whose write is reported to be satisfied
abbrev told_behind : List Set → List StatusChange → ℕ → Bool
told_behind ss cs seat = list_any (λ c. (c.write_half && satisfied_by c.status) && contains (set_at ss c.seat) seat) cs

told_touched : (ss : List Set) (cs : List StatusChange) (least seat : ℕ) → tells_write_of cs least ≡ true → contains (set_at ss least) seat ≡ true → told_behind ss cs seat ≡ true
told_touched ss cs least seat told h =
    let w = passing (λ c. (c.seat == least) && (c.write_half && satisfied_by c.status)) cs told in
    let parts = and_parts (w.0.seat == least) (w.0.write_half && satisfied_by w.0.status) w.2 in
    any_among (λ c. (c.write_half && satisfied_by c.status) && contains (set_at ss c.seat) seat) cs w.0 w.1
    (and_from (w.0.write_half && satisfied_by w.0.status) (contains (set_at ss w.0.seat) seat) parts.1 (ap (λ k. contains (set_at ss k) seat) (eqb-true w.0.seat least parts.0) ∙ h))

-- a write that is not touched has none of these least claims
pub touched_all : (ss : List Set) (lost : ℕ) (statuses : List StatusChange) (touched : Set) → ((seat : ℕ) → contains touched seat ≡ is_touched ss lost statuses seat) → (m : Moment) (zs : List Claimed) → HoldBehind ss m zs → AllByRecursion (IsTouched lost statuses touched m) zs
touched_all ss lost statuses touched is m [] hold = tt
touched_all ss lost statuses touched is m (z ∷ zs) hold = (
  record {
    not_lost = λ write off same.
        contrary (contains touched z.claim.seat)
        (is z.claim.seat
        ∙ or_left (contains (set_at ss lost) z.claim.seat) (told_behind ss statuses z.claim.seat) (ap (λ k. contains (set_at ss k) z.claim.seat) (sym same) ∙ hold.0 write)) off;
    not_told = λ write off.
        false_from (tells_write_of statuses (least_of z.claim m).seat) (λ on.
        contrary (contains touched z.claim.seat)
        (is z.claim.seat
        ∙ or_right (contains (set_at ss lost) z.claim.seat) (told_behind ss statuses z.claim.seat) (told_touched ss statuses (least_of z.claim m).seat z.claim.seat on (hold.0 write))) off);
  },
  touched_all ss lost statuses touched is m zs hold.1,
)
