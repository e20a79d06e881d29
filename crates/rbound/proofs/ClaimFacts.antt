-- Where a needed claim comes from, and what is known of it.
use Rattle.std.proofs.Common.{◌≡◌, ◌<◌, ◌+◌, ◌==◌, ℕ, zero, suc, Bool, true, false, cond, List, [], ◌∷◌, ◌++◌, map, length, slice_get, Some, None, refl, sym, ap, subst, ◌∙◌, inl, inr, arith}
use Rattle.std.specs.Prelude.{find}
use Rattle.std.specs.List.{AllByRecursion}
use Rattle.std.specs.FinSet.{empty, contains}
use Rattle.std.proofs.lemmas.Bool.{eqb-true, and_parts}
use Rattle.rset.specs.Sets.{Set}
use Rattle.rset.proofs.SetLemmas.{some_member, within_at}
use Rattle.rmodel.specs.Groups.{places_of}
use Rattle.rmodel.proofs.PlaceLemmas.{writes_within_places}
use Rattle.rclaim.specs.Requests.{RequestFields, FitsKind}
use Rattle.rclaim.specs.declared.claim.Claim.{Claim}
use Rattle.rclaim.specs.declared.request.Kind.{Kind}
use Rattle.rclaim.specs.declared.request.Kind.TheVariants.{Read, Write, Mixed, Upgrade, Nested}
use Rattle.rmodel.specs.Claims.{claims_by, is_read_half}
use Rattle.rmodel.specs.WellFormed.{Among}
use Rattle.rmodel.proofs.ListFacts.{among_append, among_behind, all_from, contrary}
use Rattle.rbound.specs.Needs.{Needed, Needs, RequestNeeds, needed_of, needed_by_task, needed_from, all_needed, is_of_request, length_of}
use Rattle.rbound.specs.TaskNeeds.{requests_of}
use Rattle.rbound.specs.Kept.{IsFine, AreFine}

pub some_is : {X : Type 0} {x y : X} → Some x ≡ Some y → x ≡ y
some_is e = cc

some_none : {X : Type 0} {x : X} {P : Type 0} → Some x ≡ None → P
some_none e = absurd cc

among_front : {X : Type 0} (xs ys : List X) (x : X) → Among x xs → Among x (xs ++ ys)
among_front [] ys x there = absurd there
among_front (y ∷ xs) ys x (inl same) = inl same
among_front (y ∷ xs) ys x (inr later) = inr (among_front xs ys x later)

module _ (groups : List Set) where
  -- it is a claim of the request of its task that its stamp names
  pub record Made (needs : Needs) (task : ℕ) (n : Needed) : Type 0 where
    pub some : task < length needs
    pub request : RequestNeeds
    pub at : slice_get (requests_of needs task) n.claim.stamp ≡ Some request
    pub is : Among n (needed_of groups n.claim.seat n.claim.stamp request.request)

  -- the claims of a request of this kind, with their lengths
  abbrev pub made_by : Kind → (Claim → ℕ) → ℕ → ℕ → Set → Set → List Needed
  made_by k len task number reads writes = map (λ c. record { claim = c; len = len c }) (claims_by groups k number task reads writes)

  marks : (k : Kind) (len : Claim → ℕ) (task number : ℕ) (reads writes : Set) (n : Needed) → Among n (made_by k len task number reads writes) → (n.claim.seat ≡ task) × (n.claim.stamp ≡ number)
  marks Read len task number reads writes n (inr later) = absurd later
  marks Read len task number reads writes n (inl same) = (ap (λ (m : Needed). m.claim.seat) same, ap (λ (m : Needed). m.claim.stamp) same)
  marks Write len task number reads writes n (inr later) = absurd later
  marks Write len task number reads writes n (inl same) = (ap (λ (m : Needed). m.claim.seat) same, ap (λ (m : Needed). m.claim.stamp) same)
  marks Mixed len task number reads writes n (inr later) = absurd later
  marks Mixed len task number reads writes n (inl same) = (ap (λ (m : Needed). m.claim.seat) same, ap (λ (m : Needed). m.claim.stamp) same)
  marks Upgrade len task number reads writes n (inl same) = (ap (λ (m : Needed). m.claim.seat) same, ap (λ (m : Needed). m.claim.stamp) same)
  marks Upgrade len task number reads writes n (inr (inl same)) = (ap (λ (m : Needed). m.claim.seat) same, ap (λ (m : Needed). m.claim.stamp) same)
  marks Nested len task number reads writes n (inr later) = absurd later
  marks Nested len task number reads writes n (inl same) = (ap (λ (m : Needed). m.claim.seat) same, ap (λ (m : Needed). m.claim.stamp) same)
  marks Upgrade len task number reads writes n (inr (inr later)) = absurd later

  pub marked : (task number : ℕ) (r : RequestFields) (n : Needed) → Among n (needed_of groups task number r) → (n.claim.seat ≡ task) × (n.claim.stamp ≡ number)
  marked task number r n there = marks r.kind (length_of r) task number r.reads r.writes n there

  -- ---- where it comes from

  record OfTask (task number : ℕ) (ns : List RequestNeeds) (n : Needed) : Type 0 where
    k : ℕ
    request : RequestNeeds
    at : slice_get ns k ≡ Some request
    is : Among n (needed_of groups task (number + k) request.request)

  of_task : (task number : ℕ) (ns : List RequestNeeds) (n : Needed) → Among n (needed_by_task groups task number ns) → OfTask task number ns n
  of_task task number [] n there = absurd there
  of_task task number (x ∷ ns) n there =
      elim (among_append (needed_of groups task number x.request) (needed_by_task groups task (suc number) ns) n there) [
        | inl here ↦ let same : number ≡ number + 0 = omega arith in
            record { k = 0; request = x; at = refl; is = subst (λ (m : ℕ). Among n (needed_of groups task m x.request)) same here }
        | inr later ↦ next (of_task task (suc number) ns n later)
      ]
    where
      next : OfTask task (suc number) ns n → OfTask task number (x ∷ ns) n
      next o = let same : suc number + o.k ≡ number + suc o.k = omega arith in
          record { k = suc o.k; request = o.request; at = o.at; is = subst (λ (m : ℕ). Among n (needed_of groups task m o.request.request)) same o.is }

  record OfNeeds (low : ℕ) (needs : Needs) (n : Needed) : Type 0 where
    t : ℕ
    seat : n.claim.seat ≡ low + t
    made : Made needs t n

  of_needs : (low : ℕ) (needs : Needs) (n : Needed) → Among n (needed_from groups low needs) → OfNeeds low needs n
  of_needs low [] n there = absurd there
  of_needs low (ns ∷ rest) n there =
      elim (among_append (needed_by_task groups low 0 ns) (needed_from groups (suc low) rest) n there) [
        | inl here ↦ first (of_task low 0 ns n here)
        | inr later ↦ next (of_needs (suc low) rest n later)
      ]
    where
      first : OfTask low 0 ns n → OfNeeds low (ns ∷ rest) n
      first o =
          let m = marked low (0 + o.k) o.request.request n o.is in
          let stamp : n.claim.stamp ≡ o.k = omega (arith, m.1) in
          let seat : n.claim.seat ≡ low + 0 = omega (arith, m.0) in
          record {
            t = 0;
            seat = seat;
            made = record {
              some = omega arith;
              request = o.request;
              at = ap (slice_get ns) stamp ∙ o.at;
              is = (subst (λ (s : ℕ). Among n (needed_of groups s n.claim.stamp o.request.request)) (sym m.0) (subst (λ (k : ℕ). Among n (needed_of groups low k o.request.request)) (sym m.1) o.is));
            };
          }

      next : OfNeeds (suc low) rest n → OfNeeds low (ns ∷ rest) n
      next o =
          let seat : n.claim.seat ≡ low + suc o.t = omega (arith, o.seat) in
          let some : suc o.t < length (ns ∷ rest) = omega (arith, o.made.some) in
          record { t = suc o.t; seat = seat; made = record { some = some; request = o.made.request; at = o.made.at; is = o.made.is } }

  -- *Where a needed claim comes from*
  pub made_of : (needs : Needs) (n : Needed) → Among n (all_needed groups needs) → Made needs n.claim.seat n
  made_of needs n there =
      let o = of_needs 0 needs n there in
      let same : o.t ≡ n.claim.seat = omega (arith, o.seat) in
      subst (λ (t : ℕ). Made needs t n) same o.made

  -- ---- and that all of these are needed

  in_task : (task number : ℕ) (ns : List RequestNeeds) (k : ℕ) (x : RequestNeeds) (n : Needed) → slice_get ns k ≡ Some x → Among n (needed_of groups task (number + k) x.request) → Among n (needed_by_task groups task number ns)
  in_task task number [] k x n at there = absurd (some_none (sym at))
  in_task task number (y ∷ ns) zero x n at there =
      let same : number + 0 ≡ number = omega arith in
      among_front (needed_of groups task number y.request) (needed_by_task groups task (suc number) ns) n
      (subst (λ (m : ℕ). Among n (needed_of groups task m y.request)) same (subst (λ (u : RequestNeeds). Among n (needed_of groups task (number + 0) u.request)) (sym (some_is at)) there))
  in_task task number (y ∷ ns) (suc k) x n at there =
      let same : number + suc k ≡ suc number + k = omega arith in
      among_behind (needed_of groups task number y.request) (needed_by_task groups task (suc number) ns) n
      (in_task task (suc number) ns k x n at (subst (λ (m : ℕ). Among n (needed_of groups task m x.request)) same there))

  in_needs : (low : ℕ) (needs : Needs) (t k : ℕ) (x : RequestNeeds) (n : Needed) → t < length needs → slice_get (requests_of needs t) k ≡ Some x → Among n (needed_of groups (low + t) k x.request) → Among n (needed_from groups low needs)
  in_needs low [] t k x n some at there = absurd (omega arith)
  in_needs low (ns ∷ rest) zero k x n some at there =
      let same : low + 0 ≡ low = omega arith in
      let number : k ≡ 0 + k = omega arith in
      among_front (needed_by_task groups low 0 ns) (needed_from groups (suc low) rest) n
      (in_task low 0 ns k x n at (subst (λ (s : ℕ). Among n (needed_of groups s (0 + k) x.request)) same (subst (λ (m : ℕ). Among n (needed_of groups (low + 0) m x.request)) number there)))
  in_needs low (ns ∷ rest) (suc t) k x n some at there =
      let same : low + suc t ≡ suc low + t = omega arith in
      among_behind (needed_by_task groups low 0 ns) (needed_from groups (suc low) rest) n
      (in_needs (suc low) rest t k x n (omega arith) at (subst (λ (s : ℕ). Among n (needed_of groups s k x.request)) same there))

  pub needed_there : (needs : Needs) (t k : ℕ) (x : RequestNeeds) (n : Needed) → t < length needs → slice_get (requests_of needs t) k ≡ Some x → Among n (needed_of groups t k x.request) → Among n (all_needed groups needs)
  needed_there needs t k x n some at there =
      let same : t ≡ 0 + t = omega arith in
      in_needs 0 needs t k x n some at (subst (λ (s : ℕ). Among n (needed_of groups s k x.request)) same there)

  -- ---- what each is

  -- a read claim writes nothing and its places are its reads; each claim has some place
  pub record IsSound (n : Needed) : Type 0 where
    pub writes : n.claim.write_half ≡ false → n.claim.writes ≡ empty
    pub places : n.claim.write_half ≡ false → n.claim.places ≡ n.claim.reads
    pub place : ℕ
    pub has : contains n.claim.places place ≡ true

  reader : (k : Kind) (len task number : ℕ) (reads writes : Set) → (reads ≡ empty → ⊥) → writes ≡ empty
      → IsSound (record { claim = record { stamp = number; seat = task; kind = k; write_half = false; reads = reads; writes = writes; places = reads }; len = len })
  reader k len task number reads writes some none =
      let found = some_member reads some in
      record { writes = λ _. none; places = λ _. refl; place = found.0; has = found.1 }

  writer : (k : Kind) (len task number : ℕ) (reads writes : Set) → (writes ≡ empty → ⊥)
      → IsSound (record { claim = record { stamp = number; seat = task; kind = k; write_half = true; reads = reads; writes = writes; places = places_of groups reads writes }; len = len })
  writer k len task number reads writes some =
      let found = some_member writes some in
      record { writes = λ h. contrary true refl h; places = λ h. contrary true refl h; place = found.0; has = within_at writes (places_of groups reads writes) (writes_within_places groups reads writes) found.0 found.1 }

  sound_by : (k : Kind) (len : Claim → ℕ) (task number : ℕ) (reads writes : Set) (n : Needed) → FitsKind k reads writes → Among n (made_by k len task number reads writes) → IsSound n
  sound_by Read len task number reads writes n fits (inl same) = subst (λ (m : Needed). IsSound m) (sym same) (reader Read _ task number reads writes fits.0 fits.1)
  sound_by Read len task number reads writes n fits (inr later) = absurd later
  sound_by Write len task number reads writes n fits (inl same) = subst (λ (m : Needed). IsSound m) (sym same) (writer Write _ task number reads writes fits.1)
  sound_by Write len task number reads writes n fits (inr later) = absurd later
  sound_by Mixed len task number reads writes n fits (inl same) = subst (λ (m : Needed). IsSound m) (sym same) (writer Mixed _ task number reads writes fits.1)
  sound_by Mixed len task number reads writes n fits (inr later) = absurd later
  sound_by Upgrade len task number reads writes n fits (inl same) = subst (λ (m : Needed). IsSound m) (sym same) (reader Upgrade _ task number reads empty fits.0 refl)
  sound_by Upgrade len task number reads writes n fits (inr (inl same)) = subst (λ (m : Needed). IsSound m) (sym same) (writer Upgrade _ task number empty reads fits.0)
  sound_by Upgrade len task number reads writes n fits (inr (inr later)) = absurd later
  sound_by Nested len task number reads writes n fits (inl same) = subst (λ (m : Needed). IsSound m) (sym same) (writer Nested _ task number reads writes fits.1)
  sound_by Nested len task number reads writes n fits (inr later) = absurd later

  fine_at : (q : ℕ) (needs : Needs) (t k : ℕ) (x : RequestNeeds) → AreFine q needs → slice_get (requests_of needs t) k ≡ Some x → IsFine q x.request
  fine_at q [] t k x fine at = absurd (some_none (sym at))
  fine_at q (ns ∷ rest) zero k x fine at = inner ns k fine.0 at
    where
      inner : (ns : List RequestNeeds) (k : ℕ) → AllByRecursion (λ (n : RequestNeeds). IsFine q n.request) ns → slice_get ns k ≡ Some x → IsFine q x.request
      inner [] k fine at = absurd (some_none (sym at))
      inner (y ∷ ns) zero fine at = subst (λ (u : RequestNeeds). IsFine q u.request) (some_is at) fine.0
      inner (y ∷ ns) (suc k) fine at = inner ns k fine.1 at
  fine_at q (ns ∷ rest) (suc t) k x fine at = fine_at q rest t k x fine.1 at

  pub sound : (q : ℕ) (needs : Needs) (n : Needed) → AreFine q needs → Among n (all_needed groups needs) → IsSound n
  sound q needs n fine there =
      let m = made_of needs n there in
      let r = m.request.request in
      sound_by r.kind (length_of r) n.claim.seat n.claim.stamp r.reads r.writes n (fine_at q needs n.claim.seat n.claim.stamp m.request fine m.at).normal.sets m.is

  pub seats_below : (needs : Needs) → AllByRecursion (λ (n : Needed). n.claim.seat < length needs) (all_needed groups needs)
  seats_below needs = all_from (λ (n : Needed). n.claim.seat < length needs) (all_needed groups needs) (λ n there. (made_of needs n there).some)

  -- ---- the halves of an upgrade

  half_by : (k : Kind) (len : Claim → ℕ) (task number : ℕ) (reads writes : Set) (n : Needed) → Among n (made_by k len task number reads writes) → is_read_half n.claim ≡ true → (k ≡ Upgrade) × (n.claim.reads ≡ reads)
  half_by Read len task number reads writes n (inl same) half = contrary false (sym (ap (λ (m : Needed). is_read_half m.claim) same) ∙ half) refl
  half_by Read len task number reads writes n (inr later) half = absurd later
  half_by Write len task number reads writes n (inl same) half = contrary false (sym (ap (λ (m : Needed). is_read_half m.claim) same) ∙ half) refl
  half_by Write len task number reads writes n (inr later) half = absurd later
  half_by Mixed len task number reads writes n (inl same) half = contrary false (sym (ap (λ (m : Needed). is_read_half m.claim) same) ∙ half) refl
  half_by Mixed len task number reads writes n (inr later) half = absurd later
  half_by Upgrade len task number reads writes n (inl same) half = (refl, ap (λ (m : Needed). m.claim.reads) same)
  half_by Upgrade len task number reads writes n (inr (inl same)) half = contrary false (sym (ap (λ (m : Needed). is_read_half m.claim) same) ∙ half) refl
  half_by Upgrade len task number reads writes n (inr (inr later)) half = absurd later
  half_by Nested len task number reads writes n (inl same) half = contrary false (sym (ap (λ (m : Needed). is_read_half m.claim) same) ∙ half) refl
  half_by Nested len task number reads writes n (inr later) half = absurd later

  written_by : (len : Claim → ℕ) (task number : ℕ) (reads writes : Set) (v : Needed) → Among v (made_by Upgrade len task number reads writes) → v.claim.write_half ≡ true → v.claim.writes ≡ reads
  written_by len task number reads writes v (inl same) half = contrary false (sym (ap (λ (m : Needed). m.claim.write_half) same) ∙ half) refl
  written_by len task number reads writes v (inr (inl same)) half = ap (λ (m : Needed). m.claim.writes) same
  written_by len task number reads writes v (inr (inr later)) half = absurd later

  -- the write half of a read half
  pub record HasWrite (ns : List Needed) (n : Needed) : Type 0 where
    pub write : Needed
    pub there : Among write ns
    pub half : write.claim.write_half ≡ true
    pub seat : write.claim.seat ≡ n.claim.seat
    pub stamp : write.claim.stamp ≡ n.claim.stamp
    pub writes : write.claim.writes ≡ n.claim.reads

  write_by : (k : Kind) (len : Claim → ℕ) (task number : ℕ) (reads writes : Set) → k ≡ Upgrade
      → (v : Needed) × Among v (made_by k len task number reads writes) × (v.claim.write_half ≡ true) × (v.claim.seat ≡ task) × (v.claim.stamp ≡ number) × (v.claim.writes ≡ reads)
  write_by Upgrade len task number reads writes is = (_, inr (inl refl), refl, refl, refl, refl)
  write_by Read len task number reads writes is = absurd cc
  write_by Write len task number reads writes is = absurd cc
  write_by Mixed len task number reads writes is = absurd cc
  write_by Nested len task number reads writes is = absurd cc

  pub write_of : (needs : Needs) (n : Needed) → Among n (all_needed groups needs) → is_read_half n.claim ≡ true → HasWrite (all_needed groups needs) n
  write_of needs n there half =
      let m = made_of needs n there in
      let r = m.request.request in
      let h = half_by r.kind (length_of r) n.claim.seat n.claim.stamp r.reads r.writes n m.is half in
      let w = write_by r.kind (length_of r) n.claim.seat n.claim.stamp r.reads r.writes h.0 in
      record { write = w.0; there = needed_there needs n.claim.seat n.claim.stamp m.request w.0 m.some m.at w.1; half = w.2; seat = w.3; stamp = w.4; writes = w.5 ∙ sym h.1 }

  pub writes_it : (needs : Needs) (n v : Needed) → Among n (all_needed groups needs) → is_read_half n.claim ≡ true → Among v (all_needed groups needs) → v.claim.write_half ≡ true
      → v.claim.seat ≡ n.claim.seat → v.claim.stamp ≡ n.claim.stamp → v.claim.writes ≡ n.claim.reads
  writes_it needs n v there half beside write seat stamp =
      let m = made_of needs n there in
      let o = made_of needs v beside in
      let r = m.request.request in
      let h = half_by r.kind (length_of r) n.claim.seat n.claim.stamp r.reads r.writes n m.is half in
      let same : o.request ≡ m.request = some_is (sym o.at ∙ (λ i. slice_get (requests_of needs (seat i)) (stamp i)) ∙ m.at) in
      let there' = subst (λ (k : Kind). Among v (made_by k (length_of r) v.claim.seat v.claim.stamp r.reads r.writes)) h.0 (subst (λ (x : RequestNeeds). Among v (needed_of groups v.claim.seat v.claim.stamp x.request)) same o.is) in
      written_by (length_of r) v.claim.seat v.claim.stamp r.reads r.writes v there' write ∙ sym h.1

  -- ---- the first claim of a request that passes a test

  find_front : (p : Needed → Bool) (xs ys : List Needed) → ((n : Needed) → Among n ys → p n ≡ false) → find p (xs ++ ys) ≡ find p xs
  find_front p [] [] none = refl
  find_front p [] (y ∷ ys) none = ap (λ b. cond b (Some y) (find p ys)) (none y (inl refl)) ∙ find_front p [] ys (λ n there. none n (inr there))
  find_front p (x ∷ xs) ys none = ap (cond (p x) (Some x)) (find_front p xs ys none)

  find_behind : (p : Needed → Bool) (xs ys : List Needed) → ((n : Needed) → Among n xs → p n ≡ false) → find p (xs ++ ys) ≡ find p ys
  find_behind p [] ys none = refl
  find_behind p (x ∷ xs) ys none = ap (λ b. cond b (Some x) (find p (xs ++ ys))) (none x (inl refl)) ∙ find_behind p xs ys (λ n there. none n (inr there))

  module _ (p : Needed → Bool) (task number : ℕ) (of : (n : Needed) → p n ≡ true → is_of_request task number n ≡ true) where
    fails : (n : Needed) → ((n.claim.seat ≡ task) → (n.claim.stamp ≡ number) → ⊥) → p n ≡ false
    fails n differs = at (p n) refl
      where
        at : (b : Bool) → p n ≡ b → b ≡ false
        at true h = let parts = and_parts (n.claim.seat == task) (n.claim.stamp == number) (of n h) in absurd (differs (eqb-true _ _ parts.0) (eqb-true _ _ parts.1))
        at false h = refl

    find_in_task : (first : ℕ) (ns : List RequestNeeds) (k : ℕ) (x : RequestNeeds) → first + k ≡ number → slice_get ns k ≡ Some x → find p (needed_by_task groups task first ns) ≡ find p (needed_of groups task number x.request)
    find_in_task first [] k x is at = absurd (some_none (sym at))
    find_in_task first (y ∷ ns) zero x is at =
        let same : first ≡ number = omega (arith, is) in
        find_front p (needed_of groups task first y.request) (needed_by_task groups task (suc first) ns)
        (λ n there. fails n (λ seat stamp.
        let o = of_task task (suc first) ns n there in
        let m = marked task (suc first + o.k) o.request.request n o.is in
        omega (arith, m.1, stamp, same)))
        ∙ (λ i. find p (needed_of groups task (same i) (some_is at i).request))
    find_in_task first (y ∷ ns) (suc k) x is at =
        find_behind p (needed_of groups task first y.request) (needed_by_task groups task (suc first) ns)
        (λ n there. fails n (λ seat stamp. let m = marked task first y.request n there in omega (arith, m.1, stamp, is)))
        ∙ find_in_task (suc first) ns k x (omega (arith, is)) at

    find_in_needs : (low : ℕ) (needs : Needs) (t : ℕ) (x : RequestNeeds) → low + t ≡ task → slice_get (requests_of needs t) number ≡ Some x → find p (needed_from groups low needs) ≡ find p (needed_of groups task number x.request)
    find_in_needs low [] t x is at = absurd (some_none (sym at))
    find_in_needs low (ns ∷ rest) zero x is at =
        let same : low ≡ task = omega (arith, is) in
        find_front p (needed_by_task groups low 0 ns) (needed_from groups (suc low) rest)
        (λ n there. fails n (λ seat stamp. let o = of_needs (suc low) rest n there in omega (arith, o.seat, seat, same)))
        ∙ ap (λ t. find p (needed_by_task groups t 0 ns)) same
        ∙ find_in_task 0 ns number x (omega arith) at
    find_in_needs low (ns ∷ rest) (suc t) x is at =
        find_behind p (needed_by_task groups low 0 ns) (needed_from groups (suc low) rest)
        (λ n there. fails n (λ seat stamp.
        let o = of_task low 0 ns n there in
        let m = marked low (0 + o.k) o.request.request n o.is in
        omega (arith, m.0, seat, is)))
        ∙ find_in_needs (suc low) rest t x (omega (arith, is)) at

    -- *It is found among the claims of its request*
    pub find_needed : (needs : Needs) (x : RequestNeeds) → slice_get (requests_of needs task) number ≡ Some x → find p (all_needed groups needs) ≡ find p (needed_of groups task number x.request)
    find_needed needs x at = find_in_needs 0 needs task x (omega arith) at
