-- The need of a claim is found among those of all tasks, by the number of its request.
use Rattle.std.proofs.Common.{◌≡◌, ◌<◌, ℕ, zero, suc, ◌+◌, ◌==◌, Bool, true, false, ◌&&◌, cond, is_some, Option, Some, None, List, [], ◌∷◌, ◌++◌, map, find, refl, sym, ap, subst, ◌∙◌, ◌⊎◌, inl, inr, arith}
use Rattle.std.proofs.lemmas.Bool.{and_from, and_parts, eq-eqb, eqb-true}
use Rattle.std.specs.FinSet.{empty}
use Rattle.std.specs.List.{range_with_len, AllByRecursion}
use Rattle.rset.specs.Sets.{Set}
use Rattle.rclaim.specs.Requests.{RequestFields}
use Rattle.rclaim.specs.declared.claim.Claim.{Claim}
use Rattle.rclaim.specs.declared.request.Kind.{Kind}
use Rattle.rclaim.specs.declared.request.Kind.TheVariants.{Read, Write, Mixed, Upgrade, Nested}
use Rattle.rmodel.specs.Claims.{claim_of, claims_by, claims_of, is_upgrade}
use Rattle.rmodel.proofs.ListFacts.{Among, contrary, false_from, all_at, among_append}
use Rattle.rmodel.proofs.reaching.Came.{among_map}
use Rattle.rbound.specs.Needs.{RequestNeeds, Needed, length_of, needed_of, needed_by_task, needed_from, is_of_request}

-- ---- find

find_later : {X : Type 0} (p : X → Bool) (xs ys : List X) → ((x : X) → Among x xs → p x ≡ false) → find p (xs ++ ys) ≡ find p ys
find_later p [] ys none = refl
find_later p (x ∷ xs) ys none = ap (λ b. cond b (Some x) (find p (xs ++ ys))) (none x (inl refl)) ∙ find_later p xs ys (λ y there. none y (inr there))

find_first : {X : Type 0} (p : X → Bool) (xs ys : List X) (x : X) → find p xs ≡ Some x → find p (xs ++ ys) ≡ Some x
find_first p [] ys x is = contrary false (ap is_some is) refl
find_first p (z ∷ zs) ys x is = at (p z) (find_first p zs ys x) is
  where
    at : (b : Bool) → (find p zs ≡ Some x → find p (zs ++ ys) ≡ Some x) → cond b (Some z) (find p zs) ≡ Some x → cond b (Some z) (find p (zs ++ ys)) ≡ Some x
    at true rest is = is
    at false rest is = rest is

pub find_among : {X : Type 0} (p : X → Bool) (xs : List X) (x : X) → find p xs ≡ Some x → Among x xs
find_among p [] x is = contrary false (ap is_some is) refl
find_among p (z ∷ zs) x is = at (p z) (find_among p zs x) is
  where
    or_else : {X : Type 0} → X → Option X → X
    or_else d None = d
    or_else d (Some y) = y

    at : (b : Bool) → (find p zs ≡ Some x → Among x zs) → cond b (Some z) (find p zs) ≡ Some x → Among x (z ∷ zs)
    at true rest is = inl (ap (or_else x) (sym is))
    at false rest is = inr (rest is)

-- ---- the claims of a request, under another stamp

abbrev pub renumbered : ℕ → Claim → Claim
renumbered k c = record c { stamp = k }

-- a claim is of a seat and a stamp
pub record IsOf (seat stamp : ℕ) (c : Claim) : Type 0 where
  pub seated : c.seat ≡ seat
  pub stamped : c.stamp ≡ stamp

claims_are_of : (groups : List Set) (kind : Kind) (stamp seat : ℕ) (reads writes : Set) → AllByRecursion (IsOf seat stamp) (claims_by groups kind stamp seat reads writes)
claims_are_of groups Read stamp seat reads writes = (record { seated = refl; stamped = refl }, tt)
claims_are_of groups Write stamp seat reads writes = (record { seated = refl; stamped = refl }, tt)
claims_are_of groups Mixed stamp seat reads writes = (record { seated = refl; stamped = refl }, tt)
claims_are_of groups Upgrade stamp seat reads writes = (record { seated = refl; stamped = refl }, (record { seated = refl; stamped = refl }, tt))
claims_are_of groups Nested stamp seat reads writes = (record { seated = refl; stamped = refl }, tt)

module _ (groups : List Set) (r : RequestFields) (task k : ℕ) where
  abbrev need_of : Claim → Needed
  need_of c = record { claim = c; len = length_of r c }

  abbrev of_request : Needed → Bool
  of_request n = is_of_request task k n

  abbrev of_write : Needed → Bool
  of_write n = is_of_request task k n && n.claim.write_half

  passes : (c : Claim) → c.seat ≡ task → c.stamp ≡ k → of_request (need_of c) ≡ true
  passes c seats stamps = and_from (c.seat == task) (c.stamp == k) (eq-eqb c.seat task seats) (eq-eqb c.stamp k stamps)

  -- a list of one claim
  one_first : (c d : Claim) → d.seat ≡ task → d.stamp ≡ k → d ≡ renumbered k c → find of_request (need_of d ∷ []) ≡ Some (need_of (renumbered k c))
  one_first c d seats stamps same = ap (λ b. cond b (Some (need_of d)) None) (passes d seats stamps) ∙ ap (λ x. Some (need_of x)) same

  one_write : (c d : Claim) → d.seat ≡ task → d.stamp ≡ k → d.write_half ≡ true → d ≡ renumbered k c → find of_write (need_of d ∷ []) ≡ Some (need_of (renumbered k c))
  one_write c d seats stamps write same = ap (λ b. cond b (Some (need_of d)) None) (and_from (of_request (need_of d)) d.write_half (passes d seats stamps) write) ∙ ap (λ x. Some (need_of x)) same

  -- the claim that waits first is found by its request, and a write claim by its request and its half
  first_found : (kind : Kind) (stamp : ℕ) (reads writes : Set) (c : Claim) → Among c (claims_by groups kind stamp task reads writes) → (c.write_half ≡ false) ⊎ (is_upgrade c.kind ≡ false)
      → find of_request (map need_of (claims_by groups kind k task reads writes)) ≡ Some (need_of (renumbered k c))
  first_found Read stamp reads writes c (inl same) h = one_first c (claim_of groups false k task Read reads writes) refl refl (ap (renumbered k) (sym same))
  first_found Read stamp reads writes c (inr never) h = absurd never
  first_found Write stamp reads writes c (inl same) h = one_first c (claim_of groups true k task Write reads writes) refl refl (ap (renumbered k) (sym same))
  first_found Write stamp reads writes c (inr never) h = absurd never
  first_found Mixed stamp reads writes c (inl same) h = one_first c (claim_of groups true k task Mixed reads writes) refl refl (ap (renumbered k) (sym same))
  first_found Mixed stamp reads writes c (inr never) h = absurd never
  first_found Nested stamp reads writes c (inl same) h = one_first c (claim_of groups true k task Nested reads writes) refl refl (ap (renumbered k) (sym same))
  first_found Nested stamp reads writes c (inr never) h = absurd never
  first_found Upgrade stamp reads writes c (inl same) h =
      let d = claim_of groups false k task Upgrade reads empty in
      let e = claim_of groups true k task Upgrade empty reads in
      ap (λ b. cond b (Some (need_of d)) (find of_request (need_of e ∷ []))) (passes d refl refl) ∙ ap (λ x. Some (need_of (renumbered k x))) (sym same)
  first_found Upgrade stamp reads writes c (inr (inl same)) (inl read) = contrary c.write_half (ap (λ x. x.write_half) same) read
  first_found Upgrade stamp reads writes c (inr (inl same)) (inr plain) = contrary (is_upgrade c.kind) (ap (λ x. is_upgrade x.kind) same) plain
  first_found Upgrade stamp reads writes c (inr (inr never)) h = absurd never

  write_found : (kind : Kind) (stamp : ℕ) (reads writes : Set) (c : Claim) → Among c (claims_by groups kind stamp task reads writes) → c.write_half ≡ true
      → find of_write (map need_of (claims_by groups kind k task reads writes)) ≡ Some (need_of (renumbered k c))
  write_found Read stamp reads writes c (inl same) write = contrary c.write_half write (ap (λ x. x.write_half) same)
  write_found Read stamp reads writes c (inr never) write = absurd never
  write_found Write stamp reads writes c (inl same) write = one_write c (claim_of groups true k task Write reads writes) refl refl refl (ap (renumbered k) (sym same))
  write_found Write stamp reads writes c (inr never) write = absurd never
  write_found Mixed stamp reads writes c (inl same) write = one_write c (claim_of groups true k task Mixed reads writes) refl refl refl (ap (renumbered k) (sym same))
  write_found Mixed stamp reads writes c (inr never) write = absurd never
  write_found Nested stamp reads writes c (inl same) write = one_write c (claim_of groups true k task Nested reads writes) refl refl refl (ap (renumbered k) (sym same))
  write_found Nested stamp reads writes c (inr never) write = absurd never
  write_found Upgrade stamp reads writes c (inl same) write = contrary c.write_half write (ap (λ x. x.write_half) same)
  write_found Upgrade stamp reads writes c (inr (inl same)) write =
      let d = claim_of groups false k task Upgrade reads empty in
      let e = claim_of groups true k task Upgrade empty reads in
      ap (λ b. cond b (Some (need_of d)) (find of_write (need_of e ∷ []))) (never (of_request (need_of d)))
      ∙ one_write c e refl refl refl (ap (renumbered k) (sym same))
    where
      never : (b : Bool) → (b && false) ≡ false
      never true = refl
      never false = refl
  write_found Upgrade stamp reads writes c (inr (inr never)) write = absurd never

-- ---- the requests of a task, and all tasks

-- the request at a place of a list
abbrev pub HasAt : List RequestNeeds → ℕ → RequestFields → Type 0
HasAt [] k r = ⊥
HasAt (n ∷ ns) zero r = n.request ≡ r
HasAt (n ∷ ns) (suc k) r = HasAt ns k r

needed_is_of : (groups : List Set) (task k : ℕ) (r : RequestFields) (n : Needed) → Among n (needed_of groups task k r) → IsOf task k n.claim
needed_is_of groups task k r n there =
    let c = among_map (λ (c : Claim). let m : Needed = record { claim = c; len = length_of r c } in m) (claims_of groups k task r) n there in
    subst (λ (m : Needed). IsOf task k m.claim) (sym c.2) (all_at (IsOf task k) (claims_of groups k task r) c.0 (claims_are_of groups r.kind k task r.reads r.writes) c.1)

by_task_is_of : (groups : List Set) (task j : ℕ) (ns : List RequestNeeds) (n : Needed) → Among n (needed_by_task groups task j ns) → n.claim.seat ≡ task
by_task_is_of groups task j [] n there = absurd there
by_task_is_of groups task j (r ∷ rs) n there = elim (among_append (needed_of groups task j r.request) (needed_by_task groups task (suc j) rs) n there) [
  | inl here ↦ (needed_is_of groups task j r.request n here).seated
  | inr later ↦ by_task_is_of groups task (suc j) rs n later
]

module _ (groups : List Set) (p : Needed → Bool) (task number : ℕ) (only : (n : Needed) → p n ≡ true → IsOf task number n.claim) (one : Needed) where
  found_in_task : (ns : List RequestNeeds) (j k : ℕ) (r : RequestFields) → HasAt ns k r → number ≡ j + k → find p (needed_of groups task number r) ≡ Some one → find p (needed_by_task groups task j ns) ≡ Some one
  found_in_task [] j k r has same is = absurd has
  found_in_task (n ∷ ns) j zero r has same is =
      find_first p (needed_of groups task j n.request) (needed_by_task groups task (suc j) ns) one
      ((λ i. find p (needed_of groups task (sym (at j same) i) (has i))) ∙ is)
    where
      at : (j : ℕ) → number ≡ j + zero → number ≡ j
      at j h = omega arith
  found_in_task (n ∷ ns) j (suc k) r has same is =
      find_later p (needed_of groups task j n.request) (needed_by_task groups task (suc j) ns)
      (λ m there. false_from (p m) (λ h. let a = (only m h).stamped in let b = (needed_is_of groups task j n.request m there).stamped in absurd (omega arith)))
      ∙ found_in_task ns (suc j) k r has (omega arith) is

  pub found_in_tasks : (g : ℕ → List RequestNeeds) (m a i : ℕ) → i < m → task ≡ a + i → find p (needed_by_task groups task 0 (g task)) ≡ Some one → find p (needed_from groups a (map g (range_with_len a m))) ≡ Some one
  found_in_tasks g zero a i less same is = absurd (omega arith)
  found_in_tasks g (suc m) a zero less same is =
      let here : task ≡ a = omega arith in
      find_first p (needed_by_task groups a 0 (g a)) (needed_from groups (suc a) (map g (range_with_len (a + 1) m))) one
      (subst (λ (t : ℕ). find p (needed_by_task groups t 0 (g t)) ≡ Some one) here is)
  found_in_tasks g (suc m) a (suc i) less same is =
      let step : a + 1 ≡ suc a = omega arith in
      find_later p (needed_by_task groups a 0 (g a)) (needed_from groups (suc a) (map g (range_with_len (a + 1) m)))
      (λ n there. false_from (p n) (λ h. let s = (only n h).seated in let b = by_task_is_of groups a 0 (g a) n there in absurd (omega arith)))
      ∙ subst (λ (t : ℕ). find p (needed_from groups t (map g (range_with_len (a + 1) m))) ≡ Some one) step (found_in_tasks g m (a + 1) i (omega arith) (omega arith) is)

-- the need of a claim, found among those of all tasks
pub record IsFound (groups : List Set) (needs : ℕ → List RequestNeeds) (tasks : ℕ) (c : Claim) (number : ℕ) (one : Needed) : Type 0 where
  pub first : (c.write_half ≡ false) ⊎ (is_upgrade c.kind ≡ false) → find (is_of_request c.seat number) (needed_from groups 0 (map needs (range_with_len 0 tasks))) ≡ Some one
  pub write : c.write_half ≡ true → find (λ n. is_of_request c.seat number n && n.claim.write_half) (needed_from groups 0 (map needs (range_with_len 0 tasks))) ≡ Some one

is_of : (task number : ℕ) (n : Needed) → is_of_request task number n ≡ true → IsOf task number n.claim
is_of task number n h = let parts = and_parts (n.claim.seat == task) (n.claim.stamp == number) h in record { seated = eqb-true n.claim.seat task parts.0; stamped = eqb-true n.claim.stamp number parts.1 }

pub found : (groups : List Set) (needs : ℕ → List RequestNeeds) (tasks : ℕ) (c : Claim) (number : ℕ) (r : RequestFields) → c.seat < tasks → HasAt (needs c.seat) number r → Among c (claims_of groups c.stamp c.seat r)
    → IsFound groups needs tasks c number (record { claim = renumbered number c; len = length_of r c })
found groups needs tasks c number r below has there =
    let one : Needed = record { claim = renumbered number c; len = length_of r c } in
    let at_place : number ≡ 0 + number = omega arith in
    let at_task : c.seat ≡ 0 + c.seat = omega arith in
    record {
      first = λ h.
          let only = is_of c.seat number in
          found_in_tasks groups (is_of_request c.seat number) c.seat number only one needs tasks 0 c.seat below at_task
          (found_in_task groups (is_of_request c.seat number) c.seat number only one (needs c.seat) 0 number r has at_place (first_found groups r c.seat number r.kind c.stamp r.reads r.writes c there h));
      write = λ h.
          let only = λ (n : Needed) (pass : (is_of_request c.seat number n && n.claim.write_half) ≡ true). is_of c.seat number n (and_parts (is_of_request c.seat number n) n.claim.write_half pass).0 in
          let p = λ (n : Needed). is_of_request c.seat number n && n.claim.write_half in
          found_in_tasks groups p c.seat number only one needs tasks 0 c.seat below at_task
          (found_in_task groups p c.seat number only one (needs c.seat) 0 number r has at_place (write_found groups r c.seat number r.kind c.stamp r.reads r.writes c there h));
    }
