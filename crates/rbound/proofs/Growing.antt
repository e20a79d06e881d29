-- The needed claims when a request is added after the others of its task: those of the tasks up to it, its own, and those of the later tasks.
use Rattle.std.proofs.Common.{◌≡◌, ◌≤◌, ◌<◌, ◌+◌, ℕ, zero, suc, List, [], ◌∷◌, ◌++◌, length, map, refl, sym, ap, subst, ◌∙◌, arith}
use Rattle.std.specs.List.{AllByRecursion}
use Rattle.rset.specs.Sets.{Set}
use Rattle.rclaim.specs.Requests.{RequestFields}
use Rattle.rclaim.specs.declared.claim.Claim.{Claim}
use Rattle.rclaim.specs.declared.request.Kind.{Kind}
use Rattle.rclaim.specs.declared.request.Kind.TheVariants.{Read, Write, Mixed, Upgrade, Nested}
use Rattle.rmodel.specs.Claims.{claims_by}
use Rattle.rmodel.proofs.ListFacts.{all_append}
use Rattle.rbound.specs.Needs.{Needed, Needs, RequestNeeds, needed_of, needed_by_task, needed_from, length_of}
use Rattle.rbound.specs.TaskNeeds.{none_needed, with_request, with_last_ask, with_ask, requests_of}

weaken : {X : Type 0} (P Q : X → Type 0) → ((x : X) → P x → Q x) → (xs : List X) → AllByRecursion P xs → AllByRecursion Q xs
weaken P Q w [] all = all
weaken P Q w (x ∷ xs) all = (w x all.0, weaken P Q w xs all.1)

append_none : {X : Type 0} (xs : List X) → xs ++ [] ≡ xs
append_none [] = refl
append_none (x ∷ xs) = ap (λ ys. x ∷ ys) (append_none xs)

assoc : {X : Type 0} (xs ys zs : List X) → (xs ++ ys) ++ zs ≡ xs ++ (ys ++ zs)
assoc [] ys zs = refl
assoc (x ∷ xs) ys zs = ap (λ us. x ∷ us) (assoc xs ys zs)

abbrev IsOf : ℕ → Needed → Type 0
IsOf task n = n.claim.seat ≡ task

-- the task of a claim is not later than this one, or it is later
abbrev pub IsUpTo : ℕ → Needed → Type 0
IsUpTo task n = n.claim.seat ≤ task

abbrev pub IsAfter : ℕ → Needed → Type 0
IsAfter task n = task < n.claim.seat

module _ (groups : List Set) where
  seats_by : (k : Kind) (len : Claim → ℕ) (task number : ℕ) (reads writes : Set) → AllByRecursion (IsOf task) (map (λ c. record { claim = c; len = len c }) (claims_by groups k number task reads writes))
  seats_by Read len task number reads writes = (refl, tt)
  seats_by Write len task number reads writes = (refl, tt)
  seats_by Mixed len task number reads writes = (refl, tt)
  seats_by Upgrade len task number reads writes = (refl, (refl, tt))
  seats_by Nested len task number reads writes = (refl, tt)

  seats_of_task : (task number : ℕ) (ns : List RequestNeeds) → AllByRecursion (IsOf task) (needed_by_task groups task number ns)
  seats_of_task task number [] = tt
  seats_of_task task number (n ∷ ns) =
      all_append (IsOf task) (needed_of groups task number n.request) (needed_by_task groups task (suc number) ns)
      (seats_by n.request.kind (length_of n.request) task number n.request.reads n.request.writes)
      (seats_of_task task (suc number) ns)

  at_least : (low : ℕ) (needs : Needs) → AllByRecursion (λ n. low ≤ n.claim.seat) (needed_from groups low needs)
  at_least low [] = tt
  at_least low (ns ∷ rest) =
      all_append (λ (n : Needed). low ≤ n.claim.seat) (needed_by_task groups low 0 ns) (needed_from groups (suc low) rest)
      (weaken (IsOf low) (λ (n : Needed). low ≤ n.claim.seat) (λ n h. omega arith) (needed_by_task groups low 0 ns) (seats_of_task low 0 ns))
      (weaken (λ (n : Needed). suc low ≤ n.claim.seat) (λ (n : Needed). low ≤ n.claim.seat) (λ n h. omega arith) (needed_from groups (suc low) rest) (at_least (suc low) rest))

  pushed : (task number : ℕ) (ns : List RequestNeeds) (n : RequestNeeds) → needed_by_task groups task number (ns ++ n ∷ []) ≡ needed_by_task groups task number ns ++ needed_of groups task (number + length ns) n.request
  pushed task number [] n =
      let same : number ≡ number + 0 = omega arith in
      append_none (needed_of groups task number n.request) ∙ ap (λ k. needed_of groups task k n.request) same
  pushed task number (m ∷ ns) n =
      let same : suc number + length ns ≡ number + length (m ∷ ns) = omega arith in
      ap (λ xs. needed_of groups task number m.request ++ xs) (pushed task (suc number) ns n ∙ ap (λ k. needed_by_task groups task (suc number) ns ++ needed_of groups task k n.request) same)
      ∙ sym (assoc (needed_of groups task number m.request) (needed_by_task groups task (suc number) ns) (needed_of groups task (number + length (m ∷ ns)) n.request))

  -- where the claims of a new request go among the others
  pub record Place (low t task : ℕ) (needs : Needs) (r : RequestFields) : Type 0 where
    pub before : List Needed
    pub behind : List Needed
    pub is : needed_from groups low needs ≡ before ++ behind
    pub up_to : AllByRecursion (IsUpTo task) before
    pub after : AllByRecursion (IsAfter task) behind
    pub more : needed_from groups low (with_request needs t r) ≡ before ++ (needed_of groups task (length (requests_of needs t)) r ++ behind)

  pub place_of : (low t task : ℕ) (needs : Needs) (r : RequestFields) → low + t ≡ task → t < length needs → Place low t task needs r
  place_of low t task [] r is h = absurd (omega arith)
  place_of low zero task (ns ∷ rest) r is h = subst (λ (k : ℕ). Place low 0 k (ns ∷ rest) r) same (record {
    before = needed_by_task groups low 0 ns;
    behind = needed_from groups (suc low) rest;
    is = refl;
    up_to = weaken (IsOf low) (IsUpTo low) (λ n h. omega arith) (needed_by_task groups low 0 ns) (seats_of_task low 0 ns);
    after = weaken (λ (n : Needed). suc low ≤ n.claim.seat) (IsAfter low) (λ n h. omega arith) (needed_from groups (suc low) rest) (at_least (suc low) rest);
    more =
        ap (λ xs. xs ++ needed_from groups (suc low) rest) (pushed low 0 ns (record { request = r; asks = [] }) ∙ ap (λ k. needed_by_task groups low 0 ns ++ needed_of groups low k r) none)
        ∙ assoc (needed_by_task groups low 0 ns) (needed_of groups low (length ns) r) (needed_from groups (suc low) rest);
  })
    where
      same : low ≡ task
      same = omega arith

      none : 0 + length ns ≡ length ns
      none = omega arith
  place_of low (suc t) task (ns ∷ rest) r is h = at (place_of (suc low) t task rest r (omega arith) (omega arith))
    where
      at : Place (suc low) t task rest r → Place low (suc t) task (ns ∷ rest) r
      at p = record {
        before = needed_by_task groups low 0 ns ++ p.before;
        behind = p.behind;
        is = ap (λ xs. needed_by_task groups low 0 ns ++ xs) p.is ∙ sym (assoc (needed_by_task groups low 0 ns) p.before p.behind);
        up_to =
            all_append (IsUpTo task) (needed_by_task groups low 0 ns) p.before
            (weaken (IsOf low) (IsUpTo task) (λ n h. omega arith) (needed_by_task groups low 0 ns) (seats_of_task low 0 ns)) p.up_to;
        after = p.after;
        more = ap (λ xs. needed_by_task groups low 0 ns ++ xs) p.more ∙ sym (assoc (needed_by_task groups low 0 ns) p.before (needed_of groups task (length (requests_of rest t)) r ++ p.behind));
      }

  asked_of_task : (task number : ℕ) (ns : List RequestNeeds) (part : Set) → needed_by_task groups task number (with_last_ask ns part) ≡ needed_by_task groups task number ns
  asked_of_task task number [] part = refl
  asked_of_task task number (n ∷ []) part = refl
  asked_of_task task number (n ∷ m ∷ ns) part = ap (λ xs. needed_of groups task number n.request ++ xs) (asked_of_task task (suc number) (m ∷ ns) part)

  -- an ask makes no claim
  pub asked : (low : ℕ) (needs : Needs) (task : ℕ) (part : Set) → needed_from groups low (with_ask needs task part) ≡ needed_from groups low needs
  asked low [] task part = refl
  asked low (ns ∷ rest) zero part = ap (λ xs. xs ++ needed_from groups (suc low) rest) (asked_of_task low 0 ns part)
  asked low (ns ∷ rest) (suc task) part = ap (λ xs. needed_by_task groups low 0 ns ++ xs) (asked (suc low) rest task part)

  pub nothing_needed : (low tasks : ℕ) → needed_from groups low (none_needed tasks) ≡ []
  nothing_needed low zero = refl
  nothing_needed low (suc tasks) = nothing_needed (suc low) tasks
