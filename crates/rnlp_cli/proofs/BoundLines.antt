-- Each wait that a request may have is among those whose bounds are written.
use Rattle.std.proofs.Common.{◌≡◌, ◌<◌, ◌+◌, ℕ, zero, suc, List, [], ◌∷◌, length, Option, Some, None, inl, inr, refl, sym, subst, arith}
use Rattle.std.specs.Prelude.{IsSome, option_map, slice_get}
use Rattle.std.specs.List.{flat_map, range_with_len}
use Rattle.rclaim.specs.declared.request.Kind.{Kind}
use Rattle.rclaim.specs.declared.request.Kind.TheVariants.{Upgrade, Nested}
use Rattle.rmodel.specs.WellFormed.{Among}
use Rattle.rmodel.proofs.ListFacts.{among_behind}
use Rattle.rmodel.proofs.reaching.Came.{in_map, in_append}
use Rattle.rbound.specs.Needs.{RequestNeeds}
use Rattle.rbound.specs.TaskNeeds.{TaskNeeds, requests_of, kind_at, asks_at}
use Rattle.rbound.specs.declared.which.Which.{Which}
use Rattle.rbound.specs.declared.which.Which.TheVariants.{First, Rise, Ask}
use Rattle.rcover_laws.proofs.lists.Counting.{in_range}
use Rattle.rbound_history.specs.Foreseen.{MayHave}
use Rattle.rtrace_form.specs.Records.{Row}
use Rattle.rtrace_form.specs.SetFields.{name_at}
use Rattle.rnlp_cli.specs.BoundText.{waits_of, wait_row, request_rows, task_rows, tasks_rows}

in_flat_map : {X Y : Type 0} (f : X → List Y) (xs : List X) (x : X) (y : Y) → Among x xs → Among y (f x) → Among y (flat_map f xs)
in_flat_map f [] x y none there = absurd none
in_flat_map f (z ∷ xs) x y (inl same) there = in_append (f z) (flat_map f xs) y (subst (λ v. Among y (f v)) same there)
in_flat_map f (z ∷ xs) x y (inr later) there = among_behind (f z) (flat_map f xs) y (in_flat_map f xs x y later there)

-- the numbers below n
below : (n k : ℕ) → k < n → Among k (range_with_len 0 n)
below n k less =
    let same : 0 + k ≡ k = omega arith in
    subst (λ (j : ℕ). Among j (range_with_len 0 n)) same (in_range n 0 k less)

-- a request that exists is found at its number
there_of : (ns : List RequestNeeds) (k : ℕ) → IsSome (option_map (λ (n : RequestNeeds). n.request.kind) (slice_get ns k)) → k < length ns
there_of [] k some = cc
there_of (n ∷ ns) zero some = omega arith
there_of (n ∷ ns) (suc k) some = let less = there_of ns k some in omega (arith, less)

some_of : (o : Option Kind) (k : Kind) → o ≡ Some k → IsSome o
some_of o k is = subst (λ (p : Option Kind). IsSome p) (sym is) refl

module _ (needs : TaskNeeds) (task number : ℕ) where
  abbrev kind : Option Kind
  kind = kind_at needs.tasks task number

  abbrev asks : ℕ
  asks = length (asks_at needs.tasks task number)

  request_is : (w : Which) → MayHave needs.tasks task number w → IsSome kind
  request_is First may = may
  request_is Rise may = some_of kind Upgrade may
  request_is (Ask i) may = some_of kind Nested may.0

  wait_is : (w : Which) → MayHave needs.tasks task number w → Among w (waits_of kind asks)
  wait_is First may = at kind may
    where
      at : (o : Option Kind) → IsSome o → Among First (waits_of o asks)
      at None some = cc
      at (Some k) some = inl refl
  wait_is Rise may = subst (λ (o : Option Kind). Among Rise (waits_of o asks)) (sym may) (inr (inl refl))
  wait_is (Ask i) may = subst (λ (o : Option Kind). Among (Ask i) (waits_of o asks)) (sym may.0) (inr (in_map Ask (range_with_len 0 asks) i (below asks i may.1)))

-- the record of its bound is written
pub row_is : (needs : TaskNeeds) (cap : ℕ) (names : List (List ℕ)) (task number : ℕ) (w : Which) → task < length names → MayHave needs.tasks task number w
    → Among (wait_row needs cap (name_at names task) task number w) (tasks_rows needs cap names)
row_is needs cap names task number w seated may =
    let name = name_at names task in
    let row : Row = wait_row needs cap name task number w in
    in_flat_map (λ (t : ℕ). task_rows needs cap (name_at names t) t) (range_with_len 0 (length names)) task row (below (length names) task seated)
    (in_flat_map (request_rows needs cap name task) (range_with_len 0 (length (requests_of needs.tasks task))) number row
    (below (length (requests_of needs.tasks task)) number (there_of (requests_of needs.tasks task) number (request_is needs task number w may)))
    (in_map (wait_row needs cap name task number) (waits_of (kind_at needs.tasks task number) (length (asks_at needs.tasks task number))) w (wait_is needs task number w may)))
