-- Where the claims of later tasks begin in a list of claims.
use Rattle.std.proofs.Common.{◌≡◌, ◌≤◌, ◌<◌, ◌-◌, ℕ, zero, suc, List, [], ◌∷◌, ◌++◌, length, slice_index_or, ap, subst, ⊎_elim, arith}
use Rattle.std.proofs.lemmas.Bool.{cases_lt}
use Rattle.std.specs.List.{AllByRecursion}
use Rattle.rbound.specs.Needs.{Needed}
use Rattle.rbound.proofs.Growing.{IsUpTo, IsAfter}

-- the claims from a place on are of later tasks
abbrev pub AreAfter : List Needed → ℕ → ℕ → Type 0
AreAfter ns task at = (k : ℕ) (d : Needed) → at ≤ k → k < length ns → task < (slice_index_or ns k d).claim.seat

-- no claim before a split is of a later task, and each claim after it is
at_before : (before behind : List Needed) (task k : ℕ) (d : Needed) → AllByRecursion (IsUpTo task) before → k < length before → (slice_index_or (before ++ behind) k d).claim.seat ≤ task
at_before [] behind task k d all h = absurd (omega arith)
at_before (n ∷ ns) behind task zero d all h = all.0
at_before (n ∷ ns) behind task (suc k) d all h = at_before ns behind task k d all.1 (omega arith)

at_behind : (before behind : List Needed) (task k : ℕ) (d : Needed) → AllByRecursion (IsAfter task) behind → length before ≤ k → k < length (before ++ behind) → task < (slice_index_or (before ++ behind) k d).claim.seat
at_behind [] [] task k d all h l = absurd (omega arith)
at_behind [] (n ∷ ns) task zero d all h l = all.0
at_behind [] (n ∷ ns) task (suc k) d all h l = at_behind [] ns task k d all.1 (omega arith) (omega arith)
at_behind (m ∷ ms) behind task zero d all h l = absurd (omega arith)
at_behind (m ∷ ms) behind task (suc k) d all h l = at_behind ms behind task k d all (omega arith) (omega arith)

longer : (before behind : List Needed) → length before ≤ length (before ++ behind)
longer [] behind = omega arith
longer (n ∷ ns) behind = let rest = longer ns behind in omega arith

-- the claims from a place on are of later tasks, and the claim before it is not, so the split is there
place_with : (d : Needed) (task at : ℕ) (before behind : List Needed) → AllByRecursion (IsUpTo task) before → AllByRecursion (IsAfter task) behind
    → at ≤ length (before ++ behind) → AreAfter (before ++ behind) task at → (0 < at → (slice_index_or (before ++ behind) (at - 1) d).claim.seat ≤ task) → at ≡ length before
place_with d task at before behind up_to after within late last =
    ⊎_elim
    (λ less.
    let long = longer before behind in
    let low = at_before before behind task at d up_to less in
    let high = late at d (omega arith) (omega arith) in
    absurd (omega arith))
    (λ more.
    ⊎_elim
    (λ less.
    let low = last (omega arith) in
    let high = at_behind before behind task (at - 1) d after (omega arith) (omega arith) in
    absurd (omega arith))
    (λ most. omega arith)
    (cases_lt (length before) at))
    (cases_lt at (length before))

pub place_is : (ns : List Needed) (task at : ℕ) → at ≤ length ns → AreAfter ns task at → ((d : Needed) → 0 < at → (slice_index_or ns (at - 1) d).claim.seat ≤ task)
    → (before behind : List Needed) → ns ≡ before ++ behind → AllByRecursion (IsUpTo task) before → AllByRecursion (IsAfter task) behind → at ≡ length before
place_is [] task at within late last before behind is up_to after =
    let long = longer before behind in
    let none : 0 ≡ length (before ++ behind) = ap length is in
    omega arith
place_is (n ∷ ns) task at within late last before behind is up_to after =
    place_with n task at before behind up_to after
    (subst (λ (xs : List Needed). at ≤ length xs) is within)
    (subst (λ (xs : List Needed). AreAfter xs task at) is late)
    (λ some. subst (λ (xs : List Needed). (slice_index_or xs (at - 1) n).claim.seat ≤ task) is (last n some))
