-- What a seat holds is what one of its claims holds, or nothing.
use Rattle.std.proofs.Common.{◌≡◌, ℕ, ◌==◌, Bool, true, false, not, ◌&&◌, cond, fold, List, [], ◌∷◌, refl, sym, ap, ◌∙◌, inl, inr}
use Rattle.std.proofs.lemmas.Bool.{eqb-true, eq-eqb, and_parts, and_from}
use Rattle.std.specs.Ordering.{nat_cmp}
use Rattle.std.specs.List.{list_any, AllByRecursion}
use Rattle.std.specs.FinSet.{empty, len, len-empty, intersection, is_subset, empty_of_len}
use Rattle.rset.proofs.SetLemmas.{within_reflexive, within_transitive, within_empty, empty_within, intersection_within_right, meets_by_intersection, meets_empty_left}
use Rattle.rclaim.specs.declared.claim.Claim.{Claim}
use Rattle.rmodel.specs.declared.claimed.Claimed.{Claimed}
use Rattle.rmodel.specs.declared.granted.Granted.{Granted}
use Rattle.rmodel.specs.Claims.{is_nested, is_satisfied, waiting}
use Rattle.rmodel.specs.Holds.{nothing, both, held_by, holds_of, is_nothing, is_within, has_request, Alone}
use Rattle.rmodel.specs.WellFormed.{EachPair, Among}
use Rattle.rmodel.proofs.ListFacts.{contrary, passing, none_among, all_at, all_from, false_from}
use Rattle.rmodel.proofs.settling.OneSettlement.{both_cases}
use Rattle.rmodel.proofs.reaching.OneOfSeat.{nothing_both, rest_holds}

-- ---- what is held, compared

pub nothing_of : (g : Granted) → is_nothing g ≡ true → g ≡ nothing
nothing_of g h =
    let parts = and_parts (len g.reads == 0) (len g.writes == 0) h in
    let no_reads = empty_of_len g.reads (eqb-true (len g.reads) 0 parts.0) in
    let no_writes = empty_of_len g.writes (eqb-true (len g.writes) 0 parts.1) in
    (λ i. record { reads = no_reads i; writes = no_writes i })

pub is_nothing_of : (g : Granted) → g ≡ nothing → is_nothing g ≡ true
is_nothing_of g e =
    let zero : (len (empty {R = nat_cmp}) == 0) ≡ true = eq-eqb _ 0 (len-empty nat_cmp) in
    ap is_nothing e ∙ (λ i. zero i && zero i)

pub within_itself : (g : Granted) → is_within g g ≡ true
within_itself g = and_from (is_subset g.reads g.reads) (is_subset g.writes g.writes) (within_reflexive g.reads) (within_reflexive g.writes)

pub nothing_within : (g : Granted) → is_within nothing g ≡ true
nothing_within g = and_from (is_subset empty g.reads) (is_subset empty g.writes) (within_empty g.reads) (within_empty g.writes)

pub within_nothing : (g : Granted) → is_within g nothing ≡ true → g ≡ nothing
within_nothing g h =
    let parts = and_parts (is_subset g.reads empty) (is_subset g.writes empty) h in
    let no_reads = empty_within g.reads parts.0 in
    let no_writes = empty_within g.writes parts.1 in
    (λ i. record { reads = no_reads i; writes = no_writes i })

pub within_all : (f g h : Granted) → is_within f g ≡ true → is_within g h ≡ true → is_within f h ≡ true
within_all f g h a b =
    let of_a = and_parts (is_subset f.reads g.reads) (is_subset f.writes g.writes) a in
    let of_b = and_parts (is_subset g.reads h.reads) (is_subset g.writes h.writes) b in
    and_from (is_subset f.reads h.reads) (is_subset f.writes h.writes) (within_transitive f.reads g.reads h.reads of_a.0 of_b.0) (within_transitive f.writes g.writes h.writes of_a.1 of_b.1)

-- ---- what a claim holds

-- all that a claim reads and writes
abbrev pub all_of : Claim → Granted
all_of c = record { reads = c.reads; writes = c.writes }

-- a satisfied claim holds all of it and an unsatisfied one holds nothing, except for a nested request
pub held_of_plain : (x : Claimed) → is_nested x.claim.kind ≡ false → is_satisfied x ≡ true → held_by x ≡ all_of x.claim
held_of_plain x plain sat =
    (λ i. cond (plain i) (record { reads = intersection x.granted x.claim.reads; writes = intersection x.granted x.claim.writes }) (cond (sat i) (all_of x.claim) nothing))

pub held_of_unsatisfied : (x : Claimed) → is_nested x.claim.kind ≡ false → is_satisfied x ≡ false → held_by x ≡ nothing
held_of_unsatisfied x plain unsat =
    (λ i. cond (plain i) (record { reads = intersection x.granted x.claim.reads; writes = intersection x.granted x.claim.writes }) (cond (unsat i) (all_of x.claim) nothing))

-- the claim of a nested request holds what was granted to it
pub held_of_nested : (x : Claimed) → is_nested x.claim.kind ≡ true → held_by x ≡ record { reads = intersection x.granted x.claim.reads; writes = intersection x.granted x.claim.writes }
held_of_nested x nested =
    (λ i. cond (nested i) (record { reads = intersection x.granted x.claim.reads; writes = intersection x.granted x.claim.writes }) (cond (is_satisfied x) (all_of x.claim) nothing))

-- a claim holds no more than it reads and writes
pub held_within : (x : Claimed) → is_within (held_by x) (all_of x.claim) ≡ true
held_within x = at (is_nested x.claim.kind) (is_satisfied x)
  where
    at : (n b : Bool) → is_within (cond n (record { reads = intersection x.granted x.claim.reads; writes = intersection x.granted x.claim.writes }) (cond b (all_of x.claim) nothing)) (all_of x.claim) ≡ true
    at true b =
        and_from (is_subset (intersection x.granted x.claim.reads) x.claim.reads) (is_subset (intersection x.granted x.claim.writes) x.claim.writes)
        (intersection_within_right x.granted x.claim.reads) (intersection_within_right x.granted x.claim.writes)
    at false true = within_itself (all_of x.claim)
    at false false = nothing_within (all_of x.claim)

-- a new claim holds nothing
pub new_holds_nothing : (c : Claim) → held_by (waiting empty c) ≡ nothing
new_holds_nothing c = at (is_nested c.kind)
  where
    none : (s : _) → intersection (empty {R = nat_cmp}) s ≡ empty
    none s = meets_by_intersection empty s (meets_empty_left s)

    at : (n : Bool) → cond n (record { reads = intersection empty c.reads; writes = intersection empty c.writes }) nothing ≡ nothing
    at true = (λ i. record { reads = none c.reads i; writes = none c.writes i })
    at false = refl

-- ---- what a seat holds

-- what is held, and what the claims of a seat hold with it
abbrev held_with : ℕ → List Claimed → Granted → Granted
held_with seat xs all = fold (λ all x. cond (x.claim.seat == seat) (both all (held_by x)) all) all xs

-- a claim of the seat that holds something holds what the seat holds
pub holds_here : (xs : List Claimed) (seat : ℕ) (y : Claimed) → EachPair Alone xs → Among y xs → y.claim.seat ≡ seat → is_nothing (held_by y) ≡ false → holds_of xs seat ≡ held_by y
unfolding holds_of
holds_here [] seat y alone there seated some = absurd there
holds_here (z ∷ zs) seat y alone (inl same) seated some =
    let is : (z.claim.seat == seat) ≡ true = eq-eqb z.claim.seat seat (ap (λ (w : Claimed). w.claim.seat) (sym same) ∙ seated) in
    ap (λ b. held_with seat zs (cond b (both nothing (held_by z)) nothing)) is
    ∙ rest_holds seat (both nothing (held_by z)) zs (all_from _ zs (λ w in_zs is_w. (all_at (Alone z) zs w alone.0 in_zs (eqb-true z.claim.seat seat is ∙ sym (eqb-true w.claim.seat seat is_w))).0))
    ∙ nothing_both seat (held_by z) ∙ ap held_by (sym same)
holds_here (z ∷ zs) seat y alone (inr later) seated some =
    let other : (z.claim.seat == seat) ≡ false = false_from (z.claim.seat == seat) (λ is.
    contrary (is_nothing (held_by y)) (is_nothing_of (held_by y) (all_at (Alone z) zs y alone.0 later (eqb-true z.claim.seat seat is ∙ sym seated)).0) some) in
    ap (λ b. held_with seat zs (cond b (both nothing (held_by z)) nothing)) other ∙ holds_here zs seat y alone.1 later seated some

-- a seat none of whose claims holds anything holds nothing
pub holds_nothing : (xs : List Claimed) (seat : ℕ) → AllByRecursion (λ y. (y.claim.seat == seat) ≡ true → held_by y ≡ nothing) xs → holds_of xs seat ≡ nothing
unfolding holds_of
holds_nothing xs seat none = rest_holds seat nothing xs none

-- so an idle seat holds nothing
pub idle_holds_nothing : (xs : List Claimed) (seat : ℕ) → has_request xs seat ≡ false → holds_of xs seat ≡ nothing
idle_holds_nothing xs seat idle =
    holds_nothing xs seat (all_from _ xs (λ y there is. contrary (y.claim.seat == seat) is (none_among (λ x. x.claim.seat == seat) xs y idle there)))

-- a claim of the seat that holds something: it holds all that the seat holds
pub record HeldBy (xs : List Claimed) (seat : ℕ) : Type 0 where
  pub by : Claimed
  pub there : Among by xs
  pub seated : by.claim.seat ≡ seat
  pub some : is_nothing (held_by by) ≡ false
  pub is : holds_of xs seat ≡ held_by by

pub holding : {P : Type 0} → (xs : List Claimed) (seat : ℕ) → EachPair Alone xs → (HeldBy xs seat → P) → (holds_of xs seat ≡ nothing → P) → P
holding xs seat alone by_one by_none =
    both_cases (list_any (λ y. (y.claim.seat == seat) && not (is_nothing (held_by y))) xs)
    (λ some.
    let y = passing (λ y. (y.claim.seat == seat) && not (is_nothing (held_by y))) xs some in
    let parts = and_parts (y.0.claim.seat == seat) (not (is_nothing (held_by y.0))) y.2 in
    let seated = eqb-true y.0.claim.seat seat parts.0 in
    let filled = from_not (is_nothing (held_by y.0)) parts.1 in
    by_one (record { by = y.0; there = y.1; seated = seated; some = filled; is = holds_here xs seat y.0 alone y.1 seated filled }))
    (λ none. by_none (holds_nothing xs seat (all_from _ xs (λ y there is.
    nothing_of (held_by y) (from_none (y.claim.seat == seat) (is_nothing (held_by y)) is (none_among (λ y. (y.claim.seat == seat) && not (is_nothing (held_by y))) xs y none there))))))
  where
    from_not : (b : Bool) → not b ≡ true → b ≡ false
    from_not true h = sym h
    from_not false h = refl

    from_none : (a b : Bool) → a ≡ true → (a && not b) ≡ false → b ≡ true
    from_none true true is h = refl
    from_none true false is h = sym h
    from_none false b is h = contrary false is refl
