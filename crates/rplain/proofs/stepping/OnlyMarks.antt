-- Only the seats of claims are marked: a mark is removed with its request.
use Rattle.std.proofs.Common.{◌≡◌, ℕ, ◌<◌, ◌==◌, true, false, not, ◌&&◌, ◌||◌, Bool, List, ◌++◌, map, filter, length, get_or, refl, sym, ap, subst, ◌∙◌, inl, inr, ⊎_elim, arith}
use Rattle.std.proofs.Math.ListN.{set, replicate}
use Rattle.std.proofs.lemmas.Bool.{and_parts, eqb-true, eq-eqb, cases_lt}
use Rattle.std.proofs.lemmas.List.{get_or-replicate, get_or_past, get_or-set_same, get_or-set_other, length-replicate}
use Rattle.std.specs.List.{list_any, AllZip}
use Rattle.rset.specs.Sets.{Set}
use Rattle.rclaim.specs.Requests.{RequestFields}
use Rattle.rclaim.specs.declared.claim.Claim.{Claim}
use Rattle.rclaim.specs.declared.event.Event.{Event}
use Rattle.rclaim.specs.declared.request.Kind.{Kind}
use Rattle.rclaim.specs.declared.request.Kind.TheVariants.{Read, Write, Mixed, Upgrade, Nested}
use Rattle.rmodel.specs.declared.claimed.Claimed.{Claimed}
use Rattle.rmodel.specs.Changes.{SameClaim}
use Rattle.rmodel.specs.Claims.{claims_by, claims_of, is_read_half, waiting}
use Rattle.rmodel.specs.Holds.{may_rise}
use Rattle.rmodel.specs.State.{LockState}
use Rattle.rmodel.specs.Steps.{Comes, changed, next}
use Rattle.rmodel.specs.WellFormed.{Among, EachPair, Distinct, IsSound}
use Rattle.rmodel.proofs.ListFacts.{contrary, false_from, any_among, passing, in_filter, among_behind, pair_among, some_second}
use Rattle.rmodel.proofs.reaching.Came.{in_append}
use Rattle.rmodel.proofs.settling.Keeping.{not_false}
use Rattle.rmodel.proofs.settling.OneSettlement.{both_cases}
use Rattle.rplain.specs.Sweep.{is_of, is_read_of}
use Rattle.rplain.specs.Plain.{AreOnlyMarks, is_whole_of}
use Rattle.rplain.proofs.stepping.Marked.{next_same, unequal}

-- at first no seat is marked
pub none_only : (n : ℕ) (xs : List Claimed) → AreOnlyMarks (replicate n false) xs
none_only n xs = λ seat marked. contrary (get_or (replicate n false) seat false) marked
    (⊎_elim (λ less. get_or-replicate n seat false false less) (λ more. get_or_past (replicate n false) seat false (let same = length-replicate n false in omega arith)) (cases_lt seat n))

-- an issue adds a claim of its seat that is not a read half
issued_whole : (groups : List Set) (stamp seat : ℕ) (r : RequestFields) → list_any (is_whole_of seat) (map (waiting r.first) (claims_of groups stamp seat r)) ≡ true
issued_whole groups stamp seat r = by r.kind
  where
    own : (seat == seat) ≡ true
    own = eq-eqb seat seat refl

    by : (k : Kind) → list_any (is_whole_of seat) (map (waiting r.first) (claims_by groups k stamp seat r.reads r.writes)) ≡ true
    by Read = ap (λ b. (b && true) || false) own
    by Write = ap (λ b. (b && true) || false) own
    by Mixed = ap (λ b. (b && true) || false) own
    by Upgrade = ap (λ b. (b && false) || ((b && true) || false)) own
    by Nested = ap (λ b. (b && true) || false) own

pub issued_only : (marks : List Bool) (xs : List Claimed) (groups : List Set) (stamp seat : ℕ) (r : RequestFields) → AreOnlyMarks marks xs
    → AreOnlyMarks (set marks seat true) (xs ++ map (waiting r.first) (claims_of groups stamp seat r))
issued_only marks xs groups stamp seat r only = λ k marked.
    let ns = map (waiting r.first) (claims_of groups stamp seat r) in
    both_cases (k == seat)
    (λ is.
    let w = passing (is_whole_of k) ns (subst (λ (j : ℕ). list_any (is_whole_of j) ns ≡ true) (sym (eqb-true k seat is)) (issued_whole groups stamp seat r)) in
    any_among (is_whole_of k) (xs ++ ns) w.0 (among_behind xs ns w.0 w.1) w.2)
    (λ other.
    let w = passing (is_whole_of k) xs (only k (sym (get_or-set_other marks seat k true false (unequal k seat other)) ∙ marked)) in
    any_among (is_whole_of k) (xs ++ ns) w.0 (in_append xs ns w.0 w.1) w.2)

-- a finish removes the mark of its seat
pub finished_only : (marks : List Bool) (xs : List Claimed) (seat : ℕ) → seat < length marks → AreOnlyMarks marks xs → AreOnlyMarks (set marks seat false) (filter (λ x. not (is_of seat x)) xs)
finished_only marks xs seat h only = λ k marked.
    both_cases (k == seat)
    (λ is. contrary (get_or (set marks seat false) k false) marked (ap (λ j. get_or (set marks seat false) j false) (eqb-true k seat is) ∙ get_or-set_same marks seat false false h))
    (λ other.
    let w = passing (is_whole_of k) xs (only k (sym (get_or-set_other marks seat k false false (unequal k seat other)) ∙ marked)) in
    let parts = and_parts (w.0.claim.seat == k) (not (is_read_half w.0.claim)) w.2 in
    any_among (is_whole_of k) (filter (λ x. not (is_of seat x)) xs) w.0
    (in_filter (λ x. not (is_of seat x)) xs w.0 w.1 (ap not (ap (λ j. j == seat) (eqb-true w.0.claim.seat k parts.0) ∙ other))) w.2)

-- a rise removes only a read half
pub risen_only : (marks : List Bool) (xs : List Claimed) (seat : ℕ) → EachPair Distinct xs → may_rise xs seat ≡ true → AreOnlyMarks marks xs → AreOnlyMarks marks (filter (λ x. not (is_read_of seat x)) xs)
risen_only marks xs seat distinct rises only = λ k marked.
    let w = passing (is_whole_of k) xs (only k marked) in
    let parts = and_parts (w.0.claim.seat == k) (not (is_read_half w.0.claim)) w.2 in
    any_among (is_whole_of k) (filter (λ x. not (is_read_of seat x)) xs) w.0
    (in_filter (λ x. not (is_read_of seat x)) xs w.0 w.1 (ap not (false_from (is_read_of seat w.0) (λ goes. not_whole w.0 w.1 goes (not_false (is_read_half w.0.claim) parts.1))))) w.2
  where
    not_whole : (x : Claimed) → Among x xs → is_read_of seat x ≡ true → is_read_half x.claim ≡ false → ⊥
    not_whole x there goes whole =
        let parts = and_parts (x.claim.seat == seat) (not x.claim.write_half) goes in
        let half = passing (λ y. (y.claim.seat == seat) && is_read_half y.claim) xs rises in
        let halves = and_parts (half.0.claim.seat == seat) (is_read_half half.0.claim) half.2 in
        let same : x.claim.seat ≡ half.0.claim.seat = eqb-true x.claim.seat seat parts.0 ∙ sym (eqb-true half.0.claim.seat seat halves.0) in
        elim (pair_among Distinct xs x half.0 distinct there half.1) [
          | inl is ↦ contrary (is_read_half x.claim) (ap (λ (y : Claimed). is_read_half y.claim) is ∙ halves.1) whole
          | inr (inl h) ↦ contrary (is_read_half x.claim) (h same).reads whole
          | inr (inr h) ↦ contrary x.claim.write_half (h (sym same)).writes (not_false x.claim.write_half parts.1)
        ]

-- claims that change only in how far they are keep all marks
pub same_only : (marks : List Bool) (xs ys : List Claimed) → AllZip SameClaim xs ys → AreOnlyMarks marks xs → AreOnlyMarks marks ys
same_only marks xs ys zip only = λ k marked.
    some_second SameClaim (is_whole_of k) (is_whole_of k) (λ x y same h. ap (λ (c : Claim). (c.seat == k) && not (is_read_half c)) same ∙ h) xs ys zip (only k marked)

pub only_next : (s : LockState) (e : Event) → IsSound s → Comes s e → (marks : List Bool) → AreOnlyMarks marks (changed s e).claims → AreOnlyMarks marks (next s e).claims
only_next s e sound comes marks only = same_only marks (changed s e).claims (next s e).claims (next_same s e sound comes) only
