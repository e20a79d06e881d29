-- A second claim of a seat holds nothing, so the first one shows what the seat holds.
use Rattle.std.proofs.Common.{◌≡◌, ℕ, ◌==◌, Bool, true, false, cond, List, [], ◌∷◌, fold, refl, sym, ap, ◌∙◌}
use Rattle.std.proofs.lemmas.Bool.{true_from_ne_false}
use Rattle.std.specs.List.{AllByRecursion}
use Rattle.std.specs.FinSet.{intersection}
use Rattle.rset.specs.Sets.{meets}
use Rattle.rset.proofs.SetLemmas.{meets_itself, union_empty_left, union_empty_right}
use Rattle.rclaim.specs.declared.request.Kind.{Kind}
use Rattle.rclaim.specs.declared.request.Kind.TheVariants.{Read, Write, Mixed, Upgrade, Nested}
use Rattle.rmodel.specs.declared.claimed.Claimed.{Claimed}
use Rattle.rmodel.specs.declared.granted.Granted.{Granted}
use Rattle.rmodel.specs.Claims.{conflicts, is_nested, is_upgrade, is_satisfied}
use Rattle.rmodel.specs.Holds.{nothing, both, held_by, Alone}
use Rattle.rmodel.specs.Reached.{IsReached}
use Rattle.rmodel.specs.State.{LockState}
use Rattle.rmodel.specs.WellFormed.{EachPair, IsClaim, Distinct, TakeTurns, Apart, HasParts}
use Rattle.rmodel.proofs.ListFacts.{contrary, false_from, all_at, all_from, pairs_both, pairs_with}
use Rattle.rmodel.proofs.settling.Settlement.{conflict_of_read}
use Rattle.rmodel.proofs.reaching.Soundness.{active_of_satisfied, read_of_half}

-- ---- a second claim of a seat holds nothing

pub not_nested : (k : Kind) → is_upgrade k ≡ true → is_nested k ≡ false
not_nested Read h = refl
not_nested Write h = refl
not_nested Mixed h = refl
not_nested Upgrade h = refl
not_nested Nested h = sym h

second_alone : (x y : Claimed) → IsClaim x.claim → HasParts y → Distinct x y → TakeTurns x y → Apart x y → Alone x y
second_alone x y is parts distinct turns apart seats =
    let halves = distinct seats in
    let plain = not_nested y.claim.kind halves.upgrade in
    let read = read_of_half x.claim halves.reads in
    let meet : conflicts x.claim y.claim ≡ true =
    conflict_of_read x.claim y.claim (is.read_only read) ∙ ap (meets x.claim.reads) halves.same
    ∙ true_from_ne_false (meets x.claim.reads x.claim.reads) (λ none. is.reads_some read (meets_itself x.claim.reads none)) in
    let unsat : is_satisfied y ≡ false = false_from (is_satisfied y) (λ sat.
    contrary (conflicts x.claim y.claim) meet (apart (turns seats (active_of_satisfied y.status sat)) sat)) in (
      (λ i. cond (plain i) (record { reads = intersection y.granted y.claim.reads; writes = intersection y.granted y.claim.writes })
          (cond (unsat i) (record { reads = y.claim.reads; writes = y.claim.writes }) nothing)),
      (parts.of_others plain).0,
    )

pub each_alone : (s : LockState) → IsReached s → EachPair Alone s.claims
each_alone s reached =
    pairs_with (λ x. IsClaim x.claim × HasParts x) (λ x y. Distinct x y × (TakeTurns x y × Apart x y)) Alone
    (λ x y p q h. second_alone x y p.0 q.1 h.0 h.1.0 h.1.1) s.claims
    (all_from (λ x. IsClaim x.claim × HasParts x) s.claims
    (λ x there. (all_at (λ x. IsClaim x.claim) s.claims x reached.sound.well_formed.claims there, all_at HasParts s.claims x reached.sound.parts there)))
    (pairs_both Distinct (λ x y. TakeTurns x y × Apart x y) (λ x y. Distinct x y × (TakeTurns x y × Apart x y)) (λ x y a b. (a, b)) s.claims reached.sound.one_each
    (pairs_both TakeTurns Apart (λ x y. TakeTurns x y × Apart x y) (λ x y a b. (a, b)) s.claims reached.turns reached.apart))

-- ---- so the first shows what the seat holds

module _ (seat : ℕ) where
  pub both_nothing : (a : Granted) → both a nothing ≡ a
  both_nothing a = (λ i. record { reads = union_empty_right a.reads i; writes = union_empty_right a.writes i })

  pub nothing_both : (a : Granted) → both nothing a ≡ a
  nothing_both a = (λ i. record { reads = union_empty_left a.reads i; writes = union_empty_left a.writes i })

  pub rest_holds : (all : Granted) (xs : List Claimed) → AllByRecursion (λ y. (y.claim.seat == seat) ≡ true → held_by y ≡ nothing) xs
      → fold (λ all x. cond (x.claim.seat == seat) (both all (held_by x)) all) all xs ≡ all
  rest_holds all [] none = refl
  rest_holds all (y ∷ ys) none =
      ap (λ a. fold (λ all x. cond (x.claim.seat == seat) (both all (held_by x)) all) a ys) (at (y.claim.seat == seat) refl) ∙ rest_holds all ys none.1
    where
      at : (b : Bool) → (y.claim.seat == seat) ≡ b → cond b (both all (held_by y)) all ≡ all
      at true is = ap (both all) (none.0 is) ∙ both_nothing all
      at false is = refl
