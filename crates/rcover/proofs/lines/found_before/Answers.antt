use Rattle.std.proofs.Common.{◌≡◌, ◌<◌, ◌+◌, ◌-◌, ℕ, List, ◌++◌, [], ◌∷◌, true, Some, length, get_or, take, drop, sym, ap, subst, ◌∙◌, arith}
use Rattle.std.proofs.lemmas.List.{take-append-drop}
use Rattle.std.specs.Prelude.{slice_get}
use Rattle.std.specs.FinSet.{empty}
use Rattle.rclaim.specs.declared.claim.Claim.{Claim}
use Rattle.rmodel.specs.WellFormed.{EachPair, Rises}
use Rattle.rcover.specs.declared.lines.Found.{Found}
use Rattle.rcover.specs.declared.lines.Head.{Head}
use Rattle.rmodel.specs.declared.claimed.Claimed.{Claimed}
use Rattle.rcover_laws.specs.Moments.{Moment}
use Rattle.rcover.specs.Found.{AreBefore, IsFound}
use Rattle.rcover.specs.Lines.{head_of, TellAt}
use Rattle.rcover.proofs.Pairs.{all_get, drop_more}
use Rattle.rcover.proofs.heads_told.Reached.{are_before, before_rest, found_rest}
use Rattle.rcover.proofs.lines.found_before.Goals as goal

-- what is found once the next claim is reached
module _ (hs : List Head) (xs : Moment) (x : Claimed) (rest : Moment) (rising : EachPair Rises (xs ++ x ∷ rest)) (write : x.claim.write_half ≡ true) (tells : TellAt hs (xs ++ x ∷ rest) xs)
    (i : ℕ) (y : Claimed) (within : i - 1 < length xs) (some : 0 < i) (at : y ≡ get_or xs (i - 1) y) where
  abbrev m : Moment
  m = xs ++ x ∷ rest

  behind : drop (i - 1) xs ≡ y ∷ drop i xs
  behind = let next : i - 1 + 1 ≡ i = omega arith in drop_more xs (i - 1) y within at ∙ ap (λ k. y ∷ drop k xs) next

  are : AreBefore m x.claim (y ∷ drop i xs)
  are =
      subst (AreBefore m x.claim) behind
      (before_rest m x.claim (take (i - 1) xs) (drop (i - 1) xs) (subst (AreBefore m x.claim) (sym (take-append-drop (i - 1) xs)) (are_before xs rest x rising write)))

  told : y.claim.write_half ≡ true → slice_get hs y.claim.seat ≡ Some (head_of m y.claim)
  told =
      subst (λ (z : Claimed). z.claim.write_half ≡ true → slice_get hs z.claim.seat ≡ Some (head_of m z.claim)) (sym at)
      (all_get (λ z. z.claim.write_half ≡ true → slice_get hs z.claim.seat ≡ Some (head_of m z.claim)) xs (i - 1) y tells within)

  one_more : (f g : Found) → ((n : Moment) (d : Claim) (zs : Moment) → AreBefore n d (y ∷ zs) → TellAt hs n (y ∷ []) → IsFound n d zs f → IsFound n d (y ∷ zs) g)
      → IsFound m x.claim (drop i xs) f → IsFound m x.claim (drop (i - 1) xs) g
  one_more f g reached is = subst (λ (zs : Moment). IsFound m x.claim zs g) (sym behind) (reached m x.claim (drop i xs) are (told, tt) is)

  whole : (g : Found) → g.left ≡ empty → IsFound m x.claim (drop (i - 1) xs) g → IsFound m x.claim xs g
  whole g none is =
      let all : take (i - 1) xs ++ drop (i - 1) xs ≡ xs = take-append-drop (i - 1) xs in
      subst (λ (zs : Moment). IsFound m x.claim zs g) all
      (found_rest m x.claim (take (i - 1) xs) (drop (i - 1) xs) (subst (AreBefore m x.claim) (sym all) (are_before xs rest x rising write)) g none is)

pub loop-i-preserved : goal.loop-i-preserved
loop-i-preserved c = λ rest rising write tells.
    one_more c.args.heads.now c.args.before.now c.args.x.now rest rising write tells c.loop-i.i c.index-before-i.result (omega arith) (omega arith) c.index-before-i.is
    c.loop-i.found c.reach.new.found c.reach.ensures.found (c.loop-i.invariant rest rising write tells)

pub returns-then-reach : goal.returns-then-reach
returns-then-reach c = λ rest rising write tells.
    let more = one_more c.args.heads.now c.args.before.now c.args.x.now rest rising write tells c.loop-i.i c.index-before-i.result (omega arith) (omega arith) c.index-before-i.is
    c.loop-i.found c.reach.new.found c.reach.ensures.found (c.loop-i.invariant rest rising write tells) in
    whole c.args.heads.now c.args.before.now c.args.x.now rest rising write tells c.loop-i.i c.index-before-i.result (omega arith) (omega arith) c.index-before-i.is
    c.reach.new.found (c.reach.ensures.met c.if-reach.true) more
