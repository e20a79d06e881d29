use Rattle.std.proofs.Common.{◌≡◌, ◌==◌, ◌||◌, nat_cmp, Bool, true, false, not, cond, List, [], ◌∷◌, fold, refl, sym, ap, ◌∙◌}
use Rattle.std.proofs.lemmas.Bool.{eq-eqb, or_left, or_right, or_parts}
use Rattle.std.specs.FinSet.{empty, union, len, len-empty}
use Rattle.std.specs.List.{list_any}
use Rattle.rset.specs.Sets.{Set, meets}
use Rattle.rclaim.specs.declared.claim.Claim.{Claim}
use Rattle.rmodel.specs.declared.claimed.Claimed.{Claimed}
use Rattle.rplain.specs.declared.left.Left.{Left}
use Rattle.rplain.specs.NewClaim.{is_past}
use Rattle.rmodel.specs.Settling.{is_clear}
use Rattle.rplain.specs.Sweep.{is_near, with_near, still_near}
use Rattle.rplain.proofs.sweep.is_past_still.Goals as goal
use Rattle.rplain.proofs.sweep.is_past_still.Goals.{then-not-meets, else-not-meets}

-- where no read near these resources keeps waiting, such reads read nothing
none_near : (left : Left) (s : Set) (xs : List Claimed) → list_any (is_near left s) xs ≡ false → still_near left xs s ≡ empty
unfolding still_near
none_near left s xs none = each empty xs none
  where
    each : (all : Set) (ys : List Claimed) → list_any (is_near left s) ys ≡ false → fold (with_near left s) all ys ≡ all
    each all [] h = refl
    each all (y ∷ ys) h =
        let parts = or_parts (is_near left s y) (list_any (is_near left s) ys) h in
        ap (λ b. fold (with_near left s) (cond b (union all y.claim.reads) all) ys) parts.0 ∙ each all ys parts.1

past : (left : Left) (xs : List Claimed) (c : Claim) → list_any (is_near left c.places) xs ≡ false → is_past xs c (still_near left xs c.places) ≡ true
past left xs c none =
    ap (λ s. (len s == 0) || is_clear xs c s) (none_near left c.places xs none)
    ∙ or_left (len (empty {R = nat_cmp}) == 0) (is_clear xs c empty) (eq-eqb _ 0 (len-empty nat_cmp))

not_so : (b : Bool) → not b ≡ true → b ≡ false
not_so true h = sym h
not_so false h = refl

pub returns-then-not-some_near : goal.returns-then-not-some_near
returns-then-not-some_near c =
    let x = c.args.claim.now in
    let left = c.args.left.now in
    let xs = c.args.claims.now in
    c.if-not-some_near.true
    ∙ sym (elim c.if-not-meets.branch [
      | then-not-meets w ↦ or_left (not (meets left.read x.places)) (is_past xs x (still_near left xs x.places)) (ap not (sym c.meets.ensures ∙ w.if-not-meets.true))
      | else-not-meets w ↦ or_right (not (meets left.read x.places)) (is_past xs x (still_near left xs x.places)) (past left xs x (sym w.some_near.ensures ∙ not_so w.some_near.result (sym w.value-is ∙ c.if-not-some_near.true)))
    ])
