use Rattle.std.proofs.Common.{◌≡◌, ◌∷◌, ◌++◌, [], List, ℕ, get_or, sym, ap, subst, ◌∙◌, arith, length}
use Rattle.std.proofs.Math.Seq.{get_or-append_seam}
use Rattle.rmodel.specs.declared.claimed.Claimed.{Claimed}
use Rattle.rmodel.specs.Changes.{with_change}
use Rattle.rplain.specs.NewClaim.{with_seen, seen_of, new_claim}
use Rattle.rmodel.proofs.settling.Settlement.{ReadsOnly}
use Rattle.rplain.proofs.settling.SoFar.{read_only_pushed}
use Rattle.rplain.proofs.settling.SweepSteps.{seen_more}
use Rattle.rplain.proofs.new_claim.push_new.Goals as goal

-- the last of a list
last_of : (xs ys : List Claimed) (x y : Claimed) (place : ℕ) → ys ≡ xs ++ x ∷ [] → place ≡ length xs → y ≡ get_or ys place y → y ≡ x
last_of xs ys x y place is at there = there ∙ (λ i. get_or (is i) (at i) y) ∙ get_or-append_seam xs x [] y

pub with_seen-requires : goal.with_seen-requires
with_seen-requires c =
    let xs = c.args.claims.now.items in
    let x = c.args.x.now in
    let y = c.index-now.result.now in
    let place : c.len-place.result ≡ length xs = omega arith in
    let is : y ≡ new_claim xs x = last_of xs c.push_settled.new.claims.items (new_claim xs x) y c.len-place.result c.push_settled.ensures.items place c.index-now.ensures in
    subst ReadsOnly (sym is) (read_only_pushed xs x c.requires.read_only)

pub returns-clause-seen : goal.returns-clause-seen
returns-clause-seen c =
    let xs = c.args.claims.now.items in
    let x = c.args.x.now in
    let y = c.index-now.result.now in
    let place : c.len-place.result ≡ length xs = omega arith in
    let is : y ≡ new_claim xs x = last_of xs c.push_settled.new.claims.items (new_claim xs x) y c.len-place.result c.push_settled.ensures.items place c.index-now.ensures in
    c.with_seen.ensures ∙ (λ i. with_seen (c.requires.seen i) (is i)) ∙ seen_more xs (new_claim xs x) ∙ ap seen_of (sym c.push_settled.ensures.items)

pub returns-clause-changes : goal.returns-clause-changes
returns-clause-changes c =
    let xs = c.args.claims.now.items in
    let x = c.args.x.now in
    let y = c.index-now.result.now in
    let place : c.len-place.result ≡ length xs = omega arith in
    let is : y ≡ new_claim xs x = last_of xs c.push_settled.new.claims.items (new_claim xs x) y c.len-place.result c.push_settled.ensures.items place c.index-now.ensures in
    c.tell_claim.ensures ∙ ap (with_change c.args.changes.now x) is
