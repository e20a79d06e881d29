use Rattle.std.proofs.Common.{◌≡◌, ℕ, List, get_or, sym, ap, subst, ◌∙◌}
use Rattle.std.proofs.lemmas.Option.{get_or_from_slice_get}
use Rattle.rmodel.specs.declared.claimed.Claimed.{Claimed}
use Rattle.rmodel.specs.WellFormed.{Among}
use Rattle.rcover_laws.specs.Moments.{Moment}
use Rattle.rcover.specs.Lines.{StandsAt}
use Rattle.rcover.proofs.Kept.{in_list}
use Rattle.rcover.proofs.follow.write_at.Goals as goal

-- what is read at the noted place is the write that is there
is_at : (places : List ℕ) (n : Moment) (seat from : ℕ) (x : Claimed) (s : StandsAt places n seat) → from ≡ seat → x ≡ get_or n (get_or places from 0) x → x ≡ s.at
is_at places n seat from x s own is =
    is ∙ ap (λ k. get_or n k x) (ap (λ k. get_or places k 0) own ∙ get_or_from_slice_get places seat s.place 0 s.noted) ∙ get_or_from_slice_get n s.place s.at x s.there

pub returns-clause-there : goal.returns-clause-there
returns-clause-there c =
    let is = is_at c.args.places.now c.args.next.now c.args.seat c.from.result c.index-next-places.result c.requires c.from.ensures c.index-next-places.is in
    subst (λ (y : Claimed). Among y c.args.next.now) (sym is) (in_list c.args.next.now c.requires.place c.requires.at c.requires.there)

pub returns-clause-write : goal.returns-clause-write
returns-clause-write c =
    ap (λ (y : Claimed). y.claim.write_half) (is_at c.args.places.now c.args.next.now c.args.seat c.from.result c.index-next-places.result c.requires c.from.ensures c.index-next-places.is) ∙ c.requires.write

pub returns-clause-own : goal.returns-clause-own
returns-clause-own c =
    ap (λ (y : Claimed). y.claim.seat) (is_at c.args.places.now c.args.next.now c.args.seat c.from.result c.index-next-places.result c.requires c.from.ensures c.index-next-places.is) ∙ c.requires.own
