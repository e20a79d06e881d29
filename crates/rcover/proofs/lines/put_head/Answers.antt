use Rattle.std.proofs.Common.{◌≡◌, ◌<◌, ◌==◌, ℕ, List, Some, None, length, slice_get, if◌then◌else◌, refl, sym, ap, ◌∙◌}
use Rattle.std.proofs.Math.ListN.{set}
use Rattle.std.proofs.lemmas.Option.{slice_get_read, slice_get_past}
use Rattle.rcover.specs.declared.lines.Head.{Head}
use Rattle.rcover.proofs.heads_told.Heads.{get_set, own_found_is, other_found_is}
use Rattle.rcover.proofs.heads_told.Stayed.{get_beside}
use Rattle.rcover.proofs.lines.put_head.Goals as goal

some_one : (a b : Head) → Some a ≡ Some b → a ≡ b
some_one a b h = cc

not_none : (a : Head) → Some a ≡ None → ⊥
not_none a h = cc

put : (hs : List Head) (at : ℕ) (h g : Head) → at < length hs → h ≡ g → (seat : ℕ) → slice_get (set hs at h) seat ≡ (if seat == at then Some g else slice_get hs seat)
put hs at h g less is seat = get_set hs at h seat less ∙ ap (λ (z : Head). if seat == at then Some z else slice_get hs seat) is

pub returns-then-found-x-clause-head : goal.returns-then-found-x-clause-head
returns-then-found-x-clause-head c = λ before rest rising distinct tells found seat.
    put c.args.heads.now c.args.x.now.claim.seat c.own_head.result _ c.requires.seat
    (c.own_head.ensures ∙ own_found_is before rest c.args.x.now rising c.requires.write distinct c.args.found.now found c.if-found-x.true) seat

pub returns-then-from-heads-clause-head : goal.returns-then-from-heads-clause-head
returns-then-from-heads-clause-head c = λ before rest rising distinct tells found seat.
    let hs = c.args.heads.now in
    let there = ap (λ k. slice_get hs k) (sym c.from-from.ensures) ∙ slice_get_read hs (length hs) c.from-from.result c.index-heads-from.result refl c.if-from-heads.true c.index-heads-from.is in
    put hs c.args.x.now.claim.seat c.index-heads-from.result _ c.requires.seat
    (some_one _ _ (sym there ∙ other_found_is before rest c.args.x.now rising c.requires.write distinct c.args.found.now found hs tells c.if-found-x.false)) seat

pub returns-else-from-heads-clause-head : goal.returns-else-from-heads-clause-head
returns-else-from-heads-clause-head c = λ before rest rising distinct tells found seat.
    let hs = c.args.heads.now in
    absurd (not_none _
    (sym (other_found_is before rest c.args.x.now rising c.requires.write distinct c.args.found.now found hs tells c.if-found-x.false)
    ∙ ap (λ k. slice_get hs k) (sym c.from-from.ensures) ∙ slice_get_past hs c.from-from.result c.if-from-heads.false))

pub returns-then-found-x-clause-others : goal.returns-then-found-x-clause-others
returns-then-found-x-clause-others c = λ seat other. get_beside c.args.heads.now c.args.x.now.claim.seat c.own_head.result seat c.requires.seat other

pub returns-then-from-heads-clause-others : goal.returns-then-from-heads-clause-others
returns-then-from-heads-clause-others c = λ seat other. get_beside c.args.heads.now c.args.x.now.claim.seat c.index-heads-from.result seat c.requires.seat other
