use Rattle.std.proofs.Common.{◌≡◌, ◌≢◌, ℕ, List, [], ◌∷◌, length, slice_get, sym, ap, subst, ◌∙◌}
use Rattle.std.specs.List.{AllByRecursion}
use Rattle.std.specs.FinSet.{contains}
use Rattle.rset.specs.Sets.{Set}
use Rattle.rcover_laws.specs.Line.{least_of}
use Rattle.rcover_laws.specs.Moments.{Moment}
use Rattle.rmodel.specs.declared.claimed.Claimed.{Claimed}
use Rattle.std.specs.Vec.{with_items}
use Rattle.rcover.specs.declared.lines.Head.{Head}
use Rattle.rcover.specs.Lines.{TellAt, HeadsTell, HoldBehind, HoldBehindBut, IsTold, set_at}
use Rattle.rcover.proofs.heads_told.Refilled.{refilled_heads, refilled_sets}
use Rattle.rcover.proofs.heads.Heads.turn.Goals as goal

but_from : (lost : ℕ) (ss ss' : List Set) → ((least : ℕ) → least ≢ lost → set_at ss' least ≡ set_at ss least) → (m : Moment) (zs : List Claimed) → HoldBehind ss m zs → HoldBehindBut lost ss' m zs
but_from lost ss ss' same m [] hold = tt
but_from lost ss ss' same m (z ∷ zs) hold =
    ((λ write other. ap (λ (s : Set). contains s z.claim.seat) (same (least_of z.claim m).seat other) ∙ hold.0 write), but_from lost ss ss' same m zs hold.1)

pub returns-clause-told : goal.returns-clause-told
returns-clause-told c = λ m tell hold by.
    let n = c.args.moment.now in
    let v = c.args.self.now.behind in
    let ss = c.forget.new.behind in
    let was = c.deref_mut.ensures.value in
    let is = c.deref_mut-3.ensures.value in
    let one : (with_items v ss).items ≡ ss = refilled_sets v ss (c.forget.ensures.len ∙ ap (λ (l : List Set). length l) was) in
    subst (λ (z : List Head × List Set). IsTold z.0 z.1 n)
    (λ i. (
      sym (refilled_heads c.args.self.now.now c.turn_heads-moves.new.now (c.turn_heads-moves.ensures.len ∙ ap (λ (hs : List Head). length hs) c.deref_mut-2.ensures.value)) i,
      sym (refilled_sets (with_items v ss) c.turn_heads-moves.new.behind (c.turn_heads-moves.ensures.behind_len ∙ ap (λ (l : List Set). length l) is)) i,
    ))
    (c.turn_heads-moves.ensures.told m (subst (λ (hs : List Head). TellAt hs m n) (sym c.deref_mut-2.ensures.value) tell) by
    (but_from c.args.self.now.lost.claim.seat v.items c.deref_mut-3.result.now
    (λ least other. ap (λ (l : List Set). set_at l least) (is ∙ one) ∙ c.forget.ensures.others least other ∙ ap (λ (l : List Set). set_at l least) was) m n hold))

pub returns-clause-tell : goal.returns-clause-tell
returns-clause-tell c = λ m tell by.
    let n = c.args.moment.now in
    let now = refilled_heads c.args.self.now.now c.turn_heads-moves.new.now (c.turn_heads-moves.ensures.len ∙ ap (λ (hs : List Head). length hs) c.deref_mut-2.ensures.value) in
    subst (λ (hs : List Head). AllByRecursion (HeadsTell hs c.args.self.now.lost c.turn_heads-moves.result.moved c.turn_heads-moves.result.risen m n) n) (sym now)
    (c.turn_heads-moves.ensures.tell m (subst (λ (hs : List Head). TellAt hs m n) (sym c.deref_mut-2.ensures.value) tell) by)

pub returns-clause-placed : goal.returns-clause-placed
returns-clause-placed c = λ m tell by. c.turn_heads-moves.ensures.placed m (subst (λ (hs : List Head). TellAt hs m c.args.moment.now) (sym c.deref_mut-2.ensures.value) tell) by

pub returns-clause-others : goal.returns-clause-others
returns-clause-others c = λ seat none.
    let now = refilled_heads c.args.self.now.now c.turn_heads-moves.new.now (c.turn_heads-moves.ensures.len ∙ ap (λ (hs : List Head). length hs) c.deref_mut-2.ensures.value) in
    ap (λ (hs : List Head). slice_get hs seat) now ∙ c.turn_heads-moves.ensures.others seat none ∙ ap (λ (hs : List Head). slice_get hs seat) c.deref_mut-2.ensures.value
