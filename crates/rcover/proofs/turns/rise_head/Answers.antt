use Rattle.std.proofs.Common.{◌≡◌, ◌<◌, ◌++◌, ◌∷◌, true, Some, length, slice_index_or, refl, sym, ap, subst, ◌∙◌}
use Rattle.std.proofs.Math.ListN.{set}
use Rattle.std.proofs.lemmas.Option.{slice_get_read}
use Rattle.std.specs.FinSet.{contains}
use Rattle.rset.specs.Sets.{Set}
use Rattle.rset.specs.declared.TheConstants.{SEATS}
use Rattle.rcover.specs.declared.lines.Head.{Head}
use Rattle.rcover.specs.Lines.{IsTurned, head_of}
use Rattle.rcover.proofs.heads_told.Heads.{get_set}
use Rattle.rcover.proofs.heads_told.Turns.{rise_held, rise_none, rise_told}
use Rattle.rcover.proofs.heads_told.Stayed.{get_beside}
use Rattle.rcover.proofs.turns.rise_head.Goals as goal

some_one : (a b : Head) → Some a ≡ Some b → a ≡ b
some_one a b h = cc

pub returns-then-now-at-clause-turned : goal.returns-then-now-at-clause-turned
returns-then-now-at-clause-turned c = λ lost gone touched m before rest write next goes new stamps.
    let x = c.args.x.now in
    let hs = c.args.now.now in
    let is : c.index-now-at.result ≡ head_of m x.claim = some_one _ _ (sym (slice_get_read hs (length hs) x.claim.seat c.index-now-at.result refl c.requires.now c.index-now-at.is) ∙ next.own write) in
    rise_held c.args.came hs c.args.moves.now lost m (before ++ x ∷ rest) x write (next.own write) new (goes.head write stamps) (ap (λ (h : Head). h.holds) (sym is ∙ c.index-now-at.is) ∙ c.if-now-at.true)

pub returns-else-has_seat-clause-turned : goal.returns-else-has_seat-clause-turned
returns-else-has_seat-clause-turned c = λ lost gone touched m before rest write next goes new stamps.
    let x = c.args.x.now in
    let hs = c.args.now.now in
    let is : c.index-now-at-2.result ≡ head_of m x.claim = some_one _ _ (sym (slice_get_read hs (length hs) x.claim.seat c.index-now-at-2.result refl c.requires.now c.index-now-at-2.is) ∙ next.own write) in
    let least = ap (λ (h : Head). h.claim.seat) (sym c.index-now-at-2.is ∙ is) in
    let low = goes.seat write in
    rise_none c.args.came hs c.args.moves.now lost m (before ++ x ∷ rest) x write (next.own write) new (goes.head write stamps)
    (ap (contains c.args.came) (sym least) ∙ sym (c.has_seat.ensures (subst (λ k. k < SEATS) (sym least) low)) ∙ c.if-has_seat.false)

pub returns-then-has_seat-clause-turned : goal.returns-then-has_seat-clause-turned
returns-then-has_seat-clause-turned c = λ lost gone touched m before rest write next goes new stamps.
    let x = c.args.x.now in
    let hs = c.args.now.now in
    let was : c.index-now-at.result ≡ head_of m x.claim = some_one _ _ (sym (slice_get_read hs (length hs) x.claim.seat c.index-now-at.result refl c.requires.now c.index-now-at.is) ∙ next.own write) in
    let is_2 : c.index-now-at-2.result ≡ head_of m x.claim = some_one _ _ (sym (slice_get_read hs (length hs) x.claim.seat c.index-now-at-2.result refl c.requires.now c.index-now-at-2.is) ∙ next.own write) in
    let is_3 : c.index-now-at-then-has_seat.result ≡ head_of m x.claim = some_one _ _ (sym (slice_get_read hs (length hs) x.claim.seat c.index-now-at-then-has_seat.result refl c.requires.now c.index-now-at-then-has_seat.is) ∙ next.own write) in
    let least = ap (λ (h : Head). h.claim.seat) (sym c.index-now-at-2.is ∙ is_2) in
    let low = goes.seat write in
    let h : Head = record { claim = (slice_index_or hs x.claim.seat c.index-now-at-then-has_seat.result).claim; holds = true } in
    let n = before ++ x ∷ rest in
    subst (λ (s : Set). IsTurned hs c.args.moves.now lost (set hs x.claim.seat h) (record { moved = c.args.moves.now.moved; risen = s; dirty = c.args.moves.now.dirty }) m n x) (sym c.with-moves.ensures)
    (rise_told c.args.came hs c.args.moves.now lost m n x write (next.own write) new (goes.head write stamps) (set hs x.claim.seat h) h
    (ap (λ (k : Head). let g : Head = record { claim = k.claim; holds = true } in g) (sym c.index-now-at-then-has_seat.is ∙ is_3)) (ap (λ (k : Head). k.holds) (sym was ∙ c.index-now-at.is) ∙ c.if-now-at.false)
    (ap (contains c.args.came) (sym least) ∙ sym (c.has_seat.ensures (subst (λ k. k < SEATS) (sym least) low)) ∙ c.if-has_seat.true)
    (λ seat. get_set hs x.claim.seat h seat c.requires.now))

pub returns-then-has_seat-clause-others : goal.returns-then-has_seat-clause-others
returns-then-has_seat-clause-others c = λ seat other.
    let hs = c.args.now.now in
    let at = c.args.x.now.claim.seat in
    let h : Head = record { claim = (slice_index_or hs at c.index-now-at-then-has_seat.result).claim; holds = true } in
    get_beside hs at h seat c.requires.now other
