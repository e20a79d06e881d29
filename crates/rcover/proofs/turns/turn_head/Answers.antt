use Rattle.std.proofs.Common.{◌≡◌, ◌≢◌, ◌<◌, ◌++◌, ◌∷◌, true, Some, length, refl, sym, ap, subst, ◌∙◌}
use Rattle.std.proofs.lemmas.Option.{slice_get_read}
use Rattle.std.specs.FinSet.{contains}
use Rattle.rcover_laws.specs.Line.{least_of}
use Rattle.rclaim.specs.declared.claim.Claim.{Claim}
use Rattle.rcover.specs.declared.lines.Head.{Head}
use Rattle.rcover.specs.Lines.{head_of, set_at, IsNoted}
use Rattle.rcover.proofs.heads_told.Heads.{behind_same}
use Rattle.rcover.proofs.heads_told.Reached.{earlier_all}
use Rattle.rcover.proofs.heads_told.Turns.{same_claim, turned_read}
use Rattle.rcover.proofs.heads_told.Stayed.{other_than}
use Rattle.rcover.proofs.turns.turn_head.Goals as goal

some_one : (a b : Head) → Some a ≡ Some b → a ≡ b
some_one a b h = cc

pub returns-then-not-x-clause-turned : goal.returns-then-not-x-clause-turned
returns-then-not-x-clause-turned c = λ gone touched m rest next goes new within noted.
    turned_read c.args.now.now c.args.moves.now c.args.lost.now m (c.args.before.now ++ c.args.x.now ∷ rest) c.args.x.now c.if-not-x.true

pub returns-then-now-x-clause-turned : goal.returns-then-now-x-clause-turned
returns-then-now-x-clause-turned c = λ gone touched m rest next goes new within noted.
    let x = c.args.x.now in
    let hs = c.args.now.now in
    let write = c.if-not-x.false in
    let is : c.index-now-x.result ≡ head_of m x.claim = some_one _ _ (sym (slice_get_read hs (length hs) x.claim.seat c.index-now-x.result refl c.requires.now c.index-now-x.is) ∙ next.own write) in
    let least = ap (λ (h : Head). h.claim.seat) (sym c.index-now-x.is ∙ is) in
    c.rise_head.ensures.turned c.args.lost.now gone touched m c.args.before.now rest write next goes new (goes.other write (λ same. c.if-now-x.true (least ∙ same)))

pub returns-then-now-x-clause-behind : goal.returns-then-now-x-clause-behind
returns-then-now-x-clause-behind c = λ gone touched m rest next goes low within noted write was.
    let x = c.args.x.now in
    let hs = c.args.now.now in
    let is : c.index-now-x.result ≡ head_of m x.claim = some_one _ _ (sym (slice_get_read hs (length hs) x.claim.seat c.index-now-x.result refl c.requires.now c.index-now-x.is) ∙ next.own write) in
    let least = ap (λ (h : Head). h.claim.seat) (sym c.index-now-x.is ∙ is) in
    let other : (least_of x.claim m).seat ≢ c.args.lost.now.claim.seat = λ same. c.if-now-x.true (least ∙ same) in
    let n = c.args.before.now ++ x ∷ rest in
    behind_same c.args.behind.now m n x (same_claim c.args.came m n x (goes.head write (goes.other write other))) (was other)

pub returns-then-not-meets-clause-turned : goal.returns-then-not-meets-clause-turned
returns-then-not-meets-clause-turned c = λ gone touched m rest next goes new within noted.
    let x = c.args.x.now in
    let write = c.if-not-x.false in
    let n = c.args.before.now ++ x ∷ rest in
    let dirty = c.args.moves.now.dirty in
    let stamps = goes.apart write dirty within (sym c.meets.ensures ∙ c.if-not-meets.true) (earlier_all c.args.before.now rest x next.rising write (IsNoted dirty m n) noted) in
    c.rise_head-then-not-meets.ensures.turned c.args.lost.now gone touched m c.args.before.now rest write next goes new stamps

pub returns-then-not-meets-clause-behind : goal.returns-then-not-meets-clause-behind
returns-then-not-meets-clause-behind c = λ gone touched m rest next goes low within noted write was.
    let x = c.args.x.now in
    let hs = c.args.now.now in
    let n = c.args.before.now ++ x ∷ rest in
    let dirty = c.args.moves.now.dirty in
    let stamps = goes.apart write dirty within (sym c.meets.ensures ∙ c.if-not-meets.true) (earlier_all c.args.before.now rest x next.rising write (IsNoted dirty m n) noted) in
    let is : c.index-now-x.result ≡ head_of m x.claim = some_one _ _ (sym (slice_get_read hs (length hs) x.claim.seat c.index-now-x.result refl c.requires.now c.index-now-x.is) ∙ next.own write) in
    let seat : c.args.lost.now.claim.seat ≡ (least_of x.claim n).seat
    = sym c.if-now-x.false ∙ ap (λ (h : Head). h.claim.seat) (sym c.index-now-x.is ∙ is) ∙ ap (λ (d : Claim). d.seat) (sym (same_claim c.args.came m n x (goes.head write stamps))) in
    subst (λ k. contains (set_at c.note_behind.new.behind k) x.claim.seat ≡ true) seat (c.note_behind.ensures.own (subst (λ k. k < length c.args.behind.now) (sym seat) low))

pub returns-clause-turned : goal.returns-clause-turned
returns-clause-turned c = λ gone touched m rest next goes new within noted.
    let x = c.args.x.now in
    let hs = c.args.now.now in
    let write = c.if-not-x.false in
    let is : c.index-now-x.result ≡ head_of m x.claim = some_one _ _ (sym (slice_get_read hs (length hs) x.claim.seat c.index-now-x.result refl c.requires.now c.index-now-x.is) ∙ next.own write) in
    let same = ap (λ (h : Head). h.claim.seat) (sym (sym c.index-now-x.is ∙ is)) ∙ c.if-now-x.false in
    c.find_head.ensures.turned gone touched m rest next goes new (goes.one write same)

pub returns-then-now-x-clause-others : goal.returns-then-now-x-clause-others
returns-then-now-x-clause-others c = λ seat none. c.rise_head.ensures.others seat (other_than seat c.args.x.now c.if-not-x.false none)

pub returns-then-not-meets-clause-others : goal.returns-then-not-meets-clause-others
returns-then-not-meets-clause-others c = λ seat none. c.rise_head-then-not-meets.ensures.others seat (other_than seat c.args.x.now c.if-not-x.false none)

pub returns-clause-others : goal.returns-clause-others
returns-clause-others c = λ seat none. c.find_head.ensures.others seat (other_than seat c.args.x.now c.if-not-x.false none)
