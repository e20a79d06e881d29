use Rattle.std.proofs.Common.{◌≡◌, ◌∷◌, Some, length, refl, sym, ap, subst, ◌∙◌}
use Rattle.std.proofs.lemmas.Option.{slice_get_read}
use Rattle.rcover_laws.specs.Line.{least_of}
use Rattle.rcover.specs.declared.lines.Head.{Head}
use Rattle.rcover.specs.Found.{IsFound}
use Rattle.rcover.specs.Lines.{lowered, head_of}
use Rattle.rmodel.proofs.settling.OneSettlement.{both_cases}
use Rattle.rcover.proofs.heads_told.Reached.{found_apart, found_read, found_lower}
use Rattle.rcover.proofs.lines.reach.Goals as goal

some_one : (a b : Head) → Some a ≡ Some b → a ≡ b
some_one a b h = cc

pub returns-then-not-meets-clause-found : goal.returns-then-not-meets-clause-found
returns-then-not-meets-clause-found c = λ m d zs are tells is.
    let y = c.args.y.now in
    both_cases y.claim.write_half (λ write. found_apart m d y zs are c.args.found.now is write (sym c.meets.ensures ∙ c.if-not-meets.true)) (λ read. found_read m d y zs are c.args.found.now is read)

pub returns-then-not-y-clause-found : goal.returns-then-not-y-clause-found
returns-then-not-y-clause-found c = λ m d zs are tells is. found_read m d c.args.y.now zs are c.args.found.now is c.if-not-y.true

pub returns-clause-found : goal.returns-clause-found
returns-clause-found c = λ m d zs are tells is.
    let y = c.args.y.now in
    let hs = c.args.heads.now in
    let head : c.index-heads-y.result ≡ head_of m y.claim = some_one _ _ (sym (slice_get_read hs (length hs) y.claim.seat c.index-heads-y.result refl c.requires.seat c.index-heads-y.is) ∙ tells.0 c.if-not-y.false) in
    let least : c.index-heads-y.result.claim ≡ least_of y.claim m = ap (λ (h : Head). h.claim) head in
    subst (IsFound m d (y ∷ zs)) (sym (c.lower.ensures ∙ (λ i. lowered c.args.found.now (sym c.index-heads-y.is i).claim (c.minus.ensures i))))
    (found_lower m d y zs are c.args.found.now is c.if-not-y.false (sym c.meets.ensures ∙ c.if-not-meets.false) c.index-heads-y.result.claim least)

pub returns-clause-met : goal.returns-clause-met
returns-clause-met c = c.is_empty.ensures.0
