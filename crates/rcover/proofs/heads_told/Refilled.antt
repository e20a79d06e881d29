-- Room that is filled again.
use Rattle.std.proofs.Common.{◌≡◌, List, length, drop, ◌∙◌, arith}
use Rattle.std.proofs.lemmas.List.{take-append-le, take_all}
use Rattle.std.specs.Vec.{with_items}
use Rattle.std.specs.declared.vec.Vec.{Vec}
use Rattle.std.specs.declared.alloc.Global.{Global}
use Rattle.rcover.specs.declared.lines.Head.{Head}
use Rattle.rset.specs.Sets.{Set}

-- elements that replace others, as many as they are
pub refill : {X : Type 0} (v : Vec X Global) (xs : List X) → length xs ≡ length v.items → (with_items v xs).items ≡ xs
refill v xs same =
    let len = v.ok.0 in
    take-append-le v.len xs (drop (length xs) v.items) (omega arith) ∙ take_all v.len xs (omega arith)

pub refilled_heads : (v : Vec Head Global) (hs : List Head) → length hs ≡ length v.items → (with_items v hs).items ≡ hs
refilled_heads v hs same = refill v hs same

pub refilled_sets : (v : Vec Set Global) (ss : List Set) → length ss ≡ length v.items → (with_items v ss).items ≡ ss
refilled_sets v ss same = refill v ss same
