use Rattle.std.proofs.Common.{◌==◌, rules, tests}
use Rattle.std.proofs.lemmas.Iterator.Search.{any_from_yields_List}
use Rattle.std.proofs.lemmas.Iterator.Splits.{YieldsList-from_slice_split}
use Rattle.rset.specs.Names.{same_name}
use Rattle.rshort.proofs.joint.is_piece.Goals as goal

pub returns : goal.returns
returns c =
    any_from_yields_List (same_name c.args.piece.now) _ _ _ c.any.ensures.ran
    (YieldsList-from_slice_split {s = c.split.result} _ (λ b. b == 43) c.args.field.now (cc) (cc) (cc) (λ x r q k. search (rules, tests)))
    (λ x b q k. search (rules, tests))
