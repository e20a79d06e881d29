use Rattle.std.proofs.Common.{◌∙◌, cond, Some, None, rules, tests}
use Rattle.std.proofs.lemmas.Iterator.{YieldsList-from_slice}
use Rattle.std.proofs.lemmas.Iterator.Consumers.{fold_from_yields_List}
use Rattle.rbound.specs.Needs.{Needed}
use Rattle.rbound.specs.ZoneRows.{is_there_of}
use Rattle.rbound.specs.Longest.{longer}
use Rattle.rbound.proofs.LongestClaims.{found_longest}
use Rattle.rbound.proofs.rows.longest_there.Goals as goal

pub returns : goal.returns
returns c =
    let p = is_there_of c.args.sort c.args.zone c.args.task in
    fold_from_yields_List _ (λ most (n : Needed). cond (p n) (longer most (Some n.len)) most) None c.fold.result c.fold.ensures.ran (YieldsList-from_slice c.args.needs.now cc) (λ a x b q k. search (rules, tests))
    ∙ found_longest p c.args.needs.now
