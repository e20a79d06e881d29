use Rattle.std.proofs.Common.{◌≡◌, ◌*◌, List, length, ap, sym, subst, ◌∙◌, arith}
use Rattle.std.specs.Prelude.{replicate}
use Rattle.std.proofs.lemmas.List.{length-replicate}
use Rattle.rset.specs.declared.TheConstants.{RESOURCES}
use Rattle.rbound_table.specs.Tables.{key_of, no_claims, with_claims, IsTable}
use Rattle.rbound_table.specs.declared.table.Cell.{Cell}
use Rattle.rbound_table.proofs.TableFacts.{table_filled, whole}
use Rattle.rbound_table.proofs.table.table_of.Goals as goal

pub returns : goal.returns
returns c =
    let key = key_of c.args.key in
    let items = c.in_ok-cells.cells.items in
    let tasks = c.args.tasks in
    let empty : items ≡ replicate (tasks * RESOURCES) no_claims =
    c.in_ok-cells.ensures.items_if_clones_equal (λ y e. e) ∙ (λ i. replicate (c.from.ensures i * RESOURCES) (c.no_claims.ensures i)) in
    let long : length items ≡ tasks * RESOURCES = ap length empty ∙ length-replicate (tasks * RESOURCES) no_claims in
    let filled = table_filled key c.args.needs.now tasks c.take_claims.new.cells items c.requires c.take_claims.ensures.below empty long (c.take_claims.ensures.cells ∙ ap (with_claims key c.args.needs.now) c.as_mut_slice.ensures.value) in
    subst (λ (cells : List Cell). IsTable key c.args.needs.now tasks cells)
    (sym (whole c.in_ok-cells.cells.len c.take_claims.new.cells items (filled.long ∙ sym long) (omega (arith, c.in_ok-cells.cells.ok.0)))) filled
