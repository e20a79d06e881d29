use Rattle.std.proofs.Common.{◌<◌, ℕ, Option, IfSome, sym, ap, subst, ◌∙◌}
use Rattle.rbound_table.specs.Two.{two_at}
use Rattle.rbound_table.specs.Lengths.{rows_in}
use Rattle.rbound_table.specs.Delays.{delayers_at}
use Rattle.rbound_table.proofs.TopFacts.{top_beside, same_length, unequal}
use Rattle.rbound_table.proofs.delays.delay_by.Goals as goal

pub returns-in-Some : goal.returns-in-Some
returns-in-Some c =
    let rows = rows_in c.args.rows.now in
    let within : c.in-Some.w < c.args.tasks = subst (λ (o : Option ℕ). IfSome o (λ w. w < c.args.tasks)) c.in-Some.is c.requires.writer in
    let found = same_length c.two_at.result c.args.top (sym c.eq.ensures ∙ c.if-eq.true) in
    top_beside c.args.tasks c.args.me c.in-Some.w (λ k. delayers_at rows k c.args.l) c.args.top c.requires.top within (unequal c.in-Some.w c.args.me c.if-w-me.true)
    (ap (λ two. two_at two c.args.me) (sym c.delayers_at.ensures) ∙ sym c.two_at.ensures ∙ found)
