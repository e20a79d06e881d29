use Rattle.std.proofs.Common.{rules, ◌≡◌, ◌≤◌, ◌*◌, [], ◌∷◌, List, ap, subst, ◌∙◌, arith}
use Rattle.rwatch.specs.Seen.{Seen}
use Rattle.rwatch.specs.Weights.{greatest}
use Rattle.watched_example.specs.declared.gauge.Gauge.{Gauge}
use Rattle.watched_example.specs.Watching.{HaveSeen, counting, seen_by}
use Rattle.watched_example.proofs.Counting.{count_is}
use Rattle.watched_example.proofs.reading.gauged.Goals as goal

pub returns : goal.returns
returns g c =
    let small : 2 * c.args.times ≤ greatest = omega (arith, c.ranges.times.fits) in
    let after = seen_by (λ (gauge : Gauge). counting gauge.count) c.in_ok-after.after.watcher in
    let begins : seen_by (λ (gauge : Gauge). counting gauge.count) c.new-audience.result.watcher ≡ counting 0 ∷ [] = c.new-audience.ensures ∙ ap (λ n. counting n ∷ []) c.new-3.ensures in
    let seen : HaveSeen (2 * c.args.times) (seen_by (λ (gauge : Gauge). counting gauge.count) c.new-audience.result.watcher) after = search rules in
    c.count_of-counted.ensures ∙ count_is c.steps_are_heard.ensures (2 * c.args.times) small after (subst (λ (ws : List Seen). HaveSeen (2 * c.args.times) ws after) begins seen)
