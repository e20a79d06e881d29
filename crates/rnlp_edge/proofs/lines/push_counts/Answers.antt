use Rattle.std.proofs.Common.{◌≤◌, ◌<◌, string_bytes, sym, subst}
use Rattle.std.proofs.lemmas.List.{append-nil}
use Rattle.rnlp_edge.proofs.WatcherLines.{counts_more, counts_all}
use Rattle.rnlp_edge.proofs.lines.push_counts.Goals as goal

pub loop-i-init : goal.loop-i-init
loop-i-init g c = sym (append-nil (string_bytes c.args.lines.now))

pub loop-i-preserved : goal.loop-i-preserved
loop-i-preserved g c =
    counts_more (string_bytes c.args.lines.now) (string_bytes c.loop-i.lines) (string_bytes c.push_count.new.lines) (g.A.Audience.all c.args.audience.now) c.loop-i.i c.kind_of.result c.count_of.result
    (subst (λ n. c.loop-i.i < n) c.count-i-end.ensures c.loop-i-test.true) c.loop-i.invariant c.kind_of.ensures c.count_of.ensures c.in_ok-push_count.ensures

pub returns : goal.returns
returns g c =
    counts_all (string_bytes c.args.lines.now) (string_bytes c.loop-i.lines) (g.A.Audience.all c.args.audience.now) c.loop-i.i
    (subst (λ n. n ≤ c.loop-i.i) c.count-i-end.ensures c.loop-i-test.false) c.loop-i.invariant
