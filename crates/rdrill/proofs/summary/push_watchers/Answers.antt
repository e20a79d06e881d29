use Rattle.std.proofs.Common.{◌≤◌, ◌<◌, length, vec_capacity, ap, subst, ◌∙◌, arith}
use Rattle.rdrill.specs.Summary.{kind_word}
use Rattle.rdrill.proofs.Writing.{writes_none, writes_more, writes_all}
use Rattle.rdrill.proofs.summary.push_watchers.Goals as goal

pub loop-i-init : goal.loop-i-init
loop-i-init g c = writes_none c.args.text.now.items (vec_capacity c.args.text.now) (g.A.Audience.all c.args.audience.now)

pub push_count-requires-clause-room : goal.push_count-requires-clause-room
push_count-requires-clause-room g c =
    let less : c.loop-i.i < length (g.A.Audience.all c.args.audience.now) = subst (λ n. c.loop-i.i < n) c.count-i-end.ensures c.loop-i-test.true in
    let long = c.loop-i.invariant.long in
    let room = c.loop-i.invariant.room in
    omega (arith, less, long, room, c.requires.room)

pub loop-i-preserved : goal.loop-i-preserved
loop-i-preserved g c =
    writes_more c.args.text.now.items c.loop-i.text.items c.push_count.new.text.items (vec_capacity c.args.text.now) (vec_capacity c.loop-i.text) (vec_capacity c.push_count.new.text) (g.A.Audience.all c.args.audience.now) c.loop-i.i
    c.kind_word.result.now c.count_of.result (subst (λ n. c.loop-i.i < n) c.count-i-end.ensures c.loop-i-test.true) c.loop-i.invariant (c.kind_word.ensures.word ∙ ap kind_word c.kind_of.ensures) c.count_of.ensures
    c.push_count.ensures.items c.push_count.ensures.room c.push_count.ensures.long

pub returns-clause-items : goal.returns-clause-items
returns-clause-items g c =
    writes_all c.args.text.now.items c.loop-i.text.items (vec_capacity c.args.text.now) (vec_capacity c.loop-i.text) (g.A.Audience.all c.args.audience.now) c.loop-i.i
    (subst (λ n. n ≤ c.loop-i.i) c.count-i-end.ensures c.loop-i-test.false) c.loop-i.invariant

pub returns-clause-room : goal.returns-clause-room
returns-clause-room g c = c.loop-i.invariant.room

pub returns-clause-long : goal.returns-clause-long
returns-clause-long g c =
    let all : c.loop-i.i ≤ length (g.A.Audience.all c.args.audience.now) = subst (λ n. c.loop-i.i ≤ n) c.count-i-end.ensures c.loop-i.auto.i-end in
    let long = c.loop-i.invariant.long in
    omega (arith, all, long)
