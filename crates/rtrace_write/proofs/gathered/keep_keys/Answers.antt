use Rattle.std.proofs.Common.{sym}
use Rattle.std.proofs.lemmas.List.{append-nil}
use Rattle.rbound.specs.declared.which.Which.TheVariants.{First}
use Rattle.rcover_laws.specs.declared.wait_end.WaitEnd.{WaitEnd}
use Rattle.rbound_history.specs.Keys.{key_of, IsLastEnded}
use Rattle.rcover.specs.Past.{Past}
use Rattle.rtrace_write.proofs.Gathering.{all_item, key_more}
use Rattle.rtrace_write.proofs.gathered.keep_keys.Goals as goal

-- what is there where there is no wait
abbrev nobody : WaitEnd
nobody = record { seat = 0; stamp = 0; which = First; reads = 0; writes = 0; units = 0 }

pub loop-wait-init : goal.loop-wait-init
loop-wait-init c = λ p known all. sym (append-nil c.args.keys.now.items)

pub key-requires : goal.key-requires
key-requires c =
    let p : Past = c.requires.0 in
    let last = all_item (IsLastEnded p.groups p.seats p.cap p.events) c.args.ended.now c.loop-wait.wait-index nobody c.requires.2 c.loop-wait-test.true in
    (p.groups, p.seats, p.cap, p.events, c.requires.1, last)

pub loop-wait-preserved : goal.loop-wait-preserved
loop-wait-preserved c = λ p known all.
    let last = all_item (IsLastEnded p.groups p.seats p.cap p.events) c.args.ended.now c.loop-wait.wait-index nobody all c.loop-wait-test.true in
    key_more (key_of p.events) c.args.ended.now c.loop-wait.wait-index nobody c.args.keys.now.items c.loop-wait.keys.items c.push.new.self.items c.key.result c.loop-wait-test.true (c.loop-wait.invariant p known all)
    (c.key.ensures.key p.groups p.seats p.cap p.events known last).is
    c.in_ok-push.ensures.items
