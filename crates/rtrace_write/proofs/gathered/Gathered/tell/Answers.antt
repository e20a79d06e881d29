use Rattle.std.proofs.Common.{length, sym}
use Rattle.std.proofs.lemmas.Bool.{eqb-true}
use Rattle.std.proofs.lemmas.Result.{on_ok_weaker}
use Rattle.rcover.specs.Past.{Past}
use Rattle.rtrace_write.proofs.Gathering.{accepted_next, keys_same, none_of}
use Rattle.rtrace_write.proofs.gathered.Gathered.tell.Goals as goal

pub told-requires : goal.told-requires
told-requires c =
    let p : Past = c.requires.0 in
    (p.groups, p.seats, p.cap, p.events, c.requires.2.needs, accepted_next p c.args.event.now c.args.ended.now c.requires.2.accepted c.requires.3)

pub returns-then-is_empty : goal.returns-then-is_empty
returns-then-is_empty c =
    on_ok_weaker c.told.result
    (λ needs p ws known coming.
    let accepted = accepted_next p c.args.event.now c.args.ended.now known.accepted coming in
    record {
      accepted = accepted;
      needs = needs p.groups p.seats p.cap p.events known.needs accepted;
      keys = keys_same p c.args.event.now ws c.args.ended.now c.args.self.now.keys.items (none_of c.args.ended.now (eqb-true (length c.args.ended.now) 0 (sym c.if-is_empty.ensures))) known.keys;
    })
    c.told.ensures.ok
