use Rattle.std.proofs.Common.{◌++◌, List, sym, subst}
use Rattle.std.specs.List.{AllZip}
use Rattle.std.proofs.lemmas.Result.{on_ok_weaker}
use Rattle.rcover_laws.specs.declared.wait_end.WaitEnd.{WaitEnd}
use Rattle.rbound_history.specs.declared.key.BoundKey.{BoundKey}
use Rattle.rcover.specs.Past.{Past, with_event}
use Rattle.rtrace_write.specs.Gathered.{HadKeyIn}
use Rattle.rtrace_write.proofs.Gathering.{accepted_next, ended_last, keys_more}
use Rattle.rtrace_write.proofs.gathered.Gathered.tell_ended.Goals as goal

pub told-requires : goal.told-requires
told-requires c =
    let p : Past = c.requires.0 in
    (p.groups, p.seats, p.cap, p.events, c.requires.2.needs, accepted_next p c.args.event.now c.args.ended.now c.requires.2.accepted c.requires.3)

pub keep_keys-requires : goal.keep_keys-requires
keep_keys-requires c =
    let p : Past = c.requires.0 in
    let known = c.requires.2 in
    let coming = c.requires.3 in (
      with_event p c.args.event.now,
      c.in_ok-told.ensures.ok p.groups p.seats p.cap p.events known.needs (accepted_next p c.args.event.now c.args.ended.now known.accepted coming),
      ended_last p c.args.event.now c.args.ended.now known.accepted coming,
    )

pub returns : goal.returns
returns c =
    on_ok_weaker c.keep_keys.result
    (λ kept p ws known coming.
    let e = c.args.event.now in
    let ended : List WaitEnd = c.args.ended.now in
    let accepted = accepted_next p e ended known.accepted coming in
    let needs = c.in_ok-told.ensures.ok p.groups p.seats p.cap p.events known.needs accepted in
    let last = ended_last p e ended known.accepted coming in
    let had = subst (λ (keys : List BoundKey). AllZip (HadKeyIn p) ws keys) (sym c.reserve.ensures.items) known.keys in
    record {
      accepted = accepted;
      needs = needs;
      keys = subst (λ (keys : List BoundKey). AllZip (HadKeyIn (with_event p e)) (ws ++ ended) keys) (sym (kept (with_event p e) needs last)) (keys_more p e ws c.reserve.new.self.items ended had last);
    })
    c.keep_keys.ensures
