use Rattle.std.proofs.Common.{◌≡◌, ◌<◌, true, length, sym, subst}
use Rattle.std.specs.FinSet.{contains}
use Rattle.rcover.specs.Lines.{set_at}
use Rattle.rcover.proofs.heads_told.Reached.{seat_found}
use Rattle.rcover.proofs.heads_told.Stayed.{other_than}
use Rattle.rcover.proofs.lines.tell_head.Goals as goal

pub returns-then-x-clause-behind : goal.returns-then-x-clause-behind
returns-then-x-clause-behind c = λ rest rising distinct told low write.
    let x = c.args.x.now in
    let f = c.found_before-found.result in
    let seat = seat_found c.args.before.now rest x rising write f (c.found_before-found.ensures rest rising write told) in
    subst (λ k. contains (set_at c.note_behind.new.behind k) x.claim.seat ≡ true) seat (c.note_behind.ensures.own (subst (λ k. k < length c.args.behind.now) (sym seat) low))

pub returns-then-x-clause-others : goal.returns-then-x-clause-others
returns-then-x-clause-others c = λ seat none. c.put_head.ensures.others seat (other_than seat c.args.x.now c.if-x.true none)
