use Rattle.std.proofs.Common.{◌≡◌, ◌<◌, true, length, sym, ap, subst, ◌∙◌}
use Rattle.std.specs.FinSet.{contains}
use Rattle.rcover.specs.declared.lines.Head.{Head}
use Rattle.rcover.specs.Lines.{set_at}
use Rattle.rcover.proofs.heads_told.Reached.{seat_found, stamp_found}
use Rattle.rcover.proofs.turns.find_head.Goals as goal

pub returns-then-found-lost-clause-turned : goal.returns-then-found-lost-clause-turned
returns-then-found-lost-clause-turned c = λ gone touched m rest next goes new was.
    let before = c.args.before.now in
    let f = c.found_before-found.result in
    let found = c.found_before-found.ensures rest next.rising c.requires.write next.told in
    let stamps = sym (stamp_found before rest c.args.x.now next.rising c.requires.write f found) ∙ c.if-found-lost.true ∙ ap (λ (h : Head). h.claim.stamp) (sym was) in
    c.rise_head.ensures.turned c.args.lost.now gone touched m before rest c.requires.write next goes new stamps

pub returns-then-found-lost-clause-behind : goal.returns-then-found-lost-clause-behind
returns-then-found-lost-clause-behind c = λ m rest next low.
    let x = c.args.x.now in
    let f = c.found_before-found.result in
    let seat = seat_found c.args.before.now rest x next.rising c.requires.write f (c.found_before-found.ensures rest next.rising c.requires.write next.told) in
    subst (λ k. contains (set_at c.note_behind.new.behind k) x.claim.seat ≡ true) seat (c.note_behind.ensures.own (subst (λ k. k < length c.args.behind.now) (sym seat) low))

pub returns-clause-turned : goal.returns-clause-turned
returns-clause-turned c = λ gone touched m rest next goes new was.
    c.move_head.ensures.turned c.args.lost.now m c.args.before.now rest next new (c.found_before-found.ensures rest next.rising c.requires.write next.told) was c.if-found-lost.false

pub returns-clause-behind : goal.returns-clause-behind
returns-clause-behind c = λ m rest next low.
    let f = c.found_before-found.result in
    let seat = seat_found c.args.before.now rest c.args.x.now next.rising c.requires.write f (c.found_before-found.ensures rest next.rising c.requires.write next.told) in
    c.move_head.ensures.behind _ (sym seat) low
