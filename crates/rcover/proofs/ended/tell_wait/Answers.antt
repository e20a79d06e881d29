use Rattle.std.proofs.Common.{◌≡◌, true, cond, Some, None, [], ◌∷◌, ◌++◌, sym, ap, subst, ◌∙◌}
use Rattle.std.specs.Option.{IfSome, option_to_list}
use Rattle.rcover_laws.specs.Ended.{waits_in, wait_end}
use Rattle.rcover_laws.specs.History.{length_in}
use Rattle.rcover_laws.specs.Within.{numbers_of}
use Rattle.rcover.specs.Kept.{kept_in}
use Rattle.rcover.specs.Tracked.{shown, told_of}
use Rattle.rcover.proofs.ended.tell_wait.Goals as goal

pub show-requires-clause-few : goal.show-requires-clause-few
show-requires-clause-few c =
    c.requires.few c.in-Some.which (subst (λ o. IfSome o (λ w. waits_in w c.args.last.now c.args.x.now ≡ true)) c.in-Some.is (c.wait_by.ensures.waits c.args.last.now c.requires.rose))

pub returns-clause-told : goal.returns-clause-told
returns-clause-told c = λ es asks are own have.
    let len = length_in es in
    let x = c.args.x.now in
    let m = c.args.last.now in
    let n = c.args.next.now in
    let w = c.in-Some.which in
    let before = c.args.ended.now.items in
    let long = c.show.ensures.lengths len are own have in
    c.push_reserved.ensures.items
    ∙ ap (λ e. before ++ e ∷ []) (c.end_of.ensures len long ∙ ap (λ a. wait_end w x.claim (numbers_of len a)) c.show.ensures.shown)
    ∙ sym (ap (λ o. before ++ option_to_list (told_of len m n (kept_in c.args.run.now) x o)) (sym (c.wait_by.ensures.which m c.requires.rose es asks) ∙ c.in-Some.is)
    ∙ ap (λ b. before ++ option_to_list (cond b None (Some (wait_end w x.claim (numbers_of len (shown w x (kept_in c.args.run.now) m)))))) (sym c.still_stands.ensures ∙ c.if-still_stands.false))
