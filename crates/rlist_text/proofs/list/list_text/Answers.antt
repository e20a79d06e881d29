use Rattle.std.proofs.Common.{List, ℕ, false, sym, subst}
use Rattle.rtrace_form.specs.Heads.{Head}
use Rattle.rtrace_form.specs.Texts.{IsTextOf}
use Rattle.rlist_text.specs.Lists.{head_with, list_of}
use Rattle.rlist_text.proofs.Spelling.{listed, parts_are}
use Rattle.rlist_text.proofs.list.list_text.Goals as goal

pub returns : goal.returns
returns g c =
    let head : Head = head_with c.args.resources.now c.args.groups.now c.args.tasks.now c.args.cap in
    subst (λ (text : List ℕ). IsTextOf false text (list_of head c.args.entries.now))
    (sym (parts_are head c.args.entries.now c.in_ok-names.names c.in_ok-page.page c.push_events.new.page c.push.new.self c.in_ok-names.ensures c.in_ok-page.ensures c.in_ok-push_events.ensures c.in_ok-push.ensures.ok))
    (listed c.args.resources.now c.args.groups.now c.args.tasks.now c.args.cap c.requires.over c.len-2.ensures.groups c.len.ensures.table c.len-3.ensures.table c.requires.some_task c.requires.some_cap c.requires.cap
    c.args.entries.now c.requires.accepted)
