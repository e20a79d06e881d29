use Rattle.std.proofs.Common.{false}
use Rattle.rtrace_form.specs.Heads.{read_groups}
use Rattle.rtrace_form.specs.SoFar.{names_in, head_in, entries_in}
use Rattle.rtrace_replay.proofs.Endings.{cap_is, groups_are, made_are, made_parts, some_cap, told_whole}
use Rattle.rtrace_replay.proofs.replaying.made_of.Goals as goal

pub history_with-requires : goal.history_with-requires
history_with-requires c =
    let s = c.requires.0 in
    let h = c.requires.1 in
    let reading = c.args.reading.now in (
      names_in s,
      head_in s,
      entries_in s,
      told_whole c.args.text.now c.replace-told.result c.args.telling.now reading s c.replace-told.ensures.value h,
      groups_are false reading s h.knows h.ended,
      cap_is reading s h.knows,
      some_cap reading s h.knows h.ended,
    )

pub returns-clause-text : goal.returns-clause-text
returns-clause-text c = λ s h.
    let reading = c.args.reading.now in
    let there = groups_are false reading s h.knows h.ended in
    let head = c.in_ok-head.ensures _ there in
    let history =
    c.in_ok-history.ensures (names_in s) (head_in s) (entries_in s) (told_whole c.args.text.now c.replace-told.result c.args.telling.now reading s c.replace-told.ensures.value h) there (cap_is reading s h.knows) in (
      made_are reading s c.args.telling.now.names c.in_ok-head.head c.in_ok-history.history c.in_ok-ending.ending (read_groups (head_in s)) h.knows h.ended h.told.names there head history c.in_ok-ending.ensures,
      made_parts reading s c.args.telling.now.names c.in_ok-head.head c.in_ok-history.history c.in_ok-ending.ending (read_groups (head_in s)) h.knows h.ended h.told.names there head history c.in_ok-ending.ensures,
    )
