use Rattle.rcover.proofs.following.Following.advance.Goals as goal

pub tell_ended-requires-clause-ahead : goal.tell_ended-requires-clause-ahead
tell_ended-requires-clause-ahead c = (c.requires.ahead.0, c.requires.ahead.1)

pub tell_ended-requires-clause-other : goal.tell_ended-requires-clause-other
tell_ended-requires-clause-other c = c.requires.other

pub note_left-requires : goal.note_left-requires
note_left-requires c = (c.args.self.now, c.requires.ahead.0, c.tell_ended.ensures c.requires.ahead.0 c.requires.ahead.1, c.requires.ahead.2)

pub keep_waits-requires : goal.keep_waits-requires
keep_waits-requires c = (c.args.self.now, c.requires.ahead.0, c.note_left.ensures c.args.self.now c.requires.ahead.0 (c.tell_ended.ensures c.requires.ahead.0 c.requires.ahead.1))

pub returns : goal.returns
returns c = λ p g. c.keep_waits.ensures c.args.self.now p (c.note_left.ensures c.args.self.now p (c.tell_ended.ensures p g))
