use Rattle.tests_on_threads.proofs.rounds.rounds.Goals as goal

pub look_on-scribe-requires-2 : goal.look_on-scribe-requires-2
look_on-scribe-requires-2 g c = let b = c.requires.feeds.0 in (b, c.look_on-scribe.ensures b c.requires.feeds.1)

pub look_on-scribe-requires-3 : goal.look_on-scribe-requires-3
look_on-scribe-requires-3 g c = let b = c.requires.feeds.0 in (b, c.look_on-scribe-2.ensures b (c.look_on-scribe.ensures b c.requires.feeds.1))

pub returns-clause-scribe : goal.returns-clause-scribe
returns-clause-scribe g c = let b = c.requires.feeds.0 in (c.look_on-scribe-3.ensures b (c.look_on-scribe-2.ensures b (c.look_on-scribe.ensures b c.requires.feeds.1))).of
