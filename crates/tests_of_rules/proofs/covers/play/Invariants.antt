use Rattle.tests_of_rules.specs.Stories.{IsStory}
use Rattle.tests_of_rules.proofs.covers.play.Given as goal

abbrev pub invariant-loop-turn : goal.invariant-loop-turn
invariant-loop-turn l = IsStory l.story.groups l.story.seats l.story.events.items l.story.machine.state l.story.following l.story.covers
