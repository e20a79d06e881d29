use Rattle.std.proofs.Common.{◌≡◌, length}
use Rattle.rpost.proofs.posts.Posts.new.Given as goal

abbrev pub invariant-loop : goal.invariant-loop
invariant-loop l = length l.posts.items ≡ l.counter
