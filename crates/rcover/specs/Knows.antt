-- What covers know of the events that they were given.
use Rattle.std.specs.Prelude.{◌≡◌}
use Rattle.rcover.specs.declared.covers.Covers.{Covers}
use Rattle.rcover.specs.Follows.{Follows}
use Rattle.rcover.specs.Past.{Past, state_of}

-- covers were given these events: their machine has taken them, and they were followed
pub record Knows (a : Covers) (p : Past) : Type 0 where
  pub state : a.machine.state ≡ state_of p
  pub follows : Follows a.following p
