-- What a follower knows while it goes over an event that may end a wait. First the waits that ended are found, then it is noted what the event leaves
-- of the seats, and then the heads and what is kept of the waits are carried on.
use Rattle.std.specs.Prelude.{◌≡◌, ◌<◌, ℕ, false, slice_index}
use Rattle.rset.specs.declared.TheConstants.{SEATS}
use Rattle.rclaim.specs.declared.claim.Claim.{Claim}
use Rattle.rclaim.specs.declared.event.Event.{Event}
use Rattle.rmodel.specs.Steps.{next}
use Rattle.rplain.specs.Machine.{Standing}
use Rattle.rcover_laws.specs.Ended.{ended_by}
use Rattle.rcover_laws.specs.History.{count_ask}
use Rattle.rcover.specs.Kept.{length_by}
use Rattle.rcover.specs.Lines.{IsTold}
use Rattle.rcover.specs.Shares.{TellWrites}
use Rattle.rcover.specs.declared.following.Following.{Following}
use Rattle.rcover.specs.Follows.{HaveRoom, IsAhead}
use Rattle.rcover.specs.Past.{Past, start_of, state_of, noted}
use Rattle.rcover.specs.NotedSeats.{HoldAsking, HoldReading, HoldWaiting, TellRising}
use Rattle.rcover.specs.Waiting.{ends_none}

-- the waits that an event ended are found, by a follower that was a before it: all else is as it was, and the heads are those of the moment before
pub record HasTold (a b : Following) (machine : Standing) (p : Past) (e : Event) : Type 0 where
  pub ahead : IsAhead a machine p e
  pub may_end : ends_none a.waiting e ≡ false
  pub rest : b ≡ record a { heads = b.heads; scratch = b.scratch; ended = b.ended }
  pub ended : b.ended.items ≡ ended_by (start_of p) p.events e
  pub heads : IsTold b.heads.now.items b.heads.behind.items (state_of p).claims
  pub writes : TellWrites b.heads.writers b.heads.shares (state_of p).claims
  pub room : HaveRoom b

-- a follower b, with what another noted of the seats
abbrev pub with_notes : Following → Following → Following
with_notes a b = record b { waiting = a.waiting; rising = a.rising; asking = a.asking; reading = a.reading; lengths = a.lengths; asks = a.asks }

-- and it is noted what the event leaves of the seats: apart from these notes, all is as it was once the waits were found
pub record HasNoted (a b : Following) (machine : Standing) (p : Past) (e : Event) : Type 0 where
  pub told : HasTold a (with_notes a b) machine p e
  -- the lengths of the request that it brings, and one more ask
  pub lengths : (c : Claim) → length_by b.lengths c ≡ noted e (length_by a.lengths) c
  pub asks : (seat : ℕ) → seat < SEATS → slice_index b.asks seat ≡ count_ask seat (slice_index a.asks seat) e
  -- which seats wait after it, which upgrades rose, which requests ask, and which have a claim that reads
  pub waiting : HoldWaiting b.waiting (next (state_of p) e).claims
  pub rising : TellRising b.rising (next (state_of p) e).claims
  pub asking : HoldAsking b.asking (next (state_of p) e).claims
  pub reading : HoldReading b.reading (next (state_of p) e).claims
  pub room : HaveRoom b
