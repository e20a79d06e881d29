use Rattle.std.proofs.Common.{rules}
use Rattle.rmon.proofs.Ruling.{forks, merges}
use Rattle.rmon.proofs.feed.Feed.monitor.Goals as goal

pub tell-requires : goal.tell-requires
tell-requires g c = forks _ _

pub learn-requires : goal.learn-requires
learn-requires g c = record { own = search rules; rule = merges _ _ _ _ }
