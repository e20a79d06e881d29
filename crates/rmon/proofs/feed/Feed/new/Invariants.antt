use Rattle.std.proofs.Common.{◌≡◌, ◌≤◌, vec_len, vec_capacity}
use Rattle.std.specs.Prelude.{All}
use Rattle.rmon.specs.Known.{begun, newcomer}
use Rattle.rmon.proofs.feed.Feed.new.Given as goal

abbrev pub invariant-loop : goal.invariant-loop
invariant-loop g l = record {
  feed : l.feed ≡ begun l.feed.feed (record { groups = l.fn.groups; seats = l.fn.seats; cap = l.fn.cap });
  count : vec_len l.all ≡ l.counter;
  room : l.fn.monitors ≤ vec_capacity l.all;
  all : All (λ m. m ≡ newcomer l.feed.feed (record { groups = l.fn.groups; seats = l.fn.seats; cap = l.fn.cap })) l.all.items;
}
