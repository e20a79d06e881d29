use Rattle.std.proofs.Common.{◌≡◌, ◌++◌, map, take}
use Rattle.rbound_history.specs.Keys.{key_of}
use Rattle.rbound_history.specs.Knows.{Knows}
use Rattle.rcover.specs.Past.{Past}
use Rattle.rtrace_write.specs.Gathered.{EndedLast}
use Rattle.rtrace_write.proofs.gathered.keep_keys.Given as goal

-- the keys of the waits so far were appended
abbrev pub invariant-loop-wait : goal.invariant-loop-wait
invariant-loop-wait l = (p : Past) → Knows l.needs p.seats p.events → EndedLast p l.ended → l.keys.items ≡ l.fn.keys.items ++ map (key_of p.events) (take l.wait-index l.ended)
