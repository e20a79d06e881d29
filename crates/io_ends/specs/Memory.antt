-- What a source and a sink in memory hold.
use Rattle.std.specs.Prelude.{ℕ, ◌+◌, ◌≤◌, min, List, Contains, Option, Some, None, IfSome}

-- a source: the bytes that are left, the most that it gives in one read, if that is limited, how many reads were made (stopping at 2^64 - 1), which reads fail (the first has number 1), and the count of faults
pub record SourceContent : Type 0 where
  pub left : List ℕ
  pub most : Option ℕ
  pub calls : ℕ
  pub fails : List ℕ
  pub faults : ℕ

-- a sink: the bytes that were written and how many fit in all, the most that it takes in one write, if that is limited, how many writes were made (stopping at 2^64 - 1), which writes fail (the first has number 1), and the count of faults
pub record SinkContent : Type 0 where
  pub written : List ℕ
  pub room : ℕ
  pub most : Option ℕ
  pub calls : ℕ
  pub fails : List ℕ
  pub faults : ℕ

-- this many bytes, but no more than go through in one call
abbrev pub at_most : Option ℕ → ℕ → ℕ
at_most None n = n
at_most (Some most) n = min n most

-- a call can pass at least one byte
abbrev pub GoesOn : Option ℕ → Type 0
GoesOn most = IfSome most (λ m. 1 ≤ m)

-- after this many calls, the next is one of those that fail
abbrev pub NextFails : ℕ → List ℕ → Type 0
NextFails calls fails = Contains fails (calls + 1)
