-- How a table is kept: in a set of byte vectors that keeps the order in which they came. No contract of another crate speaks of it.
use Rattle.std.specs.Prelude.{ℕ, List, map}
use Rattle.std.specs.declared.vec.Vec.{Vec}
use Rattle.std.specs.declared.alloc.Global.{Global}

-- the names that the vectors hold
abbrev pub names_of : List (Vec ℕ Global) → List (List ℕ)
names_of keys = map (λ v. v.items) keys
