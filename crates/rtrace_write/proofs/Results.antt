-- Facts of results.
use Rattle.std.proofs.Common.{Result, Ok, Err, OnErr}
use Rattle.std.specs.Result.{IfOk}

-- a fact holds of an error too
pub always_on_err : {T E P : Type 0} (r : Result T E) → P → OnErr r P
always_on_err (Ok x) p = tt
always_on_err (Err e) p = p

-- what follows from what is so of an answer is so of it too
pub on_some_each : {T E : Type 0} {P Q : T → Type 0} (r : Result T E) → IfOk r P → ((x : T) → P x → Q x) → IfOk r Q
on_some_each (Ok x) is so = so x is
on_some_each (Err e) is so = tt
