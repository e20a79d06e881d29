-- What reported bounds are looked up by. No contract of another crate mentions it.
use Rattle.std.specs.Prelude.{Bool, true, false, ◌&&◌, ◌==◌, ◌++◌}
use Rattle.std.specs.Hash as fed
use Rattle.rbound.specs.declared.which.Which.{Which}
use Rattle.rbound.specs.declared.which.Which.TheVariants.{First, Rise, Ask}
use Rattle.rtrace.specs.declared.key.Key.{Key}

-- two waits of requests of one shape are the same
abbrev pub same_which : Which → Which → Bool
same_which First First = true
same_which Rise Rise = true
same_which (Ask a) (Ask b) = a == b
same_which _ _ = false

-- two keys are the same
abbrev pub same_key : Key → Key → Bool
same_key a b = (a.key.shape == b.key.shape) && same_which a.key.which b.key.which

-- what is hashed for a wait, and for a key
abbrev pub which_input : Which → fed.HashWrites
which_input First = fed.u8 0
which_input Rise = fed.u8 1
which_input (Ask number) = fed.u8 2 ++ fed.usize number

abbrev pub key_input : Key → fed.HashWrites
key_input k = fed.usize k.key.shape ++ which_input k.key.which
