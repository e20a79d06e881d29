-- What a record of a wait says.
use Rattle.std.specs.Prelude.{ℕ, ◌+◌, Option, option_map, option_and_then}
use Rattle.rtrace_form.specs.Bounds.{Numbers, numbers_in}
use Rattle.rtrace_form.specs.Records.{Row}
use Rattle.rtrace_form.specs.Decided.{field_of}
use Rattle.rtrace_form.specs.Numbers.{number_told}
use Rattle.rtrace_form.specs.Lines.{Line, Waits}
use Rattle.rtrace_form.specs.declared.wait.CoverTold.{CoverTold}
use Rattle.rtrace_form.specs.declared.wait.WaitTold.{WaitTold}

-- three numbers, like those of a wait
abbrev pub numbers_by : ℕ → ℕ → ℕ → Numbers
numbers_by reads writes units = record { reads = reads; writes = writes; units = units }

-- the three numbers in the fields from this place on, if each is a number
abbrev pub numbers_told : Row → ℕ → Option Numbers
numbers_told row at =
    option_and_then (λ reads.
    option_and_then (λ writes.
    option_map (numbers_by reads writes) (number_told (field_of row (at + 2))))
    (number_told (field_of row (at + 1))))
    (number_told (field_of row at))

-- the numbers of a cover
abbrev pub cover_in : CoverTold → Numbers
cover_in c = numbers_by c.reads c.writes c.units

-- the line of this wait
abbrev pub line_told : WaitTold → Line
line_told w = Waits w.seat w.stage (cover_in w.cover) (numbers_in w.bound)
