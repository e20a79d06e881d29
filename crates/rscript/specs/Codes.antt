-- The numbers of codes.
use Rattle.std.specs.Prelude.{ℕ}
use Rattle.rscript.specs.declared.code.ScriptCode.{ScriptCode}
use Rattle.rscript.specs.declared.code.ScriptCode.TheVariants.{BadField, BadOrder, NoResources, NoTask, BadName, Repeated, TooMany, UnknownName, BadNumber, EmptyGroup, EmptyRequest, Undeclared, FirstOutside, NotHeld, NotWritable, NoEnd}

-- the number of a code, as users see it
abbrev pub code_number : ScriptCode → ℕ
code_number BadName = 1
code_number Repeated = 2
code_number TooMany = 3
code_number EmptyGroup = 4
code_number EmptyRequest = 5
code_number Undeclared = 6
code_number FirstOutside = 7
code_number UnknownName = 8
code_number BadNumber = 9
code_number BadField = 10
code_number BadOrder = 11
code_number NotHeld = 12
code_number NotWritable = 13
code_number NoEnd = 14
code_number NoResources = 15
code_number NoTask = 16
