use Rattle.std.proofs.Common.{refl}
use Rattle.csv.specs.Records.{fields_of}
use Rattle.rtrace_read.specs.declared.taken.TakenRecord.TheVariants as taken
use Rattle.rtrace_read.proofs.Results.{same_err}
use Rattle.rtrace_read.proofs.OtherWords.{tells_none}
use Rattle.rtrace_read.proofs.other_records.take_plain.Goals as goal

pub returns-in-Ok-clause-bound : goal.returns-in-Ok-clause-bound
returns-in-Ok-clause-bound c = tells_none c.args.reading.now (fields_of c.args.fields.now) c.args.word taken.Other c.requires.word c.requires.wait refl

pub returns-in-Err-clause-bad : goal.returns-in-Err-clause-bad
returns-in-Err-clause-bad c = λ code is. c.in-Err.ensures.bad code (same_err is)

pub returns-in-Err-clause-still : goal.returns-in-Err-clause-still
returns-in-Err-clause-still c = λ code is. c.in-Err.ensures.still code (same_err is)
