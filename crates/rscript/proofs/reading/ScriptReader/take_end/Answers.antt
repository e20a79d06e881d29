use Rattle.csv.specs.Records.{fields_of}
use Rattle.rscript.proofs.Takes.{takes_end, not_zero}
use Rattle.rscript.proofs.reading.ScriptReader.take_end.Goals as goal

pub returns-clause-taken : goal.returns-clause-taken
returns-clause-taken c =
    takes_end c.args.self.now (fields_of c.args.fields.now) c.requires.form (not_zero _ _ c.len.ensures.value c.if-len-eq0.false) (not_zero _ _ c.len-2.ensures.value c.if-len-eq0-2.false)
