use Rattle.csv.specs.Records.{fields_of}
use Rattle.rscript.proofs.Takes.{takes_version}
use Rattle.rscript.proofs.reading.ScriptReader.take_version.Goals as goal

pub returns-clause-taken : goal.returns-clause-taken
returns-clause-taken c = takes_version c.args.self.now (fields_of c.args.fields.now) c.requires.form c.requires.early
