use Rattle.std.proofs.Common.{sym, ◌∙◌}
use Rattle.csv.specs.Records.{fields_of}
use Rattle.rscript.proofs.Takes.{takes_statement, on_ok}
use Rattle.rscript.proofs.reading.ScriptReader.take_statement.Goals as goal

pub returns-in-None-clause-taken : goal.returns-in-None-clause-taken
returns-in-None-clause-taken c =
    on_ok c.add.result
    (takes_statement c.args.self.now (fields_of c.args.fields.now) c.args.word c.in-Ok.statement c.add.new.self c.requires.form c.requires.kind c.requires.behind c.in-Ok.ensures.told (sym c.fault_of.ensures ∙ c.in-None.is))
    c.add.ensures.ok
