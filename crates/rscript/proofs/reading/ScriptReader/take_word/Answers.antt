use Rattle.std.proofs.Common.{sym, subst}
use Rattle.std.specs.Prelude.{OnOk}
use Rattle.csv.specs.Records.{fields_of}
use Rattle.rscript.specs.declared.word.ScriptWord.{ScriptWord}
use Rattle.rscript.specs.Reading.{Takes, Refuses}
use Rattle.rscript.proofs.reading.ScriptReader.take_word.Goals as goal

pub returns-in-Version-clause-taken : goal.returns-in-Version-clause-taken
returns-in-Version-clause-taken c =
    subst (λ (w : ScriptWord). OnOk c.take_version.result (Takes c.args.self.now c.take_version.new.self (fields_of c.args.fields.now) w)) (sym c.in-Version.is) c.take_version.ensures.taken

pub returns-in-Version-clause-bad : goal.returns-in-Version-clause-bad
returns-in-Version-clause-bad c = λ cause is. subst (λ (w : ScriptWord). Refuses c.args.self.now (fields_of c.args.fields.now) w cause) (sym c.in-Version.is) (c.take_version.ensures.bad cause is)

pub returns-in-Resource-clause-taken : goal.returns-in-Resource-clause-taken
returns-in-Resource-clause-taken c =
    subst (λ (w : ScriptWord). OnOk c.take_resource.result (Takes c.args.self.now c.take_resource.new.self (fields_of c.args.fields.now) w)) (sym c.in-Resource.is) c.take_resource.ensures.taken

pub returns-in-Resource-clause-bad : goal.returns-in-Resource-clause-bad
returns-in-Resource-clause-bad c = λ cause is. subst (λ (w : ScriptWord). Refuses c.args.self.now (fields_of c.args.fields.now) w cause) (sym c.in-Resource.is) (c.take_resource.ensures.bad cause is)

pub returns-in-Group-clause-taken : goal.returns-in-Group-clause-taken
returns-in-Group-clause-taken c =
    subst (λ (w : ScriptWord). OnOk c.take_group.result (Takes c.args.self.now c.take_group.new.self (fields_of c.args.fields.now) w)) (sym c.in-Group.is) c.take_group.ensures.taken

pub returns-in-Group-clause-bad : goal.returns-in-Group-clause-bad
returns-in-Group-clause-bad c = λ cause is. subst (λ (w : ScriptWord). Refuses c.args.self.now (fields_of c.args.fields.now) w cause) (sym c.in-Group.is) (c.take_group.ensures.bad cause is)

pub returns-in-Task-clause-taken : goal.returns-in-Task-clause-taken
returns-in-Task-clause-taken c =
    subst (λ (w : ScriptWord). OnOk c.take_task.result (Takes c.args.self.now c.take_task.new.self (fields_of c.args.fields.now) w)) (sym c.in-Task.is) c.take_task.ensures.taken

pub returns-in-Task-clause-bad : goal.returns-in-Task-clause-bad
returns-in-Task-clause-bad c = λ cause is. subst (λ (w : ScriptWord). Refuses c.args.self.now (fields_of c.args.fields.now) w cause) (sym c.in-Task.is) (c.take_task.ensures.bad cause is)

pub returns-in-End-clause-taken : goal.returns-in-End-clause-taken
returns-in-End-clause-taken c =
    subst (λ (w : ScriptWord). OnOk c.take_end.result (Takes c.args.self.now c.take_end.new.self (fields_of c.args.fields.now) w)) (sym c.in-End.is) c.take_end.ensures.taken

pub returns-in-End-clause-bad : goal.returns-in-End-clause-bad
returns-in-End-clause-bad c = λ cause is. subst (λ (w : ScriptWord). Refuses c.args.self.now (fields_of c.args.fields.now) w cause) (sym c.in-End.is) (c.take_end.ensures.bad cause is)
