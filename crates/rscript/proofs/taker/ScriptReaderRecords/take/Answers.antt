use Rattle.std.proofs.Common.{Some, sym, ap, ◌∙◌}
use Rattle.csv.specs.Records.{fields_of}
use Rattle.rscript.proofs.Takes.{on_ok, same_bad}
use Rattle.rscript.proofs.texts.Taken.{no_record, misplaced, refused_rows, taken_rows}
use Rattle.rscript.proofs.taker.ScriptReaderRecords.take.Goals as goal

pub returns-in_default-clause-bad : goal.returns-in_default-clause-bad
returns-in_default-clause-bad c = λ cause is rows k.
    no_record c.args.self.now (fields_of c.args.fields.now) (sym c.word_in.ensures ∙ c.in_default.is) rows ∙ ap (λ code. Some code) (same_bad is)

pub returns-then-not-may_stand-clause-bad : goal.returns-then-not-may_stand-clause-bad
returns-then-not-may_stand-clause-bad c = λ cause is rows k.
    misplaced c.args.self.now (fields_of c.args.fields.now) c.in-Some.word (sym c.word_in.ensures ∙ c.in-Some.is) (sym c.may_stand.ensures ∙ c.if-not-may_stand.true) rows k ∙ ap (λ code. Some code) (same_bad is)

pub returns-clause-taken : goal.returns-clause-taken
returns-clause-taken c =
    on_ok c.take_word.result
    (taken_rows c.args.self.now (fields_of c.args.fields.now) c.in-Some.word (sym c.word_in.ensures ∙ c.in-Some.is) (sym c.may_stand.ensures ∙ c.if-not-may_stand.false) c.take_word.new.self)
    c.take_word.ensures.taken

pub returns-clause-bad : goal.returns-clause-bad
returns-clause-bad c = λ cause is.
    refused_rows c.args.self.now (fields_of c.args.fields.now) c.in-Some.word (sym c.word_in.ensures ∙ c.in-Some.is) (sym c.may_stand.ensures ∙ c.if-not-may_stand.false) cause (c.take_word.ensures.bad cause is)
