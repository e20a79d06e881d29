use Rattle.std.proofs.Common.{◌∙◌, arith, sym}
use Rattle.csv.specs.Records.{fields_of}
use Rattle.rscript.specs.Decided.{word_of_one, word_of_two, word_of_three, word_of_four, word_of_five}
use Rattle.rscript.proofs.lines.Decided.{decided_one, decided_two, decided_three, decided_four, decided_five, decided_other}
use Rattle.rscript.proofs.record.word_in.Goals as goal

pub returns-in-1 : goal.returns-in-1
returns-in-1 c = c.word_of_one.ensures ∙ (λ i. word_of_one (c.field_of.ensures i)) ∙ decided_one (fields_of c.args.fields.now) (sym c.len.ensures ∙ c.in-1.is)

pub returns-in-2 : goal.returns-in-2
returns-in-2 c = c.word_of_two.ensures ∙ (λ i. word_of_two (c.field_of-in-2.ensures i) (c.field_of-in-2-2.ensures i)) ∙ decided_two (fields_of c.args.fields.now) (sym c.len.ensures ∙ c.in-2.is)

pub returns-in-3 : goal.returns-in-3
returns-in-3 c = c.word_of_three.ensures ∙ (λ i. word_of_three (c.field_of-in-3.ensures i)) ∙ decided_three (fields_of c.args.fields.now) (sym c.len.ensures ∙ c.in-3.is)

pub returns-in-4 : goal.returns-in-4
returns-in-4 c = c.word_of_four.ensures ∙ (λ i. word_of_four (c.field_of-in-4.ensures i)) ∙ decided_four (fields_of c.args.fields.now) (sym c.len.ensures ∙ c.in-4.is)

pub returns-in-5 : goal.returns-in-5
returns-in-5 c = c.word_of_five.ensures ∙ (λ i. word_of_five (c.field_of-in-5.ensures i)) ∙ decided_five (fields_of c.args.fields.now) (sym c.len.ensures ∙ c.in-5.is)

pub returns-in_default : goal.returns-in_default
returns-in_default c =
    let size = c.len.ensures in
    decided_other (fields_of c.args.fields.now) (λ e. omega (arith, size, e)) (λ e. omega (arith, size, e)) (λ e. omega (arith, size, e)) (λ e. omega (arith, size, e)) (λ e. omega (arith, size, e))
