use Rattle.std.proofs.Common.{refl, sym, subst}
use Rattle.csv.specs.Records.{fields_of}
use Rattle.rclaim.specs.declared.event.Event.TheVariants.{Finish}
use Rattle.rtrace_form.specs.Lines.{Happens}
use Rattle.rtrace_form.specs.declared.word.Word.{Word}
use Rattle.rtrace_form.specs.Told.{IsOf, Says, names_by}
use Rattle.rtrace_read.proofs.taking.keep_event.Goals as goal

pub finish_of-requires : goal.finish_of-requires
finish_of-requires c = subst (λ (w : Word). IsOf w (fields_of c.args.fields.now)) c.in-Finish.is c.requires.form

pub returns-in-Ok-clause-kept : goal.returns-in-Ok-clause-kept
returns-in-Ok-clause-kept c = (
  Finish c.in-Ok.seat,
  subst (λ (w : Word). Says (names_by c.args.reading.now.resources c.args.reading.now.tasks) w (fields_of c.args.fields.now) (Happens (Finish c.in-Ok.seat))) (sym c.in-Finish.is) c.in-Ok.ensures.told,
  (c.keep.ensures, (refl, tt)),
)
