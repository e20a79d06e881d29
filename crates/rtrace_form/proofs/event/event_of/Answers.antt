use Rattle.std.proofs.Common.{refl, sym, ap, subst, ◌∙◌}
use Rattle.csv.specs.Records.{fields_of}
use Rattle.rset.specs.Names.{number_in}
use Rattle.rclaim.specs.declared.event.Event.TheVariants.{Finish, Rise, Ask}
use Rattle.rtrace_form.specs.SetFields.{set_told}
use Rattle.rtrace_form.specs.Lines.{Happens}
use Rattle.rtrace_form.specs.declared.word.Word.{Word}
use Rattle.rtrace_form.specs.Told.{IsOf, Says, IsUnknown, names_by}
use Rattle.rtrace_form.proofs.Said.{finish_says, rise_says, ask_says, ask_unknown, task_unknown, ask_by}
use Rattle.rtrace_form.proofs.event.event_of.Goals as goal

pub returns-in_default-number_of : goal.returns-in_default-number_of
returns-in_default-number_of c = record {
  told = tt;
  wrong = task_unknown c.args.resources.now c.args.tasks.now (fields_of c.args.fields.now) c.args.word c.requires.event c.in_default.not-Issue c.requires.form
      (ap (number_in c.args.tasks.now) (sym c.field_of.ensures) ∙ sym c.number_of.ensures.value ∙ c.in_default-number_of.is);
}

pub returns-in-Finish : goal.returns-in-Finish
returns-in-Finish c = record {
  told = (
    Finish c.in-Some.seat,
    subst (λ (w : Word). Says (names_by c.args.resources.now c.args.tasks.now) w (fields_of c.args.fields.now) (Happens (Finish c.in-Some.seat))) (sym c.in-Finish.is)
        (finish_says c.args.resources.now c.args.tasks.now (fields_of c.args.fields.now) c.in-Some.seat (subst (λ (w : Word). IsOf w (fields_of c.args.fields.now)) c.in-Finish.is c.requires.form)
        (ap (number_in c.args.tasks.now) (sym c.field_of.ensures) ∙ sym c.number_of.ensures.value ∙ c.in-Some.is)),
    (refl, tt),
  );
  wrong = tt;
}

pub returns-in-Rise : goal.returns-in-Rise
returns-in-Rise c = record {
  told = (
    Rise c.in-Some.seat,
    subst (λ (w : Word). Says (names_by c.args.resources.now c.args.tasks.now) w (fields_of c.args.fields.now) (Happens (Rise c.in-Some.seat))) (sym c.in-Rise.is)
        (rise_says c.args.resources.now c.args.tasks.now (fields_of c.args.fields.now) c.in-Some.seat (subst (λ (w : Word). IsOf w (fields_of c.args.fields.now)) c.in-Rise.is c.requires.form)
        (ap (number_in c.args.tasks.now) (sym c.field_of.ensures) ∙ sym c.number_of.ensures.value ∙ c.in-Some.is)),
    (refl, tt),
  );
  wrong = tt;
}

pub returns-in-Some-set_of : goal.returns-in-Some-set_of
returns-in-Some-set_of c =
    let is = ask_by c.args.word c.requires.event c.in_default.not-Issue c.in_default-word.not-Finish c.in_default-word.not-Rise in
    record {
      told = (
        Ask c.in-Some.seat c.in-Some-set_of.set,
        subst (λ (w : Word). Says (names_by c.args.resources.now c.args.tasks.now) w (fields_of c.args.fields.now) (Happens (Ask c.in-Some.seat c.in-Some-set_of.set))) (sym is)
            (ask_says c.args.resources.now c.args.tasks.now (fields_of c.args.fields.now) c.in-Some.seat c.in-Some-set_of.set (subst (λ (w : Word). IsOf w (fields_of c.args.fields.now)) is c.requires.form)
            (ap (number_in c.args.tasks.now) (sym c.field_of.ensures) ∙ sym c.number_of.ensures.value ∙ c.in-Some.is)
            (ap (set_told c.args.resources.now) (sym c.field_of-in_default-word.ensures) ∙ sym c.set_of.ensures.value ∙ c.in-Some-set_of.is)),
        (refl, tt),
      );
      wrong = tt;
    }

pub returns-in-None : goal.returns-in-None
returns-in-None c =
    let is = ask_by c.args.word c.requires.event c.in_default.not-Issue c.in_default-word.not-Finish c.in_default-word.not-Rise in
    record {
      told = tt;
      wrong = subst (λ (w : Word). IsUnknown (names_by c.args.resources.now c.args.tasks.now) w (fields_of c.args.fields.now)) (sym is)
          (ask_unknown c.args.resources.now c.args.tasks.now (fields_of c.args.fields.now) c.in-Some.seat (subst (λ (w : Word). IsOf w (fields_of c.args.fields.now)) is c.requires.form)
          (ap (number_in c.args.tasks.now) (sym c.field_of.ensures) ∙ sym c.number_of.ensures.value ∙ c.in-Some.is)
          (ap (set_told c.args.resources.now) (sym c.field_of-in_default-word.ensures) ∙ sym c.set_of.ensures.value ∙ c.in-None.is));
    }
