use Rattle.std.proofs.Common.{◌++◌, ◌∷◌, [], Some, sym, ap, ◌∙◌, true≢false}
use Rattle.csv.specs.Records.{fields_of}
use Rattle.rexpand.specs.Groups.{ReadGroups}
use Rattle.rtrace_form.specs.SetFields.{set_told}
use Rattle.rscript.specs.Causes.{groups_in}
use Rattle.rscript.proofs.Made.{no_members, has_members}
use Rattle.rscript.proofs.Takes.{takes_group, refuses_unknown, refuses_empty, some_below, same_bad}
use Rattle.rscript.proofs.reading.ScriptReader.take_group.Goals as goal

pub returns-in_default-clause-bad : goal.returns-in_default-clause-bad
returns-in_default-clause-bad c = λ cause is s k.
    refuses_unknown c.args.self.now (fields_of c.args.fields.now) c.requires.form
    (ap (set_told c.args.self.now.resources) (sym c.field_of.ensures) ∙ sym c.set_of.ensures.value ∙ c.in_default.is)
    (sym c.has_all_groups.ensures ∙ c.if-has_all_groups.false) s k
    ∙ ap (λ code. Some code) (same_bad is)

pub returns-then-is_empty-clause-bad : goal.returns-then-is_empty-clause-bad
returns-then-is_empty-clause-bad c = λ cause is s k.
    refuses_empty c.args.self.now (fields_of c.args.fields.now) c.in-Some.set c.requires.form
    (ap (set_told c.args.self.now.resources) (sym c.field_of.ensures) ∙ sym c.set_of.ensures.value ∙ c.in-Some.is)
    (sym c.has_all_groups.ensures ∙ c.if-has_all_groups.false)
    (no_members c.in-Some.set (c.is_empty.ensures.0 c.if-is_empty.true)) s k
    ∙ ap (λ code. Some code) (same_bad is)

pub add_group-requires-clause-some : goal.add_group-requires-clause-some
add_group-requires-clause-some c =
    some_below c.len.result c.in-Some.set (rw c.len.ensures.value c.in-Some.ensures.below) (λ e. true≢false (sym (c.is_empty.ensures.1 e) ∙ c.if-is_empty.false))

pub returns-clause-taken : goal.returns-clause-taken
returns-clause-taken c =
    takes_group c.args.self.now (fields_of c.args.fields.now) c.in-Some.set c.add_group.new.groups c.requires.form
    (ap (set_told c.args.self.now.resources) (sym c.field_of.ensures) ∙ sym c.set_of.ensures.value ∙ c.in-Some.is)
    (sym c.has_all_groups.ensures ∙ c.if-has_all_groups.false)
    (has_members c.in-Some.set (λ e. true≢false (sym (c.is_empty.ensures.1 e) ∙ c.if-is_empty.false)))
    (c.in_ok-add_group.ensures.added ∙ ap (λ q. let g : ReadGroups = record { q = q; groups = groups_in c.args.self.now.groups ++ c.in-Some.set ∷ [] } in Some g) c.len.ensures.value)
