use Rattle.std.proofs.Common.{List, map, ◌++◌, ap, subst, ◌∙◌}
use Rattle.std.specs.Prelude.{flat_map}
use Rattle.std.proofs.lemmas.Result.{on_err_weaker}
use Rattle.rclaim.specs.Changes.{ChangeLists}
use Rattle.rclaim.specs.declared.changes.StatusChange.{StatusChange}
use Rattle.rclaim.specs.declared.changes.GrantChange.{GrantChange}
use Rattle.rtrace_form.specs.Lines.{Line}
use Rattle.rtrace_form.specs.Reports.{status_lines, grant_line, wait_line}
use Rattle.rtrace_form.specs.Waits.{no_bounds}
use Rattle.rtrace_write.specs.Told.{step_told}
use Rattle.rtrace_write.specs.Open.{open_told, GrewBySome}
use Rattle.rtrace_write.proofs.Opening.{grew_less, grew_more, open_grown}
use Rattle.rtrace_write.proofs.Results.{always_on_err}
use Rattle.rtrace_write.proofs.step.push_told.Goals as goal

abbrev lines : StatusChange → List Line
lines x = status_lines x.seat x.write_half x.status

pub returns-in_err-push_statuses-clause-err : goal.returns-in_err-push_statuses-clause-err
returns-in_err-push_statuses-clause-err c =
    let names = c.args.names.now in
    let now = c.push_statuses.new.text in
    let statuses = flat_map lines c.changes.inside.statuses.items in
    let grants = map grant_line c.changes.inside.grants.items in
    let some = subst (λ (items : List StatusChange). GrewBySome names c.args.text.now now (flat_map lines items)) c.deref.ensures.value c.in_err-push_statuses.ensures.err in
    always_on_err _ (subst (λ (lists : ChangeLists). GrewBySome names c.args.text.now now (step_told lists c.args.ended.now)) c.changes.view_is
    (grew_less names c.args.text.now now (statuses ++ grants) (map (wait_line no_bounds) c.args.ended.now) (grew_less names c.args.text.now now statuses grants some)))

pub returns-in_err-push_grants-clause-err : goal.returns-in_err-push_grants-clause-err
returns-in_err-push_grants-clause-err c =
    let names = c.args.names.now in
    let old = c.args.text.now in
    let now = c.push_grants.new.text in
    let statuses = flat_map lines c.changes.inside.statuses.items in
    let grants = map grant_line c.changes.inside.grants.items in
    let told = c.in_ok-push_statuses.ensures.ok ∙ ap (λ (items : List StatusChange). old ++ open_told names (flat_map lines items)) c.deref.ensures.value in
    let some = subst (λ (items : List GrantChange). GrewBySome names c.push_statuses.new.text now (map grant_line items)) c.deref-2.ensures.value c.in_err-push_grants.ensures.err in
    always_on_err _ (subst (λ (lists : ChangeLists). GrewBySome names old now (step_told lists c.args.ended.now)) c.changes.view_is
    (grew_less names old now (statuses ++ grants) (map (wait_line no_bounds) c.args.ended.now) (grew_more names old c.push_statuses.new.text now statuses grants told some)))

pub returns-clause-err : goal.returns-clause-err
returns-clause-err c =
    let names = c.args.names.now in
    let old = c.args.text.now in
    let now = c.push_waits.new.text in
    let statuses = flat_map lines c.changes.inside.statuses.items in
    let grants = map grant_line c.changes.inside.grants.items in
    let told = c.in_ok-push_statuses.ensures.ok ∙ ap (λ (items : List StatusChange). old ++ open_told names (flat_map lines items)) c.deref.ensures.value in
    let given = c.in_ok-push_grants.ensures.ok ∙ ap (λ (items : List GrantChange). c.push_statuses.new.text ++ open_told names (map grant_line items)) c.deref-2.ensures.value in
    on_err_weaker c.push_waits.result
    (λ (waits : GrewBySome names c.push_grants.new.text now (map (wait_line no_bounds) c.args.ended.now)).
    subst (λ (lists : ChangeLists). GrewBySome names old now (step_told lists c.args.ended.now)) c.changes.view_is
    (grew_more names old c.push_grants.new.text now (statuses ++ grants) (map (wait_line no_bounds) c.args.ended.now) (open_grown names old c.push_statuses.new.text c.push_grants.new.text statuses grants told given) waits))
    c.push_waits.ensures.err
