use Rattle.std.proofs.Common.{◌≡◌, List, [], ◌∷◌, ◌++◌, map, codes, sym, ap, ◌∙◌}
use Rattle.rtrace_form.specs.Fields.{Names}
use Rattle.rtrace_form.specs.Lines.{Line, Opens, HasResource, HasGroup, HasTask, HasCap}
use Rattle.rtrace_write.specs.Told.{told}
use Rattle.rtrace_write.proofs.Growing.{told-one, grown, head-lines}
use Rattle.rtrace_write.proofs.Rows.{opens_is}
use Rattle.rtrace_write.proofs.head.head_of.Goals as goal

pub returns : goal.returns
returns c =
    let names : Names = c.args.names.now in
    let resources : List Line = map HasResource names.resources in
    let groups : List Line = map HasGroup c.args.groups.now.groups in
    let tasks : List Line = map HasTask names.tasks in
    let first : c.push.new.self ≡ [] ++ told names (Opens ∷ []) =
    c.in_ok-push.ensures.ok ∙ ap (λ t. t ++ codes "rnlp,1\n") c.new-page.ensures ∙ sym (told-one names Opens ∙ opens_is names) in
    let second = grown names [] c.push.new.self c.push_resources.new.page (Opens ∷ []) resources first c.in_ok-push_resources.ensures in
    let third = grown names [] c.push_resources.new.page c.push_groups.new.page ((Opens ∷ []) ++ resources) groups second c.in_ok-push_groups.ensures in
    let fourth = grown names [] c.push_groups.new.page c.push_tasks.new.page (((Opens ∷ []) ++ resources) ++ groups) tasks third c.in_ok-push_tasks.ensures in
    let last = grown names [] c.push_tasks.new.page c.push_cap.new.self ((((Opens ∷ []) ++ resources) ++ groups) ++ tasks) (HasCap c.args.cap ∷ []) fourth
    (c.in_ok-push_cap.ensures.ok names ∙ ap (λ t. c.push_tasks.new.page ++ t) (sym (told-one names (HasCap c.args.cap)))) in
    last ∙ ap (told names) (head-lines names Opens resources groups tasks (HasCap c.args.cap ∷ []))
