use Rattle.std.proofs.Common.{◌≡◌, false, Some, sym, ap, subst, ◌∙◌}
use Rattle.std.specs.Prelude.{slice_get}
use Rattle.rmodel.specs.Holds.{has_request}
use Rattle.rmodel.specs.State.{LockState}
use Rattle.rstate.specs.Contents.{Contents, lock_of, value_now}
use Rattle.rstate.specs.Histories.{HaveBeenTold}
use Rattle.rstate.specs.Shares.{ShareFields}
use Rattle.rstate.proofs.homes.Lists.{get_map}
use Rattle.rstate.proofs.keeping.Ending.{home_now, all_home}
use Rattle.rstate.proofs.keeping.Boxed.{contents_of, shown}
use Rattle.rstate.proofs.state.State.into_whole.Goals as goal

pub one_of_each-requires-clause-home : goal.one_of_each-requires-clause-home
one_of_each-requires-clause-home g c =
    let a = c.into_inner-machine.result in
    let whole = shown g.T.Editable.after g.T.Editable.taken g.T.Editable.number g.M.Machine.state g.M.Machine.watched c.into_inner-machine.ensures c.self.invariant in
    let kept = whole.stands in
    let view_is = ap contents_of c.into_inner-machine.ensures ∙ c.self.view_is in
    all_home g.T.Editable.after g.T.Editable.taken g.T.Editable.number (g.M.Machine.state a.machine) a.history.spare a.opening a.history.entries a.taken.items a.homes.items _ _ kept
    (λ seat. subst (λ (s : LockState). has_request s.claims seat ≡ false) (sym (kept.kept.machine_is ∙ ap lock_of view_is)) (c.requires seat))

pub returns-clause-values : goal.returns-clause-values
returns-clause-values g c = λ l opening listed.
    let a = c.into_inner-machine.result in
    let whole = shown g.T.Editable.after g.T.Editable.taken g.T.Editable.number g.M.Machine.state g.M.Machine.watched c.into_inner-machine.ensures c.self.invariant in
    let kept = whole.stands in
    let view_is = ap contents_of c.into_inner-machine.ensures ∙ c.self.view_is in
    let now = home_now g.T.Editable.after g.T.Editable.taken g.T.Editable.number (g.M.Machine.state a.machine) a.history.spare a.opening a.history.entries a.taken.items a.homes.items _ _ kept
    (λ seat. subst (λ (s : LockState). has_request s.claims seat ≡ false) (sym (kept.kept.machine_is ∙ ap lock_of view_is)) (c.requires seat))
    l opening (ap (λ (x : Contents g.row.T.Denot g.row.T-Edit.Denot). slice_get x.beginning.values l) view_is ∙ listed) in
    ap (λ xs. slice_get xs l) c.one_of_each.ensures
    ∙ get_map (λ (home : ShareFields g.row.T.Denot). home.value) a.homes.items l _ now
    ∙ ap (λ (x : Contents g.row.T.Denot g.row.T-Edit.Denot). Some (value_now g.T.Editable.after x l opening)) view_is

pub returns-clause-told : goal.returns-clause-told
returns-clause-told g c =
    let a = c.into_inner-machine.result in
    let whole = shown g.T.Editable.after g.T.Editable.taken g.T.Editable.number g.M.Machine.state g.M.Machine.watched c.into_inner-machine.ensures c.self.invariant in
    let view_is = ap contents_of c.into_inner-machine.ensures ∙ c.self.view_is in
    subst (λ (x : Contents g.row.T.Denot g.row.T-Edit.Denot). HaveBeenTold x.beginning x.entries (g.M.Machine.watched a.machine)) view_is whole.told
