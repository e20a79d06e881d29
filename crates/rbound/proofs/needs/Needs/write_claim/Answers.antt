use Rattle.std.proofs.Common.{List, ◌∷◌, option_to_list, sym, ◌∙◌, subst}
use Rattle.std.specs.declared.vec.Vec.{Vec}
use Rattle.std.specs.declared.alloc.Global.{Global}
use Rattle.rbound.specs.Kept.{tasks_in, AreClaimsOf}
use Rattle.rbound.specs.TaskNeeds.{TaskNeeds}
use Rattle.rbound.specs.declared.requests.RequestAsks.{RequestAsks}
use Rattle.rbound.proofs.RequestClaims.{write_found}
use Rattle.rbound.proofs.needs.Needs.write_claim.Goals as goal

pub returns : goal.returns
returns c =
    let inside = c.self.inside in
    let v : TaskNeeds = record { groups = inside.groups; tasks = tasks_in inside.tasks.items } in
    let first = c.claims_at-first.result.0 in
    let second = c.claims_at-first.result.1 in
    let are = subst (λ (ts : List (Vec RequestAsks Global)). AreClaimsOf inside.groups.groups (tasks_in ts) c.args.task c.args.k (first ∷ option_to_list second)) c.deref.ensures.value c.claims_at-first.ensures in
    c.write_among.ensures ∙ sym (write_found v c.args.self.now c.self.view_is c.args.task c.args.k c.requires.number first second are)
