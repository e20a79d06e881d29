use Rattle.std.proofs.Common.{◌≡◌, ◌<◌, ◌∷◌, length, option_to_list, IsTrue, sym, ap, subst, ◌∙◌, arith}
use Rattle.rset.specs.Sets.{all_below}
use Rattle.rbound.specs.Needs.{Needs, all_needed, needed_of}
use Rattle.rbound.specs.TaskNeeds.{TaskNeeds, requests_of, with_request}
use Rattle.rbound.specs.Kept.{tasks_in, AreFine}
use Rattle.rbound.proofs.Inserted.{inserted}
use Rattle.rbound.proofs.Fine.{fine_pushed}
use Rattle.rbound.proofs.needs.Needs.push.Goals as goal

pub invariant_of-self-2 : goal.invariant_of-self-2
invariant_of-self-2 c =
    let groups = c.self.inside.groups.groups in
    let needs = tasks_in c.self.inside.tasks.items in
    let task = c.args.task in
    let request = c.args.request in
    let made = c.needed_of-first.result.0 ∷ option_to_list c.needed_of-first.result.1 in
    let there : task < length needs = subst (λ (n : TaskNeeds). task < length n.tasks) (sym c.self.view_is) c.requires.task in
    let number : c.len_of-number.result ≡ length (requests_of needs task) =
    c.len_of-number.ensures ∙ (λ k. length (requests_of (tasks_in (c.deref.ensures.value k)) (c.from.ensures k))) in
    let made_is : made ≡ needed_of groups task (length (requests_of needs task)) request =
    c.needed_of-first.ensures.value ∙ ap (λ k. needed_of groups task k request) number in
    record {
      few = omega (arith, c.in_ok-push_request.ensures.len, c.self.invariant.few);
      fine = subst (λ (ns : Needs). AreFine c.self.inside.groups.q ns) (sym (c.in_ok-push_request.ensures.ok ∙ ap (λ t. with_request needs t request) c.from-2.ensures))
          (fine_pushed c.self.inside.groups.q needs task request c.self.invariant.fine
          (record { normal = c.needed_of-first.ensures.normal; reads = subst (λ (n : TaskNeeds). IsTrue (all_below n.groups.q request.reads)) (sym c.self.view_is) c.requires.reads; writes = subst (λ (n : TaskNeeds). IsTrue (all_below n.groups.q request.writes)) (sym c.self.view_is) c.requires.writes }));
      claims =
          c.insert_needed.ensures
          ∙ inserted groups needs task request c.reserve.new.self.items made c.place_behind-at.result there (c.reserve.ensures.items ∙ c.self.invariant.claims) made_is
          (λ before behind is up_to after. c.place_behind-at.ensures.place before behind (c.deref-2.ensures.value ∙ is) up_to after)
          ∙ ap (λ t. all_needed groups (with_request needs t request)) (sym c.from-2.ensures)
          ∙ sym (ap (all_needed groups) c.in_ok-push_request.ensures.ok);
    }
