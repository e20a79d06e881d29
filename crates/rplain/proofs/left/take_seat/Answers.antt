use Rattle.std.proofs.Common.{List, sym, subst, ◌∙◌}
use Rattle.rmodel.specs.declared.claimed.Claimed.{Claimed}
use Rattle.rplain.specs.Sweep.{with_left, is_of, IsLone}
use Rattle.rplain.proofs.settling.Own.{lone_goes, lone_leaves}
use Rattle.rplain.proofs.left.take_seat.Goals as goal

pub returns-in-Some-clause-items : goal.returns-in-Some-clause-items
returns-in-Some-clause-items c =
    let xs = c.args.claims.now.items in
    let lone : IsLone (is_of c.args.seat) xs c.in-Some.i = subst (λ (l : List Claimed). IsLone (is_of c.args.seat) l c.in-Some.i) c.deref.ensures.value c.in-Some.ensures.lone in
    c.remove-gone.ensures.items ∙ sym (lone_goes c.args.seat xs c.in-Some.i c.remove-gone.result c.requires.distinct lone)

pub returns-in-Some-clause-left : goal.returns-in-Some-clause-left
returns-in-Some-clause-left c =
    let xs = c.args.claims.now.items in
    let lone : IsLone (is_of c.args.seat) xs c.in-Some.i = subst (λ (l : List Claimed). IsLone (is_of c.args.seat) l c.in-Some.i) c.deref.ensures.value c.in-Some.ensures.lone in
    c.with_left.ensures ∙ (λ k. with_left (c.none_gone.ensures k) (c.remove-gone.ensures.value k)) ∙ sym (lone_leaves c.args.seat xs c.in-Some.i c.remove-gone.result c.requires.distinct lone c.args.read)
