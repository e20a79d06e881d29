use Rattle.std.proofs.Common.{ℕ, ◌==◌, refl, sym, subst}
use Rattle.rlock.specs.Shelf.{HasOut}
use Rattle.rlock.proofs.Shelves.{by_place}
use Rattle.rlock.proofs.shelf.add.Goals as goal

pub returns-in-Some-clause-only : goal.returns-in-Some-clause-only
returns-in-Some-clause-only g c = λ other out.
    let before = c.give_home.ensures.only other out in c.take_out-pass.ensures.only other before.0 before.1

pub returns-in-None-clause-none : goal.returns-in-None-clause-none
returns-in-None-clause-none g c = λ no. c.take_out-pass.ensures.none c.in-None.is

pub returns-in-None-clause-only : goal.returns-in-None-clause-only
returns-in-None-clause-only g c = λ other out.
    by_place other c.args.spot (other == c.args.spot) refl
    (λ e. subst (λ (k : ℕ). HasOut c.args.pass k) (sym e) (c.take_out-pass.ensures.none_out c.in-None.is (subst (λ (k : ℕ). HasOut c.take_out-pass.result.0 k) e out)))
    (λ away. c.take_out-pass.ensures.only other away out)
