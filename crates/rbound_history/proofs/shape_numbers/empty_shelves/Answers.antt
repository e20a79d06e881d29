use Rattle.std.proofs.Common.{◌≡◌, ◌≤◌, ◌+◌, ℕ, subst, sym, arith}
use Rattle.rbound_history.specs.declared.shelf.TheConstants.{SHELVES}
use Rattle.rbound_history.proofs.ShelfFacts.{AreEmpty, none_yet, one_more, empty_are}
use Rattle.rbound_history.proofs.shape_numbers.empty_shelves.Goals as goal

all : (n m : ℕ) → m ≤ n → n ≤ m → n ≡ m
all n m a b = omega arith

pub loop-init : goal.loop-init
loop-init c = subst (AreEmpty 0) (sym c.in_ok-shelves.ensures.items) none_yet

pub loop-preserved : goal.loop-preserved
loop-preserved c = subst (AreEmpty (c.loop.counter + 1)) (sym c.in_ok-push.ensures.items) (one_more c.loop.counter c.loop.shelves.items c.new.result c.loop.invariant c.new.ensures.empty)

pub returns : goal.returns
returns c = empty_are c.loop.shelves.items (subst (λ (n : ℕ). AreEmpty n c.loop.shelves.items) (all c.loop.counter SHELVES c.loop-test.false c.loop.auto.counter-end) c.loop.invariant)
