use Rattle.std.proofs.Common.{◌≡◌, ◌<◌, ℕ, length, replicate, slice_get, Some, ap, ◌∙◌, arith}
use Rattle.std.proofs.lemmas.List.{get_or-replicate, length-replicate}
use Rattle.std.proofs.lemmas.Option.{slice_get-get_or}
use Rattle.rbound_history.specs.declared.growing.Last.{Last}
use Rattle.rbound_history.proofs.growing.GrowingNeeds.new.Goals as goal

all_there : (n k : ℕ) (x : Last) → k < n → slice_get (replicate n x) k ≡ Some x
all_there n k x below =
    let within : k < length (replicate n x) = omega (arith, below, length-replicate n x) in
    slice_get-get_or (replicate n x) k x within ∙ ap (λ y. Some y) (get_or-replicate n k x x below)

pub returns : goal.returns
returns c =
    let items = c.in_ok-last.ensures.items_if_clones_equal (λ y same. same) in
    record {
      shapes = c.in_ok-new.ensures;
      seated = ap length items ∙ length-replicate c.from.result _ ∙ c.from.ensures;
      last = λ seat below. ap (λ ls. slice_get ls seat) items ∙ all_there c.from.result seat _ (omega (arith, below, c.from.ensures));
    }
