use Rattle.std.proofs.Common.{rules, ◌≡◌, ◌%◌, ◌^◌, ◌<◌, map, length, true, sym, subst, ◌∙◌}
use Rattle.std.specs.Arc.{arc_value}
use Rattle.std.specs.Prelude.{sum_by}
use Rattle.rvalue.specs.declared.ledger.Ledger.{Ledger}
use Rattle.rguard.proofs.Closed.{all_there}
use Rattle.bench_sections.proofs.measure.sum_left.Goals as goal

pub close-values-requires-clause-all : goal.close-values-requires-clause-all
close-values-requires-clause-all g c κs within =
    let all : length c.args.seats.items ≡ c.args.lock.passes = search rules in
    let yes : c.are_in_order.result ≡ true = search rules in
    λ n low. all_there c.args.seats.items c.as_slice.result.now c.as_slice.ensures.value (c.are_in_order.ensures yes) n (subst (λ m. n < m) (sym all) low)

pub returns : goal.returns
returns g c =
    let all : length c.args.seats.items ≡ c.args.count = search rules in
    let yes : c.are_in_order.result ≡ true = search rules in
    record {
      entries = c.close-values.result.0.entries;
      values = map arc_value c.close-values.result.1.items;
      all = λ n low. all_there c.args.seats.items c.as_slice.result.now c.as_slice.ensures.value (c.are_in_order.ensures yes) n (subst (λ m. n < m) (sym all) low);
      closed = c.close-values.ensures.seats;
      total = c.sum_of.ensures ∙ (λ i. sum_by (λ (ledger : Ledger). ledger.balance) (map arc_value (c.as_slice-2.ensures.value i)) % 2 ^ 64);
    }
