use Rattle.std.proofs.Common.{rules, arith, ◌≡◌, ◌+◌, List, length, ap, ◌∙◌, subst, sym, Some}
use Rattle.std.specs.Prelude.{All, slice_get}
use Rattle.rlock.specs.Known.{Known, newcomer}
use Rattle.rlock.proofs.Newcomers.{length-newcomers, newcomers-at, all-newcomers}
use Rattle.rlock.proofs.gate.Gate.new.Goals as goal

pub returns-clause-count : goal.returns-clause-count
returns-clause-count g c = (search rules, ap length c.in_ok-all.ensures ∙ length-newcomers g.row.S-Entry.Denot c.in_ok-gate.place.table_id (g.S.Kept.opening c.of.result.value) c.of.result.value 0 c.args.passes)

pub returns-clause-gate : goal.returns-clause-gate
returns-clause-gate g c = let E = g.row.S-Entry.Denot in let P : Known g.row.S.Denot g.row.S-Opening.Denot E → Type 0 = λ p. p.gate ≡ c.in_ok-gate.gate.gate in let gate : c.in_ok-gate.place.table_id ≡ c.in_ok-gate.gate.gate = search rules in
    subst (All P) (sym c.in_ok-all.ensures) (all-newcomers E c.in_ok-gate.place.table_id (g.S.Kept.opening c.of.result.value) c.of.result.value P (λ n. gate) 0 c.args.passes)

pub returns-clause-each : goal.returns-clause-each
returns-clause-each g c = λ k low. let E = g.row.S-Entry.Denot in let state : c.of.result.value ≡ c.args.state = search rules in
    let gate : c.in_ok-gate.place.table_id ≡ c.in_ok-gate.gate.gate = search rules in let here : 0 + k ≡ k = omega arith in
    ap (λ (l : List (Known g.row.S.Denot g.row.S-Opening.Denot E)). slice_get l k) c.in_ok-all.ensures
    ∙ (newcomers-at E c.in_ok-gate.place.table_id (g.S.Kept.opening c.of.result.value) c.of.result.value 0 c.args.passes k low
    ∙ (λ i. let x : Known g.row.S.Denot g.row.S-Opening.Denot E = newcomer (gate i) (here i) (g.S.Kept.opening (state i)) (state i) in Some x))
