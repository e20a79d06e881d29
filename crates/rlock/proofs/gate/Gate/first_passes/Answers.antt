use Rattle.std.proofs.Common.{rules, arith, ◌≡◌, ℕ, zero, suc, ◌+◌, ◌-◌, [], ◌∷◌, ◌++◌, refl, sym, ap, ◌∙◌}
use Rattle.rlock.specs.Known.{newcomer, newcomers}
use Rattle.rlock.specs.Views.{opening_view}
use Rattle.rlock.specs.Steps.{giving, given}
use Rattle.rlock.proofs.Shares.{gives_out}
use Rattle.rlock.proofs.Newcomers.{newcomers-push}
use Rattle.rlock.proofs.gate.Gate.first_passes.Goals as goal

pub split_seat-given-requires : goal.split_seat-given-requires
split_seat-given-requires g c = let n : ℕ = c.loop-number.number in let k : ℕ = c.args.count - (n + 1) in let o = g.S.Kept.opening c.args.setup.now.first.value in let z = c.args.setup.now.first.value in let left : c.args.count - n ≡ suc k = omega arith in
    let seat : c.loop-number.place.me ≡ (opening_view n (suc k) o z, []) = c.loop-number.invariant.seat ∙ ap (λ (m : ℕ). (opening_view n m o z, [])) left in (
      search rules,
      search rules,
      gives_out g.S.Kept.opening g.S.Kept.entries g.S.Kept.number g.S.Kept.stays _ _ _ _ _ _ _ (ap (λ m. m.0.mode) seat) (ap (λ m. m.0.members) seat),
    )

pub of-requires : goal.of-requires
of-requires g c = let n : ℕ = c.loop-number.number in let k : ℕ = c.args.count - (n + 1) in let o = g.S.Kept.opening c.args.setup.now.first.value in let z = c.args.setup.now.first.value in let left : c.args.count - n ≡ suc k = omega arith in
    let seat : c.loop-number.place.me ≡ (opening_view n (suc k) o z, []) = c.loop-number.invariant.seat ∙ ap (λ (m : ℕ). (opening_view n m o z, [])) left in
    let now = c.split_seat-given.ensures.4 ∙ ap (λ m. (given m.0, [])) seat in (newcomer c.split_seat-given.result.table_id n o z, (((o, z, refl, refl, ap (λ m. m.0) now), ap (λ m. m.1) now), refl, refl))

pub loop-number-preserved : goal.loop-number-preserved
loop-number-preserved g c = let n : ℕ = c.loop-number.number in let k : ℕ = c.args.count - (n + 1) in let o = g.S.Kept.opening c.args.setup.now.first.value in let z = c.args.setup.now.first.value in let left : c.args.count - n ≡ suc k = omega arith in
    let old = c.loop-number.invariant in let seat : c.loop-number.place.me ≡ (opening_view n (suc k) o z, []) = old.seat ∙ ap (λ (m : ℕ). (opening_view n m o z, [])) left in
    let gate = c.args.place.table_id in let E = g.row.S-Entry.Denot in let its_gate : c.split_seat-given.result.table_id ≡ gate = c.split_seat-given.ensures.3 ∙ old.table in
    let now = c.split_seat-given.ensures.4 ∙ ap (λ m. (given m.0, [])) seat in
    let pass : c.of.result ≡ newcomer gate n o z = c.of.ensures (newcomer c.split_seat-given.result.table_id n o z) (((o, z, refl, refl, ap (λ m. m.0) now), ap (λ m. m.1) now), refl, refl) ∙ (λ i. newcomer (its_gate i) n o z) in
    let here : 1 + (n - 1) ≡ n = omega arith in let next : n - 1 + 1 ≡ n + 1 - 1 = omega arith in record {
      table = c.split_seat-given.ensures.0 ∙ old.table;
      seat = c.split_seat-given.ensures.2 ∙ ap (λ m. (giving m.0, m.1)) seat;
      made = c.in_ok-push.ensures.items ∙ ((λ i. old.made i ++ (pass ∙ ap (λ (m : ℕ). newcomer gate m o z) (sym here)) i ∷ []) ∙ (newcomers-push E gate o z 1 (n - 1) ∙ ap (newcomers {E = E} gate o z 1) next));
    }

pub of-requires-2 : goal.of-requires-2
of-requires-2 g c = let n : ℕ = c.loop-number.number in let o = g.S.Kept.opening c.args.setup.now.first.value in let z = c.args.setup.now.first.value in let left : c.args.count - n ≡ 0 = omega arith in
    let now : c.loop-number.place.me ≡ (opening_view n zero o z, []) = c.loop-number.invariant.seat ∙ ap (λ (m : ℕ). (opening_view n m o z, [])) left in
    (newcomer c.loop-number.place.table_id 0 o z, (((o, z, refl, refl, ap (λ m. m.0) now), ap (λ m. m.1) now), refl, refl))

pub returns : goal.returns
returns g c = let n : ℕ = c.loop-number.number in let o = g.S.Kept.opening c.args.setup.now.first.value in let z = c.args.setup.now.first.value in let left : c.args.count - n ≡ 0 = omega arith in let old = c.loop-number.invariant in
    let now : c.loop-number.place.me ≡ (opening_view n zero o z, []) = old.seat ∙ ap (λ (m : ℕ). (opening_view n m o z, [])) left in let E = g.row.S-Entry.Denot in let gate = c.args.place.table_id in
    let first : c.of-2.result ≡ newcomer gate 0 o z = c.of-2.ensures (newcomer c.loop-number.place.table_id 0 o z) (((o, z, refl, refl, ap (λ m. m.0) now), ap (λ m. m.1) now), refl, refl) ∙ (λ i. newcomer (old.table i) 0 o z) in
    let all : suc (n - 1) ≡ c.args.count = omega arith in
    c.in_ok-insert.ensures.items ∙ ((λ i. first i ∷ old.made i) ∙ ap (newcomers {E = E} gate o z 0) all)
