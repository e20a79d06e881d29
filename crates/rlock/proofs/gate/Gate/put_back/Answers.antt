use Rattle.std.proofs.Common.{rules, ◌≡◌, sym, ap, ◌∙◌, subst, Some, None}
use Rattle.std.specs.Option.{unwrap_or}
use Rattle.atomic_table.specs.Table.{rest}
use Rattle.rlock.specs.declared.view.Mode.TheVariants.{Putting}
use Rattle.rlock.specs.Views.{IsViewOf}
use Rattle.rlock.proofs.Moves.{returns}
use Rattle.rlock.proofs.Passes.{exchanged, rested, mode_is, member_is}
use Rattle.rlock.proofs.gate.Gate.put_back.Goals as goal

pub fetch_add-requires : goal.fetch_add-requires
fetch_add-requires g c = let (k, t, puts, its_opening, its_entries) = c.requires.ready in let swapped = c.exchange-vacant.ensures in
    let now = exchanged _ c.args.place.now.me c.exchange-vacant.new.seat.me None c.exchange-vacant.result (Some c.args.state) puts.1 swapped.2 swapped.3 in
    let view = subst (IsViewOf (Putting t c.args.state) k) (sym now.1) puts.0 in let (o, last, has, has_last, is) = view in
    let opening : g.S.Kept.opening c.args.state ≡ o = ap (λ r. unwrap_or r o) (sym its_opening ∙ has) in (
      search rules,
      search rules,
      returns g.S.Kept.opening g.S.Kept.entries g.S.Kept.number g.S.Kept.stays _ _ _ _ _ t (record { number = k.number; opening = o; mine = k.mine; last = last }) c.args.state (mode_is (Putting t c.args.state) k _ view) (member_is (Putting t c.args.state) k _ view) now.2 opening
          (its_entries ∙ sym (ap (λ v. v.seen) is)),
    )

pub returns-clause-idle : goal.returns-clause-idle
returns-clause-idle g c = λ k t puts. let swapped = c.exchange-vacant.ensures in
    let now = exchanged _ c.args.place.now.me c.exchange-vacant.new.seat.me None c.exchange-vacant.result (Some c.args.state) puts.1 swapped.2 swapped.3 in
    (rested k t c.args.state _ _ (subst (IsViewOf (Putting t c.args.state) k) (sym now.1) puts.0) (ap (λ m. m.0) c.fetch_add.ensures.2), ap (λ m. m.1) c.fetch_add.ensures.2 ∙ ap rest now.2)
