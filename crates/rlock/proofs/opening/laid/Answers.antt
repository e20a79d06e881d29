use Rattle.std.proofs.Common.{rules, ◌≡◌, List, [], ◌∷◌, sym, ap, subst, Option, Some}
use Rattle.atomic_table.specs.Table.{opening as first_state}
use Rattle.rlock.specs.Rule.{GateHolds}
use Rattle.rlock.specs.Views.{first_view}
use Rattle.rlock.proofs.Shares.{starts}
use Rattle.rlock.proofs.opening.laid.Goals as goal

pub new-requires : goal.new-requires
new-requires g c = let passes = c.args.setup.now.passes in let o = g.S.Kept.opening c.args.setup.now.first.value in let first = c.args.setup.now.first.value in let one : c.push.new.self.items ≡ Some c.args.state ∷ [] = search rules in
    subst (λ (xs : List (Option g.row.S.Denot)). GateHolds g.S.Kept.opening g.S.Kept.entries g.S.Kept.number g.S.Kept.stays passes o (first_state (0 ∷ 0 ∷ []) xs (first_view passes o first))) (sym one)
    (subst (λ (z : g.row.S.Denot). GateHolds g.S.Kept.opening g.S.Kept.entries g.S.Kept.number g.S.Kept.stays passes o (first_state (0 ∷ 0 ∷ []) (Some c.args.state ∷ []) (first_view passes o z))) (sym c.requires.state.0)
    (starts g.S.Kept.opening g.S.Kept.entries g.S.Kept.number g.S.Kept.stays passes o g.S.Kept.stays_refl c.args.state c.requires.count.0 c.requires.count.1 (ap g.S.Kept.opening (sym c.requires.state.0)) c.requires.state.1))
