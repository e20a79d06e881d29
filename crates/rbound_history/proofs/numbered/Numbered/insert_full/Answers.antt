use Rattle.std.proofs.Common.{◌≡◌, ◌∙◌, ◌++◌, ◌∷◌, [], not, length, ap, sym, arith}
use Rattle.std.specs.List.{list_any, position, position_or_len}
use Rattle.std.proofs.lemmas.Bool.{eq-eqb, ne_eqb}
use Rattle.rbound_history.specs.Numbered.{insert_key}
use Rattle.rbound_history.proofs.NumberFacts.{number_with, number_got, is_new, keys_more, keys_same}
use Rattle.rbound_history.proofs.numbered.Numbered.insert_full.Goals as goal

pub invariant_of-self-then-is_new : goal.invariant_of-self-then-is_new
invariant_of-self-then-is_new g c q =
    let E = g.K.PartialEq.eq in
    let last : c.len-new.result ≡ length c.self.inside.keys.items = omega (arith, c.len-new.ensures, c.self.inside.keys.ok) in
    let keys = c.self.inside.keys.items in
    let numbers = c.self.inside.numbers in
    let got = number_got g.K.Ord.cmp E keys c.args.key numbers (c.self.invariant c.args.key) c.in_ok-number.number c.len-new.result c.in_ok-number.ensures.number last in
    let more = keys_more g.K.Ord.cmp E keys c.args.key numbers (c.self.invariant c.args.key) c.in_ok-number.number c.len-new.result c.in_ok-number.ensures.number last (eq-eqb c.in_ok-number.number c.len-new.result c.if-is_new.true) in
    number_with g.K.Ord.cmp E g.met.K.Eq.laws g.met.K.Ord.matches_eq keys c.args.key numbers c.number_in.new.numbers c.in_ok-number.number c.in_ok-number.ensures.updates got q (c.self.invariant q)
    ∙ ap (position (E q)) (more ∙ ap (λ ks. ks ++ c.args.key ∷ []) (sym c.reserve.ensures.items) ∙ sym c.push_reserved.ensures.items)

pub returns-then-is_new-clause-added : goal.returns-then-is_new-clause-added
returns-then-is_new-clause-added g c =
    let E = g.K.PartialEq.eq in
    let last : c.len-new.result ≡ length c.self.inside.keys.items = omega (arith, c.len-new.ensures, c.self.inside.keys.ok) in
    is_new g.K.Ord.cmp E c.self.inside.keys.items c.args.key c.self.inside.numbers (c.self.invariant c.args.key) c.in_ok-number.number c.len-new.result c.in_ok-number.ensures.number last
    ∙ ap (λ k. not (list_any (E c.args.key) k.keys)) c.self.view_is

pub returns-then-is_new-clause-index : goal.returns-then-is_new-clause-index
returns-then-is_new-clause-index g c =
    let E = g.K.PartialEq.eq in
    let last : c.len-new.result ≡ length c.self.inside.keys.items = omega (arith, c.len-new.ensures, c.self.inside.keys.ok) in
    number_got g.K.Ord.cmp E c.self.inside.keys.items c.args.key c.self.inside.numbers (c.self.invariant c.args.key) c.in_ok-number.number c.len-new.result c.in_ok-number.ensures.number last
    ∙ ap (λ k. position_or_len (E c.args.key) k.keys) c.self.view_is

pub returns-then-is_new-clause-keys : goal.returns-then-is_new-clause-keys
returns-then-is_new-clause-keys g c =
    let E = g.K.PartialEq.eq in
    let last : c.len-new.result ≡ length c.self.inside.keys.items = omega (arith, c.len-new.ensures, c.self.inside.keys.ok) in
    let more = keys_more g.K.Ord.cmp E c.self.inside.keys.items c.args.key c.self.inside.numbers (c.self.invariant c.args.key) c.in_ok-number.number c.len-new.result c.in_ok-number.ensures.number last (eq-eqb c.in_ok-number.number c.len-new.result c.if-is_new.true) in
    c.push_reserved.ensures.items ∙ ap (λ ks. ks ++ c.args.key ∷ []) c.reserve.ensures.items ∙ sym more ∙ ap (λ k. insert_key E k.keys c.args.key) c.self.view_is

pub returns-else-is_new-clause-added : goal.returns-else-is_new-clause-added
returns-else-is_new-clause-added g c =
    let E = g.K.PartialEq.eq in
    let last : c.len-new.result ≡ length c.self.inside.keys.items = omega (arith, c.len-new.ensures, c.self.inside.keys.ok) in
    is_new g.K.Ord.cmp E c.self.inside.keys.items c.args.key c.self.inside.numbers (c.self.invariant c.args.key) c.in_ok-number.number c.len-new.result c.in_ok-number.ensures.number last
    ∙ ap (λ k. not (list_any (E c.args.key) k.keys)) c.self.view_is

pub returns-else-is_new-clause-keys : goal.returns-else-is_new-clause-keys
returns-else-is_new-clause-keys g c =
    let E = g.K.PartialEq.eq in
    let last : c.len-new.result ≡ length c.self.inside.keys.items = omega (arith, c.len-new.ensures, c.self.inside.keys.ok) in
    let same = keys_same g.K.Ord.cmp E c.self.inside.keys.items c.args.key c.self.inside.numbers (c.self.invariant c.args.key) c.in_ok-number.number c.len-new.result c.in_ok-number.ensures.number last (ne_eqb c.in_ok-number.number c.len-new.result c.if-is_new.false) in
    c.reserve.ensures.items ∙ sym same ∙ ap (λ k. insert_key E k.keys c.args.key) c.self.view_is
