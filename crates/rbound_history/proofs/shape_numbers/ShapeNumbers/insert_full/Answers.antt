use Rattle.std.proofs.Common.{◌≡◌, ◌∙◌, ◌++◌, ◌∷◌, [], not, length, slice_set, ap, sym, subst, arith, List}
use Rattle.std.specs.List.{list_any, position_or_len}
use Rattle.rbound_history.specs.Numbered.{insert_key}
use Rattle.rbound_history.specs.ShapeKeys.{same_key}
use Rattle.rbound_history.specs.Shelves.{AreShelves}
use Rattle.rbound_history.specs.declared.shape_key.ShapeKey.{ShapeKey}
use Rattle.rbound_history.proofs.ShelfFacts.{number_there, new_there, more_there, same_there, shelved_there}
use Rattle.rbound_history.proofs.shape_numbers.ShapeNumbers.insert_full.Goals as goal

pub invariant_of-self-then-is_new : goal.invariant_of-self-then-is_new
invariant_of-self-then-is_new c =
    let last : c.len-new.result ≡ length c.self.inside.keys.items = omega (arith, c.len-new.ensures, c.self.inside.keys.ok) in
    subst (λ (ks : List ShapeKey). AreShelves ks (slice_set c.self.inside.shelves.items c.shelf_of-shelf.result c.number_in.new.numbers))
    (more_there c.self.inside.keys.items c.self.inside.shelves.items c.args.key c.shelf_of-shelf.result c.index_mut.result.now c.number_in.new.numbers c.in_ok-number.number c.len-new.result c.self.invariant c.shelf_of-shelf.ensures.shelf c.shelf_of-shelf.ensures.within c.index_mut.ensures.value c.in_ok-number.ensures.number last c.if-is_new.true ∙ ap (λ ks. ks ++ c.args.key ∷ []) (sym c.reserve.ensures.items) ∙ sym c.push_reserved.ensures.items)
    (shelved_there c.self.inside.keys.items c.self.inside.shelves.items c.args.key c.shelf_of-shelf.result c.index_mut.result.now c.number_in.new.numbers c.in_ok-number.number c.len-new.result c.self.invariant c.shelf_of-shelf.ensures.shelf c.shelf_of-shelf.ensures.within c.index_mut.ensures.value c.in_ok-number.ensures.number last c.in_ok-number.ensures.updates)

pub invariant_of-self-else-is_new : goal.invariant_of-self-else-is_new
invariant_of-self-else-is_new c =
    let last : c.len-new.result ≡ length c.self.inside.keys.items = omega (arith, c.len-new.ensures, c.self.inside.keys.ok) in
    subst (λ (ks : List ShapeKey). AreShelves ks (slice_set c.self.inside.shelves.items c.shelf_of-shelf.result c.number_in.new.numbers)) (same_there c.self.inside.keys.items c.self.inside.shelves.items c.args.key c.shelf_of-shelf.result c.index_mut.result.now c.number_in.new.numbers c.in_ok-number.number c.len-new.result c.self.invariant c.shelf_of-shelf.ensures.shelf c.shelf_of-shelf.ensures.within c.index_mut.ensures.value c.in_ok-number.ensures.number last c.if-is_new.false ∙ sym c.reserve.ensures.items)
    (shelved_there c.self.inside.keys.items c.self.inside.shelves.items c.args.key c.shelf_of-shelf.result c.index_mut.result.now c.number_in.new.numbers c.in_ok-number.number c.len-new.result c.self.invariant c.shelf_of-shelf.ensures.shelf c.shelf_of-shelf.ensures.within c.index_mut.ensures.value c.in_ok-number.ensures.number last c.in_ok-number.ensures.updates)

pub returns-then-is_new-clause-added : goal.returns-then-is_new-clause-added
returns-then-is_new-clause-added c =
    let last : c.len-new.result ≡ length c.self.inside.keys.items = omega (arith, c.len-new.ensures, c.self.inside.keys.ok) in
    new_there c.self.inside.keys.items c.self.inside.shelves.items c.args.key c.shelf_of-shelf.result c.index_mut.result.now c.number_in.new.numbers c.in_ok-number.number c.len-new.result c.self.invariant c.shelf_of-shelf.ensures.shelf c.shelf_of-shelf.ensures.within c.index_mut.ensures.value c.in_ok-number.ensures.number last ∙ ap (λ k. not (list_any (same_key c.args.key) k.keys)) c.self.view_is

pub returns-then-is_new-clause-index : goal.returns-then-is_new-clause-index
returns-then-is_new-clause-index c =
    let last : c.len-new.result ≡ length c.self.inside.keys.items = omega (arith, c.len-new.ensures, c.self.inside.keys.ok) in
    number_there c.self.inside.keys.items c.self.inside.shelves.items c.args.key c.shelf_of-shelf.result c.index_mut.result.now c.number_in.new.numbers c.in_ok-number.number c.len-new.result c.self.invariant c.shelf_of-shelf.ensures.shelf c.shelf_of-shelf.ensures.within c.index_mut.ensures.value c.in_ok-number.ensures.number last ∙ ap (λ k. position_or_len (same_key c.args.key) k.keys) c.self.view_is

pub returns-then-is_new-clause-keys : goal.returns-then-is_new-clause-keys
returns-then-is_new-clause-keys c =
    let last : c.len-new.result ≡ length c.self.inside.keys.items = omega (arith, c.len-new.ensures, c.self.inside.keys.ok) in
    c.push_reserved.ensures.items ∙ ap (λ ks. ks ++ c.args.key ∷ []) c.reserve.ensures.items ∙ sym (more_there c.self.inside.keys.items c.self.inside.shelves.items c.args.key c.shelf_of-shelf.result c.index_mut.result.now c.number_in.new.numbers c.in_ok-number.number c.len-new.result c.self.invariant c.shelf_of-shelf.ensures.shelf c.shelf_of-shelf.ensures.within c.index_mut.ensures.value c.in_ok-number.ensures.number last c.if-is_new.true) ∙ ap (λ k. insert_key same_key k.keys c.args.key) c.self.view_is

pub returns-else-is_new-clause-added : goal.returns-else-is_new-clause-added
returns-else-is_new-clause-added c =
    let last : c.len-new.result ≡ length c.self.inside.keys.items = omega (arith, c.len-new.ensures, c.self.inside.keys.ok) in
    new_there c.self.inside.keys.items c.self.inside.shelves.items c.args.key c.shelf_of-shelf.result c.index_mut.result.now c.number_in.new.numbers c.in_ok-number.number c.len-new.result c.self.invariant c.shelf_of-shelf.ensures.shelf c.shelf_of-shelf.ensures.within c.index_mut.ensures.value c.in_ok-number.ensures.number last ∙ ap (λ k. not (list_any (same_key c.args.key) k.keys)) c.self.view_is

pub returns-else-is_new-clause-index : goal.returns-else-is_new-clause-index
returns-else-is_new-clause-index c =
    let last : c.len-new.result ≡ length c.self.inside.keys.items = omega (arith, c.len-new.ensures, c.self.inside.keys.ok) in
    number_there c.self.inside.keys.items c.self.inside.shelves.items c.args.key c.shelf_of-shelf.result c.index_mut.result.now c.number_in.new.numbers c.in_ok-number.number c.len-new.result c.self.invariant c.shelf_of-shelf.ensures.shelf c.shelf_of-shelf.ensures.within c.index_mut.ensures.value c.in_ok-number.ensures.number last ∙ ap (λ k. position_or_len (same_key c.args.key) k.keys) c.self.view_is

pub returns-else-is_new-clause-keys : goal.returns-else-is_new-clause-keys
returns-else-is_new-clause-keys c =
    let last : c.len-new.result ≡ length c.self.inside.keys.items = omega (arith, c.len-new.ensures, c.self.inside.keys.ok) in
    c.reserve.ensures.items ∙ sym (same_there c.self.inside.keys.items c.self.inside.shelves.items c.args.key c.shelf_of-shelf.result c.index_mut.result.now c.number_in.new.numbers c.in_ok-number.number c.len-new.result c.self.invariant c.shelf_of-shelf.ensures.shelf c.shelf_of-shelf.ensures.within c.index_mut.ensures.value c.in_ok-number.ensures.number last c.if-is_new.false) ∙ ap (λ k. insert_key same_key k.keys c.args.key) c.self.view_is
