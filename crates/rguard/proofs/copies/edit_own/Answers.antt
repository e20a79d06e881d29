use Rattle.std.proofs.Common.{◌≡◌, ℕ, List, ap, ◌∙◌}
use Rattle.std.specs.Prelude.{slice_set, slice_index_or}
use Rattle.rstate.specs.Lent.{index_of}
use Rattle.rguard.proofs.Copying.{index_gives}
use Rattle.rguard.proofs.copies.edit_own.Goals as goal

pub returns-clause-own : goal.returns-clause-own
returns-clause-own g c = λ value there.
    let V = g.row.T.Denot in
    let own : List (ℕ × V) = c.args.own.now.items in
    let at_is : c.find_own-at.result ≡ index_of own c.args.place = c.find_own-at.ensures.index ∙ ap (λ (xs : List (ℕ × V)). index_of xs c.args.place) c.deref.ensures.value in
    let is : (c.copy.inside.place, c.copy.inside.value) ≡ (c.args.place, value) = c.copy.view_is ∙ c.index_mut-copy.ensures.value
    ∙ ap (λ n. slice_index_or own n c.index_mut-copy.result.now) at_is ∙ index_gives own c.args.place value c.index_mut-copy.result.now there in
    (λ i. slice_set own (at_is i) ((is i).0, (c.apply.ensures.after ∙ ap (λ (p : ℕ × V). g.T.Editable.after p.1 c.args.edit.now) is) i))

pub returns-clause-done : goal.returns-clause-done
returns-clause-done g c = λ value there.
    let V = g.row.T.Denot in
    let own : List (ℕ × V) = c.args.own.now.items in
    let at_is : c.find_own-at.result ≡ index_of own c.args.place = c.find_own-at.ensures.index ∙ ap (λ (xs : List (ℕ × V)). index_of xs c.args.place) c.deref.ensures.value in
    let is : (c.copy.inside.place, c.copy.inside.value) ≡ (c.args.place, value) = c.copy.view_is ∙ c.index_mut-copy.ensures.value
    ∙ ap (λ n. slice_index_or own n c.index_mut-copy.result.now) at_is ∙ index_gives own c.args.place value c.index_mut-copy.result.now there in
    c.apply.ensures.taken ∙ ap (λ (p : ℕ × V). g.T.Editable.taken p.1 c.args.edit.now) is
