use Rattle.std.proofs.Common.{rules, ◌≡◌, List, ℕ, length, take, ap, sym, subst, ◌∙◌}
use Rattle.std.specs.Vec.{with_items}
use Rattle.std.proofs.lemmas.List.{with_items_is}
use Rattle.rshort.specs.Cut.{IsShortened}
use Rattle.rshort.proofs.Marks.{of_some}
use Rattle.rshort.proofs.Texts.{rows_themselves}
use Rattle.rtrace.specs.Windows.{held}
use Rattle.rtrace.proofs.window.Window.shorten.Goals as goal

pub returns-in_err-short-clause-held : goal.returns-in_err-short-clause-held
returns-in_err-short-clause-held c = λ more cut h. (cut, h, rows_themselves cut)

pub returns-in_default-clause-held : goal.returns-in_default-clause-held
returns-in_default-clause-held c = λ more cut h. (cut, h, rows_themselves cut)

pub returns-then-len-self-clause-held : goal.returns-then-len-self-clause-held
returns-then-len-self-clause-held c = λ more cut h. (cut, h, rows_themselves cut)

pub returns-clause-held : goal.returns-clause-held
returns-clause-held c =
    let w = c.args.self.now in
    let items = with_items_is w.bytes c.put_front.new.buffer (c.put_front.ensures.len ∙ c.deref_mut.ensures.len) in
    let size : c.len-self.result ≡ length c.in-Some.short.items = search rules in
    let front : take (length c.in-Some.short.items) c.put_front.new.buffer ≡ c.in-Some.short.items = rw c.deref-2.ensures.value at c.put_front.ensures.front in
    let left : IsShortened (take w.filled c.deref.result.now) c.in-Some.short.items = of_some _ c.in_ok-short.field-0 c.in-Some.short c.in-Some.is c.in_ok-short.ensures in
    subst (IsShortened (held w)) (sym (ap (λ n. take n (with_items w.bytes c.put_front.new.buffer).items) size ∙ ap (λ (xs : List ℕ). take (length c.in-Some.short.items) xs) items ∙ front))
    (rw c.deref.ensures.value at left)
