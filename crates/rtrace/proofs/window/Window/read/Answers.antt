use Rattle.std.proofs.Common.{◌+◌, List, ℕ, length, take, drop, ap, refl, sym, subst, ◌∙◌, arith}
use Rattle.std.specs.Vec.{with_items}
use Rattle.std.proofs.lemmas.List.{with_items_is}
use Rattle.rtrace.specs.Coming.{Came}
use Rattle.rtrace.specs.declared.window.Window.{Window}
use Rattle.rtrace.proofs.Windows.{gained}
use Rattle.rtrace.proofs.window.Window.read.Goals as goal

pub returns-clause-gained : goal.returns-clause-gained
returns-clause-gained g c =
    let w = c.args.self.now in
    let n = c.in_ok-given.given in
    let v : Window = record { bytes = with_items w.bytes c.read_into.new.buffer; filled = w.filled + n; taken = w.taken + n; limit = w.limit } in
    let items = with_items_is w.bytes c.read_into.new.buffer (c.read_into.ensures.len ∙ c.deref_mut.ensures.len) in
    let size = ap length items in
    let few = c.in_ok-given.ensures.most in
    let room = c.min-most.ensures in
    let same = c.read_into.ensures.len in
    let whole = ap length c.deref_mut.ensures.value in
    let low = c.requires.sound.within in
    let within = c.requires.sound.taken in
    let spare = c.if-given-spare.false in
    let r = gained w v n (ap (take w.filled) items ∙ c.read_into.ensures.front ∙ ap (take w.filled) c.deref_mut.ensures.value) (omega arith) refl refl refl (record { within = omega arith; taken = omega arith }) in
    (take n (drop w.filled v.bytes.items), r.0, subst (λ (xs : List ℕ). Came (g.S.Source.left c.args.source.now) (g.S.Source.left c.read_into.new.source) (take n (drop w.filled xs))) (sym items) c.in_ok-given.ensures.came, r.1)
