use Rattle.std.proofs.Common.{◌≡◌, ◌<◌, length, slice_get, sym, ap, subst, ◌∙◌, arith}
use Rattle.std.proofs.lemmas.Option.{get_or_from_slice_get}
use Rattle.rbound.specs.declared.which.Which.TheVariants.{Ask}
use Rattle.rbound_history.specs.Keys.{place_of, ask_of, with_ask_number}
use Rattle.rbound_history.specs.TaskShapes.{TaskShapes}
use Rattle.rbound_history.specs.History.{shapes_told}
use Rattle.rbound_history.specs.declared.growing.Last.{Last}
use Rattle.rbound_history.proofs.Following.{last_by}
use Rattle.rbound_history.proofs.WaitKeys.{ended_seat, ended_shape}
use Rattle.rbound_history.proofs.growing.GrowingNeeds.key.Goals as goal
use Rattle.rbound_history.proofs.growing.GrowingNeeds.key.Goals.{in-First, in-Rise, in-Ask}

pub index-last-requires : goal.index-last-requires
index-last-requires c =
    let below = ended_seat c.requires.0 c.requires.1 c.requires.2 c.requires.3 c.args.wait.now c.requires.5 in
    omega (arith, below, c.requires.4.seated, c.from.ensures)

pub returns-clause-key : goal.returns-clause-key
returns-clause-key c = λ groups seats cap events known ended.
    let seat = c.args.wait.now.seat in
    let below = ended_seat groups seats cap events c.args.wait.now ended in
    let last : c.index-last.result.now ≡ last_by events seat =
    c.index-last.ensures ∙ get_or_from_slice_get c.args.self.now.last.items c.from.result (last_by events seat) c.index-last.result.now (ap (λ k. slice_get c.args.self.now.last.items k) c.from.ensures ∙ known.last seat below) in
    let which : c.match-wait.which ≡ with_ask_number c.args.wait.now.which (ask_of events seat) = elim c.match-wait.branch [
      | in-First w ↦ w.which-is ∙ ap (λ k. with_ask_number k (ask_of events seat)) (sym w.in-First.is)
      | in-Rise w ↦ w.which-is ∙ ap (λ k. with_ask_number k (ask_of events seat)) (sym w.in-Rise.is)
      | in-Ask w ↦ w.which-is ∙ ap (λ (l : Last). Ask l.ask) last ∙ ap (λ k. with_ask_number k (ask_of events seat)) (sym w.in-Ask.is)
    ] in
    record { ended = ended; is = λ i. record { shape = (last i).place; which = which i } }

pub returns-clause-shape : goal.returns-clause-shape
returns-clause-shape c = λ seats events known.
    let told = c.requires.3 in
    let seat = c.args.wait.now.seat in
    let below = ended_seat c.requires.0 c.requires.1 c.requires.2 told c.args.wait.now c.requires.5 in
    let last : c.index-last.result.now ≡ last_by told seat =
    c.index-last.ensures ∙ get_or_from_slice_get c.args.self.now.last.items c.from.result (last_by told seat) c.index-last.result.now (ap (λ k. slice_get c.args.self.now.last.items k) c.from.ensures ∙ c.requires.4.last seat below) in
    let shape = ended_shape c.requires.0 c.requires.1 c.requires.2 told c.args.wait.now c.requires.5 in
    subst (λ (k : Last). k.place < length (shapes_told events)) (sym last)
    (subst (λ (ss : TaskShapes). place_of told seat < length ss.shapes) (sym c.requires.4.shapes ∙ known.shapes) shape)
