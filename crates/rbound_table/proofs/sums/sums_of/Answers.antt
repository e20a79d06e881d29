use Rattle.std.proofs.Common.{◌≡◌, ◌<◌, ◌∙◌, ℕ, refl, sym, arith}
use Rattle.std.proofs.lemmas.Bool.{ltb-true}
use Rattle.std.proofs.lemmas.List.Sums.{sum-map}
use Rattle.std.proofs.lemmas.Result.{IfOk-weaker}
use Rattle.rbound.specs.Bounds.{tasks_of}
use Rattle.rbound_table.specs.Sums.{AreSums, AreGreatest, length_in}
use Rattle.rbound_table.proofs.SumFacts.{all_are, greatest_are, few_tasks, few_writers}
use Rattle.rbound_table.proofs.sums.sums_of.Goals.{then-tasks-cap, else-tasks-cap}
use Rattle.rbound_table.proofs.sums.sums_of.Goals as goal

less_by : (a b x y : ℕ) → a < b → a ≡ x → b ≡ y → x < y
less_by a b x y h p q = omega arith

pub returns-then-writers_there-from : goal.returns-then-writers_there-from
returns-then-writers_there-from c =
    all_are c.args.writes.now c.args.tasks (record { fewer = c.sum_of-all.result; most = c.sum_of-all.result }) c.args.cap c.sum_of-all.result refl
    (c.sum_of-all.ensures.sum ∙ sum-map (length_in c.args.writes.now) (tasks_of c.args.tasks)) c.sum_of-all.ensures.small
    (λ me within. elim c.if-tasks-cap.branch [
      | then-tasks-cap w ↦ few_tasks c.args.writes.now c.args.tasks c.args.cap me w.if-tasks-cap.true within
      | else-tasks-cap w ↦
          few_writers c.args.writes.now c.args.tasks c.args.cap me
          (less_by w.writers_there.result w.from.result _ _ (ltb-true w.writers_there.result w.from.result (sym w.value-is ∙ c.if-writers_there-from.true)) w.writers_there.ensures w.from.ensures) within
    ])

pub returns-else-writers_there-from : goal.returns-else-writers_there-from
returns-else-writers_there-from c =
    IfOk-weaker c.greatest_of.result (AreGreatest c.args.writes.now c.args.tasks c.args.cap) (AreSums c.args.writes.now c.args.tasks c.args.cap)
    (λ s are. greatest_are c.args.writes.now c.args.tasks s c.args.cap c.requires are) c.greatest_of.ensures
