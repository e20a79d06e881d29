use Rattle.std.proofs.Common.{◌≡◌, sym, ap, ◌∙◌}
use Rattle.std.specs.Map.{lookup}
use Rattle.indexmap.specs.IndexMap.{insert_entry}
use Rattle.std.specs.Option.{option_copied}
use Rattle.rtrace.specs.Keys.{same_key}
use Rattle.rtrace.specs.declared.key.Key.{Key}
use Rattle.rtrace.specs.declared.told_bounds.ToldBounds.{ToldBounds}
use Rattle.rtrace.proofs.KeyedBounds.{kept_with, inserted}
use Rattle.rtrace.proofs.Knowing.{knows_bound}
use Rattle.rtrace.proofs.told_bounds.ToldBounds.told.Goals as goal
use Rattle.rtrace.proofs.told_bounds.ToldBounds.told.Goals.{in-Some, in-None}

pub returns-clause-ok : goal.returns-clause-ok
returns-clause-ok c = λ groups seats cap events items known ended before.
    let number = c.args.number in
    let bound = c.args.bound in
    let key : Key = record { key = c.key.result } in
    let old = c.args.self.now.kept.entries in
    let kept : c.match-get.kept ≡ kept_with (lookup (same_key key) old) number bound = elim c.match-get.branch [
      | in-Some w ↦ w.kept-is ∙ w.with-kept.ensures ∙ ap (λ o. kept_with o number bound) (sym (ap option_copied w.in-Some.is) ∙ c.get.ensures.value)
      | in-None w ↦ w.kept-is ∙ w.new-kept.ensures ∙ ap (λ o. kept_with o number bound) (sym (ap option_copied w.in-None.is) ∙ c.get.ensures.value)
    ] in
    let same : c.match-get.self ≡ c.args.self.now = elim c.match-get.branch [
      | in-Some w ↦ w.self-is
      | in-None w ↦ w.self-is
    ] in
    let new : ToldBounds = record { needs = c.match-get.self.needs; kept = c.insert.new.self } in
    knows_bound groups seats cap c.args.self.now new events items number c.args.wait.now bound key known (c.key.ensures.key groups seats cap events known.needs ended) before
    (ap (λ (b : ToldBounds). b.needs) same)
    (c.in_ok-insert.ensures.entries ∙ ap (λ (b : ToldBounds). insert_entry same_key b.kept.entries key c.match-get.kept) same ∙ ap (λ k. insert_entry same_key old key k) kept ∙ inserted key number bound old)
