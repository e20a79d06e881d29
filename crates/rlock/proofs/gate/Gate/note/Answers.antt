use Rattle.std.proofs.Common.{rules, List, sym, ap, ◌∙◌, subst}
use Rattle.rlock.specs.declared.view.Mode.TheVariants.{Served}
use Rattle.rlock.specs.Known.{Appends}
use Rattle.rlock.proofs.Moves.{notes}
use Rattle.rlock.proofs.Passes.{put, mode_is, member_is}
use Rattle.rlock.proofs.gate.Gate.note.Goals as goal

pub fetch_add-requires : goal.fetch_add-requires
fetch_add-requires g c = let (k, t, found, serves, more, keep) = c.requires.ready in let (o, last, has, has_last, is) = serves.0 in (
  search rules,
  search rules,
  notes g.S.Kept.opening g.S.Kept.entries g.S.Kept.number g.S.Kept.stays _ _ g.S.Kept.stays_refl g.S.Kept.stays_trans _ _ _ t found (record { number = k.number; opening = o; mine = k.mine; last = last }) c.args.state.now g.L.Telling.told
      (mode_is (Served t found) k _ serves.0) (member_is (Served t found) k _ serves.0) c.requires.telling
      (subst (λ (l : List g.row.S-Entry.Denot). Appends g.S.Kept.number k.number l (g.S.Kept.entries c.args.state.now)) (sym (ap (λ v. v.seen) is)) more) keep,
)

pub returns-clause-noted : goal.returns-clause-noted
returns-clause-noted g c = λ k t found serves. let now = c.fetch_add.ensures.2 t found c.args.state.now (mode_is (Served t found) k _ serves.0) c.requires.telling in (
  put k t found c.args.state.now (g.S.Kept.entries c.args.state.now) _ _ serves.0 (ap (λ m. m.0) now),
  ap (λ m. m.1) now ∙ serves.1,
)
