use Rattle.std.proofs.Common.{rules, ◌≡◌, map, length, ap, ◌∙◌}
use Rattle.rnlp_lock.proofs.Keeping.{same_images}
use Rattle.rnlp_lock.proofs.Moving.{take_all}
use Rattle.rnlp_lock.proofs.seat.together.Goals as goal

pub returns-then-threads-gt0 : goal.returns-then-threads-gt0
returns-then-threads-gt0 g c =
    let same : length c.for_each_mut.new.s ≡ length c.as_mut_slice.result.now = search rules in
    let all : c.args.seats.now.len ≡ length c.for_each_mut.new.s = search rules in
    ap (map g.S.Stays.who) (take_all c.for_each_mut.new.s _ c.args.seats.now.len all)
    ∙ same_images g.S.Stays.who c.as_mut_slice.result.now c.for_each_mut.new.s same (λ k d less. c.requires.stays k _ _ (c.for_each_mut.ensures k d less).1)
    ∙ ap (map g.S.Stays.who) c.as_mut_slice.ensures.value
