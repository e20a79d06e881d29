use Rattle.std.proofs.Common.{◌≡◌, length, fold, nat_lt, ap, ◌∙◌}
use Rattle.std.specs.List.{list_all}
use Rattle.rset.specs.Sets.{rising}
use Rattle.rexpand.specs.Kept.{widen}
use Rattle.rexpand.proofs.EntryLemmas.{rising_all_below}
use Rattle.rexpand.proofs.sharing.share.Goals as goal

pub loop-l-init : goal.loop-l-init
loop-l-init c =
    let whole : c.into_iter-l-iterator.result ≡ c.args.group = c.into_iter-l-iterator.ensures.into_iter_gives ∙ c.iter-l-items.ensures.value in
    (ap (λ s. list_all (λ m. nat_lt m (length c.args.shared.now)) (rising s)) whole ∙ rising_all_below (length c.args.shared.now) c.args.group c.requires, ap (λ s. fold (widen (λ m. m) c.args.group) c.args.shared.now (rising s)) whole)
