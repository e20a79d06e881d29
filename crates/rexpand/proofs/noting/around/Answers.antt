use Rattle.std.proofs.Common.{◌≡◌, ◌<◌, ◌+◌, ◌*◌, ◌/◌, length, get_or, fold, nat_lt, ap, ◌∙◌, arith}
use Rattle.std.specs.List.{list_all}
use Rattle.std.specs.FinSet.{empty}
use Rattle.std.proofs.lemmas.List.{get_or_default}
use Rattle.rset.specs.Sets.{rising}
use Rattle.rexpand.specs.declared.TheConstants.{BLOCKS}
use Rattle.rexpand.specs.Kept.{place_in, narrow}
use Rattle.rexpand.proofs.EntryLemmas.{rising_all_below}
use Rattle.rexpand.proofs.noting.around.Goals as goal

pub loop-m-init : goal.loop-m-init
loop-m-init c =
    let place : c.from.result * BLOCKS + c.args.block ≡ place_in c.args.block c.args.l = ap (λ n. n * BLOCKS + c.args.block) c.from.ensures in
    let small : c.args.l < length c.args.noted.now / BLOCKS = c.requires.member in
    let first : c.index-noted-from.result ≡ get_or c.args.noted.now (place_in c.args.block c.args.l) empty =
    c.index-noted-from.is ∙ ap (λ n. get_or c.args.noted.now n c.index-noted-from.result) place
    ∙ get_or_default c.args.noted.now (place_in c.args.block c.args.l) c.index-noted-from.result empty (let few = c.requires.block in omega arith) in
    let whole : c.into_iter-m-iterator.result ≡ c.args.set = c.into_iter-m-iterator.ensures.into_iter_gives ∙ c.iter-m-items.ensures.value in
    (ap (λ s. list_all (λ m. nat_lt m (length c.args.noted.now / BLOCKS)) (rising s)) whole ∙ rising_all_below (length c.args.noted.now / BLOCKS) c.args.set c.requires.within, (λ i. fold (narrow c.args.noted.now c.args.block) (first i) (rising (whole i))))
