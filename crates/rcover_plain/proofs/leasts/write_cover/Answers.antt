use Rattle.std.proofs.Common.{◌≡◌, ◌&&◌, rules, List, filter, ap, ◌∙◌}
use Rattle.std.proofs.lemmas.Fn.{filter_same}
use Rattle.std.specs.List.{list_any, filter_map}
use Rattle.rclaim.specs.declared.claim.Claim.{Claim}
use Rattle.rcover_laws.specs.Line.{is_least, leasts, read_for}
use Rattle.rcover_plain.specs.Lists.{moments_in}
use Rattle.rcover_laws.specs.Moments.{holds_at}
use Rattle.rcover_laws.specs.Sections.{Sections, different}
use Rattle.rcover_plain.proofs.leasts.write_cover.Goals as goal

pub returns : goal.returns
returns c =
    let ms = moments_in c.args.moments.now in
    let held = λ (d : Claim). list_any (λ m. is_least c.args.c.now d m && holds_at d m) ms in
    let ds : c.in_ok-writes.writes.items ≡ leasts c.args.c.now ms = c.in_ok-writes.ensures in
    let reads : c.in_ok-reads.reads.items ≡ different (filter_map (read_for c.args.c.now ms) (leasts c.args.c.now ms))
    = c.in_ok-reads.ensures ∙ ap (λ (xs : List Claim). different (filter_map (read_for c.args.c.now ms) xs)) (c.deref.ensures.value ∙ ds) in
    let writes : c.retain.new.self.items ≡ filter held (leasts c.args.c.now ms)
    = filter_same _ held _ (λ x b f' k. search rules) c.in_ok-writes.writes.items c.retain.new.self.items c.retain.ensures.filtered ∙ ap (filter held) ds in
    (λ i. let a : Sections = record { reads = reads i; writes = writes i } in a)
