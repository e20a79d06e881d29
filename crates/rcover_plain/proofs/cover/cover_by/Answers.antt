use Rattle.std.proofs.Common.{◌≡◌, ◌∷◌, [], List, cond, ap, ◌∙◌}
use Rattle.std.specs.List.{list_any}
use Rattle.std.specs.Option.{option_to_list}
use Rattle.rmodel.specs.Claims.{conflicts}
use Rattle.rmodel.specs.declared.claimed.Claimed.{Claimed}
use Rattle.std.specs.declared.vec.Vec.{Vec}
use Rattle.std.specs.declared.alloc.Global.{Global}
use Rattle.rcover_laws.specs.Moments.{holds_at}
use Rattle.rcover_laws.specs.Sections.{Sections, holder_of, moments_without}
use Rattle.rcover_plain.specs.Lists.{moments_in}
use Rattle.rcover_plain.proofs.cover.cover_by.Goals as goal

pub returns : goal.returns
returns c =
    let ms = moments_in c.args.moments.now in
    let v = c.args.v.now in
    let found = c.holder_of.ensures ∙ ap (λ (vs : List (Vec Claimed Global)). holder_of (λ d. conflicts d v) (moments_in vs)) c.deref.ensures.value ∙ ap (holder_of (λ d. conflicts d v)) c.in_ok-without.ensures in
    let reads : c.in_ok-reads.reads.items ≡ option_to_list (holder_of (λ d. conflicts d v) (moments_without v ms)) = c.in_ok-reads.ensures ∙ ap option_to_list found in
    let writes : c.in_ok-writes.writes.items ≡ cond (list_any (holds_at v) ms) (v ∷ []) [] = c.in_ok-writes.ensures ∙ ap (λ b. cond b (v ∷ []) []) c.holds_at_some.ensures in
    (λ i. let a : Sections = record { reads = reads i; writes = writes i } in a)
