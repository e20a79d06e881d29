use Rattle.std.proofs.Common.{◌≡◌, max, ◌∙◌, subst}
use Rattle.rclaim.specs.Requests.{normalised, FitsLater}
use Rattle.rclaim.specs.declared.request.Kind.{Kind}
use Rattle.rbound_history.proofs.SameShapes.{alike}
use Rattle.rbound_history.proofs.LongerRequests.{longer_made}
use Rattle.rbound_history.proofs.lengths.lengthened.Goals as goal

pub returns-in-Ok : goal.returns-in-Ok
returns-in-Ok c =
    let known = c.args.known.now in
    let other = c.args.other.now in
    let same = alike other known c.requires in
    let normal = c.reads.ensures.normal in
    let kind : c.kind.result ≡ known.kind = c.kind.ensures.value ∙ same.kind in
    let len : c.max.result ≡ max known.len other.len = c.max.ensures ∙ (λ i. max (c.len.ensures.value i) (c.len-2.ensures.value i)) in
    let later : c.max-2.result ≡ max known.later other.later = c.max-2.ensures ∙ (λ i. max (c.later.ensures.value i) (c.later-2.ensures.value i)) in
    let other_later : FitsLater known.kind other.later = subst (λ (k : Kind). FitsLater k other.later) same.kind c.kind.ensures.normal.later in
    c.in-Ok.ensures.made
    ∙ (λ i. normalised (kind i) (c.reads.ensures.value i) (c.writes.ensures.value i) (c.first.ensures i) (len i) (later i))
    ∙ longer_made known.kind known.reads known.writes known.first (max known.len other.len) known.later other.later normal.sets normal.first normal.later other_later
