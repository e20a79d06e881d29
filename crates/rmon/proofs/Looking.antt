-- What a look at an image shows of its feed.
use Rattle.std.proofs.Common.{◌≡◌, length, Some, sym, ap, ◌∙◌, subst}
use mathlib.Core.List.{IsPrefix}
use Rattle.rmodel.specs.Steps.{after, AreAccepted}
use Rattle.rmon.specs.declared.image.Image.{Image}
use Rattle.rmon.specs.declared.look.Look.{Look}
use Rattle.rmon.specs.declared.rule.Told.{Told}
use Rattle.rmon.specs.Opened.{opening_of}
use Rattle.rmon.specs.Rules.{IsAfter}
use Rattle.rmon.specs.Looks.{look_of}
use Rattle.rmon.specs.Known.{Watching, HasLooked}

pub has_looked : (m n : Watching) (t : Told) (x : Image) (look : Look) → m.opening ≡ Some t.opening → IsAfter t.opening x → n.feed ≡ m.feed → n.opening ≡ m.opening
    → n.seen ≡ x.front.events → IsPrefix m.seen x.front.events → look ≡ look_of x.machine.state (length x.front.events) → HasLooked m n look
has_looked m n t x look knows image feed opening seen before is = record {
  feed = feed;
  opening = opening;
  before = subst (IsPrefix m.seen) (sym seen) before;
  accepted = λ o its. let same : t.opening ≡ o = cc (knows, its) in subst (AreAccepted (opening_of o)) (sym seen) (subst (λ p. AreAccepted (opening_of p) x.front.events) same image.accepted);
  look_is = λ o its.
      let same : t.opening ≡ o = cc (knows, its) in
      is ∙ (ap (λ s. look_of s (length x.front.events)) (image.state ∙ ap (λ p. after (opening_of p) x.front.events) same) ∙ ap (λ es. look_of (after (opening_of o) es) (length es)) (sym seen));
}
