-- What readers are shown once the pending changes are published.
use Rattle.std.proofs.Common.{◌≡◌, ℕ, List, [], ◌∷◌, ◌++◌, map, fold, Option, Some, sym, ap, ◌∙◌, subst}
use Rattle.rclaim.specs.declared.event.Event.{Event}
use Rattle.rmodel.specs.Steps.{AreAccepted, after}
use Rattle.rmodel.proofs.reaching.Histories.{after_append, accepted_parts}
use Rattle.rmon.specs.declared.image.Image.{Image}
use Rattle.rmon.specs.declared.image.Change.{Change}
use Rattle.rmon.specs.declared.image.Change.TheVariants.{Take, Reach}
use Rattle.rmon.specs.declared.rule.Told.{Told}
use Rattle.rmon.specs.Fronts.{Reached}
use Rattle.rmon.specs.Images.{absorbed}
use Rattle.rmon.specs.Opened.{opening_of}
use Rattle.rmon.specs.Rules.{IsAfter, KeepsRule}
use Rattle.rmon.proofs.Ruling.{publishes}
use Rattle.rmon.proofs.Taking.{all_taken}

-- the image of the published events becomes that of all events
pub comes_after : (t : Told) (x : Image) (front : Reached) (more : List Event) (changes : List Change) → IsAfter t.opening x → changes ≡ map Take more ++ Reach front ∷ []
    → front.events ≡ x.front.events ++ more → AreAccepted (opening_of t.opening) front.events
    → IsAfter t.opening (fold absorbed x changes) × ((fold absorbed x changes).front ≡ front)
comes_after t x front more changes image are fed accepted =
    let o = opening_of t.opening in
    let parts = accepted_parts o x.front.events more (subst (AreAccepted o) fed accepted) in
    let done = all_taken x more front (subst (λ s. AreAccepted s more) (sym image.state) parts.1) in
    let y : Image = fold absorbed x (map Take more ++ Reach front ∷ []) in
    let all : after o front.events ≡ after (after o x.front.events) more = ap (after o) fed ∙ after_append o x.front.events more in
    let state : y.machine.state ≡ after o y.front.events =
    done.0 ∙ (ap (λ s. after s more) image.state ∙ (sym all ∙ ap (λ (f : Reached). after o f.events) (sym done.1))) in
    let is : IsAfter t.opening y = record { state = state; accepted = subst (λ (f : Reached). AreAccepted o f.events) (sym done.1) accepted } in
    subst (λ cs. IsAfter t.opening (fold absorbed x cs) × ((fold absorbed x cs).front ≡ front)) (sym are) (is, done.1)

-- and the rule survives
pub keeps_rule : (seat : ℕ) (v : Option Told) (t : Told) (x : Image) (front : Reached) (more : List Event) (changes : List Change) → v ≡ Some t → IsAfter t.opening x
    → changes ≡ map Take more ++ Reach front ∷ [] → front.events ≡ x.front.events ++ more → AreAccepted (opening_of t.opening) front.events
    → front.feed ≡ x.front.feed → KeepsRule seat v x changes
keeps_rule seat v t x front more changes knows image are fed accepted same =
    let done = comes_after t x front more changes image are fed accepted in
    subst (λ u. KeepsRule seat u x changes) (sym knows)
    (λ next is. publishes seat t x next (ap (λ (y : Image). y.front.feed) is ∙ (ap (λ f. f.feed) done.1 ∙ same)) (subst (IsAfter t.opening) (sym is) done.0))
