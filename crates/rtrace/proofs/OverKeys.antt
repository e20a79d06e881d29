-- Going through all keys: what those already looked at give, and those that are left.
use Rattle.std.proofs.Common.{◌≡◌, ℕ, List, ◌∷◌, ◌++◌, Option, sym, ap, subst, ◌∙◌}
use Rattle.rexpand.specs.Groups.{ReadGroups}
use Rattle.rclaim.specs.declared.event.Event.{Event}
use Rattle.rbound.specs.Bounds.{numbers_in}
use Rattle.rbound.specs.declared.bound.Bound.{Bound}
use Rattle.rcover_laws.specs.declared.wait_end.WaitEnd.{WaitEnd}
use Rattle.rbound_history.specs.Keys.{IsKeyOf}
use Rattle.rbound_history.specs.Knows.{AreBoundsOf, bound_by}
use Rattle.rbound_history.specs.declared.bounds.WaitBounds.{WaitBounds}
use Rattle.rbound_history.specs.declared.key.BoundKey.{BoundKey}
use Rattle.rtrace.specs.Kept.{lesser, wrong_by, least_wrong}
use Rattle.rtrace.specs.Knows.{AreOfWaits, bound_of_key}
use Rattle.rtrace.specs.declared.key.Key.{Key}
use Rattle.rtrace.specs.declared.kept_bounds.Kept.{Kept}
use Rattle.rtrace.proofs.KeyedBounds.{lesser_of_three}
use Rattle.rtrace.proofs.Knowing.{bound_had}

-- these numbers are the bound of each wait that had this key
abbrev pub IsBoundOfKey : WaitBounds → BoundKey → Bound → Type 0
IsBoundOfKey bounds key bound = (groups : ReadGroups) (seats cap : ℕ) (events rest : List Event) (wait : WaitEnd) → AreBoundsOf bounds groups seats cap (events ++ rest) → IsKeyOf groups seats cap events wait key → numbers_in bound ≡ bound_by groups seats cap (events ++ rest) wait

-- the first wrong record of all is the lesser of this one and the first of the keys that are left
abbrev pub IsFirstSoFar : WaitBounds → List (Key × Kept) → Option ℕ → List (Key × Kept) → Type 0
IsFirstSoFar bounds all first left = (groups : ReadGroups) (seats cap : ℕ) (events : List Event) → AreBoundsOf bounds groups seats cap events → AreOfWaits groups seats cap events all
    → AreOfWaits groups seats cap events left × (least_wrong (bound_of_key groups seats cap events) all ≡ lesser first (least_wrong (bound_of_key groups seats cap events) left))

pub one_key_more : (bounds : WaitBounds) (all left : List (Key × Kept)) (first next : Option ℕ) (key : Key) (kept : Kept) (bound : Bound) → IsFirstSoFar bounds all first ((key, kept) ∷ left) → IsBoundOfKey bounds key.key bound
    → next ≡ lesser first (wrong_by kept (numbers_in bound)) → IsFirstSoFar bounds all next left
one_key_more bounds all left first next key kept bound so_far is_bound is groups seats cap events are of =
    let so = so_far groups seats cap events are of in
    let wait = so.0.0.0 in
    let had = so.0.0.1 in
    let right = bound_of_key groups seats cap events in
    let found : numbers_in bound ≡ bound_by groups seats cap events wait =
    subst (λ (es : List Event). numbers_in bound ≡ bound_by groups seats cap es wait) (sym had.split) (is_bound groups seats cap had.before had.rest wait (subst (AreBoundsOf bounds groups seats cap) had.split are) had.is_key) in
    let due : right key.key ≡ numbers_in bound = bound_had groups seats cap events wait key.key are.accepted had ∙ sym found in
    let next_is : lesser first (wrong_by kept (right key.key)) ≡ next = ap (λ n. lesser first (wrong_by kept n)) due ∙ sym is in
    (so.0.1, so.1 ∙ lesser_of_three first (wrong_by kept (right key.key)) (least_wrong right left) ∙ ap (λ o. lesser o (least_wrong right left)) next_is)
