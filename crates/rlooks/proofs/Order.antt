-- Looks at what a monitor has seen stay in order as it sees more, and as one more look is made.
use Rattle.std.proofs.Common.{◌≡◌, ◌<◌, ◌-◌, List, [], ◌∷◌, ◌++◌, length, sym, ap, subst, ◌∙◌, arith, get_or}
use Rattle.std.proofs.Math.Seq.{take-length}
use Rattle.std.proofs.lemmas.List.{take-append-le, length-append}
use Rattle.std.proofs.lemmas.List.Elements.{All-nil, All-push, All-weaker, All-get_or}
use Rattle.std.proofs.lemmas.List.Sorted.{IsNonDecreasingBy-short, IsNonDecreasingBy-push}
use mathlib.Core.List.{IsPrefix}
use Rattle.rclaim.specs.declared.event.Event.{Event}
use Rattle.rmodel.specs.State.{LockState}
use Rattle.rmodel.specs.Steps.{after}
use Rattle.rmon.specs.declared.look.Look.{Look}
use Rattle.rmon.specs.Looks.{look_of}
use Rattle.rlooks.specs.Looks.{IsLookAt, AreInOrder}

module _ (start : LockState) where
  -- a look at all that was seen
  pub look_at_all : (seen : List Event) (look : Look) → look ≡ look_of (after start seen) (length seen) → IsLookAt start seen look
  look_at_all seen look is =
      subst (λ (l : Look). IsLookAt start seen l) (sym is)
      (record {
        within = omega arith;
        shows = ap (λ (es : List Event). look_of (after start es) (length seen)) (sym (take-length seen));
      })

  -- it is still one at a state on the way when there are more events
  pub look_at_more : (seen more : List Event) → IsPrefix seen more → (look : Look) → IsLookAt start seen look → IsLookAt start more look
  look_at_more seen more p look is =
      subst (λ (es : List Event). IsLookAt start es look) p.1
      (record {
        within = omega (arith, is.within, length-append seen p.0);
        shows = is.shows ∙ ap (λ (es : List Event). look_of (after start es) look.events) (sym (take-append-le look.events seen p.0 is.within));
      })

  pub in_order_still : (seen more : List Event) → IsPrefix seen more → (looks : List Look) → AreInOrder start seen looks → AreInOrder start more looks
  in_order_still seen more p looks is = record {
    each = All-weaker (IsLookAt start seen) (IsLookAt start more) (look_at_more seen more p) looks is.each;
    rising = is.rising;
  }

  pub none_in_order : (seen : List Event) (looks : List Look) → looks ≡ [] → AreInOrder start seen looks
  none_in_order seen looks none =
      subst (λ (ls : List Look). AreInOrder start seen ls) (sym none)
      (record { each = All-nil (IsLookAt start seen); rising = IsNonDecreasingBy-short (λ (l : Look). l.events) [] (omega arith) })

  -- one more look, at all that was seen by then
  pub in_order_with : (seen more : List Event) → IsPrefix seen more → (looks : List Look) → AreInOrder start seen looks → (look : Look) → look ≡ look_of (after start more) (length more) → AreInOrder start more (looks ++ look ∷ [])
  in_order_with seen more p looks is look look_is =
      let still : AreInOrder start more looks = in_order_still seen more p looks is in
      let count : look.events ≡ length more = ap (λ (l : Look). l.events) look_is in
      record {
        each = All-push (IsLookAt start more) looks look still.each (look_at_all more look look_is);
        rising = IsNonDecreasingBy-push (λ (l : Look). l.events) looks look still.rising
            (λ d some.
            let within : length looks - 1 < length looks = omega arith in
            let before : IsLookAt start more (get_or looks (length looks - 1) d) = All-get_or (IsLookAt start more) looks (length looks - 1) d within still.each in
            omega (arith, before.within, count));
      }
