-- Each step keeps the rule of the published image, and what its outcome says is known after it.
use Rattle.std.proofs.Common.{◌≡◌, ◌≢◌, ℕ, List, [], ◌∷◌, set, Option, Some, None, refl, sym, ap, ◌∙◌, subst, ⊎_elim}
use mathlib.Core.Option.{some, some-ne-none}
use lib.ListN.{get_elem?}
use Rattle.left_right.specs.Register.{Admits, Turns, TurnsAt, Forks, Merges}
use Rattle.atomic_table.proofs.Lists.{at_set, at_snoc}
use Rattle.rmodel.specs.Steps.{after}
use Rattle.rmon.specs.declared.image.Image.{Image}
use Rattle.rmon.specs.declared.rule.Opening.{Opening}
use Rattle.rmon.specs.declared.rule.Told.{Told}
use Rattle.rmon.specs.Opened.{opening_of, opening_in}
use Rattle.rmon.specs.Rules.{IsAfter, Agrees, IsRuled, Begins, Looks}

abbrev Views : Type 0
Views = List (Option Told)

abbrev AllAgree : Opening → Image → Views → Type 0
AllAgree o x views = (seat : ℕ) (v : Option Told) → get_elem? views seat ≡ some v → Agrees o x v

nothing_told : (o : Opening) (x : Image) → Agrees o x None
nothing_told o x t is = absurd (cc is)

-- one view is replaced by another, and the image by one of the same feed
turned : (o : Opening) (x y : Image) (views : Views) (seat : ℕ) (w : Option Told) → AllAgree o x views → x.front.feed ≡ y.front.feed → Agrees o y w → AllAgree o y (set views seat w)
turned o x y views seat w all same right j v at =
    ⊎_elim (λ (t : (j ≡ seat) × (w ≡ v)). subst (λ (u : Option Told). Agrees o y u) t.1 right)
    (λ (t : (j ≢ seat) × (get_elem? views j ≡ some v)). λ told is. let r = all j v t.1 told is in record { opening = r.opening; feed = r.feed ∙ same })
    (at_set views seat j w v at)

moved : (o : Opening) (x y : Image) (v : Option Told) → Agrees o x v → x.front.feed ≡ y.front.feed → Agrees o y v
moved o x y v agrees same told is = let r = agrees told is in record { opening = r.opening; feed = r.feed ∙ same }

-- a new reader knows nothing
pub admits : Admits IsRuled None
admits x views h = record {
  opening = h.opening;
  image = h.image;
  each = λ seat v at. ⊎_elim (h.each seat v) (λ (e : None ≡ v). subst (λ (u : Option Told). Agrees h.opening x u) e (nothing_told h.opening x)) (at_snoc views None v seat at);
}

-- the rule holds of a first image
pub first_ruled : (o : Opening) (x : Image) → IsAfter o x → IsRuled x (None ∷ [])
first_ruled o x image = admits x [] (record { opening = o; image = image; each = λ seat v at. absurd (some-ne-none v (sym at)) })

pub begins : (seat : ℕ) (v : Option Told) (x y : Image) → y ≡ x → x.front.events ≡ [] → TurnsAt IsRuled seat v x y Begins
begins seat v x y same none views h at =
    let o : Opening = h.opening in
    let t : Told = record { opening = opening_in y.machine.state; front = y.front } in
    let state : y.machine.state ≡ opening_of o = ap (λ (z : Image). z.machine.state) same ∙ (h.image.state ∙ ap (after (opening_of o)) none) in
    let its : t.opening ≡ o = ap opening_in state in
    let right : Agrees o y (Some t) = λ u is. let e : t ≡ u = cc is in let f = subst (λ (z : Told). (z.opening ≡ o) × (z.front.feed ≡ y.front.feed)) e (its, refl) in record { opening = f.0; feed = f.1 } in (
      Some t,
      record { opening = o; image = subst (IsAfter o) (sym same) h.image; each = turned o x y views seat (Some t) h.each (ap (λ (z : Image). z.front.feed) (sym same)) right },
      λ _. refl,
    )

pub publishes : (seat : ℕ) (t : Told) (x y : Image) → y.front.feed ≡ x.front.feed → IsAfter t.opening y → TurnsAt IsRuled seat (Some t) x y (λ v x y w. w ≡ v)
publishes seat t x y same image views h at =
    let mine : Agrees h.opening x (Some t) = h.each seat (Some t) at in (
      Some t,
      record {
        opening = h.opening;
        image = subst (λ (o : Opening). IsAfter o y) (mine t refl).opening image;
        each = turned h.opening x y views seat (Some t) h.each (sym same) (moved h.opening x y (Some t) mine (sym same));
      },
      refl,
    )

pub looks : (seat : ℕ) (v : Option Told) → Turns IsRuled seat v (λ x. x) Looks
looks seat v x views h at = (
  v,
  record { opening = h.opening; image = h.image; each = turned h.opening x x views seat v h.each refl (h.each seat v at) },
  (refl, λ t is. let r = h.each seat v at t is in (subst (λ (o : Opening). IsAfter o x) (sym r.opening) h.image, r.feed)),
)

pub forks : (seat : ℕ) (v : Option Told) → Forks IsRuled seat v v v
forks seat v x views h at = let mine = h.each seat v at in let one = turned h.opening x x views seat v h.each refl mine in record {
  opening = h.opening;
  image = h.image;
  each = λ j u e. ⊎_elim (one j u) (λ (same : v ≡ u). subst (λ (z : Option Told). Agrees h.opening x z) same mine) (at_snoc (set views seat v) v u j e);
}

pub merges : (seat : ℕ) (v : Option Told) (other : ℕ) (w : Option Told) → Merges IsRuled seat v other w w None
merges seat v other w x views h at apart there =
    let theirs : Agrees h.opening x w = ⊎_elim (λ (t : (other ≡ seat) × (w ≡ w)). absurd (apart t.0)) (λ (t : (other ≢ seat) × (get_elem? views other ≡ some w)). h.each other w t.1) (at_set views seat other w w there) in
    let one = turned h.opening x x views seat w h.each refl theirs in
    record { opening = h.opening; image = h.image; each = turned h.opening x x (set views seat w) other None one refl (nothing_told h.opening x) }
