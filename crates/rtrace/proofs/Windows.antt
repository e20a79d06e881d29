-- What is held of a source after a read, and behind a cut.
use Rattle.std.proofs.Common.{◌≡◌, ℕ, zero, suc, ◌+◌, ◌-◌, ◌≤◌, List, [], ◌∷◌, ◌++◌, length, take, drop, Option, Some, None, refl, sym, ap, subst, ◌∙◌, arith, append_assoc}
use Rattle.std.proofs.lemmas.List.{drop-take, length-drop, length-take-le}
use Rattle.std.proofs.Math.Seq.{take-add}
use Rattle.std.proofs.lemmas.List.Edits.{take-paste}
use Rattle.std.specs.List.{copy_within}
use Rattle.std.specs.Prelude.{IfSome}
use Rattle.rtrace.specs.Coming.{Came}
use Rattle.rtrace.specs.Windows.{held, IsSound, Gains}
use Rattle.rtrace.specs.declared.window.Window.{Window}

-- ---- what came

pub came_none : (o : Option (List ℕ)) → Came o o []
came_none None = tt
came_none (Some bytes) = (bytes, refl, refl)

pub came_more : (o p q : Option (List ℕ)) (first piece : List ℕ) → Came o p first → Came p q piece → Came o q (first ++ piece)
came_more None p q first piece a b = tt
came_more (Some bytes) p q first piece a b =
    let c : Came (Some a.0) q piece = subst (λ (l : Option (List ℕ)). Came l q piece) a.2 b in
    (c.0, a.1 ∙ ap (λ xs. first ++ xs) c.1 ∙ sym (append_assoc first piece c.0), c.2)

-- ---- what is held

-- what stands behind a cut, moved to the front
pub kept_behind : (items : List ℕ) (cut filled : ℕ) → cut ≤ filled → filled ≤ length items → take (filled - cut) (copy_within items cut filled 0) ≡ drop cut (take filled items)
kept_behind items cut filled low high =
    let size = length-drop cut items in
    let sum : cut + (filled - cut) ≡ filled = omega arith in
    let none : 0 + (filled - cut) ≡ filled - cut = omega arith in
    ap (λ n. take n (copy_within items cut filled 0)) (sym none) ∙ take-paste items 0 (drop cut items) (filled - cut) (omega arith) (omega arith) ∙ sym (drop-take cut (filled - cut) items) ∙ ap (λ n. drop cut (take n items)) sum

-- what a read adds, where so many bytes stand behind what was held
pub gained : (w v : Window) (n : ℕ) → take w.filled v.bytes.items ≡ take w.filled w.bytes.items → w.filled + n ≤ length v.bytes.items → v.filled ≡ w.filled + n
    → v.taken ≡ w.taken + n → v.limit ≡ w.limit → IsSound v
    → Gains w v (take n (drop w.filled v.bytes.items)) × (length (take n (drop w.filled v.bytes.items)) ≡ n)
gained w v n front within filled taken limit sound =
    let left = length-drop w.filled v.bytes.items in
    let size = length-take-le n (drop w.filled v.bytes.items) (omega arith) in (
      record {
        held = ap (λ k. take k v.bytes.items) filled ∙ take-add w.filled n v.bytes.items ∙ ap (λ xs. xs ++ take n (drop w.filled v.bytes.items)) front;
        taken = taken ∙ ap (λ k. w.taken + k) (sym size);
        limit = limit;
        sound = sound;
      },
      size,
    )

-- ---- where it may be cut

pub take_within : (n m : ℕ) (xs : List ℕ) → n ≤ m → take n (take m xs) ≡ take n xs
take_within zero m xs h = refl
take_within (suc n) zero xs h = absurd (omega arith)
take_within (suc n) (suc m) [] h = refl
take_within (suc n) (suc m) (x ∷ xs) h = ap (λ ys. x ∷ ys) (take_within n m xs (omega arith))

-- a place in what is held
pub cut_within : (w : Window) (r : Option ℕ) → IsSound w → IfSome r (λ at. at ≤ length (held w)) → IfSome r (λ at. at ≤ w.filled)
cut_within w None sound h = tt
cut_within w (Some at) sound h = let size = length-take-le w.filled w.bytes.items sound.within in omega (arith, size, h)
