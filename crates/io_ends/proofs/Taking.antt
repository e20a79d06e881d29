-- What was taken by several reads, to the front of one buffer.
use Rattle.std.proofs.Common.{◌≡◌, ◌<◌, ◌≤◌, ◌+◌, ℕ, List, [], ◌++◌, length, take, drop, Option, None, Some, IfSome, ap, ◌∙◌, sym, arith, length-drop}
use Rattle.std.proofs.lemmas.List.{drop-drop, take_all}
use Rattle.std.proofs.Math.Seq.{take-add}
use Rattle.io_ends.specs.Ends.{Gives, GivesFront}

-- n bytes were taken, and they are at the front of the buffer
abbrev pub HoldsTaken : Option (List ℕ) → Option (List ℕ) → List ℕ → ℕ → Type 0
HoldsTaken before after buffer n = IfSome before (λ bytes. (n ≤ length bytes) × (after ≡ Some (drop n bytes)) × (take n buffer ≡ take n bytes))

-- a read into the buffer after its first m bytes, which it kept
pub HoldsTaken-more : (first before after : Option (List ℕ)) (held : List ℕ) (rest buffer : List ℕ) (m n : ℕ) → HoldsTaken first before held m → take m buffer ≡ take m held → Gives before after rest (drop m buffer) n → HoldsTaken first after buffer (m + n)
HoldsTaken-more None before after held rest buffer m n taken same given = tt
HoldsTaken-more (Some bytes) before after held rest buffer m n taken same given =
    let told : GivesFront (drop m bytes) after rest (drop m buffer) n = rw taken.1 at given.told in (
      omega (arith, told.available, length-drop m bytes, taken.0),
      told.taken ∙ ap Some (drop-drop n m bytes),
      take-add m n buffer ∙ ap (λ (xs : List ℕ). xs ++ take n (drop m buffer)) (same ∙ taken.2) ∙ ap (λ (xs : List ℕ). take m bytes ++ xs) told.front ∙ sym (take-add m n bytes),
    )

-- a read that gave nothing to a buffer with room shows that these are all
pub HoldsTaken-whole : (first before after : Option (List ℕ)) (held : List ℕ) (rest new : List ℕ) (m n : ℕ) (all : List ℕ) → HoldsTaken first before held m → Gives before after rest new n → n ≡ 0 → 0 < length rest → all ≡ take m held → IfSome first (λ bytes. all ≡ bytes)
HoldsTaken-whole None before after held rest new m n all taken given nothing room front = tt
HoldsTaken-whole (Some bytes) before after held rest new m n all taken given nothing room front =
    let told : GivesFront (drop m bytes) after rest new n = rw taken.1 at given.told in
    let none : drop m bytes ≡ [] = (told.end room).0 nothing in
    let short : length bytes ≤ m = omega (arith, length-drop m bytes, ap length none) in
    front ∙ taken.2 ∙ take_all m bytes short
