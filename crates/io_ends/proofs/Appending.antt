-- What was written by several writes.
use Rattle.std.proofs.Common.{◌+◌, ℕ, List, ◌++◌, take, drop, Option, None, Some, ap, ◌∙◌, sym, append_assoc}
use Rattle.std.proofs.Math.Seq.{take-add}
use Rattle.io_ends.specs.Ends.{Appends}

-- after the first m bytes, n more
pub Appends-more : (first before after : Option (List ℕ)) (bytes : List ℕ) (m n : ℕ) → Appends first before (take m bytes) → Appends before after (take n (drop m bytes)) → Appends first after (take (m + n) bytes)
Appends-more None before after bytes m n done more = tt
Appends-more (Some written) before after bytes m n done more =
    (rw done at more) ∙ ap Some (append_assoc written (take m bytes) (take n (drop m bytes)) ∙ ap (λ (xs : List ℕ). written ++ xs) (sym (take-add m n bytes)))
