-- A field that begins as a word of its own length is that word.
use Rattle.std.proofs.Common.{◌≡◌, ℕ, List, length, take, ap, sym, ◌∙◌}
use Rattle.std.proofs.Math.Seq.{take-length}
use Rattle.std.proofs.lemmas.Cmp.{nat_list_eq_equiv}
use Rattle.std.specs.Str.{bytes_eq}

pub all_of : (field word : List ℕ) → length field ≡ length word → bytes_eq word (take (length word) field) ≡ bytes_eq field word
all_of field word same =
    ap (λ n. bytes_eq word (take n field)) (sym same)
    ∙ ap (bytes_eq word) (take-length field)
    ∙ nat_list_eq_equiv.symm word field
