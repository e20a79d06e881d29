-- What the set of byte vectors answers, in the words of the table of names that it keeps.
use Rattle.std.proofs.Common.{◌≡◌, ℕ, ◌+◌, ◌<◌, ◌||◌, Bool, cond, List, [], ◌∷◌, ◌++◌, length, get_or, zero, suc, Some, refl, sym, ap, ◌∙◌, arith}
use Rattle.std.specs.List.{list_any, position, position_from}
use Rattle.std.specs.Cmp.Lexicographic.{pointwise}
use Rattle.std.specs.Prelude.{nat_eq, slice_get}
use Rattle.std.specs.declared.vec.Vec.{Vec}
use Rattle.std.specs.declared.alloc.Global.{Global}
use Rattle.std.proofs.lemmas.Iterator.Adapters.{position_from-zero}
use Rattle.rset.specs.Names.{same_name, number_in, knows}
use Rattle.rset.specs.Kept.{names_of}

pub kept_knows : (keys : List (Vec ℕ Global)) (name : List ℕ) → list_any (λ v. pointwise nat_eq name v.items) keys ≡ knows (names_of keys) name
unfolding knows
kept_knows [] name = refl
kept_knows (v ∷ vs) name = ap (λ b. same_name name v.items || b) (kept_knows vs name)

kept_from : (i : ℕ) (keys : List (Vec ℕ Global)) (name : List ℕ) → position_from (λ v. pointwise nat_eq name v.items) i keys ≡ position_from (same_name name) i (names_of keys)
kept_from i [] name = refl
kept_from i (v ∷ vs) name = ap (λ o. cond (same_name name v.items) (Some i) o) (kept_from (i + 1) vs name)

pub kept_number : (keys : List (Vec ℕ Global)) (name : List ℕ) → position (λ v. pointwise nat_eq name v.items) keys ≡ number_in (names_of keys) name
unfolding number_in
kept_number keys name = position_from-zero (λ v. pointwise nat_eq name v.items) keys ∙ kept_from 0 keys name

pub kept_length : (keys : List (Vec ℕ Global)) → length (names_of keys) ≡ length keys
kept_length [] = refl
kept_length (v ∷ vs) = let rest = kept_length vs in omega arith

pub kept_push : (keys : List (Vec ℕ Global)) (v : Vec ℕ Global) → names_of (keys ++ v ∷ []) ≡ names_of keys ++ v.items ∷ []
kept_push [] v = refl
kept_push (x ∷ xs) v = ap (λ ns. x.items ∷ ns) (kept_push xs v)

pub kept_at : (keys : List (Vec ℕ Global)) (k : ℕ) (v : Vec ℕ Global) → k < length keys → v ≡ get_or keys k v → get_or (names_of keys) k [] ≡ v.items
kept_at [] k v small is = absurd (omega arith)
kept_at (x ∷ xs) zero v small is = ap (λ w. w.items) (sym is)
kept_at (x ∷ xs) (suc k) v small is = kept_at xs k v (omega arith) is

-- what a look-up in the set answered is whether the table knows the name
pub kept_answer : (keys : List (Vec ℕ Global)) (names : List (List ℕ)) (name : List ℕ) (b : Bool) → names_of keys ≡ names → b ≡ list_any (λ v. pointwise nat_eq name v.items) keys → knows names name ≡ b
kept_answer keys names name b same answer = ap (λ ns. knows ns name) (sym same) ∙ sym (kept_knows keys name) ∙ sym answer

-- the vector at a place has the name with that number
pub kept_there : (keys : List (Vec ℕ Global)) (n : ℕ) (v : Vec ℕ Global) (name : List ℕ) → n < length keys → v ≡ get_or keys n v → v.items ≡ name → slice_get (names_of keys) n ≡ Some name
kept_there [] n v name small is same = absurd (omega arith)
kept_there (x ∷ xs) zero v name small is same = ap (λ (w : Vec ℕ Global). Some w.items) (sym is) ∙ ap Some same
kept_there (x ∷ xs) (suc n) v name small is same = kept_there xs n v name (omega arith) is same
