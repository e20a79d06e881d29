-- The last end of a record among bytes.
use Rattle.std.proofs.Common.{◌≡◌, ◌<◌, ◌⊎◌, ℕ, cond, List, [], ◌∷◌, ◌++◌, length, take, Option, Some, None, sym, subst, refl}
use Rattle.std.proofs.lemmas.Option.{slice_get_within}
use Rattle.std.specs.Prelude.{IfSome, slice_get}
use Rattle.csv.specs.Machine.{is_end, step}
use Rattle.csv.specs.Reading.{default_config}
use Rattle.csv.specs.declared.parser.State.{State}
use Rattle.csv.specs.declared.parser.State.TheVariants as st
use Rattle.rshort.specs.Closed.{state_after, IsOutside, IsEnd}
use Rattle.rshort.specs.Steps.{state_of, action_of}
use Rattle.rshort.specs.declared.step.Stand.{Stand}
use Rattle.rshort.specs.declared.step.Does.{Does}
use Rattle.rshort.specs.declared.step.Does.TheVariants.{Nothing, Joins, EndsField, EndsRecord}

pub state_push : (s : State) (xs : List ℕ) (c : ℕ) → state_after s (xs ++ c ∷ []) ≡ (step default_config (state_after s xs) c).0
state_push s [] c = refl
state_push s (x ∷ xs) c = state_push (step default_config s x).0 xs c

pub end_more : (bytes : List ℕ) (at c : ℕ) (stand : Stand) (does : Does) (last later : Option ℕ) → state_of stand ≡ state_after st.StartRecord (take at bytes) → slice_get bytes at ≡ Some c
    → (does ≡ EndsRecord → (c ≡ 10) ⊎ (c ≡ 13)) → (does ≡ EndsRecord → IsOutside (state_of stand)) → later ≡ cond (is_end (action_of does)) (Some at) last → IfSome last (IsEnd bytes) → IfSome later (IsEnd bytes)
end_more bytes at c stand Nothing last later stands there ends outside is was = subst (λ (o : Option ℕ). IfSome o (IsEnd bytes)) (sym is) was
end_more bytes at c stand Joins last later stands there ends outside is was = subst (λ (o : Option ℕ). IfSome o (IsEnd bytes)) (sym is) was
end_more bytes at c stand EndsField last later stands there ends outside is was = subst (λ (o : Option ℕ). IfSome o (IsEnd bytes)) (sym is) was
end_more bytes at c stand EndsRecord last later stands there ends outside is was =
    subst (λ (o : Option ℕ). IfSome o (IsEnd bytes)) (sym is) (record { byte = c; ends = ends refl; there = there; outside = subst IsOutside stands (outside refl) })

pub end_within : (bytes : List ℕ) (r : Option ℕ) → IfSome r (IsEnd bytes) → IfSome r (λ at. at < length bytes)
end_within bytes None is = tt
end_within bytes (Some at) is = slice_get_within bytes at is.byte is.there
