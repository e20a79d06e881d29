-- What a choice that gave something was made of.
use Rattle.std.proofs.Common.{◌≡◌, false, Option, Some, None, refl, ap}
use Rattle.std.proofs.lemmas.Bool.{true≢false}
use Rattle.std.specs.Prelude.{is_none, unwrap_or, option_map, option_and_then}

pub some_is : {X : Type 0} {x y : X} → Some x ≡ Some y → x ≡ y
some_is {x = x} e = ap (λ o. unwrap_or o x) e

pub some_none : {X : Type 0} {x : X} → ◌≡◌ {A = Option X} None (Some x) → ⊥
some_none e = true≢false (ap is_none e)

-- what a choice that gave something was made of
pub and_then_some : {X Y : Type 0} (f : X → Option Y) (o : Option X) (y : Y) → option_and_then f o ≡ Some y → (x : X) × (o ≡ Some x) × (f x ≡ Some y)
and_then_some f None y h = absurd (some_none h)
and_then_some f (Some x) y h = (x, refl, h)

pub map_some : {X Y : Type 0} (f : X → Y) (o : Option X) (y : Y) → option_map f o ≡ Some y → (x : X) × (o ≡ Some x) × (f x ≡ y)
map_some f None y h = absurd (some_none h)
map_some f (Some x) y h = (x, refl, some_is h)

pub is_there : {X : Type 0} (o : Option X) → is_none o ≡ false → (x : X) × (o ≡ Some x)
is_there None h = absurd (true≢false h)
is_there (Some x) h = (x, refl)
