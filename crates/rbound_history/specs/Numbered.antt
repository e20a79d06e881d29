-- Different keys, numbered in the order in which they came. Contracts of other crates do not mention them.
use Rattle.std.specs.Prelude.{◌≡◌, ◌++◌, ℕ, Bool, List, [], ◌∷◌, refl, if◌then◌else◌}
use Rattle.std.specs.List.{list_any, position}
use Rattle.std.specs.Coded.{Coded, code_by, coded_list}
use Rattle.std.specs.BTreeMap.{BTreeMap, get}
use Rattle.std.specs.declared.cmp.Ordering.{Ordering}

-- the keys by number
pub record KeyList (K : Type 0) : Type 0 where
  pub keys : List K

abbrev pub key_list_code : {K : Type 0} → Coded K → Coded (KeyList K)
key_list_code {K} code = code_by (List K) (coded_list code) (λ k. k.keys) (λ ks. record { keys = ks }) (λ _. refl)

-- the keys with one more after the others, unless it is among them
abbrev pub insert_key : {K : Type 0} → (K → K → Bool) → List K → K → List K
insert_key E keys key = if list_any (E key) keys then keys else keys ++ key ∷ []

-- a map has the number of each key
abbrev pub AreNumbers : {K : Type 0} → (K → K → Ordering) → (K → K → Bool) → List K → BTreeMap K ℕ → Type 0
AreNumbers {K} cmp E keys numbers = (q : K) → get cmp numbers q ≡ position (E q) keys
