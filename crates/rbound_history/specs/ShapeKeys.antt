-- The keys by which shapes and asks are looked up, and their order. Contracts of other crates do not mention them.
use Rattle.std.specs.Prelude.{ℕ, Bool, ◌&&◌, ◌==◌, refl}
use Rattle.std.specs.Coded.{Coded, code_by, coded×, coded_ℕ}
use Rattle.std.specs.Ordering.{nat_cmp, ordering_then}
use Rattle.std.specs.declared.cmp.Ordering.{Ordering}
use Rattle.rset.specs.Sets.{Set, equals}
use Rattle.rclaim.specs.Codes.{set_code, kind_number}
use Rattle.rbound_history.specs.SetOrder.{set_cmp}
use Rattle.rbound_history.specs.declared.shape_key.ShapeKey.{ShapeKey}
use Rattle.rbound_history.specs.declared.shape_key.AskedSet.{AskedSet}
use Rattle.rbound_history.specs.Shapes.{Shape}

abbrev pub shape_key_code : Coded ShapeKey
shape_key_code =
    code_by (ℕ × (ℕ × (Set × (Set × Set)))) (coded× coded_ℕ (coded× coded_ℕ (coded× set_code (coded× set_code set_code)))) (λ k. (k.task, (k.kind, (k.reads, (k.writes, k.first)))))
    (λ p. record { task = p.0; kind = p.1.0; reads = p.1.1.0; writes = p.1.1.1.0; first = p.1.1.1.1 }) (λ _. refl)

-- two keys are of one shape
abbrev pub same_key : ShapeKey → ShapeKey → Bool
same_key a b = (a.task == b.task) && ((a.kind == b.kind) && equals a.reads b.reads && equals a.writes b.writes && equals a.first b.first)

-- two sets that were asked for are equal
abbrev pub same_asked : AskedSet → AskedSet → Bool
same_asked a b = equals a.set b.set

-- the order of keys: by their tasks, their kinds, and what they read, write and ask for first
abbrev pub sets_cmp : ShapeKey → ShapeKey → Ordering
sets_cmp a b = ordering_then (set_cmp a.reads b.reads) (ordering_then (set_cmp a.writes b.writes) (set_cmp a.first b.first))

abbrev pub key_cmp : ShapeKey → ShapeKey → Ordering
key_cmp a b = ordering_then (nat_cmp a.task b.task) (ordering_then (nat_cmp a.kind b.kind) (sets_cmp a b))

-- the order of sets that were asked for
abbrev pub asked_cmp : AskedSet → AskedSet → Ordering
asked_cmp a b = set_cmp a.set b.set

-- the key of a shape
abbrev pub key_of : Shape → ShapeKey
key_of s = record { task = s.task; kind = kind_number s.request.kind; reads = s.request.reads; writes = s.request.writes; first = s.request.first }
