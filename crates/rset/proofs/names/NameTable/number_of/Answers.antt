use Rattle.std.proofs.Common.{◌≡◌, length, Some, ap, sym, ◌∙◌, arith}
use Rattle.std.specs.Prelude.{slice_get}
use Rattle.rset.specs.Names.{number_in}
use Rattle.rset.specs.declared.TheConstants.{RESOURCES}
use Rattle.rset.specs.Kept.{names_of}
use Rattle.rset.proofs.NameLemmas.{number_below, number_of_name_at, table_differs, table_length}
use Rattle.rset.proofs.names.NameTable.number_of.Goals as goal

-- a name that stands at the hint has that number, since names differ
pub returns-then-has_at-clause-value : goal.returns-then-has_at-clause-value
returns-then-has_at-clause-value c =
    let kept = names_of c.self.inside.names.keys in
    let n = c.of-hint.result in
    let there : slice_get kept n ≡ Some c.args.name.now =
    ap (λ keys. slice_get (names_of keys) n) (sym c.as_slice.ensures.keys) ∙ c.has_at.ensures c.if-has_at.true in
    sym (number_of_name_at kept c.args.name.now n (table_differs RESOURCES kept c.self.invariant) there)
    ∙ ap (λ names. number_in names c.args.name.now) c.self.view_is

pub returns-then-has_at-clause-below : goal.returns-then-has_at-clause-below
returns-then-has_at-clause-below c =
    number_below c.args.self.now c.args.name.now c.of-hint.result (sym (returns-then-has_at-clause-value c))

pub returns-then-has_at-clause-bound : goal.returns-then-has_at-clause-bound
returns-then-has_at-clause-bound c =
    let few = table_length RESOURCES (names_of c.self.inside.names.keys) c.self.invariant in
    let size = ap length c.self.view_is in
    omega (arith, few, size, returns-then-has_at-clause-below c)
