use Rattle.std.proofs.Common.{ap, ◌∙◌, arith}
use Rattle.rset.specs.Names.{number_in}
use Rattle.rset.specs.declared.TheConstants.{RESOURCES}
use Rattle.rset.specs.Kept.{names_of}
use Rattle.rset.proofs.NameLemmas.{table_length}
use Rattle.rset.proofs.KeptLemmas.{kept_length, kept_number}
use Rattle.rset.proofs.names.NameTable.number_by_hash.Goals as goal

pub overflow_cast-result : goal.overflow_cast-result
overflow_cast-result c =
    let few = table_length RESOURCES (names_of c.self.inside.names.keys) c.self.invariant in
    omega (arith, few, kept_length c.self.inside.names.keys, c.in_ok-number.ensures.within)

pub returns-clause-value : goal.returns-clause-value
returns-clause-value c =
    c.in_ok-number.ensures.index ∙ kept_number c.self.inside.names.keys c.args.name.now ∙ ap (λ names. number_in names c.args.name.now) c.self.view_is

pub returns-in_err-number-clause-value : goal.returns-in_err-number-clause-value
returns-in_err-number-clause-value c =
    c.from_residual.ensures ∙ c.in_err-number.ensures.index ∙ kept_number c.self.inside.names.keys c.args.name.now ∙ ap (λ names. number_in names c.args.name.now) c.self.view_is

pub returns-clause-bound : goal.returns-clause-bound
returns-clause-bound c =
    let few = table_length RESOURCES (names_of c.self.inside.names.keys) c.self.invariant in
    omega (arith, few, kept_length c.self.inside.names.keys, c.in_ok-number.ensures.within)
