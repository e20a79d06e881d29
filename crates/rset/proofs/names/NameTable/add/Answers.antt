-- What the set of byte vectors answered tells whether the table knew the name; then each refusal follows by cases.
use Rattle.std.proofs.Common.{◌≡◌, ◌≤◌, ◌<◌, true, false, length, ap, sym, ◌∙◌, arith, refl}
use Rattle.rset.specs.Names.{is_table, knows}
use Rattle.rset.specs.declared.TheConstants.{RESOURCES}
use Rattle.rset.specs.Kept.{names_of}
use Rattle.rset.proofs.NameLemmas.{table_length, table_push}
use Rattle.rset.proofs.KeptLemmas.{kept_length, kept_answer}
use Rattle.rset.proofs.names.NameTable.add.Goals as goal

pub returns-then-contains-clause-repeated : goal.returns-then-contains-clause-repeated
returns-then-contains-clause-repeated c =
    let known : knows c.args.self.now c.args.name.now ≡ true = kept_answer c.self.inside.names.keys _ _ _ c.self.view_is c.if-contains.ensures in
    grind arith

pub returns-then-contains-clause-too_many : goal.returns-then-contains-clause-too_many
returns-then-contains-clause-too_many c =
    let known : knows c.args.self.now c.args.name.now ≡ true = kept_answer c.self.inside.names.keys _ _ _ c.self.view_is c.if-contains.ensures in
    grind arith

pub returns-then-number-from-clause-repeated : goal.returns-then-number-from-clause-repeated
returns-then-number-from-clause-repeated c =
    let unknown : knows c.args.self.now c.args.name.now ≡ false = kept_answer c.self.inside.names.keys _ _ _ c.self.view_is c.if-contains.ensures in
    grind arith

pub returns-then-number-from-clause-too_many : goal.returns-then-number-from-clause-too_many
returns-then-number-from-clause-too_many c =
    let unknown : knows c.args.self.now c.args.name.now ≡ false = kept_answer c.self.inside.names.keys _ _ _ c.self.view_is c.if-contains.ensures in
    let few : length (names_of c.self.inside.names.keys) ≤ RESOURCES = table_length RESOURCES (names_of c.self.inside.names.keys) c.self.invariant in
    let size : length c.args.self.now ≡ c.len-number.result =
    ap length (sym c.self.view_is) ∙ kept_length c.self.inside.names.keys ∙ sym c.len-number.ensures.len in
    grind arith

pub keep-requires : goal.keep-requires
keep-requires c = kept_answer c.self.inside.names.keys _ _ _ refl c.if-contains.ensures

pub invariant_of-self-2 : goal.invariant_of-self-2
invariant_of-self-2 c =
    let names = names_of c.self.inside.names.keys in
    let unknown = kept_answer c.self.inside.names.keys names c.args.name.now false refl c.if-contains.ensures in
    let room : length names < RESOURCES = omega (arith, kept_length c.self.inside.names.keys, c.len-number.ensures.len, c.from.ensures) in
    ap (is_table RESOURCES) c.in_ok-keep.ensures.ok
    ∙ table_push RESOURCES names c.args.name.now c.self.invariant (sym c.if-not-is_name.ensures) unknown room

pub returns-in_err-keep-clause-repeated : goal.returns-in_err-keep-clause-repeated
returns-in_err-keep-clause-repeated c =
    let unknown : knows c.args.self.now c.args.name.now ≡ false = kept_answer c.self.inside.names.keys _ _ _ c.self.view_is c.if-contains.ensures in
    grind arith

pub returns-clause-repeated : goal.returns-clause-repeated
returns-clause-repeated c =
    let unknown : knows c.args.self.now c.args.name.now ≡ false = kept_answer c.self.inside.names.keys _ _ _ c.self.view_is c.if-contains.ensures in
    grind arith
