use Rattle.std.proofs.Common.{◌≡◌, ◌<◌, true, [], ◌∷◌, ◌++◌, length, get_or, sym, ap, ◌∙◌, arith}
use Rattle.std.proofs.lemmas.List.{take_more}
use Rattle.rset.specs.Names.{all_differ, knows}
use Rattle.rset.specs.declared.TheConstants.{RESOURCES}
use Rattle.rset.specs.Kept.{names_of}
use Rattle.rset.proofs.NameLemmas.{not_before, table_differs}
use Rattle.rset.proofs.KeptLemmas.{kept_at, kept_length}
use Rattle.rset.proofs.names.NameTable.copy.Goals as goal

pub keep-requires : goal.keep-requires
keep-requires c =
    let items = c.as_slice-name-items.result.now in
    let i = c.loop-name.name-index in
    let differ : all_differ (names_of items) ≡ true =
    ap (λ keys. all_differ (names_of keys)) c.as_slice-name-items.ensures.keys ∙ table_differs RESOURCES _ c.self.invariant in
    let size = kept_length items in
    let small : i < length (names_of items) = omega arith in
    let name : c.as_slice.result.now ≡ get_or (names_of items) i [] =
    c.as_slice.ensures.value ∙ sym (kept_at items i c.name-item.result c.loop-name-test.true c.name-item.is) in
    (λ j. knows (c.loop-name.invariant j) (name j)) ∙ not_before (names_of items) i differ small

pub loop-name-preserved : goal.loop-name-preserved
loop-name-preserved c =
    let items = c.as_slice-name-items.result.now in
    let i = c.loop-name.name-index in
    let size = kept_length items in
    let small : i < length (names_of items) = omega arith in
    let name : c.as_slice.result.now ≡ get_or (names_of items) i [] =
    c.as_slice.ensures.value ∙ sym (kept_at items i c.name-item.result c.loop-name-test.true c.name-item.is) in
    c.in_ok-keep.ensures.ok ∙ (λ j. c.loop-name.invariant j ++ name j ∷ []) ∙ sym (take_more (names_of items) i [] small)
