use Rattle.std.proofs.Common.{◌≡◌, ◌<◌, ◌/◌, List, length, sym, ap, subst, ◌∙◌, refl, arith}
use Rattle.std.specs.FinSet.{is_subset}
use Rattle.std.proofs.lemmas.Bool.{ltb-true}
use Rattle.rset.specs.Sets.{Set, all_below}
use Rattle.rset.proofs.SetLemmas.{filled_by, all_below_within}
use Rattle.rexpand.specs.declared.TheConstants.{BLOCKS}
use Rattle.rexpand.specs.Kept.{IsNoted}
use Rattle.rexpand.proofs.NotedLemmas.{noted_for, noted_read}
use Rattle.rexpand.proofs.SharedLemmas.{shared_below}
use Rattle.rexpand.specs.Groups.{is_declared}
use Rattle.rexpand.proofs.GroupLemmas.{groups_parts}
use Rattle.rexpand.proofs.DeclaredLemmas.{declared_one_member, declared_empty, declared_many, inside_no_group, inside_none_above}
use Rattle.rexpand.proofs.groups.Groups.declared.Goals as goal
use Rattle.rexpand.proofs.groups.Groups.declared.Goals.{then-l-q, else-l-q}

pub returns-then-len-eq1 : goal.returns-then-len-eq1
returns-then-len-eq1 c = sym (declared_one_member c.args.self.now.groups c.args.set (sym c.len.ensures.value ∙ c.if-len-eq1.true))

pub returns-in-None : goal.returns-in-None
returns-in-None c = sym (ap (is_declared c.args.self.now.groups) (c.in-None.ensures.none.0 refl) ∙ declared_empty c.args.self.now.groups)

pub is_inside-requires-clause-within : goal.is_inside-requires-clause-within
is_inside-requires-clause-within c =
    let number : length c.deref.result.now / BLOCKS ≡ c.args.self.now.q =
    ap (λ (ns : List Set). length ns / BLOCKS) c.deref.ensures.value ∙ noted_for _ _ _ c.self.invariant.numbers ∙ ap (λ g. g.q) c.self.view_is in
    ap (λ n. all_below n c.args.set) number
    ∙ elim c.if-l-q.branch [
      | then-l-q w ↦
          all_below_within c.args.self.now.q c.args.set w.shared.result (sym w.within.ensures ∙ sym w.value-is ∙ c.if-within.true)
          (ap (all_below c.args.self.now.q) w.shared.ensures ∙ shared_below c.args.self.now.q c.args.self.now.groups c.in-Some.l (groups_parts c.args.self.now c.q.ensures.groups).each (omega (arith, c.q.ensures.value, w.if-l-q.true)))
      | else-l-q w ↦ let below : c.in-Some.l < c.q.result = ltb-true c.in-Some.l c.q.result (sym w.value-is ∙ c.if-within.true) in absurd (omega (arith, w.if-l-q.false))
    ]

pub returns-then-within : goal.returns-then-within
returns-then-within c =
    let kept : IsNoted (length c.deref.result.now / BLOCKS) c.args.self.now.groups c.deref.result.now =
    subst (λ (gs : List Set). IsNoted (length c.deref.result.now / BLOCKS) gs c.deref.result.now) (ap (λ g. g.groups) c.self.view_is)
    (noted_read _ _ _ c.deref.result.now c.self.invariant.numbers c.deref.ensures.value) in
    c.is_inside.ensures c.args.self.now.groups (groups_parts c.args.self.now c.q.ensures.groups).few kept
    ∙ sym (declared_many c.args.self.now.groups c.args.set (λ one. c.if-len-eq1.false (c.len.ensures.value ∙ one)) (filled_by c.args.set c.in-Some.l c.in-Some.ensures.member))

pub returns-else-within : goal.returns-else-within
returns-else-within c =
    c.if-within.false
    ∙ sym (declared_many c.args.self.now.groups c.args.set (λ one. c.if-len-eq1.false (c.len.ensures.value ∙ one)) (filled_by c.args.set c.in-Some.l c.in-Some.ensures.member)
    ∙ elim c.if-l-q.branch [
      | then-l-q w ↦
          inside_no_group c.args.self.now.groups c.args.set c.in-Some.l c.in-Some.ensures.member
          (ap (is_subset c.args.set) (sym w.shared.ensures) ∙ sym w.within.ensures ∙ sym w.value-is ∙ c.if-within.false)
      | else-l-q w ↦
          inside_none_above c.args.self.now.q c.args.self.now.groups c.args.set c.in-Some.l (groups_parts c.args.self.now c.q.ensures.groups).each c.in-Some.ensures.member
          (omega (arith, c.q.ensures.value))
    ])
