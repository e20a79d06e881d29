use Rattle.std.proofs.Common.{◌≡◌, ◌≤◌, ◌<◌, ◌/◌, ◌%◌, ◌∷◌, ◌++◌, [], true, length, refl, sym, ap, ◌∙◌, arith}
use Rattle.std.specs.FinSet.{empty, insert}
use Rattle.std.proofs.lemmas.Bool.{true≢false}
use Rattle.rset.specs.Sets.{all_below, rising}
use Rattle.rset.specs.declared.TheConstants.{RESOURCES}
use Rattle.rexpand.specs.declared.TheConstants.{GROUPS}
use Rattle.rexpand.specs.Kept.{place_in}
use Rattle.rexpand.proofs.GroupLemmas.{groups_parts, group_of}
use Rattle.rexpand.proofs.EntryLemmas.{length_widened, written_back}
use Rattle.rexpand.proofs.KeptLemmas.{entries_with, noted_with, kept_push, kept_same}
use Rattle.rexpand.proofs.groups.Groups.declare.Goals as goal

pub returns-then-number-ge-GROUPS-clause-too_many : goal.returns-then-number-ge-GROUPS-clause-too_many
returns-then-number-ge-GROUPS-clause-too_many c =
    let parts = groups_parts _ c.self.invariant.valid in
    let few : length c.self.inside.groups.items ≤ GROUPS = parts.few in
    let same : length c.self.inside.groups.items ≡ length c.args.self.now.groups = ap (λ g. length g.groups) c.self.view_is in
    let full : length c.args.self.now.groups ≡ GROUPS = omega (arith, c.self.inside.groups.ok) in
    ((λ _. ((λ none. true≢false (sym (c.if-is_empty.ensures.1 none))), full)), (λ _. refl))

pub invariant_of-self-2 : goal.invariant_of-self-2
invariant_of-self-2 c =
    let entries = c.self.inside.shared.items in
    let noted = c.self.inside.noted.items in
    let gs = c.self.inside.groups.items in
    let n = c.len-number.result in
    let groups : c.push_reserved.new.self.items ≡ gs ++ c.args.set ∷ [] = c.push_reserved.ensures.items ∙ ap (λ xs. xs ++ c.args.set ∷ []) c.in_ok-reserve.ensures.items in
    let number : n ≡ length gs = omega (arith, c.len-number.ensures, c.self.inside.groups.ok) in
    let widened : c.share.new.shared ≡ entries_with c.args.set entries = c.share.ensures ∙ ap (entries_with c.args.set) c.deref_mut.ensures.value in
    let written : c.note.new.noted ≡ noted_with n c.args.set noted = c.note.ensures ∙ ap (noted_with n c.args.set) c.deref_mut-2.ensures.value in
    let entries_back = written_back c.self.inside.shared.len c.share.new.shared entries
    (ap length widened ∙ length_widened (λ l. l) c.args.set (rising c.args.set) entries)
    (omega (arith, c.self.inside.shared.ok)) in
    let noted_back = written_back c.self.inside.noted.len c.note.new.noted noted
    (ap length written ∙ length_widened (place_in (n / RESOURCES)) (insert empty (n % RESOURCES)) (rising c.args.set) noted)
    (omega (arith, c.self.inside.noted.ok)) in
    let filled : c.args.set ≡ empty → ⊥ = λ none. true≢false (sym (c.if-is_empty.ensures.1 none)) in
    let low : all_below (length entries) c.args.set ≡ true = ap (λ g. all_below g.q c.args.set) c.self.view_is ∙ c.requires in
    let room : length gs < GROUPS = omega (arith, c.if-number-ge-GROUPS.false) in
    kept_same _ _ _ _ _ _ groups (entries_back ∙ widened) (noted_back ∙ written ∙ ap (λ k. noted_with k c.args.set noted) number)
    (kept_push gs entries noted c.args.set c.self.invariant (group_of (length entries) c.args.set filled low) room)
