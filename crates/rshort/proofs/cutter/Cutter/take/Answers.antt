use Rattle.std.proofs.Common.{◌≡◌, ◌⊎◌, ℕ, ◌+◌, ◌<◌, true, List, length, take, drop, sym, ap, subst, refl, ◌∙◌, arith}
use Rattle.csv.specs.declared.parser.Action.{Action}
use Rattle.rset.specs.declared.TheConstants.{RESOURCES}
use Rattle.rshort.specs.Cut.{has_joint, pieces_of, is_among}
use Rattle.rshort.specs.Steps.{state_of}
use Rattle.rshort.proofs.Cutting.{kept_more, blank_out, left_out, pair_out, piece_out, full_more}
use Rattle.rshort.proofs.cutter.Cutter.take.Goals as goal

pub returns-then-is_blank : goal.returns-then-is_blank
returns-then-is_blank c bytes so_far goes =
    let yes = c.if-is_blank.true in
    let to = c.is_blank.ensures.to yes in
    blank_out c.args.self.now bytes c.args.c c.step-stand.result.0 c.step-stand.result.1 so_far c.step-stand.ensures.step (sym c.ends_record.ensures ∙ c.if-ends_record.false) (c.is_blank.ensures.from yes) to (c.step-stand.ensures.blank to)

pub returns-then-self-ge-MOST : goal.returns-then-self-ge-MOST
returns-then-self-ge-MOST c bytes so_far goes =
    full_more c.args.self.now _ bytes c.args.c c.step-stand.result.1 so_far c.if-self-ge-MOST.true c.step-stand.ensures.step (sym c.ends_record.ensures ∙ c.if-ends_record.false) refl refl refl refl refl

pub returns-then-is_left_out : goal.returns-then-is_left_out
returns-then-is_left_out c bytes so_far goes =
    let yes = c.if-is_left_out.true in
    left_out c.args.self.now bytes c.args.c c.step-stand.result.0 so_far (c.step-stand.ensures.step ∙ ap (λ (a : Action). (state_of c.step-stand.result.0, a)) (c.is_left_out.ensures.joins yes))
    (c.is_left_out.ensures.stays yes) (c.is_left_out.ensures.long yes) (c.is_left_out.ensures.plain yes)

pub returns-then-is_pair_left_out : goal.returns-then-is_pair_left_out
returns-then-is_pair_left_out c bytes so_far goes =
    let yes = c.if-is_pair_left_out.true in
    pair_out c.args.self.now _ bytes c.args.c c.in-Some.field-0 c.step-stand.result.0 so_far c.if-self-ge-MOST.false (c.step-stand.ensures.step ∙ ap (λ (a : Action). (state_of c.step-stand.result.0, a)) (c.is_pair_left_out.ensures.joins yes))
    (c.is_pair_left_out.ensures.from yes) (c.is_pair_left_out.ensures.to yes) (c.is_pair_left_out.ensures.long yes) (c.is_pair_left_out.ensures.quote yes) c.in-Some.ensures.items refl refl refl refl refl

pub returns : goal.returns
returns c bytes so_far goes =
    kept_more c.args.self.now _ bytes c.args.c c.step-stand.result.1 so_far c.if-self-ge-MOST.false c.step-stand.ensures.step (sym c.ends_record.ensures ∙ c.if-ends_record.false) c.step-stand.ensures.field c.step-stand.ensures.quote
    c.in_ok-push.ensures.items c.in_ok-keep_in_field.ensures _ _ c.deref-3.ensures.value (ap (λ (xs : List ℕ). length xs) c.deref-2.ensures.value) c.joint_after-self.ensures c.count_piece-self.ensures c.count_fields-self.ensures.many c.count_fields-self.ensures.full

pub returns-then-is_joint_left_out : goal.returns-then-is_joint_left_out
returns-then-is_joint_left_out c bytes so_far goes =
    let yes = c.if-is_joint_left_out.true in
    let joint = c.is_joint_left_out.ensures.joint yes in
    let at = c.args.self.now.joint.field in
    piece_out c.args.self.now _ bytes c.args.c c.step-stand.result.0 so_far c.if-self-ge-MOST.false joint (c.step-stand.ensures.step ∙ ap (λ (a : Action). (state_of c.step-stand.result.0, a)) (c.is_joint_left_out.ensures.joins yes))
    (λ quote. let other = (c.step-stand.ensures.quote quote).1 in absurd (omega (arith, joint, other))) (c.is_joint_left_out.ensures.there yes) (c.is_joint_left_out.ensures.stand yes)
    (subst (λ (xs : List ℕ). has_joint (take at xs) ≡ true) c.deref.ensures.value (c.is_joint_left_out.ensures.two yes))
    (subst (λ (xs : List ℕ). (is_among (pieces_of (take at xs)) (drop (at + 1) xs) ≡ true) ⊎ (RESOURCES < c.args.self.now.joint.different)) c.deref.ensures.value (c.is_joint_left_out.ensures.nothing yes))
    c.truncate.ensures.items c.truncate-then-is_joint_left_out.ensures.items refl refl refl refl
