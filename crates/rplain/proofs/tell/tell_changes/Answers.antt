use Rattle.std.proofs.Common.{◌≡◌, ◌+◌, ◌<◌, ◌≤◌, List, ◌++◌, length, get_or, drop, sym, ap, subst, ◌∙◌, arith}
use Rattle.std.specs.Option.{option_to_list}
use Rattle.rclaim.specs.Changes.{ChangeLists}
use Rattle.rclaim.specs.declared.changes.StatusChange.{StatusChange}
use Rattle.rclaim.specs.declared.changes.GrantChange.{GrantChange}
use Rattle.rmodel.specs.Changes.{SameClaim, status_change, grant_change, status_changes, grant_changes, with_change}
use Rattle.std.proofs.lemmas.List.Elements.{AllZip-get_or}
use Rattle.rplain.proofs.settling.ChangeSteps.{status_step, grant_step, status_end, grant_end, one_more}
use Rattle.rplain.proofs.tell.tell_changes.Goals as goal

pub tell_changed-requires-clause-same : goal.tell_changed-requires-clause-same
tell_changed-requires-clause-same c =
    let x = c.index-before-i.result in
    let y = c.index-claims-i.result in
    let at : SameClaim (get_or c.args.before.now c.loop-i.i x) (get_or c.args.claims.now c.loop-i.i y)
    = AllZip-get_or SameClaim c.args.before.now c.args.claims.now c.loop-i.i x y c.requires.same (omega arith) in
    (λ k. (c.index-claims-i.is k).claim) ∙ at ∙ (λ k. (sym c.index-before-i.is k).claim)

pub loop-i-preserved : goal.loop-i-preserved
loop-i-preserved c =
    let xs = c.args.before.now in
    let ys = c.args.claims.now in
    let i = c.loop-i.i in
    let in_xs : i < length xs = omega arith in
    let in_ys : i < length ys = omega arith in
    let old = c.loop-i.changes in
    let d = c.index-before-i.result in
    let e = c.index-claims-i.result in
    let x = get_or xs i d in
    let y = get_or ys i e in
    let told : c.tell_changed.new.changes ≡ with_change old x y = c.tell_changed.ensures ∙ (λ j. with_change old (c.index-before-i.is j) (c.index-claims-i.is j)) in
    let statuses : c.tell_changed.new.changes.statuses ≡ old.statuses ++ option_to_list (status_change x y) = ap (λ (ch : ChangeLists). ch.statuses) told in
    let grants : c.tell_changed.new.changes.grants ≡ old.grants ++ option_to_list (grant_change x y) = ap (λ (ch : ChangeLists). ch.grants) told in
    record {
      statuses = ap (λ (told : List StatusChange). told ++ status_changes (drop (i + 1) xs) (drop (i + 1) ys)) statuses
          ∙ status_step xs ys i d e in_xs in_ys old.statuses ∙ c.loop-i.invariant.statuses;
      grants = ap (λ (told : List GrantChange). told ++ grant_changes (drop (i + 1) xs) (drop (i + 1) ys)) grants
          ∙ grant_step xs ys i d e in_xs in_ys old.grants ∙ c.loop-i.invariant.grants;
      few_statuses = subst (λ (told : List StatusChange). length told ≤ i + 1) (sym statuses) (one_more old.statuses (status_change x y) i c.loop-i.invariant.few_statuses);
      few_grants = subst (λ (told : List GrantChange). length told ≤ i + 1) (sym grants) (one_more old.grants (grant_change x y) i c.loop-i.invariant.few_grants);
    }

pub returns-clause-statuses : goal.returns-clause-statuses
returns-clause-statuses c =
    let done : length c.args.before.now ≤ c.loop-i.i = omega arith in
    sym (status_end c.args.before.now c.args.claims.now c.loop-i.i c.loop-i.changes.statuses done) ∙ c.loop-i.invariant.statuses

pub returns-clause-grants : goal.returns-clause-grants
returns-clause-grants c =
    let done : length c.args.before.now ≤ c.loop-i.i = omega arith in
    sym (grant_end c.args.before.now c.args.claims.now c.loop-i.i c.loop-i.changes.grants done) ∙ c.loop-i.invariant.grants
