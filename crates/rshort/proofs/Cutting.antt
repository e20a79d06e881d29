-- A front of a text that is cut while it is read.
use Rattle.std.proofs.Common.{◌≡◌, ◌⊎◌, ℕ, suc, ◌+◌, ◌<◌, ◌≤◌, ◌==◌, Bool, true, false, cond, List, [], ◌∷◌, ◌++◌, length, take, drop, nat_le, length-append, append_assoc, inl, inr, refl, sym, ap, subst, ◌∙◌, arith}
use Rattle.std.proofs.lemmas.Bool.{true≢false, leb-true, le-leb, false_from_ne_true}
use Rattle.csv.specs.Machine.{is_end, step, fields_after, field_after, Feeds}
use Rattle.csv.specs.Reading.{default_config}
use Rattle.csv.specs.declared.parser.Action.{Action}
use Rattle.csv.specs.declared.parser.Action.TheVariants as act
use Rattle.csv.specs.declared.parser.State.{State}
use Rattle.csv.specs.declared.parser.State.TheVariants as st
use Rattle.csv.proofs.ReadFacts.{feeds-push}
use Rattle.rtrace_form.specs.Records.{Row}
use Rattle.rshort.specs.declared.cutter.Cutter.{Cutter}
use Rattle.rshort.specs.declared.step.Stand.{Stand}
use Rattle.rshort.specs.declared.step.Stand.TheVariants.{RecordStart, FieldStart, Bare, Quoted, QuoteRead}
use Rattle.rshort.specs.declared.step.Does.{Does}
use Rattle.rshort.specs.declared.step.Does.TheVariants.{EndsField, EndsRecord, Nothing}
use Rattle.rset.specs.declared.TheConstants.{RESOURCES}
use Rattle.rshort.specs.Cut.{piece_after, piece_in, has_joint, pieces_of, is_among, Differ, IsCutPart, IsCutText}
use Rattle.rshort.specs.Steps.{state_of, action_of}
use Rattle.rshort.specs.declared.joint.Joint.{Joint}
use Rattle.rshort.specs.Joints.{KnowsJoint, BecomesLast}
use Rattle.rshort.specs.Cutters.{HasRead, kept_state}
use Rattle.rshort.proofs.Joints.{joint_popped, last_joint, front_is, piece_is, front_joined, kept_joined, no_joint_yet}
use Rattle.rshort.proofs.Texts.{part_off, part_lacks, copied, field_ended, text_cut}

-- ---- pieces

piece_push : (n c : ℕ) (field : List ℕ) → piece_in n (field ++ c ∷ []) ≡ piece_after (piece_in n field) c
piece_push n c [] = refl
piece_push n c (b ∷ field) = piece_push (piece_after n b) c field

pub few_joined : (piece c : ℕ) (left : List ℕ) → piece ≤ piece_in 0 left → (c == 43) ≡ false → piece + 1 ≤ piece_in 0 (left ++ c ∷ [])
few_joined piece c left few plain =
    let e : piece_in 0 (left ++ c ∷ []) ≡ piece_in 0 left + 1 = piece_push 0 c left ∙ ap (λ (b : Bool). cond b 0 (piece_in 0 left + 1)) plain in
    omega (arith, few, e)

pub few_zero : (n : ℕ) → 0 ≤ n
few_zero n = omega arith

-- ---- one byte more

fed_more : (bytes : List ℕ) (s t : State) (row : Row) (field : List ℕ) (c : ℕ) (a : Action) → Feeds default_config st.StartRecord [] [] bytes s row field false → step default_config s c ≡ (t, a) → is_end a ≡ false
    → Feeds default_config st.StartRecord [] [] (bytes ++ c ∷ []) t (fields_after a row field) (field_after a c field) false
fed_more bytes s t row field c a fed is goes =
    subst (λ (b : Bool). Feeds default_config st.StartRecord [] [] (bytes ++ c ∷ []) t (fields_after a row field) (field_after a c field) b) goes
    (subst (λ (q : State × Action). Feeds default_config st.StartRecord [] [] (bytes ++ c ∷ []) q.0 (fields_after q.1 row field) (field_after q.1 c field) (is_end q.1)) is
    (feeds-push default_config st.StartRecord s [] row [] field bytes c fed))

part_more : (a : Action) (row cut : Row) (field left : List ℕ) (c : ℕ) → IsCutPart row field cut left → is_end a ≡ false → IsCutPart (fields_after a row field) (field_after a c field) (fields_after a cut left) (field_after a c left)
part_more act.Skip row cut field left c part goes = part
part_more act.Copy row cut field left c part goes = copied row cut field left c part
part_more act.EndField row cut field left c part goes = field_ended row cut field left part
part_more act.EndRecord row cut field left c part goes = absurd (true≢false goes)

-- what is kept of a record that is not full leads to where it stands
not_full : (cutter : Cutter) (bytes : List ℕ) (b : HasRead cutter bytes) → cutter.fields < 9 → Feeds default_config st.StartRecord [] [] cutter.kept.items (state_of cutter.stand) b.cut b.left false
not_full cutter bytes b room =
    subst (λ (x : Bool). Feeds default_config st.StartRecord [] [] cutter.kept.items (cond x st.StartField (state_of cutter.stand)) b.cut b.left false)
    (false_from_ne_true (nat_le 9 cutter.fields) (λ h. let full = leb-true 9 cutter.fields h in absurd (omega (arith, full, room)))) b.kept

-- a byte that is kept, of a record that is not full
pub kept_more : (cutter later : Cutter) (bytes : List ℕ) (c : ℕ) (does : Does) → HasRead cutter bytes → cutter.fields < 9 → step default_config (state_of cutter.stand) c ≡ (state_of later.stand, action_of does)
    → is_end (action_of does) ≡ false → (does ≡ EndsField → later.stand ≡ FieldStart) → (later.stand ≡ QuoteRead → (cutter.stand ≡ Quoted) × (c ≡ 34) × (does ≡ Nothing)) → later.kept.items ≡ cutter.kept.items ++ c ∷ []
    → later.field.items ≡ field_after (action_of does) c cutter.field.items
    → (xs : List ℕ) (n : ℕ) → xs ≡ cutter.field.items → n ≡ length cutter.kept.items → BecomesLast cutter.joint later.joint cutter.stand c does xs n
    → ((left : List ℕ) → cutter.piece ≤ piece_in 0 left → later.piece ≤ piece_in 0 (field_after (action_of does) c left))
    → ((row : Row) (field : List ℕ) → cutter.fields ≤ length row → later.fields ≤ length (fields_after (action_of does) row field)) → (9 ≤ later.fields → does ≡ EndsField) → HasRead later (bytes ++ c ∷ [])
kept_more cutter later bytes c does so_far room is goes begins quote kept field xs n is_field is_kept joint few many full = record {
  row = fields_after (action_of does) so_far.row so_far.field;
  field = field_after (action_of does) c so_far.field;
  cut = fields_after (action_of does) so_far.cut so_far.left;
  left = field_after (action_of does) c so_far.left;
  whole = fed_more bytes (state_of cutter.stand) (state_of later.stand) so_far.row so_far.field c (action_of does) so_far.whole is goes;
  kept = subst (λ (s : State). Feeds default_config st.StartRecord [] [] later.kept.items s (fields_after (action_of does) so_far.cut so_far.left) (field_after (action_of does) c so_far.left) false) (same_state (nat_le 9 later.fields) refl)
      (subst (λ (xs : List ℕ). Feeds default_config st.StartRecord [] [] xs (state_of later.stand) (fields_after (action_of does) so_far.cut so_far.left) (field_after (action_of does) c so_far.left) false) (sym kept)
      (fed_more cutter.kept.items (state_of cutter.stand) (state_of later.stand) so_far.cut so_far.left c (action_of does) (not_full cutter bytes so_far room) is goes));
  part = part_more (action_of does) so_far.row so_far.cut so_far.field so_far.left c so_far.part goes;
  few = few so_far.left so_far.few;
  same = field ∙ ap (field_after (action_of does) c) so_far.same;
  joint = subst (λ (xs : List ℕ). KnowsJoint later.joint xs (fields_after (action_of does) so_far.cut so_far.left) (field_after (action_of does) c so_far.left)) (sym kept)
      (subst (λ (left : List ℕ). BecomesLast cutter.joint later.joint cutter.stand c does left n) (is_field ∙ so_far.same) joint cutter.kept.items so_far.cut (not_full cutter bytes so_far room) (sym is_kept) so_far.joint);
  many = many so_far.row so_far.field so_far.many;
  many_kept = many so_far.cut so_far.left so_far.many_kept;
  quoted = λ at _. let q = quote at in (
    cutter.kept.items,
    kept ∙ ap (λ (b : ℕ). cutter.kept.items ++ b ∷ []) q.1,
    subst (λ (d : Does). Feeds default_config st.StartRecord [] [] cutter.kept.items st.InQuoted (fields_after (action_of d) so_far.cut so_far.left) (field_after (action_of d) c so_far.left) false) (sym q.2)
        (subst (λ (t : Stand). Feeds default_config st.StartRecord [] [] cutter.kept.items (state_of t) so_far.cut so_far.left false) q.0 (not_full cutter bytes so_far room)),
  );
}
  where
    same_state : (b : Bool) → nat_le 9 later.fields ≡ b → state_of later.stand ≡ cond b st.StartField (state_of later.stand)
    same_state true h = ap state_of (begins (full (leb-true 9 later.fields h)))
    same_state false h = refl

-- a byte that is left out
pub left_out : (cutter : Cutter) (bytes : List ℕ) (c : ℕ) (stand : Stand) → HasRead cutter bytes → step default_config (state_of cutter.stand) c ≡ (state_of stand, act.Copy) → stand ≡ cutter.stand
    → 20 < cutter.piece → (c == 43) ≡ false → HasRead cutter (bytes ++ c ∷ [])
left_out cutter bytes c stand so_far is same long plain =
    let few = so_far.few in
    record {
      row = so_far.row;
      field = so_far.field ++ c ∷ [];
      cut = so_far.cut;
      left = so_far.left;
      whole = subst (λ (s : Stand). Feeds default_config st.StartRecord [] [] (bytes ++ c ∷ []) (state_of s) so_far.row (so_far.field ++ c ∷ []) false) same
          (fed_more bytes (state_of cutter.stand) (state_of stand) so_far.row so_far.field c act.Copy so_far.whole is refl);
      kept = so_far.kept;
      part = part_off so_far.row so_far.cut so_far.field so_far.left c so_far.part (omega (arith, few, long)) plain;
      few = so_far.few;
      same = so_far.same;
      joint = so_far.joint;
      many = so_far.many;
      many_kept = so_far.many_kept;
      quoted = so_far.quoted;
    }

-- the end of a blank line
pub blank_out : (cutter : Cutter) (bytes : List ℕ) (c : ℕ) (stand : Stand) (does : Does) → HasRead cutter bytes → step default_config (state_of cutter.stand) c ≡ (state_of stand, action_of does) → is_end (action_of does) ≡ false
    → cutter.stand ≡ RecordStart → stand ≡ RecordStart → (¬ (does ≡ EndsRecord) → does ≡ Nothing) → HasRead cutter (bytes ++ c ∷ [])
blank_out cutter bytes c stand does so_far is goes from to nothing =
    let skips : action_of does ≡ act.Skip = ap action_of (nothing (λ h. true≢false (sym (ap (λ (d : Does). is_end (action_of d)) h) ∙ goes))) in
    record {
      row = so_far.row;
      field = so_far.field;
      cut = so_far.cut;
      left = so_far.left;
      whole = fed_more bytes (state_of cutter.stand) (state_of cutter.stand) so_far.row so_far.field c act.Skip so_far.whole (is ∙ (λ i. (state_of ((to ∙ sym from) i), skips i))) refl;
      kept = so_far.kept;
      part = so_far.part;
      few = so_far.few;
      same = so_far.same;
      joint = so_far.joint;
      many = so_far.many;
      many_kept = so_far.many_kept;
      quoted = so_far.quoted;
    }

-- a list but for its last
drop_last : List ℕ → List ℕ
drop_last [] = []
drop_last (x ∷ []) = []
drop_last (x ∷ y ∷ ys) = x ∷ drop_last (y ∷ ys)

drop_last-push : (xs : List ℕ) (a : ℕ) → drop_last (xs ++ a ∷ []) ≡ xs
unfolding drop_last
drop_last-push [] a = refl
drop_last-push (x ∷ []) a = refl
drop_last-push (x ∷ y ∷ ys) a = ap (λ (zs : List ℕ). x ∷ zs) (drop_last-push (y ∷ ys) a)

-- two quotation marks that are left out, of which the first was kept
pub pair_out : (cutter later : Cutter) (bytes : List ℕ) (c last : ℕ) (stand : Stand) → HasRead cutter bytes → cutter.fields < 9 → step default_config (state_of cutter.stand) c ≡ (state_of stand, act.Copy)
    → cutter.stand ≡ QuoteRead → stand ≡ Quoted → 20 < cutter.piece → c ≡ 34 → cutter.kept.items ≡ later.kept.items ++ last ∷ [] → later.stand ≡ stand → later.piece ≡ cutter.piece → later.fields ≡ cutter.fields
    → later.field ≡ cutter.field → later.joint ≡ cutter.joint → HasRead later (bytes ++ c ∷ [])
pair_out cutter later bytes c last stand so_far room is from to long quote kept stands piece fields field joint =
    let q = so_far.quoted from room in
    let few = so_far.few in
    let many = so_far.many in
    let many_kept = so_far.many_kept in
    let front_is : later.kept.items ≡ q.0 = sym (drop_last-push later.kept.items last) ∙ ap drop_last (sym kept ∙ q.1) ∙ drop_last-push q.0 34 in
    record {
      row = so_far.row;
      field = so_far.field ++ c ∷ [];
      cut = so_far.cut;
      left = so_far.left;
      whole = subst (λ (t : Stand). Feeds default_config st.StartRecord [] [] (bytes ++ c ∷ []) (state_of t) so_far.row (so_far.field ++ c ∷ []) false) (sym stands)
          (fed_more bytes (state_of cutter.stand) (state_of stand) so_far.row so_far.field c act.Copy so_far.whole is refl);
      kept = subst (λ (xs : List ℕ). Feeds default_config st.StartRecord [] [] xs (kept_state later) so_far.cut so_far.left false) (sym front_is)
          (subst (λ (s : State). Feeds default_config st.StartRecord [] [] q.0 s so_far.cut so_far.left false) (in_quotes (nat_le 9 later.fields) refl) q.2);
      part = part_off so_far.row so_far.cut so_far.field so_far.left c so_far.part (omega (arith, few, long)) (ap (λ (b : ℕ). b == 43) quote);
      few = omega (arith, few, piece);
      same = ap (λ v. v.items) field ∙ so_far.same;
      joint = subst (λ (j : Joint). KnowsJoint j later.kept.items so_far.cut so_far.left) (sym joint)
          (joint_popped cutter.joint later.kept.items so_far.cut so_far.left (subst (λ (xs : List ℕ). KnowsJoint cutter.joint xs so_far.cut so_far.left) (q.1 ∙ ap (λ (xs : List ℕ). xs ++ 34 ∷ []) (sym front_is)) so_far.joint));
      many = omega (arith, many, fields);
      many_kept = omega (arith, many_kept, fields);
      quoted = λ at _. absurd (apart (sym (stands ∙ to) ∙ at));
    }
  where
    apart : Quoted ≡ QuoteRead → ⊥
    apart h = cc

    in_quotes : (b : Bool) → nat_le 9 later.fields ≡ b → st.InQuoted ≡ cond b st.StartField (state_of later.stand)
    in_quotes true h = let full = leb-true 9 later.fields h in absurd (omega (arith, full, room, fields))
    in_quotes false h = ap state_of (sym (stands ∙ to))

-- a piece that is left out, and the joint that comes after it
pub piece_out : (cutter later : Cutter) (bytes : List ℕ) (c : ℕ) (stand : Stand) → HasRead cutter bytes → cutter.fields < 9 → c ≡ 43 → step default_config (state_of cutter.stand) c ≡ (state_of stand, act.Copy)
    → ¬ (stand ≡ QuoteRead) → 0 < cutter.joint.different → cutter.joint.stand ≡ cutter.stand → has_joint (take cutter.joint.field cutter.field.items) ≡ true
    → (is_among (pieces_of (take cutter.joint.field cutter.field.items)) (drop (cutter.joint.field + 1) cutter.field.items) ≡ true) ⊎ (RESOURCES < cutter.joint.different)
    → later.kept.items ≡ take (cutter.joint.kept + 1) cutter.kept.items → later.field.items ≡ take (cutter.joint.field + 1) cutter.field.items → later.stand ≡ stand → later.piece ≡ 0 → later.fields ≡ cutter.fields → later.joint ≡ cutter.joint
    → HasRead later (bytes ++ c ∷ [])
piece_out cutter later bytes c stand so_far room joint_byte is no_quote some same_stand two nothing kept field stands piece fields joint =
    let j = last_joint cutter.joint cutter.kept.items so_far.cut so_far.left some so_far.joint in
    let many = so_far.many in
    let many_kept = so_far.many_kept in
    let front : take cutter.joint.field cutter.field.items ≡ j.front = ap (take cutter.joint.field) so_far.same ∙ front_is cutter.joint cutter.kept.items so_far.cut so_far.left j in
    let last : drop (cutter.joint.field + 1) cutter.field.items ≡ j.piece = ap (drop (cutter.joint.field + 1)) so_far.same ∙ piece_is cutter.joint cutter.kept.items so_far.cut so_far.left j in
    let kept_is : later.kept.items ≡ j.before ++ 43 ∷ [] = kept ∙ kept_joined cutter.joint cutter.kept.items so_far.cut so_far.left j in
    let field_is : later.field.items ≡ j.front ++ 43 ∷ [] = field ∙ ap (take (cutter.joint.field + 1)) so_far.same ∙ front_joined cutter.joint cutter.kept.items so_far.cut so_far.left j in
    let fed : Feeds default_config st.StartRecord [] [] (j.before ++ 43 ∷ []) (state_of stand) so_far.cut (j.front ++ 43 ∷ []) false =
    fed_more j.before (state_of cutter.joint.stand) (state_of stand) so_far.cut j.front 43 act.Copy j.fed (ap (λ (s : Stand). step default_config (state_of s) 43) same_stand ∙ ap (step default_config (state_of cutter.stand)) (sym joint_byte) ∙ is) refl in
    record {
      row = so_far.row;
      field = so_far.field ++ c ∷ [];
      cut = so_far.cut;
      left = j.front ++ 43 ∷ [];
      whole = subst (λ (t : Stand). Feeds default_config st.StartRecord [] [] (bytes ++ c ∷ []) (state_of t) so_far.row (so_far.field ++ c ∷ []) false) (sym stands)
          (fed_more bytes (state_of cutter.stand) (state_of stand) so_far.row so_far.field c act.Copy so_far.whole is refl);
      kept = subst (λ (xs : List ℕ). Feeds default_config st.StartRecord [] [] xs (kept_state later) so_far.cut (j.front ++ 43 ∷ []) false) (sym kept_is)
          (subst (λ (s : State). Feeds default_config st.StartRecord [] [] (j.before ++ 43 ∷ []) s so_far.cut (j.front ++ 43 ∷ []) false) (at_stand (nat_le 9 later.fields) refl) fed);
      part = subst (λ (b : ℕ). IsCutPart so_far.row (so_far.field ++ b ∷ []) so_far.cut (j.front ++ 43 ∷ [])) (sym joint_byte)
          (part_lacks so_far.row so_far.cut so_far.field so_far.left (j.front ++ 43 ∷ []) so_far.part (record {
            front = j.front;
            piece = j.piece;
            rest = [];
            whole = ap (λ (xs : List ℕ). xs ++ 43 ∷ []) j.left_is ∙ append_assoc j.front (43 ∷ j.piece) (43 ∷ []);
            left = refl;
            two = ap has_joint (sym front) ∙ two;
            one = j.one;
            nothing = by j.front j.piece j.differ (known (λ i. is_among (pieces_of (front i)) (last i)) nothing);
          }));
      few = omega (arith, piece);
      same = field_is;
      joint = subst (λ (xs : List ℕ). KnowsJoint later.joint xs so_far.cut (j.front ++ 43 ∷ [])) (sym kept_is)
          (subst (λ (k : Joint). KnowsJoint k (j.before ++ 43 ∷ []) so_far.cut (j.front ++ 43 ∷ [])) (sym joint) (inr (record {
            there = j.there;
            before = j.before;
            rest = [];
            kept_is = refl;
            kept_before = j.kept_before;
            front = j.front;
            piece = [];
            left_is = refl;
            left_before = j.left_before;
            one = refl;
            fed = j.fed;
            differ = j.differ;
          })));
      many = omega (arith, many, fields);
      many_kept = omega (arith, many_kept, fields);
      quoted = λ at _. absurd (no_quote (sym stands ∙ at));
    }
  where
    at_stand : (b : Bool) → nat_le 9 later.fields ≡ b → state_of stand ≡ cond b st.StartField (state_of later.stand)
    at_stand true h = let full = leb-true 9 later.fields h in absurd (omega (arith, full, room, fields))
    at_stand false h = ap state_of (sym stands)

    known : {a b : Bool} → a ≡ b → (a ≡ true) ⊎ (RESOURCES < cutter.joint.different) → (b ≡ true) ⊎ (RESOURCES < cutter.joint.different)
    known same (inl h) = inl (sym same ∙ h)
    known same (inr h) = inr h

    by : (front piece : List ℕ) → Differ cutter.joint.different (pieces_of front) → (is_among (pieces_of front) piece ≡ true) ⊎ (RESOURCES < cutter.joint.different) → (is_among (pieces_of front) piece ≡ true) ⊎ Differ (suc RESOURCES) (pieces_of front)
    by front piece d (inl h) = inl h
    by front piece d (inr h) = let e = d.enough in inr (record { some = d.some; differ = d.differ; among = d.among; enough = omega (arith, h, e) })

more_fields : (a : Action) (row : Row) (field : List ℕ) (n : ℕ) → n ≤ length row → n ≤ length (fields_after a row field)
more_fields act.Skip row field n few = few
more_fields act.Copy row field n few = few
more_fields act.EndField row field n few = let e = length-append row (field ∷ []) in omega (arith, few, e)
more_fields act.EndRecord row field n few = let e = length-append row (field ∷ []) in omega (arith, few, e)

-- a byte of a record that is full
pub full_more : (cutter later : Cutter) (bytes : List ℕ) (c : ℕ) (does : Does) → HasRead cutter bytes → 9 ≤ cutter.fields → step default_config (state_of cutter.stand) c ≡ (state_of later.stand, action_of does)
    → is_end (action_of does) ≡ false → later.kept ≡ cutter.kept → later.piece ≡ cutter.piece → later.fields ≡ cutter.fields → later.field ≡ cutter.field → later.joint ≡ cutter.joint → HasRead later (bytes ++ c ∷ [])
full_more cutter later bytes c does so_far full is goes kept piece fields field joint =
    let many = more_fields (action_of does) so_far.row so_far.field cutter.fields so_far.many in
    let many_kept = so_far.many_kept in
    let few = so_far.few in
    record {
      row = fields_after (action_of does) so_far.row so_far.field;
      field = field_after (action_of does) c so_far.field;
      cut = so_far.cut;
      left = so_far.left;
      whole = fed_more bytes (state_of cutter.stand) (state_of later.stand) so_far.row so_far.field c (action_of does) so_far.whole is goes;
      kept = subst (λ (xs : List ℕ). Feeds default_config st.StartRecord [] [] xs (kept_state later) so_far.cut so_far.left false) (ap (λ v. v.items) (sym kept))
          (subst (λ (b : Bool). Feeds default_config st.StartRecord [] [] cutter.kept.items (cond b st.StartField (state_of later.stand)) so_far.cut so_far.left false) (sym (ap (nat_le 9) fields ∙ le-leb 9 cutter.fields full))
          (subst (λ (b : Bool). Feeds default_config st.StartRecord [] [] cutter.kept.items (cond b st.StartField (state_of cutter.stand)) so_far.cut so_far.left false) (le-leb 9 cutter.fields full) so_far.kept));
      part = inr (omega (arith, full, many), omega (arith, full, many_kept));
      few = omega (arith, few, piece);
      same = ap (λ v. v.items) field ∙ so_far.same;
      joint = subst (λ (xs : List ℕ). KnowsJoint later.joint xs so_far.cut so_far.left) (ap (λ v. v.items) (sym kept)) (subst (λ (j : Joint). KnowsJoint j cutter.kept.items so_far.cut so_far.left) (sym joint) so_far.joint);
      many = omega (arith, many, fields);
      many_kept = omega (arith, many_kept, fields);
      quoted = λ _ room. absurd (omega (arith, full, room, fields));
    }

-- ---- before the first, and after the last

pub at_start : (cutter : Cutter) → cutter.kept.items ≡ [] → cutter.stand ≡ RecordStart → cutter.piece ≡ 0 → cutter.fields ≡ 0 → cutter.field.items ≡ [] → cutter.joint.different ≡ 0 → HasRead cutter []
unfolding Feeds
at_start cutter none start zero no_field empty no_joint = record {
  row = [];
  field = [];
  cut = [];
  left = [];
  whole = (ap state_of start, refl, refl, refl);
  kept = subst (λ (xs : List ℕ). Feeds default_config st.StartRecord [] [] xs (kept_state cutter) [] [] false) (sym none) ((λ i. cond (nat_le 9 (no_field i)) st.StartField (state_of (start i))), refl, refl, refl);
  part = inl (refl, (0, refl));
  few = omega (arith, zero);
  same = empty;
  joint = no_joint_yet cutter.joint cutter.kept.items [] no_joint;
  many = omega (arith, no_field);
  many_kept = omega (arith, no_field);
  quoted = λ at _. absurd (apart (sym start ∙ at));
}
  where
    apart : RecordStart ≡ QuoteRead → ⊥
    apart h = cc

pub cut_part : (cutter : Cutter) (bytes : List ℕ) → HasRead cutter bytes → cutter.fields < 9 → IsCutText bytes cutter.kept.items
cut_part cutter bytes b room = text_cut bytes cutter.kept.items (state_of cutter.stand) b.row b.cut b.field b.left b.whole (not_full cutter bytes b room) b.part

-- a record that is full, with what leads from the beginning of a field to where it stands
full_feeds : (cutter : Cutter) (bytes : List ℕ) (b : HasRead cutter bytes) → 9 ≤ cutter.fields → Feeds default_config st.StartRecord [] [] cutter.kept.items st.StartField b.cut b.left false
full_feeds cutter bytes b full = subst (λ (x : Bool). Feeds default_config st.StartRecord [] [] cutter.kept.items (cond x st.StartField (state_of cutter.stand)) b.cut b.left false) (le-leb 9 cutter.fields full) b.kept

full_text : (cutter : Cutter) (bytes short : List ℕ) (s : State) (left : List ℕ) (b : HasRead cutter bytes) → 9 ≤ cutter.fields → state_of cutter.stand ≡ s → Feeds default_config st.StartRecord [] [] short s b.cut left false → IsCutText bytes short
full_text cutter bytes short s left b full stands fed =
    let many = b.many in
    let many_kept = b.many_kept in
    text_cut bytes short s b.row b.cut b.field left (subst (λ (t : State). Feeds default_config st.StartRecord [] [] bytes t b.row b.field false) stands b.whole) fed (inr (omega (arith, full, many), omega (arith, full, many_kept)))

pub full_start : (cutter : Cutter) (bytes : List ℕ) → HasRead cutter bytes → 9 ≤ cutter.fields → cutter.stand ≡ FieldStart → IsCutText bytes cutter.kept.items
full_start cutter bytes b full at = full_text cutter bytes cutter.kept.items st.StartField b.left b full (ap state_of at) (full_feeds cutter bytes b full)

pub full_bare : (cutter : Cutter) (bytes short : List ℕ) → HasRead cutter bytes → 9 ≤ cutter.fields → cutter.stand ≡ Bare → short ≡ cutter.kept.items ++ 48 ∷ [] → IsCutText bytes short
full_bare cutter bytes short b full at is =
    full_text cutter bytes short st.InField (b.left ++ 48 ∷ []) b full (ap state_of at)
    (subst (λ (xs : List ℕ). Feeds default_config st.StartRecord [] [] xs st.InField b.cut (b.left ++ 48 ∷ []) false) (sym is) (fed_more cutter.kept.items st.StartField st.InField b.cut b.left 48 act.Copy (full_feeds cutter bytes b full) refl refl))

quote_fed : (cutter : Cutter) (bytes : List ℕ) (b : HasRead cutter bytes) → 9 ≤ cutter.fields → Feeds default_config st.StartRecord [] [] (cutter.kept.items ++ 34 ∷ []) st.InQuoted b.cut b.left false
quote_fed cutter bytes b full = fed_more cutter.kept.items st.StartField st.InQuoted b.cut b.left 34 act.Skip (full_feeds cutter bytes b full) refl refl

pub full_quoted : (cutter : Cutter) (bytes short : List ℕ) → HasRead cutter bytes → 9 ≤ cutter.fields → cutter.stand ≡ Quoted → short ≡ cutter.kept.items ++ 34 ∷ [] → IsCutText bytes short
full_quoted cutter bytes short b full at is =
    full_text cutter bytes short st.InQuoted b.left b full (ap state_of at) (subst (λ (xs : List ℕ). Feeds default_config st.StartRecord [] [] xs st.InQuoted b.cut b.left false) (sym is) (quote_fed cutter bytes b full))

pub full_quote : (cutter : Cutter) (bytes front short : List ℕ) → HasRead cutter bytes → 9 ≤ cutter.fields → cutter.stand ≡ QuoteRead → front ≡ cutter.kept.items ++ 34 ∷ [] → short ≡ front ++ 34 ∷ [] → IsCutText bytes short
full_quote cutter bytes front short b full at front_is is =
    full_text cutter bytes short st.AfterQuote b.left b full (ap state_of at)
    (subst (λ (xs : List ℕ). Feeds default_config st.StartRecord [] [] xs st.AfterQuote b.cut b.left false) (sym (is ∙ ap (λ (xs : List ℕ). xs ++ 34 ∷ []) front_is))
    (fed_more (cutter.kept.items ++ 34 ∷ []) st.InQuoted st.AfterQuote b.cut b.left 34 act.Skip (quote_fed cutter bytes b full) refl refl))
