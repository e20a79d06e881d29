-- A bound is the same from needs and from their shapes.
use Rattle.std.proofs.Common.{◌≡◌, ◌<◌, ◌≤◌, ◌&&◌, ℕ, Bool, true, false, cond, List, length, slice_get, Option, Some, None, refl, sym, ap, subst, ◌∙◌, inl, arith, IsTrue}
use Rattle.rset.specs.Sets.{Set, all_below}
use Rattle.rexpand.specs.Groups.{ReadGroups}
use Rattle.rclaim.specs.Requests.{RequestFields, FitsKind, FitsFirst, FitsLater}
use Rattle.std.specs.FinSet.{union}
use Rattle.rclaim.specs.declared.TheConstants.{LENGTH_LIMIT}
use Rattle.rclaim.specs.declared.claim.Claim.{Claim}
use Rattle.rclaim.specs.declared.request.Kind.{Kind}
use Rattle.rmodel.specs.Claims.{is_upgrade}
use Rattle.rmodel.specs.WellFormed.{Among}
use Rattle.rmodel.proofs.settling.OneSettlement.{both_cases}
use Rattle.rbound.specs.Needs.{Needed, RequestNeeds, Needs, length_of, needed_of, all_needed, write_need}
use Rattle.rbound.specs.TaskNeeds.{requests_of, asks_of, bound_of, bound_of_part}
use Rattle.rbound.specs.Bounds.{bound_of_first, bound_of_rise, bound_of_ask}
use Rattle.rbound.specs.Kept.{IsFine, AreFine, write_among}
use Rattle.rbound.specs.Sound.{AreSound}
use Rattle.rbound.specs.declared.which.Which.{Which}
use Rattle.rbound.specs.declared.which.Which.TheVariants.{First, Rise, Ask}
use Rattle.rbound.proofs.ClaimFacts.{Made, made_of, needed_there}
use Rattle.rbound.proofs.SoundNeeds.{are_sound}
use Rattle.rbound.proofs.RequestClaims.{first_is, write_is}
use Rattle.rbound_history.specs.Shapes.{Shape}
use Rattle.rbound_history.specs.ShapeNeeds.{needs_of_shapes, number_before}
use Rattle.rbound_history.specs.Histories.{SomeRequest, IsNeededBy, HaveShapes}
use Rattle.rbound_history.specs.Promises.{IsSameWait, BoundsAreOfShapes}
use Rattle.rbound_history.proofs.AlikeClaims.{HasLike, HasAll, first_same, write_same, ask_same}
use Rattle.rbound_history.proofs.SameShapes.{Alike, alike_back, is_of, counterpart, SameWrites, Heads, heads_of}
use Rattle.rbound_history.proofs.ShapeRequests.{at_among, among_at, task_there, fine_of, request_of, requests_at, tasks_at, from_shape, of_shapes, placed, fine_shapes}

-- ---- claims of one list of needs in another

carried_to : (groups : List Set) (needs others : Needs) (n : Needed) (m : Made groups needs n.claim.seat n) (x : RequestNeeds) → Among x (requests_of others n.claim.seat) → Alike m.request.request x.request
    → length_of m.request.request n.claim ≤ length_of x.request n.claim → HasLike (all_needed groups others) n
carried_to groups needs others n m x there same long =
    let at = among_at (requests_of others n.claim.seat) x there in
    let c = counterpart groups m.request.request x.request n.claim.seat n.claim.stamp at.0 same n m.is in
    record {
      like = c.like;
      there = needed_there groups others n.claim.seat at.0 x c.like (task_there others n.claim.seat x there) at.1 c.there;
      same = c.same;
      long = omega (arith, c.own_len, c.like_len, long);
    }

-- the length of a claim, by which of the two lengths it is
longer_of : (a b : RequestFields) (c : Claim) → a.len ≤ b.len → a.later ≤ b.later → length_of a c ≤ length_of b c
longer_of a b c len later = at (is_upgrade c.kind && c.write_half)
  where
    at : (h : Bool) → cond h a.later a.len ≤ cond h b.later b.len
    at true = later
    at false = len

module _ (groups : ReadGroups) (needs : Needs) (shapes : List Shape) (fine : AreFine groups.q needs) (have : HaveShapes needs shapes) where
  abbrev others : Needs
  others = needs_of_shapes (length needs) shapes

  shape_task : (s : Shape) → Among s shapes → s.task < length needs
  shape_task s there = let made = (have.made s there).len in task_there needs s.task made.request made.there

  onward : HasAll (all_needed groups.groups others) (all_needed groups.groups needs)
  onward n there =
      let m = made_of groups.groups needs n there in
      let t = have.told n.claim.seat m.request (at_among (requests_of needs n.claim.seat) n.claim.stamp m.request m.at) in
      let of = is_of n.claim.seat m.request.request t.0 t.2.same in
      carried_to groups.groups needs others n m (request_of t.0)
      (subst (λ (k : ℕ). Among (request_of t.0) (requests_of others k)) (sym of.task)
      (subst (λ (ns : List RequestNeeds). Among (request_of t.0) ns) (sym (requests_at (length needs) shapes t.0.task (shape_task t.0 t.1))) (of_shapes shapes t.0 t.1)))
      of.alike (longer_of m.request.request t.0.request n.claim t.2.len t.2.later)

  -- a claim of a shape is that of some request of this shape
  of_some : (n : Needed) (m : Made groups.groups others n.claim.seat n) (s : Shape) → s.task ≡ n.claim.seat → m.request ≡ request_of s → (is_so : RequestNeeds → Type 0) (x : SomeRequest (IsNeededBy needs) s is_so)
      → length_of s.request n.claim ≡ length_of x.request.request n.claim → HasLike (all_needed groups.groups needs) n
  of_some n m s task is is_so x len =
      let same = alike_back x.request.request s.request (is_of s.task x.request.request s x.same).alike in
      let own : length_of m.request.request n.claim ≡ length_of s.request n.claim = ap (λ (y : RequestNeeds). length_of y.request n.claim) is in
      carried_to groups.groups others needs n m x.request (subst (λ (k : ℕ). Among x.request (requests_of needs k)) task x.there)
      (subst (λ (y : RequestNeeds). Alike y.request x.request.request) (sym is) same)
      (omega (arith, own, len))

  backward : HasAll (all_needed groups.groups needs) (all_needed groups.groups others)
  backward n there =
      let m = made_of groups.groups others n there in
      let some : n.claim.seat < length needs = omega (arith, m.some, tasks_at (length needs) shapes) in
      let in_task = subst (λ (ns : List RequestNeeds). Among m.request ns) (requests_at (length needs) shapes n.claim.seat some) (at_among (requests_of others n.claim.seat) n.claim.stamp m.request m.at) in
      let found = from_shape shapes n.claim.seat m.request in_task in
      let made = have.made found.0 found.1 in
      both_cases (is_upgrade n.claim.kind && n.claim.write_half)
      (λ later. of_some n m found.0 found.2 found.3 (λ x. x.request.later ≡ found.0.request.later) made.later
      ((λ i. cond (later i) found.0.request.later found.0.request.len) ∙ sym made.later.so ∙ (λ i. cond (sym later i) made.later.request.request.later made.later.request.request.len)))
      (λ len. of_some n m found.0 found.2 found.3 (λ x. x.request.len ≡ found.0.request.len) made.len
      ((λ i. cond (len i) found.0.request.later found.0.request.len) ∙ sym made.len.so ∙ (λ i. cond (sym len i) made.len.request.request.later made.len.request.request.len)))

  -- ---- both are sound

  fine_shape : (s : Shape) → Among s shapes → IsFine groups.q s.request
  fine_shape s there =
      let made = have.made s there in
      let a = fine_of groups.q needs s.task made.len.request fine made.len.there in
      let b = fine_of groups.q needs s.task made.later.request fine made.later.there in
      let same = (is_of s.task made.len.request.request s made.len.same).alike in
      let kind = (is_of s.task made.later.request.request s made.later.same).alike.kind in
      record {
        normal = record {
          sets = (subst (λ (k : Kind). FitsKind k s.request.reads s.request.writes) same.kind (subst (λ (w : Set). FitsKind made.len.request.request.kind s.request.reads w) same.writes (subst (λ (w : Set). FitsKind made.len.request.request.kind w made.len.request.request.writes) same.reads a.normal.sets)));
          first =
              subst (λ (k : Kind). FitsFirst k (union s.request.reads s.request.writes) s.request.first) same.kind
              (subst (λ (f : Set). FitsFirst made.len.request.request.kind (union s.request.reads s.request.writes) f) same.first
              (subst (λ (w : Set). FitsFirst made.len.request.request.kind w made.len.request.request.first) (λ i. union (same.reads i) (same.writes i)) a.normal.first));
          len = subst (λ (l : ℕ). l ≤ LENGTH_LIMIT) made.len.so a.normal.len;
          later = subst (λ (l : ℕ). FitsLater s.request.kind l) made.later.so (subst (λ (k : Kind). FitsLater k made.later.request.request.later) kind b.normal.later);
        };
        reads = subst (λ (w : Set). IsTrue (all_below groups.q w)) same.reads a.reads;
        writes = subst (λ (w : Set). IsTrue (all_below groups.q w)) same.writes a.writes;
      }

  sound : AreSound (all_needed groups.groups needs) (length needs)
  sound = are_sound groups.groups groups.q needs fine

  sound_shapes : AreSound (all_needed groups.groups others) (length needs)
  sound_shapes =
      subst (λ (tasks : ℕ). AreSound (all_needed groups.groups others) tasks) (tasks_at (length needs) shapes)
      (are_sound groups.groups groups.q others (fine_shapes groups.q (length needs) shapes fine_shape))

  -- ---- each bound is the same

  rise_same : (cap : ℕ) (o p : Option Needed) → SameWrites o p → bound_of_rise (all_needed groups.groups needs) (length needs) cap o ≡ bound_of_rise (all_needed groups.groups others) (length needs) cap p
  rise_same cap None None same = refl
  rise_same cap None (Some m) same = absurd same
  rise_same cap (Some n) None same = absurd same
  rise_same cap (Some n) (Some m) same = write_same (all_needed groups.groups needs) (all_needed groups.groups others) onward backward (length needs) cap n.claim m.claim same

  asked_same : (part : Set) (o p : Option Needed) → SameWrites o p → bound_of_ask (all_needed groups.groups needs) part o ≡ bound_of_ask (all_needed groups.groups others) part p
  asked_same part None None same = refl
  asked_same part None (Some m) same = absurd same
  asked_same part (Some n) None same = absurd same
  asked_same part (Some n) (Some m) same = ask_same (all_needed groups.groups needs) (all_needed groups.groups others) onward backward n.claim m.claim part same

  module _ (cap k number : ℕ) (n : RequestNeeds) (s : Shape) (at : slice_get (requests_of needs s.task) k ≡ Some n) (at_like : slice_get (requests_of others s.task) number ≡ Some (request_of s)) (same : Alike n.request s.request) where
    abbrev heads : Heads (needed_of groups.groups s.task k n.request) (needed_of groups.groups s.task number s.request)
    heads = heads_of groups.groups n.request s.request s.task k number same

    abbrev ns : List Needed
    ns = all_needed groups.groups needs

    abbrev ms : List Needed
    ms = all_needed groups.groups others

    first_there : Among heads.first ns
    first_there =
        needed_there groups.groups needs s.task k n heads.first (task_there needs s.task n (at_among (requests_of needs s.task) k n at)) at
        (subst (λ (xs : List Needed). Among heads.first xs) heads.are (inl refl))

    written : write_need ns s.task k ≡ write_among heads.first heads.second
    written = write_is groups.groups needs s.task k n at heads.first heads.second heads.are

    written_like : write_need ms s.task number ≡ write_among heads.first_like heads.second_like
    written_like = write_is groups.groups others s.task number (request_of s) at_like heads.first_like heads.second_like heads.are_like

    bound_same : (which other : Which) → IsSameWait n.asks which s.asks other
        → bound_of (record { groups = groups; tasks = needs }) cap s.task k which ≡ bound_of (record { groups = groups; tasks = others }) cap s.task number other
    bound_same First other wait =
        ap (bound_of_first ns (length needs) cap) (first_is groups.groups needs s.task k n at heads.first heads.second heads.are)
        ∙ first_same (length needs) ns ms onward backward sound sound_shapes cap heads.first.claim heads.first_like.claim (sound.writes heads.first first_there) heads.same
        ∙ (λ i. bound_of_first ms (sym (tasks_at (length needs) shapes) i) cap (sym (first_is groups.groups others s.task number (request_of s) at_like heads.first_like heads.second_like heads.are_like) i))
        ∙ ap (bound_of (record { groups = groups; tasks = others }) cap s.task number) (sym wait)
    bound_same Rise other wait =
        ap (bound_of_rise ns (length needs) cap) written
        ∙ rise_same cap (write_among heads.first heads.second) (write_among heads.first_like heads.second_like) heads.writes
        ∙ (λ i. bound_of_rise ms (sym (tasks_at (length needs) shapes) i) cap (sym written_like i))
        ∙ ap (bound_of (record { groups = groups; tasks = others }) cap s.task number) (sym wait)
    bound_same (Ask a) other wait =
        ap (bound_of_part ns s.task k) (ap (λ o. slice_get (asks_of o) a) at ∙ wait.3)
        ∙ ap (bound_of_ask ns wait.1) written
        ∙ asked_same wait.1 (write_among heads.first heads.second) (write_among heads.first_like heads.second_like) heads.writes
        ∙ ap (bound_of_ask ms wait.1) (sym written_like)
        ∙ ap (bound_of_part ms s.task number) (sym (ap (λ o. slice_get (asks_of o) wait.0) at_like ∙ wait.4))
        ∙ ap (bound_of (record { groups = groups; tasks = others }) cap s.task number) (sym wait.2)

-- *Each bound is the same from needs and from their shapes*
pub bounds_are_of_shapes : BoundsAreOfShapes
bounds_are_of_shapes groups needs shapes fine have cap task k place n s which other at shape same wait =
    let of = is_of task n.request s same in
    let some = shape_task groups needs shapes fine have s (at_among shapes place s shape) in
    ap (λ t. bound_of (record { groups = groups; tasks = needs }) cap t k which) of.task
    ∙ bound_same groups needs shapes fine have cap k (number_before shapes s.task place) n s
    (subst (λ (t : ℕ). slice_get (requests_of needs t) k ≡ Some n) of.task at)
    (ap (λ ns. slice_get ns (number_before shapes s.task place)) (requests_at (length needs) shapes s.task some) ∙ placed shapes place s shape)
    of.alike which other wait
