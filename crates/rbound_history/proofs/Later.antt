-- What is known of a shape stays as a history goes on: its place, which requests have it, and the numbers of its asks.
use Rattle.std.proofs.Common.{◌≡◌, ◌+◌, ◌||◌, ℕ, zero, suc, Bool, true, false, cond, not, List, [], ◌∷◌, ◌++◌, slice_get, Some, refl, sym, ap, subst, ◌∙◌, inl, inr, arith, append_assoc}
use Rattle.std.specs.List.{list_any, position_or_len}
use Rattle.std.proofs.lemmas.List.{append-nil}
use Rattle.rset.specs.Sets.{Set, equals}
use Rattle.rset.specs.SetFacts.{equals-true, equals_itself}
use Rattle.rclaim.specs.Requests.{RequestFields}
use Rattle.rclaim.specs.declared.event.Event.{Event}
use Rattle.rclaim.specs.declared.event.Event.TheVariants.{Issue, Finish, Rise, Ask}
use Rattle.rmodel.proofs.ListFacts.{Among, contrary}
use Rattle.rbound.specs.Needs.{RequestNeeds}
use Rattle.rbound.proofs.ClaimFacts.{some_is}
use Rattle.rbound_history.specs.Shapes.{Shape, has_shape, with_part, with_parts, joined, with_needed, with_shape_ask, shape_index, parts_of, task_at}
use Rattle.rbound_history.proofs.ShapeRequests.{some_none}
use Rattle.rbound_history.specs.History.{shapes_told}
use Rattle.rbound_history.proofs.OneMore.{shapes_issue, shapes_finish, shapes_rise, shapes_ask, shapes_ask_none, issue_or_none}
use Rattle.rbound_history.proofs.RequestPlaces.{is_known}

-- ---- a shape

-- a shape became another: it is that of the same requests, and may ask for more sets after the others
pub record HasBecome (s x : Shape) : Type 0 where
  pub task : x.task ≡ s.task
  pub has : (t : ℕ) (r : RequestFields) → has_shape t r x ≡ has_shape t r s
  pub more : List Set
  pub asks : x.asks ≡ s.asks ++ more

become_itself : (s : Shape) → HasBecome s s
become_itself s = record { task = refl; has = λ t r. refl; more = []; asks = sym (append-nil s.asks) }

become_on : (s x y : Shape) → HasBecome s x → HasBecome x y → HasBecome s y
become_on s x y a b = record {
  task = b.task ∙ a.task;
  has = λ t r. b.has t r ∙ a.has t r;
  more = a.more ++ b.more;
  asks = b.asks ∙ ap (λ (parts : List Set). parts ++ b.more) a.asks ∙ append_assoc s.asks a.more b.more;
}

part_more : (asks : List Set) (part : Set) → (more : List Set) × (with_part asks part ≡ asks ++ more)
part_more asks part = at (list_any (equals part) asks)
  where
    at : (b : Bool) → (more : List Set) × (cond b asks (asks ++ part ∷ []) ≡ asks ++ more)
    at true = ([], sym (append-nil asks))
    at false = (part ∷ [], refl)

parts_more : (parts asks : List Set) → (more : List Set) × (with_parts asks parts ≡ asks ++ more)
parts_more [] asks = ([], sym (append-nil asks))
parts_more (p ∷ ps) asks =
    let one = part_more asks p in
    let rest = parts_more ps (with_part asks p) in
    (one.0 ++ rest.0, rest.1 ∙ ap (λ (parts : List Set). parts ++ rest.0) one.1 ∙ append_assoc asks one.0 rest.0)

become_joined : (s : Shape) (n : RequestNeeds) → HasBecome s (joined s n)
become_joined s n = let more = parts_more n.asks s.asks in record { task = refl; has = λ t r. refl; more = more.0; asks = more.1 }

become_asked : (s : Shape) (part : Set) → HasBecome s (record s { asks = with_part s.asks part })
become_asked s part = let more = part_more s.asks part in record { task = refl; has = λ t r. refl; more = more.0; asks = more.1 }

-- ---- shapes

-- each shape stays at its place
abbrev pub HaveBecome : List Shape → List Shape → Type 0
HaveBecome shapes later = (place : ℕ) (s : Shape) → slice_get shapes place ≡ Some s → (x : Shape) × (slice_get later place ≡ Some x) × HasBecome s x

all_themselves : (shapes : List Shape) → HaveBecome shapes shapes
all_themselves shapes place s at = (s, at, become_itself s)

all_with : (shapes : List Shape) (t : ℕ) (n : RequestNeeds) → HaveBecome shapes (with_needed shapes t n)
all_with [] t n place s at = some_none (sym at)
all_with (y ∷ ss) t n place s at = by (has_shape t n.request y) place at (all_with ss t n)
  where
    by : (b : Bool) (place : ℕ) → slice_get (y ∷ ss) place ≡ Some s → HaveBecome ss (with_needed ss t n) → (x : Shape) × (slice_get (cond b (joined y n ∷ ss) (y ∷ with_needed ss t n)) place ≡ Some x) × HasBecome s x
    by true zero at rest = (joined y n, refl, subst (λ (z : Shape). HasBecome z (joined y n)) (some_is at) (become_joined y n))
    by true (suc place) at rest = (s, at, become_itself s)
    by false zero at rest = (s, at, become_itself s)
    by false (suc place) at rest = rest place s at

all_asked : (shapes : List Shape) (at_place : ℕ) (part : Set) → HaveBecome shapes (with_shape_ask shapes at_place part)
all_asked [] p part place s at = some_none (sym at)
all_asked (y ∷ ss) zero part zero s at = (record y { asks = with_part y.asks part }, refl, subst (λ (z : Shape). HasBecome z (record y { asks = with_part y.asks part })) (some_is at) (become_asked y part))
all_asked (y ∷ ss) zero part (suc place) s at = (s, at, become_itself s)
all_asked (y ∷ ss) (suc p) part zero s at = (s, at, become_itself s)
all_asked (y ∷ ss) (suc p) part (suc place) s at = all_asked ss p part place s at

all_by : (shapes later : List Shape) → later ≡ shapes → HaveBecome shapes later
all_by shapes later same = subst (HaveBecome shapes) (sym same) (all_themselves shapes)

one_event : (es : List Event) (e : Event) → HaveBecome (shapes_told es) (shapes_told (es ++ e ∷ []))
one_event es (Issue seat r) = subst (HaveBecome (shapes_told es)) (sym (shapes_issue es seat r)) (all_with (shapes_told es) seat (record { request = r; asks = [] }))
one_event es (Finish seat) = all_by (shapes_told es) (shapes_told (es ++ Finish seat ∷ [])) (shapes_finish es seat)
one_event es (Rise seat) = all_by (shapes_told es) (shapes_told (es ++ Rise seat ∷ [])) (shapes_rise es seat)
one_event es (Ask seat part) =
    elim (issue_or_none seat es) [
      | inl some ↦ subst (HaveBecome (shapes_told es)) (sym (shapes_ask es seat part some.0 some.1)) (all_asked (shapes_told es) (shape_index (shapes_told es) seat some.0) part)
      | inr none ↦ all_by (shapes_told es) (shapes_told (es ++ Ask seat part ∷ [])) (shapes_ask_none es seat part none)
    ]

-- *Each shape of a history stays at its place, whatever comes*
pub shapes_stay : (rest es : List Event) → HaveBecome (shapes_told es) (shapes_told (es ++ rest))
shapes_stay [] es = all_by (shapes_told es) (shapes_told (es ++ [])) (ap (λ (ds : List Event). shapes_told ds) (append-nil es))
shapes_stay (e ∷ rest) es =
    subst (λ (ds : List Event). HaveBecome (shapes_told es) (shapes_told ds)) (append_assoc es (e ∷ []) rest)
    (λ place s at.
    let one = one_event es e place s at in
    let on = shapes_stay rest (es ++ e ∷ []) place one.0 one.1 in
    (on.0, on.1, become_on s one.0 on.0 one.2 on.2))

-- ---- what is found at a place

pub shape_found : (shapes : List Shape) (t : ℕ) (r : RequestFields) → is_known shapes t r ≡ true → (s : Shape) × (slice_get shapes (shape_index shapes t r) ≡ Some s) × (has_shape t r s ≡ true)
shape_found [] t r known = contrary false known refl
shape_found (y ∷ ss) t r known = at (has_shape t r y) refl known (shape_found ss t r)
  where
    next : (p : ℕ) → 1 + p ≡ suc p
    next p = omega arith

    at : (b : Bool) → has_shape t r y ≡ b → (b || is_known ss t r) ≡ true → (is_known ss t r ≡ true → (s : Shape) × (slice_get ss (shape_index ss t r) ≡ Some s) × (has_shape t r s ≡ true))
        → (s : Shape) × (slice_get (y ∷ ss) (cond (not b) (1 + shape_index ss t r) 0) ≡ Some s) × (has_shape t r s ≡ true)
    at true has is rest = (y, refl, has)
    at false apart is rest = let found = rest is in (found.0, ap (slice_get (y ∷ ss)) (next (shape_index ss t r)) ∙ found.1, found.2)

pub parts_at : (shapes : List Shape) (place : ℕ) (s : Shape) → slice_get shapes place ≡ Some s → parts_of shapes place ≡ s.asks
parts_at [] place s at = some_none (sym at)
parts_at (y ∷ ss) zero s at = ap (λ (z : Shape). z.asks) (some_is at)
parts_at (y ∷ ss) (suc place) s at = parts_at ss place s at

pub task_is : (shapes : List Shape) (place : ℕ) (s : Shape) → slice_get shapes place ≡ Some s → task_at shapes place ≡ s.task
task_is [] place s at = some_none (sym at)
task_is (y ∷ ss) zero s at = ap (λ (z : Shape). z.task) (some_is at)
task_is (y ∷ ss) (suc place) s at = task_is ss place s at

pub part_found : (asks : List Set) (part : Set) → Among part asks → slice_get asks (position_or_len (equals part) asks) ≡ Some part
part_found [] part there = absurd there
part_found (y ∷ ys) part there = at (equals part y) refl there (part_found ys part)
  where
    next : (p : ℕ) → 1 + p ≡ suc p
    next p = omega arith

    at : (b : Bool) → equals part y ≡ b → Among part (y ∷ ys) → (Among part ys → slice_get ys (position_or_len (equals part) ys) ≡ Some part) → slice_get (y ∷ ys) (cond (not b) (1 + position_or_len (equals part) ys) 0) ≡ Some part
    at true is there rest = ap (λ (x : Set). Some x) (sym (equals-true part y is))
    at false other (inl same) rest = contrary (equals part y) (ap (equals part) (sym same) ∙ equals_itself part) other
    at false other (inr later) rest = ap (slice_get (y ∷ ys)) (next (position_or_len (equals part) ys)) ∙ rest later

pub found_still : {X : Type 0} (xs more : List X) (k : ℕ) (x : X) → slice_get xs k ≡ Some x → slice_get (xs ++ more) k ≡ Some x
found_still [] more k x at = some_none (sym at)
found_still (y ∷ ys) more zero x at = at
found_still (y ∷ ys) more (suc k) x at = found_still ys more k x at
