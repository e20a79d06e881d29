-- The sets that a seat asked for, by a list of events: those since its last issue, and those after the issue of a number.
use Rattle.std.proofs.Common.{◌≡◌, ◌<◌, ℕ, zero, suc, ◌+◌, ◌==◌, Bool, true, false, cond, List, [], ◌∷◌, ◌++◌, length, fold, Some, refl, sym, ap, subst, ◌∙◌, arith, append_assoc, length-append}
use Rattle.std.specs.List.{slice_get}
use Rattle.std.proofs.lemmas.Bool.{eq-eqb}
use Rattle.std.proofs.lemmas.Option.{slice_get-get_or}
use Rattle.std.proofs.Math.Seq.{get_or-append_seam}
use Rattle.std.proofs.lemmas.List.Sums.{fold_push}
use Rattle.rset.specs.Sets.{Set}
use Rattle.rclaim.specs.Requests.{RequestFields}
use Rattle.rclaim.specs.declared.event.Event.{Event}
use Rattle.rclaim.specs.declared.event.Event.TheVariants.{Issue, Finish, Rise, Ask}
use Rattle.rbound.specs.Needs.{RequestNeeds}
use Rattle.rcover_laws.specs.History.{asks_of, requests_of, number_from, count_ask, asks_since}
use Rattle.rcover_laws.proofs.bounds.Issued.{IsIssueAt}

-- ---- since the last issue

-- the sets that a seat asked for since its last issue, once an event comes
abbrev pub more_asked : ℕ → List Set → Event → List Set
more_asked task parts (Issue seat r) = cond (seat == task) [] parts
more_asked task parts (Finish seat) = parts
more_asked task parts (Rise seat) = parts
more_asked task parts (Ask seat part) = cond (seat == task) (parts ++ part ∷ []) parts

abbrev pub asked_since : ℕ → List Event → List Set
asked_since task es = fold (more_asked task) [] es

pub asked_push : (task : ℕ) (es : List Event) (e : Event) → asked_since task (es ++ e ∷ []) ≡ more_asked task (asked_since task es) e
asked_push task es e = fold_push (more_asked task) [] es e

-- there are as many as are counted
as_many : (task : ℕ) (parts : List Set) (n : ℕ) (es : List Event) → length parts ≡ n → length (fold (more_asked task) parts es) ≡ fold (count_ask task) n es
as_many task parts n [] same = same
as_many task parts n (e ∷ es) same = as_many task (more_asked task parts e) (count_ask task n e) es (one e)
  where
    of_issue : (b : Bool) → length (cond b [] parts) ≡ cond b 0 n
    of_issue true = refl
    of_issue false = same

    of_ask : (b : Bool) (part : Set) → length (cond b (parts ++ part ∷ []) parts) ≡ cond b (n + 1) n
    of_ask true part = let longer = length-append parts (part ∷ []) in omega (arith, longer, same)
    of_ask false part = same

    one : (e : Event) → length (more_asked task parts e) ≡ count_ask task n e
    one (Issue seat r) = of_issue (seat == task)
    one (Finish seat) = same
    one (Rise seat) = same
    one (Ask seat part) = of_ask (seat == task) part

pub asked_count : (task : ℕ) (es : List Event) → length (asked_since task es) ≡ asks_since task es
asked_count task es = as_many task [] 0 es refl

-- ---- after the issue of a number

-- the sets that the seat asks for after the issue of this number, until its next issue
abbrev pub asks_behind : List Event → ℕ → ℕ → List Set
asks_behind [] stamp task = []
asks_behind (Issue seat r ∷ es) zero task = asks_of task es
asks_behind (Issue seat r ∷ es) (suc stamp) task = asks_behind es stamp task
asks_behind (Finish seat ∷ es) stamp task = asks_behind es stamp task
asks_behind (Rise seat ∷ es) stamp task = asks_behind es stamp task
asks_behind (Ask seat part ∷ es) stamp task = asks_behind es stamp task

-- that issue is among the requests of its seat, with these asks
pub request_asks : (es : List Event) (k seat : ℕ) (r : RequestFields) → IsIssueAt es k seat r → slice_get (requests_of seat es) (number_from es k seat) ≡ Some (record { request = r; asks = asks_behind es k seat })
request_asks [] k seat r at = absurd at
request_asks (Issue t q ∷ es) zero seat r at =
    subst (λ (b : Bool). slice_get (cond b (record { request = q; asks = asks_of seat es } ∷ requests_of seat es) (requests_of seat es)) 0 ≡ Some (record { request = r; asks = asks_of seat es }))
    (sym (eq-eqb t seat at.0)) (ap (λ (p : RequestFields). let n : RequestNeeds = record { request = p; asks = asks_of seat es } in Some n) at.1)
request_asks (Issue t q ∷ es) (suc k) seat r at = at_next (t == seat) (request_asks es k seat r at)
  where
    at_next : (b : Bool) → slice_get (requests_of seat es) (number_from es k seat) ≡ Some (record { request = r; asks = asks_behind es k seat })
        → slice_get (cond b (record { request = q; asks = asks_of seat es } ∷ requests_of seat es) (requests_of seat es)) (cond b (suc (number_from es k seat)) (number_from es k seat)) ≡ Some (record { request = r; asks = asks_behind es k seat })
    at_next true h = h
    at_next false h = h
request_asks (Finish t ∷ es) k seat r at = request_asks es k seat r at
request_asks (Rise t ∷ es) k seat r at = request_asks es k seat r at
request_asks (Ask t part ∷ es) k seat r at = request_asks es k seat r at

-- the number of issues in a list
abbrev pub issues : List Event → ℕ
issues [] = 0
issues (Issue seat r ∷ es) = suc (issues es)
issues (Finish seat ∷ es) = issues es
issues (Rise seat ∷ es) = issues es
issues (Ask seat part ∷ es) = issues es

pub issues_push : (es : List Event) (e : Event) → issues (es ++ e ∷ []) ≡ issues es + issues (e ∷ [])
issues_push [] e = omega arith
issues_push (Issue seat r ∷ es) e = let rest = issues_push es e in omega (arith, rest)
issues_push (Finish seat ∷ es) e = issues_push es e
issues_push (Rise seat ∷ es) e = issues_push es e
issues_push (Ask seat part ∷ es) e = issues_push es e

-- the next issue after a list has the number of those in it
pub asks_next : (es ds : List Event) (seat task : ℕ) (r : RequestFields) → asks_behind (es ++ Issue seat r ∷ ds) (issues es) task ≡ asks_of task ds
asks_next [] ds seat task r = refl
asks_next (Issue t q ∷ es) ds seat task r = asks_next es ds seat task r
asks_next (Finish t ∷ es) ds seat task r = asks_next es ds seat task r
asks_next (Rise t ∷ es) ds seat task r = asks_next es ds seat task r
asks_next (Ask t part ∷ es) ds seat task r = asks_next es ds seat task r

-- and belongs to its seat
pub issue_next : (es ds : List Event) (seat : ℕ) (r : RequestFields) → IsIssueAt (es ++ Issue seat r ∷ ds) (issues es) seat r
issue_next [] ds seat r = (refl, refl)
issue_next (Issue t q ∷ es) ds seat r = issue_next es ds seat r
issue_next (Finish t ∷ es) ds seat r = issue_next es ds seat r
issue_next (Rise t ∷ es) ds seat r = issue_next es ds seat r
issue_next (Ask t part ∷ es) ds seat r = issue_next es ds seat r

-- ---- from one event to the next

-- an event is an issue of this seat
abbrev pub is_issue_of : ℕ → Event → Bool
is_issue_of task (Issue seat r) = seat == task
is_issue_of task (Finish seat) = false
is_issue_of task (Rise seat) = false
is_issue_of task (Ask seat part) = false

pub asks_on : (task : ℕ) (e : Event) → is_issue_of task e ≡ false → (parts : List Set) (es : List Event) → parts ++ asks_of task (e ∷ es) ≡ more_asked task parts e ++ asks_of task es
asks_on task (Issue seat r) off parts es = (λ i. parts ++ cond (off i) [] (asks_of task es)) ∙ (λ i. cond (sym off i) [] parts ++ asks_of task es)
asks_on task (Finish seat) off parts es = refl
asks_on task (Rise seat) off parts es = refl
asks_on task (Ask seat part) off parts es = at (seat == task)
  where
    at : (b : Bool) → parts ++ cond b (part ∷ asks_of task es) (asks_of task es) ≡ cond b (parts ++ part ∷ []) parts ++ asks_of task es
    at true = sym (append_assoc parts (part ∷ []) (asks_of task es))
    at false = refl

-- the last of some sets is at the number of those before it
pub last_at : (before : List Set) (part : Set) (behind : List Set) → slice_get ((before ++ part ∷ []) ++ behind) (length before) ≡ Some part
last_at before part behind =
    let longer = length-append before (part ∷ behind) in
    let within : length before < length (before ++ part ∷ behind) = omega (arith, longer) in
    ap (λ (parts : List Set). slice_get parts (length before)) (append_assoc before (part ∷ []) behind)
    ∙ slice_get-get_or (before ++ part ∷ behind) (length before) part within
    ∙ ap (λ (p : Set). Some p) (get_or-append_seam before part behind part)
