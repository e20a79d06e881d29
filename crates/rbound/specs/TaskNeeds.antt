-- What the tasks need, as contracts see it, and how it grows.
use Rattle.std.specs.Prelude.{ℕ, zero, suc, Bool, false, Option, Some, None, List, [], ◌∷◌, ◌++◌, length, replicate, slice_get, slice_index_or, option_map, refl}
use Rattle.std.specs.Coded.{Coded, code_by, coded×, coded_list}
use Rattle.rset.specs.Sets.{Set}
use Rattle.rmodel.specs.Groups.{ReadGroups}
use Rattle.rmodel.specs.GroupCodes.{groups_code}
use Rattle.rclaim.specs.Codes.{set_code}
use Rattle.rclaim.specs.Requests.{RequestFields, request_code}
use Rattle.rclaim.specs.declared.request.Kind.{Kind}
use Rattle.rmodel.specs.Claims.{is_nested}
use Rattle.rbound.specs.Needs.{Needed, Needs, RequestNeeds, all_needed}
use Rattle.rbound.specs.Bounds.{Numbers, no_wait, first_bound, rise_bound, ask_bound_of}
use Rattle.rbound.specs.declared.which.Which.{Which}
use Rattle.rbound.specs.declared.which.Which.TheVariants.{First, Rise, Ask}

-- the groups, and for each task by number its requests with their asks, in order
pub record TaskNeeds : Type 0 where
  pub groups : ReadGroups
  pub tasks : Needs

abbrev pub request_needs_code : Coded RequestNeeds
request_needs_code =
    code_by (RequestFields × List Set) (coded× request_code (coded_list set_code)) (λ n. (n.request, n.asks)) (λ p. record { request = p.0; asks = p.1 }) (λ _. refl)

-- they are coded as the pair of both
abbrev pub task_needs_code : Coded TaskNeeds
task_needs_code =
    code_by (ReadGroups × Needs) (coded× groups_code (coded_list (coded_list request_needs_code))) (λ n. (n.groups, n.tasks)) (λ p. record { groups = p.0; tasks = p.1 }) (λ _. refl)

-- no task needs anything
abbrev pub none_needed : ℕ → Needs
none_needed tasks = replicate tasks []

-- a request without asks, after the others of a task
abbrev pub with_request : Needs → ℕ → RequestFields → Needs
with_request [] task r = []
with_request (ns ∷ rest) zero r = (ns ++ record { request = r; asks = [] } ∷ []) ∷ rest
with_request (ns ∷ rest) (suc task) r = ns ∷ with_request rest task r

-- a set that the last of these requests asks for, after its other asks
abbrev pub with_last_ask : List RequestNeeds → Set → List RequestNeeds
with_last_ask [] part = []
with_last_ask (n ∷ []) part = record { request = n.request; asks = n.asks ++ part ∷ [] } ∷ []
with_last_ask (n ∷ m ∷ ns) part = n ∷ with_last_ask (m ∷ ns) part

-- the same for the last request of a task
abbrev pub with_ask : Needs → ℕ → Set → Needs
with_ask [] task part = []
with_ask (ns ∷ rest) zero part = with_last_ask ns part ∷ rest
with_ask (ns ∷ rest) (suc task) part = ns ∷ with_ask rest task part

-- the last of these requests is nested
abbrev pub last_is_nested : List RequestNeeds → Bool
last_is_nested [] = false
last_is_nested (n ∷ []) = is_nested n.request.kind
last_is_nested (n ∷ m ∷ ns) = last_is_nested (m ∷ ns)

-- the requests of a task
abbrev pub requests_of : Needs → ℕ → List RequestNeeds
requests_of needs task = slice_index_or needs task []

-- the sets that a request asks for, none where there is no such request
abbrev pub asks_of : Option RequestNeeds → List Set
asks_of None = []
asks_of (Some n) = n.asks

abbrev pub asks_at : Needs → ℕ → ℕ → List Set
asks_at needs task number = asks_of (slice_get (requests_of needs task) number)

-- a request, where there is one
abbrev pub request_at : Needs → ℕ → ℕ → Option RequestFields
request_at needs task number = option_map (λ n. n.request) (slice_get (requests_of needs task) number)

-- the kind of a request, where there is one
abbrev pub kind_at : Needs → ℕ → ℕ → Option Kind
kind_at needs task number = option_map (λ n. n.request.kind) (slice_get (requests_of needs task) number)

-- the claims that are needed
abbrev pub needed_in : TaskNeeds → List Needed
needed_in n = all_needed n.groups.groups n.tasks

-- the bound of an ask, where there is one
abbrev pub bound_of_part : List Needed → ℕ → ℕ → Option Set → Numbers
bound_of_part ns task number None = no_wait
bound_of_part ns task number (Some part) = ask_bound_of ns task number part

-- the bound of a wait of a request of a task
abbrev pub bound_of : TaskNeeds → ℕ → ℕ → ℕ → Which → Numbers
bound_of n cap task number First = first_bound (needed_in n) (length n.tasks) cap task number
bound_of n cap task number Rise = rise_bound (needed_in n) (length n.tasks) cap task number
bound_of n cap task number (Ask i) = bound_of_part (needed_in n) task number (slice_get (asks_at n.tasks task number) i)
