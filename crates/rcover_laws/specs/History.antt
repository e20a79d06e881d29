-- What a history says of requests: which claims it makes needed, the length of each claim's section, and the number of a request among those of its
-- seat.
use Rattle.std.specs.Prelude.{ℕ, zero, suc, ◌+◌, ◌-◌, ◌==◌, List, [], ◌∷◌, fold, map, if◌then◌else◌}
use Rattle.std.specs.List.{range_with_len}
use Rattle.rset.specs.Sets.{Set}
use Rattle.rclaim.specs.declared.claim.Claim.{Claim}
use Rattle.rclaim.specs.declared.event.Event.{Event}
use Rattle.rclaim.specs.declared.event.Event.TheVariants.{Issue, Finish, Rise, Ask}
use Rattle.rbound.specs.Needs.{RequestNeeds, Needs, length_of}

-- the asks of a seat until its next issue
abbrev pub asks_of : ℕ → List Event → List Set
asks_of task [] = []
asks_of task (Issue seat r ∷ es) = if seat == task then [] else asks_of task es
asks_of task (Finish seat ∷ es) = asks_of task es
asks_of task (Rise seat ∷ es) = asks_of task es
asks_of task (Ask seat part ∷ es) = if seat == task then part ∷ asks_of task es else asks_of task es

-- the requests of a seat in order, each with its asks
abbrev pub requests_of : ℕ → List Event → List RequestNeeds
requests_of task [] = []
requests_of task (Issue seat r ∷ es) = if seat == task then record { request = r; asks = asks_of task es } ∷ requests_of task es else requests_of task es
requests_of task (Finish seat ∷ es) = requests_of task es
requests_of task (Rise seat ∷ es) = requests_of task es
requests_of task (Ask seat part ∷ es) = requests_of task es

-- what the seats need by a history: a task for each seat
abbrev pub history_needs : ℕ → List Event → Needs
history_needs seats es = map (λ task. requests_of task es) (range_with_len 0 seats)

-- the length of the section of a claim whose request is that of the issue of this number
abbrev pub length_from : List Event → ℕ → Claim → ℕ
length_from [] stamp c = 0
length_from (Issue seat r ∷ es) zero c = length_of r c
length_from (Issue seat r ∷ es) (suc stamp) c = length_from es stamp c
length_from (Finish seat ∷ es) stamp c = length_from es stamp c
length_from (Rise seat ∷ es) stamp c = length_from es stamp c
length_from (Ask seat part ∷ es) stamp c = length_from es stamp c

-- the length of the section of a claim
abbrev pub length_in : List Event → Claim → ℕ
length_in es c = length_from es c.stamp c

-- the number of issues of a seat before the issue of this number
abbrev pub number_from : List Event → ℕ → ℕ → ℕ
number_from [] stamp task = 0
number_from (Issue seat r ∷ es) zero task = 0
number_from (Issue seat r ∷ es) (suc stamp) task = if seat == task then suc (number_from es stamp task) else number_from es stamp task
number_from (Finish seat ∷ es) stamp task = number_from es stamp task
number_from (Rise seat ∷ es) stamp task = number_from es stamp task
number_from (Ask seat part ∷ es) stamp task = number_from es stamp task

-- the number of the request of a claim among those of its seat, from 0
abbrev pub number_in : List Event → Claim → ℕ
number_in es c = number_from es c.stamp c.seat

-- the asks of a seat since its last issue, once an event comes
abbrev pub count_ask : ℕ → ℕ → Event → ℕ
count_ask task n (Issue seat r) = if seat == task then 0 else n
count_ask task n (Finish seat) = n
count_ask task n (Rise seat) = n
count_ask task n (Ask seat part) = if seat == task then n + 1 else n

-- how many asks of a seat came since its last issue
abbrev pub asks_since : ℕ → List Event → ℕ
asks_since task es = fold (count_ask task) 0 es

-- the number of the last ask of a claim's request, from 0, while that request is incomplete
abbrev pub last_ask : List Event → Claim → ℕ
last_ask es c = asks_since c.seat es - 1
