-- What the head of an event list or a report declares.
use Rattle.std.specs.Prelude.{◌≡◌, ℕ, Bool, true, false, not, ◌&&◌, ◌||◌, ◌==◌, nat_le, List, [], ◌∷◌, length, Option, unwrap_or}
use Rattle.std.specs.List.{list_all}
use Rattle.std.specs.FinSet.{len}
use Rattle.rset.specs.Sets.{Set}
use Rattle.rset.specs.Names.{is_name, knows, is_table}
use Rattle.rset.specs.declared.TheConstants.{RESOURCES, SEATS}
use Rattle.rexpand.specs.Groups.{ReadGroups}
use Rattle.rexpand.specs.declared.TheConstants.{GROUPS}
use Rattle.rmodel.specs.State.{LockState, opening}
use Rattle.rtrace_form.specs.Fields.{Names}

-- its resources, its read groups and its tasks, each in the order of the text, and how many requests may be incomplete at once
pub record Head : Type 0 where
  pub resources : List (List ℕ)
  pub groups : List Set
  pub tasks : List (List ℕ)
  pub cap : ℕ

-- the names that it declares
abbrev pub names_of : Head → Names
names_of head = record { resources = head.resources; tasks = head.tasks }

-- its read groups, over its resources
abbrev pub read_groups : Head → ReadGroups
read_groups head = record { q = length head.resources; groups = head.groups }

-- the state before the first event: a seat for each task, and as many requests at once as the cap allows
abbrev pub opening_of : Head → LockState
opening_of head = opening (read_groups head) (length head.tasks) head.cap

-- the cap in the text, or else the number of tasks
abbrev pub cap_or : List (List ℕ) → Option ℕ → ℕ
cap_or tasks told = unwrap_or told (length tasks)

-- the list is empty
abbrev pub is_nil : {X : Type 0} → List X → Bool
is_nil [] = true
is_nil (x ∷ xs) = false

-- a set has a member
abbrev pub has_member : Set → Bool
has_member s = not (len s == 0)

-- each group has a member, and there are no more than allowed
abbrev pub are_read_groups : List Set → Bool
are_read_groups groups = list_all has_member groups && nat_le (length groups) GROUPS

-- a table of at most so many names does not take this name after those in it: it is not a name, it is already there, or the table is full
abbrev pub is_bad_name : ℕ → List (List ℕ) → List ℕ → Bool
is_bad_name limit names name = not (is_name name) || knows names name || (length names == limit)

-- a head is one that a text may have, where `told` is what its cap record says, if it has one: no table is empty, and the names of each differ
pub record IsHead (head : Head) (told : Option ℕ) : Type 0 where
  pub resources_named : is_table RESOURCES head.resources ≡ true
  pub tasks_named : is_table SEATS head.tasks ≡ true
  pub grouped : are_read_groups head.groups ≡ true
  pub some_resource : is_nil head.resources ≡ false
  pub some_task : is_nil head.tasks ≡ false
  pub cap : head.cap ≡ cap_or head.tasks told
