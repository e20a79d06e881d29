-- The last set that a seat asked for, in a list of events.
use Rattle.std.proofs.Common.{◌≡◌, ℕ, ◌==◌, Bool, true, false, cond, List, [], ◌∷◌, ◌++◌, fold, Option, Some, None, refl, sym, ap, ◌∙◌}
use Rattle.rset.specs.Sets.{Set}
use Rattle.rclaim.specs.declared.event.Event.{Event}
use Rattle.rclaim.specs.declared.event.Event.TheVariants.{Issue, Finish, Rise, Ask}
use Rattle.rbound_history.specs.History.{later_set, last_set}
use Rattle.rcover_laws.proofs.past.Asks.{more_asked, asked_since}

-- the last of some sets
abbrev last_of : List Set → Option Set
last_of [] = None
last_of (x ∷ []) = Some x
last_of (x ∷ y ∷ xs) = last_of (y ∷ xs)

-- the last of the sets that a seat asked for since its last issue
pub last_asked : (task : ℕ) (before : List Set) (part : Set) (es : List Event) → asked_since task es ≡ before ++ part ∷ [] → last_set task es ≡ Some part
last_asked task before part es is = sym (as_last task [] None es refl) ∙ ap last_of is ∙ last_behind before part
  where
    last_behind : (before : List Set) (part : Set) → last_of (before ++ part ∷ []) ≡ Some part
    last_behind [] part = refl
    last_behind (x ∷ []) part = refl
    last_behind (x ∷ y ∷ xs) part = last_behind (y ∷ xs) part

    of_issue : (b : Bool) (parts : List Set) (last : Option Set) → last_of parts ≡ last → last_of (cond b [] parts) ≡ cond b None last
    of_issue true parts last same = refl
    of_issue false parts last same = same

    of_ask : (b : Bool) (part : Set) (parts : List Set) (last : Option Set) → last_of parts ≡ last → last_of (cond b (parts ++ part ∷ []) parts) ≡ cond b (Some part) last
    of_ask true part parts last same = last_behind parts part
    of_ask false part parts last same = same

    one : (task : ℕ) (e : Event) (parts : List Set) (last : Option Set) → last_of parts ≡ last → last_of (more_asked task parts e) ≡ later_set task last e
    one task (Issue seat r) parts last same = of_issue (seat == task) parts last same
    one task (Finish seat) parts last same = same
    one task (Rise seat) parts last same = same
    one task (Ask seat part) parts last same = of_ask (seat == task) part parts last same

    as_last : (task : ℕ) (parts : List Set) (last : Option Set) (es : List Event) → last_of parts ≡ last → last_of (fold (more_asked task) parts es) ≡ fold (later_set task) last es
    as_last task parts last [] same = same
    as_last task parts last (e ∷ es) same = as_last task (more_asked task parts e) (later_set task last e) es (one task e parts last same)
