-- A seat while it carries out statements: the section it is in by its own entries, and what it may do there.
use Rattle.std.specs.Prelude.{◌≡◌, ℕ, Bool, true, false, List, [], ◌∷◌, Option, Some, None, option_map, fold}
use Rattle.rset.specs.Sets.{Set}
use Rattle.rclaim.specs.Requests.{IsNormal}
use Rattle.rclaim.specs.declared.event.Event.{Event}
use Rattle.rclaim.specs.declared.event.Event.TheVariants.{Issue, Finish, Rise, Ask}
use Rattle.rclaim.specs.declared.request.Kind.{Kind}
use Rattle.rclaim.specs.declared.request.Kind.TheVariants as kinds
use Rattle.rmodel.specs.Claims.{is_nested}
use Rattle.rstate.specs.Histories.{Beginning}
use Rattle.rvalue.specs.Entries.{EntryFields}
use Rattle.rscript.specs.Statements.{begun, with_asked, with_risen, is_writable, is_held, may_ask_for, is_there, where_of, section_next, IsWithin, IsRight}
use Rattle.rscript.specs.declared.section.OpenSection.{OpenSection}
use Rattle.rscript.specs.declared.statement.Statement.{Statement}
use Rattle.rguard.specs.Guards.{Holding, HoldingToWrite, IsPartOf, AsSeen}
use Rattle.rguard.specs.Seats.{SeatOf}
use Rattle.rguard.specs.declared.kind.GuardKind.{GuardKind}
use Rattle.rguard.specs.declared.kind.GuardKind.TheVariants as guards

-- ---- the section that a seat is in, by its own entries

abbrev pub section_told : Option OpenSection → Event → Option OpenSection
section_told section (Issue seat r) = Some (begun r)
section_told section (Finish seat) = None
section_told section (Rise seat) = option_map with_risen section
section_told section (Ask seat part) = option_map (with_asked part) section

abbrev pub section_made : {E : Type 0} → List (EntryFields E) → Option OpenSection
section_made {E} mine = fold (λ section (entry : EntryFields E). section_told section entry.event) None mine

-- ---- what it may do there

-- the kind of the guard of a section: an upgrade writes once it has risen
abbrev pub guard_kind : Kind → Bool → GuardKind
guard_kind kinds.Read risen = guards.Read
guard_kind kinds.Write risen = guards.Write
guard_kind kinds.Mixed risen = guards.Write
guard_kind kinds.Upgrade true = guards.Write
guard_kind kinds.Upgrade false = guards.Rise
guard_kind kinds.Nested risen = guards.Nest

module _ {V E : Type 0} where
  -- the seat holds what the section holds by the script, and may ask for what the section may ask for
  pub record MayDo (seat : SeatOf V E) (section : OpenSection) : Type 0 where
    pub holds : (l : ℕ) → is_held (Some section) l ≡ true → Holding seat l
    pub writes : (l : ℕ) → is_writable (Some section) l ≡ true → HoldingToWrite seat l
    pub asks : (part : Set) → is_nested section.request.kind ≡ true → may_ask_for (Some section) part ≡ true → IsPartOf seat part

  -- the seat is in this section, and may do in it what the script says
  pub record IsIn (section : OpenSection) (seat : SeatOf V E) : Type 0 where
    pub began : Beginning V
    pub opening : seat.opening ≡ Some began
    pub made : section_made seat.mine ≡ Some section
    pub normal : IsNormal section.request
    pub may : MayDo seat section

-- ---- statements that are carried out

-- a statement over q resources with these read groups may come where this section is open
pub record FitsIn (q : ℕ) (groups : List Set) (section : Option OpenSection) (s : Statement) : Type 0 where
  pub within : IsWithin q s
  pub placed : is_there (where_of s) section ≡ true
  pub right : IsRight groups section s

-- the statements may come from there on, one after another, and the last section is closed
abbrev pub AreWhole : ℕ → List Set → Option OpenSection → List Statement → Type 0
AreWhole q groups section [] = section ≡ None
AreWhole q groups section (s ∷ statements) = FitsIn q groups section s × AreWhole q groups (section_next section s) statements

module _ {V E : Type 0} where
  -- the same over the resources and the groups of the seat's runtime
  abbrev pub FitsAt : SeatOf V E → Option OpenSection → Statement → Type 0
  FitsAt seat section s = AsSeen seat (λ b. FitsIn b.groups.q b.groups.groups section s)

  abbrev pub AreWholeAt : SeatOf V E → List Statement → Type 0
  AreWholeAt seat statements = AsSeen seat (λ b. AreWhole b.groups.q b.groups.groups None statements)
