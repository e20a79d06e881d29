-- What contracts see of a section that reads first, and may rise to write what it has read.
use Rattle.std.specs.Prelude.{◌≡◌, Result, Ok, Err, Option, Some, None, List, [], ◌∷◌}
use Rattle.std.specs.FinSet.{empty}
use Rattle.std.specs.Fn.{Once}
use denote.Ref.{MutBor}
use Rattle.rset.specs.Sets.{Set}
use Rattle.rclaim.specs.Requests.{RequestFields}
use Rattle.rclaim.specs.declared.request.Kind.TheVariants.{Upgrade}
use Rattle.rclaim.specs.declared.event.Event.TheVariants.{Issue, Rise, Finish}
use Rattle.rvalue.specs.declared.act.Act.{Act}
use Rattle.rguard.specs.Seats.{SeatOf, Goes, bare}
use Rattle.rnlp_lock.specs.Seats.{SeatFields, Stayed, who_of}
use Rattle.rnlp_lock.specs.Asking.{MayAsk}
use Rattle.rnlp_lock.specs.Causes.{CameToNothing, StopsRead}
use Rattle.rnlp_lock.specs.Works.{WorkFields, Began, Made}
use Rattle.rnlp_lock.specs.declared.stop.Stop.{Stop}

-- ---- closures of two arguments

-- f may be called once at a `&mut` to x, and y
abbrev pub FnOnceTakesWith : {F T B R : Type 0} → Once F (MutBor T × (B × Unit {0})) R → F → T → B → Type 0
FnOnceTakesWith {F} {T} g f x y = (p : MutBor T) → p.now ≡ x → g.pre f (p, (y, tt))

-- at a `&mut` to x, and y, it may give r and leave x' there
pub record FnOnceReturnsWith {F T B R : Type 0} (g : Once F (MutBor T × (B × Unit {0})) (R × (MutBor T × Unit {0}))) (f : F) (x : T) (y : B) (r : R) (x' : T) : Type 0 where
  pub shown : MutBor T
  pub shows : shown.now ≡ x
  pub left : MutBor T
  pub met : g.post f (shown, (y, tt)) (r, (left, tt))
  pub leaves : left.now ≡ x'

-- ---- upgrades

-- the request to read these resources and perhaps to write them later, in sections of length 1
abbrev pub upgrade_of : Set → RequestFields
upgrade_of set = record { kind = Upgrade; reads = set; writes = empty; first = empty; len = 1; later = 1 }

-- the outcome of a section that rose
abbrev pub as_risen : {A E : Type 0} → Result A E → Result (Option A) E
as_risen (Ok answer) = Ok (Some answer)
as_risen (Err e) = Err e

module _ {V E : Type 0} where
  -- the section rose: it may write what it could read, and has done nothing yet
  pub record Rose (work later : WorkFields V E) : Type 0 where
    pub who_is : who_of later.place.lock later.place.pass ≡ who_of work.place.lock work.place.pass
    pub reads_are : later.place.reads ≡ empty
    pub writes_are : later.place.writes ≡ work.place.reads
    pub fresh : later.acts ≡ []
    pub goes : Goes work.place.pass (bare (Rise work.place.pass.number) ∷ []) later.place.pass

  -- the seat made one section that rose: it issued this request, rose, finished with these acts, and did nothing else
  abbrev pub MadeRisen : RequestFields → List (Act E) → SeatOf V E → SeatOf V E → Type 0
  MadeRisen request acts seat later = Goes seat (bare (Issue seat.number request) ∷ bare (Rise seat.number) ∷ record { event = Finish seat.number; acts = acts } ∷ []) later

  -- The seat made one section by this request, which rose: its closures did this from its first moment, after its rise, and to its last; its acts are recorded
  pub record MadeUpgrade (request : RequestFields) (Did : WorkFields V E → WorkFields V E → WorkFields V E → Type 0) (seat later : SeatFields V E) : Type 0 where
    pub first : WorkFields V E
    pub risen : WorkFields V E
    pub last : WorkFields V E
    pub began : Began request seat first
    pub rose : Rose first risen
    pub stays : last.place ≡ risen.place
    pub did : Did first risen last
    pub made : MadeRisen request last.acts seat.pass later.pass

  -- what came of asking for an upgrade: a section has begun, or the seat came back for this cause
  abbrev pub UpgradeBegins : {W S : Type 0} (rising : W → WorkFields V E) (own : S → SeatFields V E) (set : Set) (seat : SeatFields V E) → Result W (S × Stop) → Type 0
  UpgradeBegins rising own set seat (Ok work) = Began (upgrade_of set) seat (rising work) × MayAsk seat.lock.groups (upgrade_of set)
  UpgradeBegins rising own set seat (Err e) = Stayed seat (own e.0) × StopsRead seat.lock.groups set (upgrade_of set) e.1

  -- What an upgrade came to, of which the first closure Looks and the second one Thens. Where the first answered None the seat made a section
  -- that read; where it answered something, a section that rose and has the acts of the second. Otherwise it came to nothing for this cause
  abbrev pub UpgradeEnds : {W N A B : Type 0} (rising : W → WorkFields V E) (writing : N → WorkFields V E) (Looks : W → Option B → Type 0) (Thens : N → B → Result A Stop → N → Type 0) (Refuses : Stop → Type 0)
      (request : RequestFields) (seat later : SeatFields V E) → Result (Option A) Stop → Type 0
  UpgradeEnds {W} {N} {A} {B} rising writing Looks Thens Refuses request seat later (Ok None) =
      MayAsk seat.lock.groups request × Made request (λ first last. (work : W) × (first ≡ rising work) × Looks work None) seat later
  UpgradeEnds {W} {N} {A} {B} rising writing Looks Thens Refuses request seat later (Ok (Some answer)) =
      MayAsk seat.lock.groups request
      × MadeUpgrade request (λ first risen last. (work : W) × (seen : B) × (begun : N) × (ended : N) × (first ≡ rising work) × (risen ≡ writing begun) × (last ≡ writing ended) × Looks work (Some seen) × Thens begun seen (Ok answer) ended) seat later
  UpgradeEnds {W} {N} {A} {B} rising writing Looks Thens Refuses request seat later (Err stop) =
      CameToNothing Refuses (λ (s : Stop). (work : W) × (seen : B) × (begun : N) × (ended : N) × Began request seat (rising work) × Looks work (Some seen) × Thens begun seen (Err s) ended)
      (Goes seat.pass [] later.pass) (MadeRisen request [] seat.pass later.pass) stop
