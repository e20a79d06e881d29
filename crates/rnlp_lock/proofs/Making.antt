-- Sections that a seat makes, from how they began and how they ended.
use Rattle.std.proofs.Common.{◌≡◌, ◌⊎◌, List, [], Result, Ok, Err, refl, sym, subst, inl, inr, ap}
use Rattle.std.specs.Prelude.{IfOk, IfErr, OnErr}
use Rattle.rclaim.specs.Requests.{RequestFields}
use Rattle.rvalue.specs.declared.act.Act.{Act}
use Rattle.rguard.specs.Sections.{MadeSection}
use Rattle.rguard.proofs.Sections.{made}
use Rattle.rnlp_lock.specs.Seats.{SeatFields}
use Rattle.rnlp_lock.specs.Works.{Place, WorkFields, Began, Ended, Made, guard_of}

-- what the law allows of each answer it allows of the outcome
pub may_tell : {A B : Type 0} (outcome : Result A B) (Did : Result A B → Type 0) (Allowed : Type 0) → Did outcome → ((answer : A) → Did (Ok answer) → Allowed) → IfOk outcome (λ answer. Allowed)
may_tell (Ok answer) Did Allowed did each = each answer did
may_tell (Err e) Did Allowed did each = tt

module _ {V E : Type 0} where
  -- a section that began and ended was made
  pub made_one : (r : RequestFields) (s : SeatFields V E) (first last : WorkFields V E) (later : SeatFields V E) (acts : List (Act E)) → Began r s first → last.place ≡ first.place → Ended acts last later
      → MadeSection r acts s.pass later.pass
  made_one r s first last later acts began stays ended =
      made r s.pass (guard_of first) (guard_of last) acts later.pass (record { issued = began.goes; fresh = began.fresh }) (ap (λ (p : Place V E). p.pass) stays) ended.goes

  -- one that only reads has no acts
  pub made_read : (r : RequestFields) (Did : WorkFields V E → WorkFields V E → Type 0) (s : SeatFields V E) (w : WorkFields V E) (later : SeatFields V E) → Began r s w → Ended [] w later → Did w w → Made r Did s later
  made_read r Did s w later began ended did = record {
    first = w;
    last = w;
    began = began;
    stays = refl;
    did = did;
    made = made_one r s w w later w.acts began refl (subst (λ (acts : List (Act E)). Ended acts w later) (sym began.fresh) ended);
  }

  -- a section that writes was made where it was concluded so
  pub made_write : {A B : Type 0} (r : RequestFields) (Did : A → WorkFields V E → WorkFields V E → Type 0) (outcome result : Result A B) (s : SeatFields V E) (first last : WorkFields V E) (later : SeatFields V E)
      → Began r s first → last.place ≡ first.place → ((answer : A) → outcome ≡ Ok answer → Did answer first last) → IfOk result (λ answer. (outcome ≡ Ok answer) × Ended last.acts last later)
      → IfOk result (λ answer. Made r (Did answer) s later)
  made_write r Did outcome (Ok answer) s first last later began stays did ended =
      record { first = first; last = last; began = began; stays = stays; did = did answer ended.0; made = made_one r s first last later last.acts began stays ended.1 }
  made_write r Did outcome (Err e) s first last later began stays did ended = tt

  -- and without acts where it was not
  pub none_made : {A B : Type 0} (r : RequestFields) (result : Result A B) (s : SeatFields V E) (first last : WorkFields V E) (later : SeatFields V E)
      → Began r s first → last.place ≡ first.place → OnErr result (Ended [] last later) → OnErr result (MadeSection r [] s.pass later.pass)
  none_made r (Ok answer) s first last later began stays ended = tt
  none_made r (Err e) s first last later began stays ended = made_one r s first last later [] began stays ended

-- it came to nothing then, for what its closure answered or for memory
pub to_nothing : {A B C : Type 0} (Refuses Answers NoMemory : B → Type 0) (Stays Without : Type 0) (outcome : Result A B) (result : Result C B)
    → OnErr result Without → IfErr result (λ stop. NoMemory stop ⊎ (outcome ≡ Err stop)) → ((stop : B) → outcome ≡ Err stop → Answers stop)
    → IfErr result (λ stop. (Stays × Refuses stop) ⊎ (Without × (NoMemory stop ⊎ Answers stop)))
to_nothing Refuses Answers NoMemory Stays Without outcome (Ok answer) without cause answered = tt
to_nothing Refuses Answers NoMemory Stays Without outcome (Err e) without cause answered = inr (without, elim cause [ inl h ↦ inl h | inr h ↦ inr (answered e h) ])
