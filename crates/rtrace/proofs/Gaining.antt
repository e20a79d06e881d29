-- Reads one after another: what came in all.
use Rattle.std.proofs.Common.{◌≡◌, ℕ, ◌+◌, ◌≤◌, ◌<◌, Bool, List, [], ◌++◌, length, drop, Option, Some, None, refl, sym, ap, subst, ◌∙◌, arith, length-append}
use Rattle.std.proofs.lemmas.List.{append-nil}
use Rattle.std.proofs.Math.Seq.{drop-append_seam}
use Rattle.std.specs.Prelude.{unwrap_or, Result, Ok, Err, OnOk}
use Rattle.io_ends.specs.Ends.{Took, TookAtMost}
use Rattle.io_ends.specs.declared.reading.ReadErr.{ReadErr}
use Rattle.io_ends.specs.declared.reading.ReadErr.TheVariants as cause
use Rattle.rtrace_form.specs.Records.{Row}
use Rattle.rtrace.specs.Coming.{Came, HasEnded, CameWhole, CameOf, BreaksOff}
use Rattle.rtrace_form.specs.declared.fault.Fault.{Fault}
use Rattle.rtrace.specs.Errors.{error_of, StreamCameOf, StreamBreaksOff}
use Rattle.rtrace.specs.Feeding.{IsFed, FaultsStay, KnowledgeStays, KnowsFront}
use Rattle.rtrace.specs.declared.error.StreamErr.{StreamErr}
use Rattle.rtrace.specs.declared.error.StreamErr.TheVariants as stream
use Rattle.rtrace.specs.Windows.{held, IsSound, Gains}
use Rattle.rtrace.specs.declared.window.Window.{Window}
use Rattle.rtrace.proofs.Feeding.{fed_start, fed_more, known_in_front}
use Rattle.rtrace.proofs.Windows.{came_none, came_more}

-- ---- a window that is filled

-- since the window was w it has gained what came, and there is room for more than it held
pub record IsFilling (o p : Option (List ℕ)) (w v : Window) : Type 0 where
  pub piece : List ℕ
  pub gains : Gains w v piece
  pub came : Came o p piece
  pub filled : v.filled ≡ w.filled + length piece
  pub room : w.filled < length v.bytes.items

-- so many bytes behind others, counted together
count_more : (e : ReadErr) (a b c d limit : ℕ) → d ≡ a + c → CameOf e (d + b) limit → CameOf e (a + (c + b)) limit
count_more e a b c d limit is h = subst (λ n. CameOf e n limit) same h
  where
    same : d + b ≡ a + (c + b)
    same = omega arith

broken_more : (o p q : Option (List ℕ)) (e : ReadErr) (taken now limit : ℕ) (first : List ℕ) → Came o p first → now ≡ taken + length first → BreaksOff e p q now limit → BreaksOff e o q taken limit
broken_more o p q e taken now limit first came counted b =
    (first ++ b.0, came_more o p q first b.0 came b.1, subst (λ n. CameOf e (taken + n) limit) (sym (length-append first b.0)) (count_more e taken (length b.0) (length first) now limit counted b.2))

-- an error behind what came
pub filling_broken : (o p q : Option (List ℕ)) (w v : Window) (e : ReadErr) → IsFilling o p w v → BreaksOff e p q v.taken v.limit → BreaksOff e o q w.taken w.limit
filling_broken o p q w v e f b = subst (λ n. BreaksOff e o q w.taken n) f.gains.limit (broken_more o p q e w.taken v.taken v.limit f.piece f.came f.gains.taken b)

-- ---- a source that is drained

-- since the window was w, this came and nothing of it is held
pub record IsDraining (o p : Option (List ℕ)) (w v : Window) : Type 0 where
  pub piece : List ℕ
  pub came : Came o p piece
  pub taken : v.taken ≡ w.taken + length piece
  pub limit : v.limit ≡ w.limit
  pub below : v.taken ≤ v.limit
  pub empty : v.filled ≡ 0
  pub room : 0 < length v.bytes.items

pub draining_more : (o p q : Option (List ℕ)) (w v u t : Window) (piece : List ℕ) → IsDraining o p w v → Gains v u piece → Came p q piece → length u.bytes.items ≡ length v.bytes.items
    → t.taken ≡ u.taken → t.limit ≡ u.limit → t.filled ≡ 0 → length t.bytes.items ≡ length u.bytes.items → IsDraining o q w t
draining_more o p q w v u t piece d more came size taken limit empty room =
    let both = length-append d.piece piece in
    let before = d.taken in
    let now = more.taken in
    let large = d.room in
    let low = more.sound.taken in
    record {
      piece = d.piece ++ piece;
      came = came_more o p q d.piece piece d.came came;
      taken = omega arith;
      limit = limit ∙ more.limit ∙ d.limit;
      below = omega arith;
      empty = empty;
      room = omega arith;
    }

pub draining_broken : (o p q : Option (List ℕ)) (w v : Window) (e : ReadErr) → IsDraining o p w v → BreaksOff e p q v.taken v.limit → BreaksOff e o q w.taken w.limit
draining_broken o p q w v e d b = subst (λ n. BreaksOff e o q w.taken n) d.limit (broken_more o p q e w.taken v.taken v.limit d.piece d.came d.taken b)

-- ---- a taker that is fed

-- since the window was w, this text came, of which the taker knows all records but those of what is held
pub record IsFeeding {C T : Type 0} (code : List Row → Row → Option C) (Knows : T → List Row → Type 0) (o p : Option (List ℕ)) (w v : Window) (taker : T) (line : ℕ) : Type 0 where
  pub text : List ℕ
  pub came : Came o p text
  pub fed : IsFed code Knows text (held v) taker line
  pub taken : v.taken ≡ length text
  pub limit : v.limit ≡ w.limit
  pub sound : IsSound v

some_is : {X : Type 0} {x y : X} → Some x ≡ Some y → x ≡ y
some_is {x = x} e = ap (λ o. unwrap_or o x) e

read_long : {C : Type 0} → ◌≡◌ {A = StreamErr C} stream.ReadFault stream.TooLong → ⊥
read_long e = cc

memory_long : {C : Type 0} → ◌≡◌ {A = StreamErr C} stream.Memory stream.TooLong → ⊥
memory_long e = cc

bad_long : {C : Type 0} {fault : Fault C} → ◌≡◌ {A = StreamErr C} (stream.Bad fault) stream.TooLong → ⊥
bad_long e = cc

-- as many bytes as that were taken
took : (o p : Option (List ℕ)) (text : List ℕ) (n : ℕ) → Came o p text → length text ≡ n → Took o p n
took None p text n came size = tt
took (Some bytes) p text n came size =
    let both = length-append text came.0 in
    let whole = ap length came.1 in
    (omega arith, came.2 ∙ ap Some (sym (ap (drop n) came.1 ∙ ap (λ k. drop k (text ++ came.0)) (sym size) ∙ drop-append_seam text came.0)))

took_most : (o p : Option (List ℕ)) (text : List ℕ) (limit : ℕ) → Came o p text → length text ≤ limit → TookAtMost o p limit
took_most o p text limit came low = (length text, low, took o p text (length text) came refl)

module _ {C T : Type 0} (code : List Row → Row → Option C) (is_done : List Row → Bool) (no_end : C) (Knows : T → List Row → Type 0) where
  -- nothing came yet
  pub feeding_none : (o : Option (List ℕ)) (w : Window) (taker : T) → Knows taker [] → held w ≡ [] → w.taken ≡ 0 → IsSound w → IsFeeding code Knows o o w w taker 1
  feeding_none o w taker knows empty taken sound = record {
    text = [];
    came = came_none o;
    fed = subst (λ h. IsFed code Knows [] h taker 1) (sym empty) (fed_start code is_done no_end Knows taker knows);
    taken = taken;
    limit = refl;
    sound = sound;
  }

  -- a piece more came
  pub feeding_more : (o p q : Option (List ℕ)) (w v u : Window) (taker : T) (line : ℕ) (piece : List ℕ) → IsFeeding code Knows o p w v taker line → Gains v u piece → Came p q piece → IsFeeding code Knows o q w u taker line
  feeding_more o p q w v u taker line piece f more came = record {
    text = f.text ++ piece;
    came = came_more o p q f.text piece f.came came;
    fed = subst (λ h. IsFed code Knows (f.text ++ piece) h taker line) (sym more.held) (fed_more code is_done no_end Knows f.text (held v) piece taker line f.fed);
    taken = more.taken ∙ ap (λ n. n + length piece) f.taken ∙ sym (length-append f.text piece);
    limit = more.limit ∙ f.limit;
    sound = more.sound;
  }

  -- records of what is held were taken
  pub feeding_lines : (o p : Option (List ℕ)) (w v u : Window) (was now : T) (line next : ℕ) → (f : IsFeeding code Knows o p w v was line) → IsFed code Knows f.text (held u) now next → u.taken ≡ v.taken → u.limit ≡ v.limit → IsSound u
      → IsFeeding code Knows o p w u now next
  feeding_lines o p w v u was now line next f fed taken limit sound = record { text = f.text; came = f.came; fed = fed; taken = taken ∙ f.taken; limit = limit ∙ f.limit; sound = sound }

  pub within_limit : (o p : Option (List ℕ)) (w v : Window) (taker : T) (line : ℕ) → IsFeeding code Knows o p w v taker line → TookAtMost o p w.limit
  within_limit o p w v taker line f =
      let taken = f.taken in
      let limit = f.limit in
      let low = f.sound.taken in
      took_most o p f.text w.limit f.came (omega arith)

  -- a source broke off behind a piece more
  pub feeding_broken : FaultsStay code is_done no_end → KnowledgeStays code Knows → (o p : Option (List ℕ)) (w v : Window) (taker : T) (line : ℕ) (piece : List ℕ) → (f : IsFeeding code Knows o p w v taker line)
      → KnowsFront Knows (f.text ++ piece) taker
  feeding_broken faults_stay knowledge_stays o p w v taker line piece f =
      known_in_front code is_done no_end Knows faults_stay knowledge_stays (f.text ++ piece) (held v ++ piece) taker line (fed_more code is_done no_end Knows f.text (held v) piece taker line f.fed)

-- all that was left came
pub came_whole : (o p : Option (List ℕ)) (text : List ℕ) → Came o p text → HasEnded o p → CameWhole o p text
came_whole None p text came ended = tt
came_whole (Some bytes) p text came ended = (sym (came.1 ∙ ap (λ rest. text ++ rest) (some_is (sym came.2 ∙ ended)) ∙ append-nil text), ended)

-- what had ended for what was left had ended for all
pub ended_more : (o p q : Option (List ℕ)) (text : List ℕ) → Came o p text → HasEnded p q → HasEnded o q
ended_more None p q text came ended = tt
ended_more (Some bytes) p q text came ended = subst (λ (l : Option (List ℕ)). HasEnded l q) came.2 ended

-- an error of a source that was read
pub to_stream : (C : Type 0) (e : ReadErr) (p q : Option (List ℕ)) (taken limit : ℕ) → BreaksOff e p q taken limit → StreamBreaksOff {C = C} (error_of e) p q taken limit
to_stream C cause.TooLong p q taken limit b = b
to_stream C cause.ReadFault p q taken limit b = b
to_stream C cause.Memory p q taken limit b = b

-- how much came before an error
pub broken_off : {C : Type 0} (o p q : Option (List ℕ)) (text : List ℕ) (taken limit most : ℕ) (e : StreamErr C) → Came o p text → taken ≡ length text → limit ≡ most → StreamBreaksOff e p q taken limit
    → (e ≡ stream.TooLong → Took o q (most + 1)) × (¬ (e ≡ stream.TooLong) → TookAtMost o q most)
broken_off {C = C} o p q text taken limit most e came counted same b = told e b.2
  where
    all : Came o q (text ++ b.0)
    all = came_more o p q text b.0 came b.1

    size : length (text ++ b.0) ≡ taken + length b.0
    size = length-append text b.0 ∙ ap (λ n. n + length b.0) (sym counted)

    few : taken + length b.0 ≤ limit → length (text ++ b.0) ≤ most
    few h = subst (λ n. length (text ++ b.0) ≤ n) same (subst (λ n. n ≤ limit) (sym size) h)

    told : (e : StreamErr C) → StreamCameOf e (taken + length b.0) limit → (e ≡ stream.TooLong → Took o q (most + 1)) × (¬ (e ≡ stream.TooLong) → TookAtMost o q most)
    told stream.TooLong h = (λ is. took o q (text ++ b.0) (most + 1) all (size ∙ h ∙ ap (λ n. n + 1) same), λ other. absurd (other refl))
    told stream.ReadFault h = (λ is. absurd (read_long is), λ other. took_most o q (text ++ b.0) most all (few h))
    told stream.Memory h = (λ is. absurd (memory_long is), λ other. took_most o q (text ++ b.0) most all (few h))
    told (stream.Bad fault) h = (λ is. absurd (bad_long is), λ other. took_most o q (text ++ b.0) most all (few h))

-- what holds where a call succeeds, and what follows from it
pub on_ok : {U E : Type 0} {P Q : Type 0} (r : Result U E) → (P → Q) → OnOk r P → OnOk r Q
on_ok (Ok u) h p = h p
on_ok (Err e) h p = tt
