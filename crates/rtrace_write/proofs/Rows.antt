-- The text of each line, as the pieces that are put.
use Rattle.std.proofs.Common.{◌≡◌, ℕ, Bool, true, false, List, [], ◌∷◌, ◌++◌, codes, decimal, append_assoc, map, subst, sym, ap, ◌∙◌, refl}
use Rattle.std.proofs.lemmas.List.{append-nil}
use Rattle.std.specs.Prelude.{flat_map}
use Rattle.rset.specs.Sets.{Set}
use Rattle.rclaim.specs.Requests.{RequestFields}
use Rattle.rclaim.specs.declared.event.Event.TheVariants.{Issue, Finish, Rise, Ask}
use Rattle.rclaim.specs.declared.request.Kind.{Kind}
use Rattle.rclaim.specs.declared.request.Kind.TheVariants.{Read, Write, Mixed, Upgrade, Nested}
use Rattle.rvalue.specs.declared.act.Act.TheVariants.{Edited, Shown}
use Rattle.rvalue.specs.declared.ledger.Edit.TheVariants as edit
use Rattle.rvalue.specs.declared.ledger.Ledger.{Ledger}
use Rattle.rtrace_form.specs.Records.{Row}
use Rattle.rtrace_form.specs.Fields.{Names, write}
use Rattle.rtrace_form.specs.Lines.{Opens, HasResource, HasGroup, HasTask, HasCap, Happens, Does, BecomesEntitled, BecomesSatisfied, Grants, Leaves, Ends, spelled, issue_values}
use Rattle.rtrace_form.specs.SetFields.{name_at, set_text}
use Rattle.rtrace_form.specs.Texts.{line_text, text_of, behind_comma}
use Rattle.rtrace_form.specs.Words.{fields_of, yes_or_no}
use Rattle.rtrace_form.specs.declared.word.Word.TheVariants as word

-- the fields after the first, each after its comma, and the end of the line
abbrev pub ends : Row → List ℕ
ends [] = 10 ∷ []
ends (field ∷ fields) = behind_comma field ++ ends fields

line_ends : (fields : Row) → flat_map behind_comma fields ++ 10 ∷ [] ≡ ends fields
line_ends [] = refl
line_ends (field ∷ fields) = append_assoc (behind_comma field) (flat_map behind_comma fields) (10 ∷ []) ∙ ap (λ xs. behind_comma field ++ xs) (line_ends fields)

pub line_is : (first : List ℕ) (fields : Row) → line_text (first ∷ fields) ≡ first ++ ends fields
line_is first fields = append_assoc first (flat_map behind_comma fields) (10 ∷ []) ∙ ap (λ xs. first ++ xs) (line_ends fields)

-- how a claim is named, after a comma
abbrev pub if_write : Bool → List ℕ
if_write true = codes ",write"
if_write false = codes ",read"

module _ (names : Names) where
  -- ---- events

  pub finish_is : (seat : ℕ) → line_text (spelled names (Happens (Finish seat))) ≡ codes "finish," ++ (name_at names.tasks seat ++ 10 ∷ [])
  unfolding write
  finish_is seat = line_is (codes "finish") (name_at names.tasks seat ∷ [])

  pub rise_is : (seat : ℕ) → line_text (spelled names (Happens (Rise seat))) ≡ codes "rise," ++ (name_at names.tasks seat ++ 10 ∷ [])
  unfolding write
  rise_is seat = line_is (codes "rise") (name_at names.tasks seat ∷ [])

  pub ask_is : (seat : ℕ) (part : Set) → line_text (spelled names (Happens (Ask seat part)))
      ≡ codes "ask," ++ (name_at names.tasks seat ++ (behind_comma (set_text names.resources part) ++ 10 ∷ []))
  unfolding write
  ask_is seat part = line_is (codes "ask") (name_at names.tasks seat ∷ set_text names.resources part ∷ [])

  -- an issue, by its kind
  issue_text : Kind → ℕ → RequestFields → List ℕ
  issue_text Read seat r = codes "issue," ++ (name_at names.tasks seat ++ (codes ",read" ++ (behind_comma (set_text names.resources r.reads) ++ (behind_comma (decimal r.len) ++ 10 ∷ []))))
  issue_text Write seat r = codes "issue," ++ (name_at names.tasks seat ++ (codes ",write" ++ (behind_comma (set_text names.resources r.writes) ++ (behind_comma (decimal r.len) ++ 10 ∷ []))))
  issue_text Mixed seat r =
      codes "issue," ++ (name_at names.tasks seat ++ (codes ",mixed" ++ (behind_comma (set_text names.resources r.reads) ++ (behind_comma (set_text names.resources r.writes) ++ (behind_comma (decimal r.len) ++ 10 ∷ [])))))
  issue_text Upgrade seat r =
      codes "issue," ++ (name_at names.tasks seat ++ (codes ",upgrade" ++ (behind_comma (set_text names.resources r.reads) ++ (behind_comma (decimal r.len) ++ (behind_comma (decimal r.later) ++ 10 ∷ [])))))
  issue_text Nested seat r =
      codes "issue," ++ (name_at names.tasks seat ++ (codes ",nested" ++ (behind_comma (set_text names.resources r.reads) ++ (behind_comma (set_text names.resources r.writes)
      ++ (behind_comma (set_text names.resources r.first) ++ (behind_comma (decimal r.len) ++ 10 ∷ []))))))

  abbrev issue_line : Kind → ℕ → RequestFields → List ℕ
  issue_line kind seat r = line_text (write names (fields_of (word.Issue kind)) (issue_values kind seat r.reads r.writes r.first r.len r.later))

  by_kind : (kind : Kind) (seat : ℕ) (r : RequestFields) → issue_line kind seat r ≡ issue_text kind seat r
  unfolding write issue_text
  by_kind Read seat r = line_is (codes "issue") (name_at names.tasks seat ∷ codes "read" ∷ set_text names.resources r.reads ∷ decimal r.len ∷ [])
  by_kind Write seat r = line_is (codes "issue") (name_at names.tasks seat ∷ codes "write" ∷ set_text names.resources r.writes ∷ decimal r.len ∷ [])
  by_kind Mixed seat r = line_is (codes "issue") (name_at names.tasks seat ∷ codes "mixed" ∷ set_text names.resources r.reads ∷ set_text names.resources r.writes ∷ decimal r.len ∷ [])
  by_kind Upgrade seat r = line_is (codes "issue") (name_at names.tasks seat ∷ codes "upgrade" ∷ set_text names.resources r.reads ∷ decimal r.len ∷ decimal r.later ∷ [])
  by_kind Nested seat r = line_is (codes "issue") (name_at names.tasks seat ∷ codes "nested" ∷ set_text names.resources r.reads ∷ set_text names.resources r.writes ∷ set_text names.resources r.first ∷ decimal r.len ∷ [])

  issue_is : (kind : Kind) (seat : ℕ) (r : RequestFields) → r.kind ≡ kind → line_text (spelled names (Happens (Issue seat r))) ≡ issue_text kind seat r
  issue_is kind seat r e = subst (λ (k : Kind). line_text (spelled names (Happens (Issue seat r))) ≡ issue_text k seat r) e (by_kind r.kind seat r)

  pub read_is : (seat : ℕ) (r : RequestFields) → r.kind ≡ Read → line_text (spelled names (Happens (Issue seat r)))
      ≡ codes "issue," ++ (name_at names.tasks seat ++ (codes ",read" ++ (behind_comma (set_text names.resources r.reads) ++ (behind_comma (decimal r.len) ++ 10 ∷ []))))
  unfolding issue_text
  read_is seat r e = issue_is Read seat r e

  pub write_is : (seat : ℕ) (r : RequestFields) → r.kind ≡ Write → line_text (spelled names (Happens (Issue seat r)))
      ≡ codes "issue," ++ (name_at names.tasks seat ++ (codes ",write" ++ (behind_comma (set_text names.resources r.writes) ++ (behind_comma (decimal r.len) ++ 10 ∷ []))))
  unfolding issue_text
  write_is seat r e = issue_is Write seat r e

  pub mixed_is : (seat : ℕ) (r : RequestFields) → r.kind ≡ Mixed → line_text (spelled names (Happens (Issue seat r)))
      ≡ codes "issue," ++ (name_at names.tasks seat ++ (codes ",mixed" ++ (behind_comma (set_text names.resources r.reads) ++ (behind_comma (set_text names.resources r.writes) ++ (behind_comma (decimal r.len) ++ 10 ∷ [])))))
  unfolding issue_text
  mixed_is seat r e = issue_is Mixed seat r e

  pub upgrade_is : (seat : ℕ) (r : RequestFields) → r.kind ≡ Upgrade → line_text (spelled names (Happens (Issue seat r)))
      ≡ codes "issue," ++ (name_at names.tasks seat ++ (codes ",upgrade" ++ (behind_comma (set_text names.resources r.reads) ++ (behind_comma (decimal r.len) ++ (behind_comma (decimal r.later) ++ 10 ∷ [])))))
  unfolding issue_text
  upgrade_is seat r e = issue_is Upgrade seat r e

  pub nested_is : (seat : ℕ) (r : RequestFields) → r.kind ≡ Nested → line_text (spelled names (Happens (Issue seat r)))
      ≡ codes "issue," ++ (name_at names.tasks seat ++ (codes ",nested" ++ (behind_comma (set_text names.resources r.reads) ++ (behind_comma (set_text names.resources r.writes)
      ++ (behind_comma (set_text names.resources r.first) ++ (behind_comma (decimal r.len) ++ 10 ∷ []))))))
  unfolding issue_text
  nested_is seat r e = issue_is Nested seat r e

  -- ---- acts

  pub shown_is : (place number : ℕ) → line_text (spelled names (Does (Shown place number)))
      ≡ codes "show," ++ (name_at names.resources place ++ (behind_comma (decimal number) ++ 10 ∷ []))
  unfolding write
  shown_is place number = line_is (codes "show") (name_at names.resources place ∷ decimal number ∷ [])

  -- the end of the line of an edit
  abbrev pub edited : ℕ → ℕ → Bool → List ℕ
  edited place amount done = name_at names.resources place ++ (behind_comma (decimal amount) ++ (behind_comma (yes_or_no done) ++ 10 ∷ []))

  pub add_is : (place amount : ℕ) (done : Bool) → line_text (spelled names (Does (Edited place (edit.Add amount) done))) ≡ codes "add," ++ edited place amount done
  unfolding write
  add_is place amount done = line_is (codes "add") (name_at names.resources place ∷ decimal amount ∷ yes_or_no done ∷ [])

  pub take_is : (place amount : ℕ) (done : Bool) → line_text (spelled names (Does (Edited place (edit.Take amount) done))) ≡ codes "take," ++ edited place amount done
  unfolding write
  take_is place amount done = line_is (codes "take") (name_at names.resources place ∷ decimal amount ∷ yes_or_no done ∷ [])

  pub put_is : (place amount : ℕ) (done : Bool) → line_text (spelled names (Does (Edited place (edit.Set amount) done))) ≡ codes "set," ++ edited place amount done
  unfolding write
  put_is place amount done = line_is (codes "set") (name_at names.resources place ∷ decimal amount ∷ yes_or_no done ∷ [])

  -- ---- changes and grants

  entitled_is : (seat : ℕ) (half : Bool) → line_text (spelled names (BecomesEntitled seat half)) ≡ codes "now," ++ (name_at names.tasks seat ++ (if_write half ++ codes ",entitled\n"))
  unfolding write
  entitled_is seat true = line_is (codes "now") (name_at names.tasks seat ∷ codes "write" ∷ codes "entitled" ∷ [])
  entitled_is seat false = line_is (codes "now") (name_at names.tasks seat ∷ codes "read" ∷ codes "entitled" ∷ [])

  satisfied_is : (seat : ℕ) (half : Bool) → line_text (spelled names (BecomesSatisfied seat half)) ≡ codes "now," ++ (name_at names.tasks seat ++ (if_write half ++ codes ",satisfied\n"))
  unfolding write
  satisfied_is seat true = line_is (codes "now") (name_at names.tasks seat ∷ codes "write" ∷ codes "satisfied" ∷ [])
  satisfied_is seat false = line_is (codes "now") (name_at names.tasks seat ∷ codes "read" ∷ codes "satisfied" ∷ [])

  -- the text of the one line of a new status
  pub entitled_told : (seat : ℕ) (half : Bool) → text_of (map (spelled names) (BecomesEntitled seat half ∷ [])) ≡ (codes "now," ++ name_at names.tasks seat) ++ (if_write half ++ codes ",entitled\n")
  entitled_told seat half =
      append-nil (line_text (spelled names (BecomesEntitled seat half))) ∙ entitled_is seat half ∙ sym (append_assoc (codes "now,") (name_at names.tasks seat) (if_write half ++ codes ",entitled\n"))

  pub satisfied_told : (seat : ℕ) (half : Bool) → text_of (map (spelled names) (BecomesSatisfied seat half ∷ [])) ≡ (codes "now," ++ name_at names.tasks seat) ++ (if_write half ++ codes ",satisfied\n")
  satisfied_told seat half =
      append-nil (line_text (spelled names (BecomesSatisfied seat half))) ∙ satisfied_is seat half ∙ sym (append_assoc (codes "now,") (name_at names.tasks seat) (if_write half ++ codes ",satisfied\n"))

  pub grants_is : (seat : ℕ) (s : Set) → line_text (spelled names (Grants seat s)) ≡ codes "grant," ++ (name_at names.tasks seat ++ (behind_comma (set_text names.resources s) ++ 10 ∷ []))
  unfolding write
  grants_is seat s = line_is (codes "grant") (name_at names.tasks seat ∷ set_text names.resources s ∷ [])

  -- ---- heads and ends

  pub opens_is : line_text (spelled names Opens) ≡ codes "rnlp,1\n"
  unfolding write
  opens_is = refl

  pub resource_is : (name : List ℕ) → line_text (spelled names (HasResource name)) ≡ codes "resource," ++ (name ++ 10 ∷ [])
  unfolding write
  resource_is name = line_is (codes "resource") (name ∷ [])

  pub group_is : (s : Set) → line_text (spelled names (HasGroup s)) ≡ codes "group" ++ (behind_comma (set_text names.resources s) ++ 10 ∷ [])
  unfolding write
  group_is s = line_is (codes "group") (set_text names.resources s ∷ [])

  pub task_is : (name : List ℕ) → line_text (spelled names (HasTask name)) ≡ codes "task," ++ (name ++ 10 ∷ [])
  unfolding write
  task_is name = line_is (codes "task") (name ∷ [])

  pub cap_is : (n : ℕ) → line_text (spelled names (HasCap n)) ≡ codes "cap" ++ (behind_comma (decimal n) ++ 10 ∷ [])
  unfolding write
  cap_is n = line_is (codes "cap") (decimal n ∷ [])

  pub leaves_is : (place : ℕ) (ledger : Ledger) → line_text (spelled names (Leaves place ledger))
      ≡ codes "ledger," ++ (name_at names.resources place ++ (behind_comma (decimal ledger.balance) ++ (behind_comma (decimal ledger.edits) ++ 10 ∷ [])))
  unfolding write
  leaves_is place ledger = line_is (codes "ledger") (name_at names.resources place ∷ decimal ledger.balance ∷ decimal ledger.edits ∷ [])

  pub ends_is : line_text (spelled names Ends) ≡ codes "end\n"
  unfolding write
  ends_is = refl
