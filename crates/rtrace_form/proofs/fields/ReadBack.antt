-- What is written of fields is read again.
use Rattle.std.proofs.Common.{◌≡◌, ◌∷◌, [], List, Option, Some, refl, ap}
use Rattle.std.specs.Prelude.{option_map}
use Rattle.rset.specs.declared.TheConstants.{RESOURCES, SEATS}
use Rattle.rset.proofs.NameLemmas.{table_differs}
use Rattle.rtrace_form.specs.Fields.{Names, AreTables, Field, Said, Fresh, OneResource, OneTask, Members, Number, Length, Limit, Values, paired, read, write, AllGood}
use Rattle.rtrace_form.proofs.fields.NumbersBack.{number_back, length_back, cap_back}
use Rattle.rtrace_form.proofs.fields.SetsBack.{resource_back, set_back}

pair_back : {X Y : Type 0} (a : Option X) (x : X) (b : Option Y) (y : Y) → a ≡ Some x → b ≡ Some y → paired a b ≡ Some (x, y)
pair_back a x b y p q = λ i. paired (p i) (q i)

module _ (names : Names) (tables : AreTables names) where
  pub read_back : (fs : List Field) (v : Values fs) → AllGood names fs v → read names fs (write names fs v) ≡ Some v
  unfolding read write
  read_back [] v good = refl
  read_back (Said word ∷ fs) v good = read_back fs v good
  read_back (Fresh ∷ fs) v good = ap (option_map (λ b. (v.0, b))) (read_back fs v.1 good)
  read_back (OneResource ∷ fs) v good =
      pair_back _ v.0 _ v.1 (resource_back names.resources v.0 (table_differs RESOURCES names.resources tables.resources) good.0) (read_back fs v.1 good.1)
  read_back (OneTask ∷ fs) v good =
      pair_back _ v.0 _ v.1 (resource_back names.tasks v.0 (table_differs SEATS names.tasks tables.tasks) good.0) (read_back fs v.1 good.1)
  read_back (Members ∷ fs) v good = pair_back _ v.0 _ v.1 (set_back names.resources tables.resources v.0 good.0) (read_back fs v.1 good.1)
  read_back (Number ∷ fs) v good = pair_back _ v.0 _ v.1 (number_back v.0 good.0) (read_back fs v.1 good.1)
  read_back (Length ∷ fs) v good = pair_back _ v.0 _ v.1 (length_back v.0 good.0) (read_back fs v.1 good.1)
  read_back (Limit ∷ fs) v good = pair_back _ v.0 _ v.1 (cap_back v.0 good.0.0 good.0.1) (read_back fs v.1 good.1)
