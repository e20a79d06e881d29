-- The record that is written of a word is a record of that word: no two words have a form in common.
use Rattle.std.proofs.Common.{◌≡◌, true, false, Some, refl}
use Rattle.rclaim.specs.declared.request.Kind.TheVariants.{Read, Write, Mixed, Upgrade, Nested}
use Rattle.rtrace_form.specs.Fields.{Names, Values, write, has_form}
use Rattle.rtrace_form.specs.Words.{fields_of, word_in}
use Rattle.rtrace_form.specs.declared.word.Stage.TheVariants as stage
use Rattle.rtrace_form.specs.declared.word.Word.{Word}
use Rattle.rtrace_form.specs.declared.word.Word.TheVariants as word

pub word_back : (names : Names) (w : Word) (v : Values (fields_of w)) → word_in true (write names (fields_of w) v) ≡ Some w
unfolding word_in write has_form
word_back names word.Version v = refl
word_back names word.Resource v = refl
word_back names word.Group v = refl
word_back names word.Task v = refl
word_back names word.Cap v = refl
word_back names (word.Issue Read) v = refl
word_back names (word.Issue Write) v = refl
word_back names (word.Issue Mixed) v = refl
word_back names (word.Issue Upgrade) v = refl
word_back names (word.Issue Nested) v = refl
word_back names word.Finish v = refl
word_back names word.Rise v = refl
word_back names word.Ask v = refl
word_back names word.Show v = refl
word_back names (word.Add true) v = refl
word_back names (word.Add false) v = refl
word_back names (word.Take true) v = refl
word_back names (word.Take false) v = refl
word_back names (word.Put true) v = refl
word_back names (word.Put false) v = refl
word_back names (word.Entitled true) v = refl
word_back names (word.Entitled false) v = refl
word_back names (word.Satisfied true) v = refl
word_back names (word.Satisfied false) v = refl
word_back names word.Grant v = refl
word_back names (word.Wait stage.First) v = refl
word_back names (word.Wait stage.Rise) v = refl
word_back names (word.Wait stage.Ask) v = refl
word_back names word.Ledger v = refl
word_back names word.End v = refl
