-- The record written of a word is a record of that word: no two words share a form.
use Rattle.std.proofs.Common.{◌≡◌, Some, refl}
use Rattle.rclaim.specs.declared.request.Kind.TheVariants.{Read, Write, Mixed, Upgrade, Nested}
use Rattle.rtrace_form.specs.Fields.{Names, Values, write, has_form}
use Rattle.rscript.specs.Words.{fields_of, word_in}
use Rattle.rscript.specs.declared.word.ScriptWord.{ScriptWord}
use Rattle.rscript.specs.declared.word.ScriptWord.TheVariants as word

pub word_back : (names : Names) (w : ScriptWord) (v : Values (fields_of w)) → word_in (write names (fields_of w) v) ≡ Some w
unfolding word_in write has_form
word_back names word.Version v = refl
word_back names word.Resource v = refl
word_back names word.Group v = refl
word_back names word.Task v = refl
word_back names (word.Begin Read) v = refl
word_back names (word.Begin Write) v = refl
word_back names (word.Begin Mixed) v = refl
word_back names (word.Begin Upgrade) v = refl
word_back names (word.Begin Nested) v = refl
word_back names word.Show v = refl
word_back names word.Add v = refl
word_back names word.Take v = refl
word_back names word.Put v = refl
word_back names word.Ask v = refl
word_back names word.Rise v = refl
word_back names word.Finish v = refl
word_back names word.End v = refl
