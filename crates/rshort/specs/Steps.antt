-- Where a reader of CSV stands, and what a byte does, in the words of `csv`.
use Rattle.csv.specs.declared.parser.Action.{Action}
use Rattle.csv.specs.declared.parser.Action.TheVariants as act
use Rattle.csv.specs.declared.parser.State.{State}
use Rattle.csv.specs.declared.parser.State.TheVariants as st
use Rattle.rshort.specs.declared.step.Stand.{Stand}
use Rattle.rshort.specs.declared.step.Stand.TheVariants.{RecordStart, FieldStart, Bare, Quoted, QuoteRead, ReturnRead}
use Rattle.rshort.specs.declared.step.Does.{Does}
use Rattle.rshort.specs.declared.step.Does.TheVariants.{Nothing, Joins, EndsField, EndsRecord}

abbrev pub state_of : Stand → State
state_of RecordStart = st.StartRecord
state_of FieldStart = st.StartField
state_of Bare = st.InField
state_of Quoted = st.InQuoted
state_of QuoteRead = st.AfterQuote
state_of ReturnRead = st.AfterCr

abbrev pub action_of : Does → Action
action_of Nothing = act.Skip
action_of Joins = act.Copy
action_of EndsField = act.EndField
action_of EndsRecord = act.EndRecord
