-- Acts of sections, and what they make of values: for laws of value types.
pub use Rattle.rvalue.specs.declared.act.Act.{Act}
pub use Rattle.rvalue.specs.declared.act.Act.TheVariants.{Edited, Shown}
pub use Rattle.rvalue.specs.Acts.{AnswersAreRight, value_within, edits_in}
