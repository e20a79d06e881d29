pub mod InTurnLemmas
pub mod ValueLemmas
