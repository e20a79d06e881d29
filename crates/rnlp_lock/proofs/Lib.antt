pub mod Conserving
mod Asks
mod Holdings
mod Keeping
mod Making
mod MayAsk
mod Moving
mod Refusing
mod Risen
mod Standing
