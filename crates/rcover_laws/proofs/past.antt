-- What the events so far say of claims.
pub mod Asks
pub mod KnownAsks
