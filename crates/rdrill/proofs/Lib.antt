pub mod Sets
pub mod Acting
pub mod Latest
pub mod Writing
pub mod Running
pub mod Coming
pub mod DrawnRequests
pub mod WhatIsDrawn
