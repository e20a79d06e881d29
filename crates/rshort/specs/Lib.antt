pub mod Cut
pub mod Steps
pub mod Joints
pub mod Cutters
pub mod Closed
