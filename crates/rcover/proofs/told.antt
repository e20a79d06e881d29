-- The waits that states show, followed from moment to moment.
pub mod Asking
pub mod Gone
pub mod Knowing
pub mod LetGo
pub mod Noted
pub mod Reading
pub mod Rising
pub mod Stood
pub mod Waiting
