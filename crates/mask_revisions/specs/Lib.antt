pub mod Edits
pub mod RevisionsView
pub mod Revisions
pub mod Steps
pub mod Stamps
pub mod Windows
