-- What sectors store of a tree, and what edits leave of it.
pub mod Edited
pub mod EntryChanges
pub mod Whole
