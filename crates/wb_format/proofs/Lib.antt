pub mod Numbers
pub mod Values
pub mod Spellings
pub mod WordLemmas
