pub mod Totals
pub mod Values
pub mod LogsKept
pub mod RuleKept
