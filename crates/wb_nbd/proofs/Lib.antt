pub mod Fitting
mod Zeros
