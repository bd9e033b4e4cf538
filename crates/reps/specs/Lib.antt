pub mod Reps
