pub mod States
pub mod Results
pub mod Evaluation
pub mod Shown
pub mod Ready
