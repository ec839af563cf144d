-- Exports holds what each exported function leaves.
pub mod Exports
