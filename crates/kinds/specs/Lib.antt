pub mod Kinds
pub mod GivesValues
pub mod Coded
