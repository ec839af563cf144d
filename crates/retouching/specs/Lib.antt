-- Retouch holds order 4's call, NumbersPut what is promised of its results; RetouchStages what the functions between promise.
pub mod Retouch
pub mod NumbersPut
pub mod RetouchStages
