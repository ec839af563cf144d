pub mod Sheet
pub mod Right
pub mod Shows
pub mod NumberPut
