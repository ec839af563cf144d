pub mod FirstBad
pub mod OrElse
