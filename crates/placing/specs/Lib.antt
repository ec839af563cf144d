pub mod UnmetCounts
