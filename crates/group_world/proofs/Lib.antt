pub mod ListEnds
pub mod EventLemmas
pub mod NetLemmas
pub mod CountedWorld
pub mod DatagramOrigins
pub mod DatagramTurns
