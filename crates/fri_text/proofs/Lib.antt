pub mod HexLemmas
pub mod FirstLines
pub mod DecimalNumbers
