pub mod Record
pub mod Expected
pub mod Agreement
pub mod ExpectedLaws
pub mod Valid
pub mod Laws
pub mod Gathering
