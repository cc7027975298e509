pub mod FirstHead
pub mod KnownMotions
pub mod LeastEvent
pub mod MergedOrder
pub mod SendReceivers
pub mod SortedSends
