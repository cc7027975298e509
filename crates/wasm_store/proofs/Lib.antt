mod SegmentsFit
pub mod GlobalViews
pub mod StoreMarks
pub mod StoreSuits
