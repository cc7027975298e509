-- What process_files promises.
pub mod Images
-- What follows of it.
pub mod FirstLaws
