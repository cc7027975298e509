pub mod TableReadBack
