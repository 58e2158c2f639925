pub mod LentStream
