pub mod LentProgress
