pub mod LentHost
