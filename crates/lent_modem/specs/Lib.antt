pub mod LentModem
