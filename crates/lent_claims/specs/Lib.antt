pub mod Given
pub mod Turns
pub mod AssemblyMemory
pub mod DamageInMemory
pub mod HostMemory
pub mod ModemMemory
pub mod PinMemory
