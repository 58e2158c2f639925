pub mod PacketService
pub mod Claims
