pub mod Stream
pub mod Ready
pub mod OneByOne
pub mod Run
