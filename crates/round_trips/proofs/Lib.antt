mod Owned
mod Returned
