pub mod Closable
