pub mod AsBase
