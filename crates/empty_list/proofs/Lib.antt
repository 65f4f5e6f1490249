pub mod Numbers
pub mod AsZero
pub mod Fairness
pub mod SheetText
