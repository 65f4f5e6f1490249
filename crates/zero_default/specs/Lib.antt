pub mod Base
pub mod Zero
