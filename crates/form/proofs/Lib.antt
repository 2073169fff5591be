pub mod Parts
pub mod Sheets
pub mod DeemedRecords
pub mod Deeming
pub mod Accepting
