pub mod Order
pub mod Entering
pub mod TallyLaws
pub mod Handover
pub mod Quorums
pub mod HandoverEntries
pub mod HandoverOrder
pub mod HandoverTurns
pub mod RowsPlace
pub mod RowsTable
pub mod RowsKept
pub mod RowsEnter
pub mod Living
mod Common
