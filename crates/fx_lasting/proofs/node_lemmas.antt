-- Lemmas of the nodes: births, stocks, kept nodes and labels.
pub mod StockMoves
pub mod Choosing
pub mod NodeSteps
pub mod FreeNodes
pub mod Births
pub mod Labelling
pub mod FirstStocks
pub mod Sought
pub mod Settled
pub mod KeptNodes
