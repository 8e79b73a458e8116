mod PiecesLemmas
pub mod EscapedLemmas
mod HtmlLemmas
pub mod Onto
mod CellLemmas
mod WayLemmas
mod RunLemmas
mod PageLemmas
mod SheetLemmas
