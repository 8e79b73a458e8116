mod ColumnLemmas
mod PlaceLemmas
mod DocumentLemmas
