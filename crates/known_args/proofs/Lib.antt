pub mod TableLemmas
mod RowLemmas
mod ApplicationLemmas
