pub mod NodeRows
