mod DrawLemmas
mod ShelfLemmas
