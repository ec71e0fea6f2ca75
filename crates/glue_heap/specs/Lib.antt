pub mod HeapItems
pub mod HeapKeys
pub mod HeapTrees
