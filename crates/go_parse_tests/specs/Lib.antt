pub mod HandedBlocks
