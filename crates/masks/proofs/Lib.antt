-- Laws of chunks and masks.
pub mod MaskLaws
pub mod ChunkLaws
