-- What the code knows before it writes: where the new segments stand, and that they have room.
use Rattle.std.specs.Prelude.{ℕ, ◌≤◌, ◌≡◌, List, length}
use Rattle.format.specs.Rules.{AcceptedFile}
use Rattle.format.specs.Directory.{tile_count}
use Rattle.format.specs.Attachments.{attachment_count}
use Rattle.repacked.specs.NewFile.{new_block, new_metadata, new_attachment_directory, new_attachment, new_end}
use Rattle.repack.specs.declared.sizes.Places.{Places}

-- how many tiles and attachments the old file bs has, and where the new segments stand
pub record PlacesAre (bs : List ℕ) (p : Places) : Type 0 where
  pub tiles : p.tiles ≡ tile_count bs
  pub attachments : p.attachments ≡ attachment_count bs
  pub block : p.block ≡ new_block bs 0
  pub metadata : p.metadata ≡ new_metadata bs
  pub attachment_directory : p.attachment_directory ≡ new_attachment_directory bs
  pub attachment : p.attachment ≡ new_attachment bs 0
  pub end : p.end ≡ new_end bs

-- the old file bs is accepted, and its new one has room in the lent buffer u
pub record RepackRoom (bs u : List ℕ) (p : Places) : Type 0 where
  pub accepted : AcceptedFile bs
  pub places : PlacesAre bs p
  pub fits : new_end bs ≤ length u
