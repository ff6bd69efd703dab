-- The places of the new segments, one behind the other: each is the one before it and that one's size, and no sum wraps. Assumes nothing.
use Prim.Native.Nat.{ℕ, ◌+◌, ◌^◌, ◌≤◌}
use mathlib.Core.Path.{◌≡◌, refl, ap, ◌∙◌}
use mathlib.Core.List.{List}
use native.Mathlib.Omega.{arith}
use mir.Syntax.{w64}
use mir.Val.{Fits}
use Rattle.format.specs.File.{metadata_position, attachment_directory_position}
use Rattle.format.specs.Directory.{tile_count}
use Rattle.format.specs.Attachments.{attachment_count}
use Rattle.format.specs.Rules.{AcceptedFile}
use Rattle.pack.specs.Pack.{segment_size, allocated}
use Rattle.repacked.specs.NewFile.{if_named, directory_size, metadata_content_size, attachment_directory_size}
use Rattle.repacked.specs.NewFile.{new_directory, new_block, new_metadata, new_attachment_directory, new_attachment, new_end}
use Rattle.repack.specs.Places.{PlacesAre}
use Rattle.repack.proofs.Bounds.{directory-most, new-block-most, new-directory-most, new-attachment-most}

-- the directory's place
pub directory-at : 544 ≡ new_directory
unfolding new_directory segment_size allocated
directory-at = refl

module _ (bs : List ℕ) (a : AcceptedFile bs) where
  -- the directory's content has m bytes, and the segment r
  module _ (m : ℕ) (e : m ≡ directory_size bs) where
    pub directory-small : m ≤ 2 ^ 60
    directory-small = omega (arith, directory-most bs a)

    module _ (r : ℕ) (f : r ≡ segment_size m) where
      pub first_block : 544 + r ≡ new_block bs 0
      unfolding new_block
      first_block = rw (← directory-at, f, e)

      pub first-block-fits : Fits w64 (544 + r)
      first-block-fits = omega (arith, first_block, new-block-most bs a 0 (omega arith))

  -- the n sub-blocks end at x, and the metadata segment has r bytes
  module _ (n x r : ℕ) (c : n ≡ tile_count bs) (e : x ≡ new_block bs n)
      (f : r ≡ if_named (metadata_position bs) (segment_size (metadata_content_size bs (metadata_position bs))) 0) where
    metadata-place : x ≡ new_metadata bs
    unfolding new_metadata
    metadata-place = e ∙ ap (new_block bs) c

    directory-place : x + r ≡ new_attachment_directory bs
    unfolding new_attachment_directory
    directory-place = rw (← f, metadata-place)

    pub directory-fits : Fits w64 (x + r)
    directory-fits = omega (arith, directory-place, new-directory-most bs a)

    -- the attachment directory with k entries has y bytes
    module _ (k y : ℕ) (d : k ≡ attachment_count bs) (g : y ≡ if_named (attachment_directory_position bs) (segment_size (attachment_directory_size k)) 0) where
      pub first-attachment : x + r + y ≡ new_attachment bs 0
      unfolding new_attachment
      first-attachment = rw (directory-place, ← d, ← g)

      pub first-attachment-fits : Fits w64 (x + r + y)
      first-attachment-fits = omega (arith, first-attachment, new-attachment-most bs a 0 (omega arith))

      -- the first sub-block is at b, and the attachments end at z
      pub places-are : (b z : ℕ) → b ≡ new_block bs 0 → z ≡ new_attachment bs k
          → PlacesAre bs (record { tiles = n; attachments = k; block = b; metadata = x; attachment_directory = x + r; attachment = x + r + y; end = z })
      unfolding new_end
      places-are b z h i = record {
        tiles = c;
        attachments = d;
        block = h;
        metadata = metadata-place;
        attachment_directory = directory-place;
        attachment = first-attachment;
        end = i ∙ ap (new_attachment bs) d;
      }
