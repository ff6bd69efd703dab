-- What the functions need and put that put all segments of the new file: the annexes, and the whole. Assumes nothing.
use Prim.Native.Nat.{ℕ, ◌+◌, ◌≤◌}
use mathlib.Core.Path.{◌≡◌, refl, sym, ap, ◌∙◌}
use mathlib.Core.List.{List, [], ◌∷◌, ◌++◌, append_assoc}
use native.Mathlib.Omega.{arith}
use lib.ListN.{length}
use borrow.Author.Tests.{eq-eqb, ne_eqb}
use Rattle.format.specs.File.{metadata_position, attachment_directory_position}
use Rattle.format.specs.Directory.{tile_count}
use Rattle.format.specs.Attachments.{attachment_count}
use Rattle.pack.specs.Pack.{Segment, segment_size, segment_bytes, packed, each}
use Rattle.pack.specs.Put.{put}
use Rattle.repacked.specs.NewFile.{if_named, directory_size, metadata_content_size, attachment_directory_size}
use Rattle.repacked.specs.NewFile.{new_directory, new_block, new_metadata, new_attachment_directory, new_attachment, new_end}
use Rattle.repacked.specs.NewFile.{file_segment, directory_segment, block_segment, attachment_segment, annex_segments, new_segments, repacked}
use Rattle.repacked.proofs.Lengths.{kept}
use Rattle.repacked.proofs.Places.{metadata_if, directory_if, before_block, before-directory, before-block, before-metadata}
use Rattle.repack.specs.Places.{RepackRoom}
use Rattle.repack.specs.declared.sizes.Places.{Places}
use Rattle.repack.proofs.NewPlaces.{directory-at}
use Rattle.repack.proofs.Annexes.{DirectoryRoom, directory-room}
use Rattle.repack.proofs.PackedPuts.{packed_none, packed-one, packed-next, directory-behind, attachments-behind, block-rises, attachment-rises}

-- ---- a segment that need not be there: the position m of the old file names it, or is 0

module _ (s : Segment) (q m : ℕ) (e : m ≡ q) (u : List ℕ) (p : ℕ) where
  pub absent-put : m ≡ 0 → u ≡ put u p (packed (if_named q (s ∷ []) []))
  absent-put z = rw (eq-eqb q 0 (sym e ∙ z)) (packed_none u p)

  pub present-put : (m ≡ 0 → ⊥) → (v : List ℕ) → v ≡ put u p (segment_bytes s) → v ≡ put u p (packed (if_named q (s ∷ []) []))
  present-put some v f = rw (ne_eqb q 0 (λ z. some (e ∙ z))) (packed-one u v p s f)

-- it has room, with r bytes, before x
named-room : (q m p r x : ℕ) → m ≡ q → (m ≡ 0 → ⊥) → p + if_named q r 0 ≤ x → p + r ≤ x
named-room q m p r x e some h = rw (ne_eqb q 0 (λ z. some (e ∙ z))) at h

pub metadata-has-room : (bs : List ℕ) (m p l : ℕ) → m ≡ metadata_position bs → (m ≡ 0 → ⊥) → p ≡ new_metadata bs → new_attachment_directory bs ≤ l
    → p + segment_size (metadata_content_size bs m) ≤ l
unfolding new_attachment_directory
metadata-has-room bs m p l e some f h = rw (f, e) (named-room (metadata_position bs) m _ _ l e some h)

pub directory-has-room : (bs : List ℕ) (t p n l : ℕ) → t ≡ attachment_directory_position bs → (t ≡ 0 → ⊥) → n ≡ attachment_count bs → p ≡ new_attachment_directory bs
    → new_attachment bs 0 ≤ l → p + segment_size (attachment_directory_size n) ≤ l
unfolding new_attachment
directory-has-room bs t p n l e some c f h = rw (f, c) (named-room (attachment_directory_position bs) t _ _ l e some h)

-- ---- the room of all segments, in l bytes

pub record FileRoom (bs : List ℕ) (l : ℕ) : Type 0 where
  pub directory : 544 + segment_size (directory_size bs) ≤ l
  pub blocks : new_block bs (tile_count bs) ≤ l
  pub metadata : new_metadata bs ≤ l
  pub attachments : new_attachment_directory bs ≤ l
  pub attachment : new_attachment bs 0 ≤ l
  pub end : new_attachment bs (attachment_count bs) ≤ l

first-is : (bs : List ℕ) → new_block bs 0 ≡ 544 + segment_size (directory_size bs)
unfolding new_block
first-is bs = rw directory-at

metadata-is : (bs : List ℕ) → new_metadata bs ≡ new_block bs (tile_count bs)
unfolding new_metadata
metadata-is bs = refl

directory-after : (bs : List ℕ) → new_metadata bs ≤ new_attachment_directory bs
unfolding new_attachment_directory
directory-after bs = omega arith

attachment-after : (bs : List ℕ) → new_attachment_directory bs ≤ new_attachment bs 0
unfolding new_attachment
attachment-after bs = omega arith

end_is : (bs : List ℕ) → new_end bs ≡ new_attachment bs (attachment_count bs)
unfolding new_end
end_is bs = refl

pub file-room : (bs : List ℕ) (l : ℕ) → new_end bs ≤ l → FileRoom bs l
file-room bs l h =
    let f = first-is bs in
    let m = metadata-is bs in
    let d = directory-after bs in
    let t = attachment-after bs in
    let e = end_is bs in
    let b = block-rises bs 0 (tile_count bs) (omega arith) in
    let k = attachment-rises bs 0 (attachment_count bs) (omega arith) in
    record {
      directory = omega arith;
      blocks = omega arith;
      metadata = omega arith;
      attachments = omega arith;
      attachment = omega arith;
      end = omega arith;
    }

-- behind n sub-blocks, and behind n attachments
pub blocks-room : (bs : List ℕ) (n l : ℕ) → n ≡ tile_count bs → new_end bs ≤ l → new_block bs n ≤ l
blocks-room bs n l c h = rw c (file-room bs l h).blocks

pub end-room : (bs : List ℕ) (n l : ℕ) → n ≡ attachment_count bs → new_end bs ≤ l → new_attachment bs n ≤ l
end-room bs n l c h = rw c (file-room bs l h).end

-- the attachment directory's room, where the old one is at t
module _ (bs u : List ℕ) (p : Places) (r : RepackRoom bs u p) (t : ℕ) (e : (t ≡ attachment_directory_position bs) × (t ≡ 0 → ⊥)) where
  pub directory-placed : p.attachment_directory + segment_size (attachment_directory_size p.attachments) ≤ length u
  directory-placed =
      directory-has-room bs t p.attachment_directory p.attachments (length u) e.0 e.1 r.places.attachments r.places.attachment_directory
      (file-room bs (length u) r.fits).attachment

  pub directory-here : (n : ℕ) → n ≡ attachment_directory_size p.attachments → DirectoryRoom p.attachments n (length u) p.attachment_directory
  directory-here n f = directory-room bs r.accepted p.attachments r.places.attachments n f (length u) p.attachment_directory directory-placed

-- ---- the annexes, and the whole file

module _ (bs u : List ℕ) (p : Places) (r : RepackRoom bs u p) where
  room : FileRoom bs (length u)
  room = file-room bs (length u) r.fits

  pub annexes-put : (v₁ v₂ v₃ : List ℕ) → v₃ ≡ put v₂ p.attachment (packed (each p.attachments (attachment_segment bs)))
      → v₂ ≡ put v₁ p.attachment_directory (packed (directory_if bs)) → v₁ ≡ put u p.metadata (packed (metadata_if bs))
      → v₃ ≡ put u (new_metadata bs) (packed (annex_segments bs))
  unfolding annex_segments
  annexes-put v₁ v₂ v₃ e₃ e₂ e₁ =
      let k = kept bs r.accepted in
      let xs = each (attachment_count bs) (attachment_segment bs) in
      let f₁ : v₁ ≡ put u (new_metadata bs) (packed (metadata_if bs)) = rw r.places.metadata at e₁ in
      let f₂ : v₂ ≡ put v₁ (new_attachment_directory bs) (packed (directory_if bs)) = rw r.places.attachment_directory at e₂ in
      let f₃ : v₃ ≡ put v₂ (new_attachment bs 0) (packed xs) = rw (r.places.attachment, r.places.attachments) at e₃ in
      let g₂ = packed-next u v₁ v₂ (metadata_if bs) (directory_if bs) (new_metadata bs) (new_attachment_directory bs) room.attachments (directory-behind bs k) f₁ f₂ in
      packed-next u v₂ v₃ (metadata_if bs ++ directory_if bs) xs (new_metadata bs) (new_attachment bs 0) room.attachment (attachments-behind bs k) g₂ f₃
      ∙ ap (λ l. put u (new_metadata bs) (packed l)) (append_assoc (metadata_if bs) (directory_if bs) xs)

  pub file-put : (v₁ v₂ v₃ v₄ : List ℕ) → v₄ ≡ put v₃ (new_metadata bs) (packed (annex_segments bs))
      → v₃ ≡ put v₂ p.block (packed (each p.tiles (block_segment bs))) → v₂ ≡ put v₁ 544 (segment_bytes (directory_segment bs))
      → v₁ ≡ put u 0 (segment_bytes (file_segment bs)) → v₄ ≡ put u 0 (repacked bs)
  unfolding repacked new_segments each
  file-put v₁ v₂ v₃ v₄ e₄ e₃ e₂ e₁ =
      let k = kept bs r.accepted in
      let n = tile_count bs in
      let f₁ = packed-one u v₁ 0 (file_segment bs) e₁ in
      let f₂ : v₂ ≡ put v₁ new_directory (packed (directory_segment bs ∷ [])) = packed-one v₁ v₂ new_directory (directory_segment bs) (rw directory-at at e₂) in
      let f₃ : v₃ ≡ put v₂ (new_block bs 0) (packed (each n (block_segment bs))) = rw (r.places.block, r.places.tiles) at e₃ in
      let l₁ : new_directory ≡ 0 + length (packed (file_segment bs ∷ [])) = omega (arith, before-directory bs k) in
      let l₂ : new_block bs 0 ≡ 0 + length (packed (before_block bs 0)) = omega (arith, before-block bs k 0 (omega arith)) in
      let l₃ : new_metadata bs ≡ 0 + length (packed (before_block bs n)) = omega (arith, before-metadata bs k) in
      let g₂ = packed-next u v₁ v₂ (file_segment bs ∷ []) (directory_segment bs ∷ []) 0 new_directory (omega (arith, room.directory, directory-at)) l₁ f₁ f₂ in
      let g₃ = packed-next u v₂ v₃ (before_block bs 0) (each n (block_segment bs)) 0 (new_block bs 0) (omega (arith, room.directory, first-is bs)) l₂ g₂ f₃ in
      packed-next u v₃ v₄ (before_block bs n) (annex_segments bs) 0 (new_metadata bs) room.metadata l₃ g₃ e₄
