-- Segments put one behind the other, and where those of the new file are put. Assumes nothing.
use Prim.Native.Nat.{ℕ, zero, suc, ◌+◌, ◌≤◌, ◌<◌}
use mathlib.Core.Path.{◌≡◌, sym, ap, ◌∙◌}
use mathlib.Core.List.{List, [], ◌∷◌, ◌++◌, append-nil, append_assoc}
use mathlib.Core.Logic.{⊎_elim}
use native.Mathlib.Nat.{eq-or-lt_of_le}
use native.Mathlib.Numerals.{add-one}
use native.Mathlib.Omega.{arith}
use lib.ListN.{length, length-append}
use Rattle.format.specs.Directory.{tile_count}
use Rattle.format.specs.Attachments.{attachment_count}
use Rattle.pack.specs.Pack.{Segment, segment_bytes, packed, each}
use Rattle.pack.specs.Put.{put}
use Rattle.pack.proofs.Packed.{packed-append}
use Rattle.pack.proofs.Puts.{put-none, put_then}
use Rattle.repacked.specs.NewFile.{new_block, new_metadata, new_attachment_directory, new_attachment, block_segment, attachment_segment}
use Rattle.repacked.proofs.Lengths.{Kept}
use Rattle.repacked.proofs.Places.{metadata_if, directory_if, before_block, before_directory}
use Rattle.repacked.proofs.Places.{before-block, before-metadata, before-attachments, before-attachment}

-- ---- one segment, and no segment

pub packed_none : (u : List ℕ) (p : ℕ) → u ≡ put u p (packed [])
unfolding packed
packed_none u p = sym (put-none u p)

pub packed-one : (u v : List ℕ) (p : ℕ) (s : Segment) → v ≡ put u p (segment_bytes s) → v ≡ put u p (packed (s ∷ []))
unfolding packed
packed-one u v p s e = rw (append-nil (segment_bytes s)) e

-- ---- segments ys behind others, xs

pub packed-next : (u v w : List ℕ) (xs ys : List Segment) (p q : ℕ) → q ≤ length u → q ≡ p + length (packed xs) → v ≡ put u p (packed xs)
    → w ≡ put v q (packed ys) → w ≡ put u p (packed (xs ++ ys))
packed-next u v w xs ys p q h e f g = g ∙ rw (f, e, packed-append xs ys) (put_then u (packed xs) p (omega arith) (packed ys))

-- one more of those of a function
pub each_next : (f : ℕ → Segment) (u v w : List ℕ) (p q k : ℕ) → q ≤ length u → q ≡ p + length (packed (each k f)) → v ≡ put u p (packed (each k f))
    → w ≡ put v q (segment_bytes (f k)) → w ≡ put u p (packed (each (k + 1) f))
unfolding each
each_next f u v w p q k h e g i = rw (add-one k) (packed-next u v w (each k f) (f k ∷ []) p q h e g (packed-one v w q (f k) i))

pub each_none : (f : ℕ → Segment) (u : List ℕ) (p : ℕ) → u ≡ put u p (packed (each 0 f))
unfolding each
each_none f u p = packed_none u p

-- ---- places in the new file: where ys stand behind xs

behind : (xs ys : List Segment) (p q : ℕ) → length (packed xs) ≡ p → length (packed (xs ++ ys)) ≡ q → q ≡ p + length (packed ys)
behind xs ys p q e f = sym f ∙ ap length (packed-append xs ys) ∙ length-append (packed xs) (packed ys) ∙ ap (λ n. n + length (packed ys)) e

module _ (bs : List ℕ) (h : Kept bs) where
  pub block-behind : (k : ℕ) → k ≤ tile_count bs → new_block bs k ≡ new_block bs 0 + length (packed (each k (block_segment bs)))
  unfolding each
  block-behind k l = behind (before_block bs 0) (each k (block_segment bs)) _ _ (before-block bs h 0 (omega arith)) (before-block bs h k l)

  pub directory-behind : new_attachment_directory bs ≡ new_metadata bs + length (packed (metadata_if bs))
  directory-behind = behind (before_block bs (tile_count bs)) (metadata_if bs) _ _ (before-metadata bs h) (before-attachments bs h)

  first-attachment : length (packed (before_directory bs ++ directory_if bs)) ≡ new_attachment bs 0
  unfolding each
  first-attachment = ap (λ l. length (packed l)) (sym (append-nil (before_directory bs ++ directory_if bs))) ∙ before-attachment bs h 0 (omega arith)

  pub attachments-behind : new_attachment bs 0 ≡ new_metadata bs + length (packed (metadata_if bs ++ directory_if bs))
  attachments-behind =
      behind (before_block bs (tile_count bs)) (metadata_if bs ++ directory_if bs) _ _ (before-metadata bs h)
      (ap (λ l. length (packed l)) (sym (append_assoc (before_block bs (tile_count bs)) (metadata_if bs) (directory_if bs))) ∙ first-attachment)

  pub attachment-behind : (k : ℕ) → k ≤ attachment_count bs → new_attachment bs k ≡ new_attachment bs 0 + length (packed (each k (attachment_segment bs)))
  attachment-behind k l = behind (before_directory bs ++ directory_if bs) (each k (attachment_segment bs)) _ _ first-attachment (before-attachment bs h k l)

-- ---- places rise

pub rises : (f : ℕ → ℕ) → ((k : ℕ) → f k ≤ f (suc k)) → (k n : ℕ) → k ≤ n → f k ≤ f n
rises f next k zero h = let e : k ≡ 0 = omega arith in rw e (omega arith)
rises f next k (suc n) h =
    ⊎_elim (λ (e : k ≡ suc n). rw e (omega arith)) (λ (l : k < suc n). omega (arith, next n, rises f next k n (omega arith))) (eq-or-lt_of_le h)

pub attachment-rises : (bs : List ℕ) (k n : ℕ) → k ≤ n → new_attachment bs k ≤ new_attachment bs n
unfolding new_attachment
attachment-rises bs = rises (new_attachment bs) (λ k. omega arith)

pub block-rises : (bs : List ℕ) (k n : ℕ) → k ≤ n → new_block bs k ≤ new_block bs n
unfolding new_block
block-rises bs = rises (new_block bs) (λ k. omega arith)
