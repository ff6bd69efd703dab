-- The loops that put the attachments and their entries: k of n are put, from p of the lent bytes u on, which are now v. Assumes nothing.
use Prim.Native.Nat.{ℕ, ◌+◌, ◌*◌, ◌≤◌, ◌<◌}
use mathlib.Core.Path.{◌≡◌, refl, sym, ap, ◌∙◌}
use mathlib.Core.List.{List, ◌++◌}
use native.Mathlib.Numerals.{add-one}
use native.Mathlib.Omega.{arith}
use lib.ListN.{length}
use Rattle.format.specs.Names.{name_attachment}
use Rattle.format.specs.File.{attachment_directory_position}
use Rattle.format.specs.Attachments.{attachment_count, attachment_entry, attachment_position}
use Rattle.format.specs.Rules.{AcceptedFile}
use Rattle.pack.specs.Pack.{segment_size, segment_bytes, packed, each, joined}
use Rattle.pack.specs.Put.{put}
use Rattle.pack.proofs.Puts.{put-none, put-length, put_then}
use Rattle.pack.proofs.Packed.{segment-length}
use Rattle.repacked.specs.Contents.{moved_attachment_entry, attachment_content}
use Rattle.repacked.specs.NewFile.{attachment_content_size, new_attachment, new_attachment_entry, attachment_segment}
use Rattle.repacked.proofs.Lengths.{kept, attachment-entry-length, attachment-entries-length, attachment-length}
use Rattle.repack.proofs.Sums.{attachment-entry-in, attachment-in, attachments-more}
use Rattle.repack.proofs.PackedPuts.{each_none, each_next, attachment-behind, attachment-rises}

-- ---- the entries, of 128 bytes each

pub record EntriesPut (bs u : List ℕ) (p n : ℕ) (v : List ℕ) (x k : ℕ) : Type 0 where
  pub few : k ≤ n
  pub place : x ≡ new_attachment bs k
  pub is : v ≡ put u p (joined k (new_attachment_entry bs))
  pub same : length v ≡ length u

module _ (bs u : List ℕ) (p n : ℕ) where
  pub entries-start : (x : ℕ) → x ≡ new_attachment bs 0 → EntriesPut bs u p n u x 0
  unfolding joined
  entries-start x e = record { few = omega arith; place = e; is = sym (put-none u p); same = refl }

  pub entries-end : (v : List ℕ) (x k : ℕ) → EntriesPut bs u p n v x k → n ≤ k → v ≡ put u p (joined n (new_attachment_entry bs))
  entries-end v x k w h = let e : k ≡ n = omega (arith, w.few) in rw e at w.is

  module _ (a : AcceptedFile bs) (t : ℕ) (d : t ≡ attachment_directory_position bs) (c : n ≡ attachment_count bs) (v : List ℕ) (x k : ℕ)
      (w : EntriesPut bs u p n v x k) (l : k < n) (e : ℕ) (f : e ≡ attachment_entry t k) (room : p + 128 * n ≤ length u)
      (v' : List ℕ) (g : v' ≡ put v (p + 128 * k) (moved_attachment_entry bs e x)) where
    entry-size : length (moved_attachment_entry bs e x) ≡ 128
    entry-size = attachment-entry-length bs e x (attachment-entry-in bs a n t k c d l e f)

    entries-size : length (joined k (new_attachment_entry bs)) ≡ 128 * k
    entries-size = attachment-entries-length bs k (λ i h. (kept bs a).attachment-entry i (omega arith))

    entry-same : length v' ≡ length v
    entry-same = let s = entry-size in ap length g ∙ put-length v _ (p + 128 * k) (omega (arith, w.same))

    entry-is : v' ≡ put u p (joined k (new_attachment_entry bs) ++ new_attachment_entry bs k)
    unfolding new_attachment_entry
    entry-is =
        let s = entries-size in
        g ∙ rw (w.is, ← s, f, d, w.place) (put_then u (joined k (new_attachment_entry bs)) p (omega arith) _)

    pub entries_next : (q m r : ℕ) → q ≡ attachment_position bs e → m ≡ attachment_content_size bs q → r ≡ segment_size m → EntriesPut bs u p n v' (x + r) (k + 1)
    unfolding joined
    entries_next q m r g h i = record {
      few = omega arith;
      place = omega (arith, w.place, attachments-more bs a n t k c d l e f q g m h r i);
      is = rw (add-one k) entry-is;
      same = entry-same ∙ w.same;
    }

-- ---- the attachments, the next one at x

pub record AttachmentsPut (bs u : List ℕ) (p n : ℕ) (v : List ℕ) (x k : ℕ) : Type 0 where
  pub few : k ≤ n
  pub place : x ≡ new_attachment bs k
  pub is : v ≡ put u p (packed (each k (attachment_segment bs)))
  pub same : length v ≡ length u

module _ (bs u : List ℕ) (p n : ℕ) (b : p ≡ new_attachment bs 0) where
  pub attachments-start : AttachmentsPut bs u p n u p 0
  attachments-start = record { few = omega arith; place = b; is = each_none _ u p; same = refl }

  pub attachments-end : (v : List ℕ) (x k : ℕ) → AttachmentsPut bs u p n v x k → n ≤ k → v ≡ put u p (packed (each n (attachment_segment bs)))
  attachments-end v x k w h = let e : k ≡ n = omega (arith, w.few) in rw e at w.is

  module _ (a : AcceptedFile bs) (t : ℕ) (d : t ≡ attachment_directory_position bs) (c : n ≡ attachment_count bs) (v : List ℕ) (x k : ℕ)
      (w : AttachmentsPut bs u p n v x k) (l : k < n) (e : ℕ) (f : e ≡ attachment_entry t k) (q : ℕ) (g : q ≡ attachment_position bs e)
      (room : new_attachment bs n ≤ length u) where
    next_place : new_attachment bs (k + 1) ≡ x + segment_size (attachment_content_size bs q)
    next_place = attachments-more bs a n t k c d l e f q g _ refl _ refl ∙ rw w.place

    pub attachment-fits : x + segment_size (attachment_content_size bs q) ≤ length v
    attachment-fits = omega (arith, next_place, w.same, attachment-rises bs (k + 1) n (omega arith))

    module _ (v' : List ℕ) (h : v' ≡ put v x (segment_bytes (record { name = name_attachment; content = attachment_content bs e q x }))) where
      segment-size : length (segment_bytes (record { name = name_attachment; content = attachment_content bs e q x })) ≡ segment_size (attachment_content_size bs q)
      unfolding name_attachment
      segment-size =
          segment-length (record { name = name_attachment; content = attachment_content bs e q x }) refl
          ∙ ap segment_size (attachment-length bs e q x (attachment-entry-in bs a n t k c d l e f) (attachment-in bs a n t k c d l e f q g))

      attachment-same : length v' ≡ length v
      attachment-same = ap length h ∙ put-length v _ x (omega (arith, segment-size, attachment-fits))

      attachment-is : v' ≡ put u p (packed (each (k + 1) (attachment_segment bs)))
      unfolding attachment_segment
      attachment-is =
          each_next (attachment_segment bs) u v v' p x k (omega (arith, attachment-fits, w.same))
          (w.place ∙ attachment-behind bs (kept bs a) k (omega arith) ∙ rw b) w.is (h ∙ rw (g, f, d, w.place))

      pub attachments-next : (m r : ℕ) → m ≡ attachment_content_size bs q → r ≡ segment_size m → AttachmentsPut bs u p n v' (x + r) (k + 1)
      attachments-next m r i j = record {
        few = omega arith;
        place = rw (j, i) (sym next_place);
        is = attachment-is;
        same = attachment-same ∙ w.same;
      }
