-- What the release is to a composer. Assumes nothing.
use Prim.Native.Nat.{ℕ, zero, suc}
use mathlib.Core.Path.{◌≡◌, refl, sym, ◌∙◌}
use mathlib.Core.List.{List}
use mathlib.Core.Bool.{Bool, true, false}
use lib.ListN.{length}
use Rattle.format.specs.Scan.{scan_of}
use Rattle.format.specs.Choice.{Choice}
use Rattle.format.specs.Masks.{has_chunks}
use Rattle.format.specs.Records.{mask_of}
use Rattle.format.specs.Directory.{tile_count}
use Rattle.format.specs.Rules.{verdict}
use Rattle.format.specs.Releases.{NoChunkRefused, without_chunks}
use Rattle.format.specs.declared.Release.{Release}
use Rattle.format.specs.declared.Release.TheVariants.{R102, R12}
use Rattle.format.proofs.ReleaseRows.{Chunkless, without-both, without-below}
use Rattle.format.proofs.Releases.{all-releases, older-never}
use Rattle.plane.specs.declared.Rect.{Rect}
use Rattle.tiles.specs.FileTile.{entry_tile, file_tile, tiles_below}
use Rattle.question.specs.Question.{masks_on, request_window, ask_rows, agree_row, agree_rows}
use Rattle.question.specs.Call.{Asked, choice_of, chosen, call_verdict, selected, answer, target_after, map_after}
use Rattle.question.specs.Releases.{under, choosing, SameCalls, AllCallReleases}
use Rattle.question.specs.declared.Masks.{Masks}
use Rattle.question.specs.declared.WindowRequest.{WindowRequest}

-- ---- tiles that no mask changes

module _ (ds : List ℕ) (l k e : ℕ) (bs : List ℕ) (q : ℕ) where
  -- masks off: the release says nothing
  off-tile : (r s : Release) → entry_tile ds false l k e bs q r ≡ entry_tile ds false l k e bs q s
  unfolding entry_tile
  off-tile r s = refl

  -- under 1.02 there is no mask: on says the same as off
  older-tile : (on : Bool) → entry_tile ds on l k e bs q R102 ≡ entry_tile ds false l k e bs q R102
  unfolding entry_tile mask_of has_chunks
  older-tile true = refl
  older-tile false = refl

same-tiles : (c d : Choice) → ((k : ℕ) → file_tile c k ≡ file_tile d k) → (f : ℕ → Bool) (n : ℕ) → tiles_below n c f ≡ tiles_below n d f
unfolding tiles_below
same-tiles c d h f zero = refl
same-tiles c d h f (suc n) = rw (h n, same-tiles c d h f n)

-- ---- a question's rows are no chunk's

ask-chunkless : (f : WindowRequest) (background : List ℕ) (target map : ℕ) → Chunkless (ask_rows f background target map)
unfolding ask_rows without_chunks
ask-chunkless f background target map = refl

agree-chunkless : (bs : List ℕ) (f : ℕ → Bool) (w : Rect) (t : ℕ) → Chunkless (agree_rows bs f w t)
unfolding agree_rows without_chunks
agree-chunkless bs f w t = without-below (tile_count bs) (agree_row bs f w t) (agree_row bs f w t) (λ k. refl)

module _ (a : Asked) where
  -- the call under a release, with a masks choice
  abbrev call : Release → Masks → Asked
  call r c = choosing c (under r a)

  -- ---- its verdict

  alike : (r : Release) (c : Masks) → NoChunkRefused (verdict (scan_of a.scan.file R12)) → (target map : ℕ)
      → call_verdict (call r c) target map ≡ call_verdict (call R12 c) target map
  unfolding call_verdict
  alike r c n target map = (all-releases a.scan.file r).judging.further n _

  never : (target map : ℕ) → NoChunkRefused (call_verdict (under R102 a) target map)
  unfolding call_verdict
  never target map =
      let bs = a.scan.file in
      let w = request_window a.request in
      let t = a.request.pixel_type in
      older-never bs _
      (without-both (ask_rows a.request a.background target map) (agree_rows bs (chosen a) w t)
      (ask-chunkless a.request a.background target map) (agree-chunkless bs (chosen a) w t))

  older-verdict : (c d : Masks) (target map : ℕ) → call_verdict (call R102 c) target map ≡ call_verdict (call R102 d) target map
  unfolding call_verdict ask_rows
  older-verdict c d target map = refl

  -- ---- its tiles

  selected-by : (r s : Release) (c d : Masks) → ((k : ℕ) → file_tile (choice_of (call r c)) k ≡ file_tile (choice_of (call s d)) k)
      → selected (call r c) ≡ selected (call s d)
  unfolding selected
  selected-by r s c d h = same-tiles (choice_of (call r c)) (choice_of (call s d)) h (chosen a) (tile_count a.scan.file)

  off-selected : (c : Masks) → masks_on c ≡ false → (r : Release) → selected (call r c) ≡ selected (call R12 c)
  unfolding file_tile
  off-selected c e r = selected-by r R12 c c (λ k. rw e (off-tile _ _ k _ _ _ r R12))

  older-selected : (c d : Masks) → selected (call R102 c) ≡ selected (call R102 d)
  unfolding file_tile
  older-selected c d = selected-by R102 R102 c d (λ k. older-tile _ _ k _ _ _ (masks_on c) ∙ sym (older-tile _ _ k _ _ _ (masks_on d)))

  -- ---- all of it, by the two

  same : (r s : Release) (c d : Masks) → ((target map : ℕ) → call_verdict (call r c) target map ≡ call_verdict (call s d) target map)
      → selected (call r c) ≡ selected (call s d) → SameCalls (call r c) (call s d)
  unfolding answer target_after map_after
  same r s c d v e =
      record {
        same_answer = λ k t m. rw (v (length t) (length m), e);
        same_target = λ k t m. rw (v (length t) (length m), e);
        same_map = λ k t m. rw (v (length t) (length m), e);
      }

pub all-call-releases : AllCallReleases
all-call-releases a =
    let c = a.request.masks in
    record {
      alike = λ n r. alike a r c n;
      never = never a;
      same_chosen = λ c d r k. refl;
      off-selected = off-selected a c;
      off_same = λ e n r. same a r R12 c c (alike a r c n) (off-selected a c e r);
      older-selected = older-selected a;
      older_same = λ c d. same a R102 R102 c d (older-verdict a c d) (older-selected a c d);
    }
