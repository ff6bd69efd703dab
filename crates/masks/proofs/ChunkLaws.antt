-- Laws of the walk over the chunks of a container, in the form that a loop wants: the whole equals what is left. Assumes nothing.
-- What is left at c has the fuel end - c: each chunk goes on by at least 20, so more fuel changes nothing.
use Prim.Native.Nat.{ℕ, zero, suc, ◌+◌, ◌-◌, ◌≤◌, ◌<◌}
use mathlib.Core.Path.{◌≡◌, refl, sym, ap, ◌∙◌}
use mathlib.Core.List.{List, [], ◌++◌}
use mathlib.Core.Bool.{Bool, true, false, cond, ◌||◌}
use native.Mathlib.Omega.{arith}
use lib.ListN.{length}
use lib.Dec.{ltb}
use borrow.Author.Tests.{lt-ltb, le-ltb}
use Rattle.std.specs.Prelude.{Option, Some, None, is_some, Ok, Err}
use Rattle.format.specs.Checks.{Verdict, Accepted, first}
use Rattle.format.specs.Masks.{chunk_size, next_chunk, is_mask, mask_bad, mask_shape, chunk_rows, chunks_rows, chunk_at, mask_from}
use Rattle.format.specs.declared.MaskShape.{MaskShape}
use Rattle.format.specs.declared.Chunk.{Chunk}
use Rattle.format.specs.declared.TileMask.{TileMask}
use Rattle.format.specs.declared.Refusal.{Refusal}
use Rattle.format.proofs.Below.{by_bool}
use Rattle.format.proofs.Firsts.{first-both, first-pass, first-stop}
use Rattle.format.proofs.ChunkWalk.{Chunked, chunk-ok}
use Rattle.masks.proofs.MaskLaws.{fields_within}

next-after : (bs : List ℕ) (c : ℕ) → c + 20 ≤ next_chunk bs c
unfolding next_chunk
next-after bs c = omega arith

-- the mask in the chunk at p
abbrev pub Masked : ℕ → MaskShape → Option TileMask
Masked p shape = Some (record { place = p; shape = shape })

masked-same : (c p : ℕ) (r s : MaskShape) → Masked c r ≡ Masked p s → (c ≡ p) × (r ≡ s)
masked-same c p r s e =
    let m : ◌≡◌ {A = TileMask} (record { place = c; shape = r }) (record { place = p; shape = s }) = cc in
    (ap (λ (t : TileMask). t.place) m, ap (λ (t : TileMask). t.shape) m)

-- the verdict on the chunks from c to end, and the mask among them
abbrev pub Chunks : List ℕ → ℕ → Bool → ℕ → Verdict
Chunks bs end seen c = first (chunks_rows (end - c) bs end seen c)

abbrev pub MaskOf : List ℕ → ℕ → ℕ → Option TileMask
MaskOf bs end c = mask_from (end - c) bs end c

module _ (bs : List ℕ) (end : ℕ) where
  -- the container is over: whatever stands before end
  chunks-empty : (n : ℕ) (seen : Bool) (c : ℕ) → end ≤ c → chunks_rows n bs end seen c ≡ []
  unfolding chunks_rows
  chunks-empty zero seen c h = refl
  chunks-empty (suc n) seen c h = rw (le-ltb c end h)

  mask-empty : (n c : ℕ) → end ≤ c → mask_from n bs end c ≡ None
  unfolding mask_from
  mask-empty zero c h = refl
  mask-empty (suc n) c h = rw (le-ltb c end h)

  -- the fuel does not matter where it reaches end
  chunks-fuel : (n m : ℕ) (seen : Bool) (c : ℕ) → end ≤ c + n → end ≤ c + m → chunks_rows n bs end seen c ≡ chunks_rows m bs end seen c
  unfolding chunks_rows
  chunks-fuel zero m seen c h k = sym (chunks-empty m seen c (omega arith))
  chunks-fuel (suc n) zero seen c h k = chunks-empty (suc n) seen c (omega arith)
  chunks-fuel (suc n) (suc m) seen c h k =
      let a = next-after bs c in
      rw (chunks-fuel n m (seen || is_mask bs c) (next_chunk bs c) (omega arith) (omega arith))

  mask-fuel : (n m c : ℕ) → end ≤ c + n → end ≤ c + m → mask_from n bs end c ≡ mask_from m bs end c
  unfolding mask_from
  mask-fuel zero m c h k = sym (mask-empty m c (omega arith))
  mask-fuel (suc n) zero c h k = mask-empty (suc n) c (omega arith)
  mask-fuel (suc n) (suc m) c h k =
      let a = next-after bs c in
      rw (mask-fuel n m (next_chunk bs c) (omega arith) (omega arith))

  -- one step, at c
  module _ (c : ℕ) (h : c < end) where
    more : end - c ≡ suc (end - (c + 1))
    more = omega arith

    chunks-step : (seen : Bool)
        → chunks_rows (end - c) bs end seen c ≡ chunk_rows bs end seen c ++ chunks_rows (end - next_chunk bs c) bs end (seen || is_mask bs c) (next_chunk bs c)
    unfolding chunks_rows
    chunks-step seen =
        let a = next-after bs c in
        rw (more, lt-ltb c end h, chunks-fuel (end - (c + 1)) (end - next_chunk bs c) (seen || is_mask bs c) (next_chunk bs c) (omega arith) (omega arith))

    chunks-next : (seen : Bool) → first (chunk_rows bs end seen c) ≡ Accepted → Chunks bs end seen c ≡ Chunks bs end (seen || is_mask bs c) (next_chunk bs c)
    chunks-next seen e = rw (chunks-step seen) (first-pass (chunk_rows bs end seen c) _ e)

    mask-here : is_mask bs c ≡ true → MaskOf bs end c ≡ Masked c (mask_shape bs c)
    unfolding mask_from
    mask-here e = rw (more, lt-ltb c end h, e)

    mask_next : is_mask bs c ≡ false → MaskOf bs end c ≡ MaskOf bs end (next_chunk bs c)
    unfolding mask_from
    mask_next e =
        let a = next-after bs c in
        rw (more, lt-ltb c end h, e) (mask-fuel (end - (c + 1)) (end - next_chunk bs c) (next_chunk bs c) (omega arith) (omega arith))

-- the mask that is found among chunks that are not refused: what `mask_valid` asks
pub record MaskIn (bs : List ℕ) (end p : ℕ) (shape : MaskShape) : Type 0 where
  pub good : mask_bad bs p ≡ false
  pub within : p + 20 + chunk_size bs p ≤ end
  pub dimensions : shape ≡ mask_shape bs p

pub mask-ok : (n : ℕ) (bs : List ℕ) (end : ℕ) (seen : Bool) (c p : ℕ) (shape : MaskShape)
    → first (chunks_rows n bs end seen c) ≡ Accepted → mask_from n bs end c ≡ Masked p shape → MaskIn bs end p shape
unfolding chunks_rows mask_from
mask-ok zero bs end seen c p shape e f = let z : ◌≡◌ {A = ℕ} 0 1 = cc in absurd (omega arith)
mask-ok (suc n) bs end seen c p shape e f =
    by_bool (ltb c end)
    (λ b.
    let both = first-both (chunk_rows bs end seen c) (chunks_rows n bs end (seen || is_mask bs c) (next_chunk bs c)) (rw b at e) in
    by_bool (is_mask bs c) (λ m. here m both.0 (rw (b, m) at f))
    (λ m. mask-ok n bs end (seen || is_mask bs c) (next_chunk bs c) p shape both.1 (rw (b, m) at f)))
    (λ b. let g = rw b at f in let z : ◌≡◌ {A = ℕ} 0 1 = cc in absurd (omega arith))
  where
    here : is_mask bs c ≡ true → first (chunk_rows bs end seen c) ≡ Accepted → Masked c (mask_shape bs c) ≡ Masked p shape → MaskIn bs end p shape
    here m a g =
        let k = chunk-ok bs end seen c a in
        let q = masked-same c p _ _ g in
        record { good = rw (← q.0) (k.mask m).1; within = rw (← q.0) k.payload; dimensions = rw (← q.0) (sym q.1) }

-- ---- the chunk k that was read at c

module _ (bs : List ℕ) (c : ℕ) (k : Chunk) (e : k ≡ chunk_at bs c) where
  read_next : c + 20 + k.length ≡ next_chunk bs c
  unfolding chunk_at next_chunk
  read_next = rw e

  read-within : (end : ℕ) (seen : Bool) → Chunked bs end seen c → c + 20 + k.length ≤ end
  unfolding chunk_at
  read-within end seen p = rw e p.payload

  read-content : k.mask ≡ cond (is_mask bs c) (Some (mask_shape bs c)) None
  unfolding chunk_at
  read-content = rw e

  read-some : is_some k.mask ≡ is_mask bs c
  read-some = by_bool (is_mask bs c) (λ m. rw (read-content, m)) (λ m. rw (read-content, m))

  read-mask : (shape : MaskShape) → k.mask ≡ Some shape → (is_mask bs c ≡ true) × (shape ≡ mask_shape bs c)
  read-mask shape h =
      by_bool (is_mask bs c) (λ m. let g = rw m at read-content in (m, cc))
      (λ m. let g = rw m at read-content in let z : ◌≡◌ {A = ℕ} 0 1 = cc in absurd (omega arith))

  read-other : k.mask ≡ None → is_mask bs c ≡ false
  read-other h = by_bool (is_mask bs c) (λ m. let g = rw m at read-content in let z : ◌≡◌ {A = ℕ} 0 1 = cc in absurd (omega arith)) (λ m. m)

-- ---- the loop that judges: the verdict is that on what is left from c on

pub record Judging (bs : List ℕ) (a end : ℕ) (seen : Bool) (c : ℕ) : Type 0 where
  pub within : c ≤ end
  pub same : Chunks bs end false a ≡ Chunks bs end seen c

module _ (bs : List ℕ) (a end : ℕ) (seen : Bool) (c : ℕ) (w : Judging bs a end seen c) where
  pub judged-end : end ≤ c → Accepted ≡ Chunks bs end false a
  judged-end h = sym (w.same ∙ rw (chunks-empty bs end (end - c) seen c h))

  -- the chunk at c is judged: v
  module _ (h : c < end) (v : Verdict) (e : v ≡ first (chunk_rows bs end seen c)) where
    pub judged-stop : (r : Refusal) → v ≡ Err r → Err r ≡ Chunks bs end false a
    judged-stop r f = sym (w.same ∙ rw (chunks-step bs end c h seen) (first-stop (chunk_rows bs end seen c) _ r (sym e ∙ f)))

    module _ (f : v ≡ Accepted) where
      judged-passed : Chunked bs end seen c
      judged-passed = chunk-ok bs end seen c (sym e ∙ f)

      pub judged-head : end ≤ length bs → c + 20 ≤ length bs
      judged-head l = omega (arith, judged-passed.header)

      pub judged-fields : end ≤ length bs → is_mask bs c ≡ true → c + 36 ≤ length bs
      judged-fields l m = omega (arith, fields_within bs end seen c judged-passed m)

      module _ (k : Chunk) (i : k ≡ chunk_at bs c) where
        pub judged-within : c + 20 + k.length ≤ end
        judged-within = read-within bs c k i end seen judged-passed

        next : (b : Bool) → (seen || is_mask bs c) ≡ b → Judging bs a end b (c + 20 + k.length)
        next b g = record { within = judged-within; same = w.same ∙ (chunks-next bs end c h seen (sym e ∙ f) ∙ rw (g, read_next bs c k i)) }

        -- whether there was a mask is remembered
        pub judged-next : Judging bs a end (seen || is_some k.mask) (c + 20 + k.length)
        judged-next = next (seen || is_some k.mask) (ap (λ (b : Bool). seen || b) (sym (read-some bs c k i)))

-- ---- the loop that looks for the mask: none of the chunks from c on is refused, and the mask is the one among them

pub record Seeking (bs : List ℕ) (a end c : ℕ) : Type 0 where
  pub within : c ≤ end
  pub accepted : Chunks bs end false c ≡ Accepted
  pub same : MaskOf bs end a ≡ MaskOf bs end c

module _ (bs : List ℕ) (a end c : ℕ) (w : Seeking bs a end c) where
  pub sought-end : end ≤ c → None ≡ MaskOf bs end a
  sought-end h = sym (w.same ∙ mask-empty bs end (end - c) c h)

  module _ (h : c < end) where
    accepts : first (chunk_rows bs end false c) ≡ Accepted
    accepts = (first-both (chunk_rows bs end false c) _ (rw (chunks-step bs end c h false) at w.accepted)).0

    sought-passed : Chunked bs end false c
    sought-passed = chunk-ok bs end false c accepts

    pub sought-head : end ≤ length bs → c + 20 ≤ length bs
    sought-head l = omega (arith, sought-passed.header)

    pub sought-fields : end ≤ length bs → is_mask bs c ≡ true → c + 36 ≤ length bs
    sought-fields l m = omega (arith, fields_within bs end false c sought-passed m)

    module _ (k : Chunk) (i : k ≡ chunk_at bs c) where
      pub sought-within : c + 20 + k.length ≤ end
      sought-within = read-within bs c k i end false sought-passed

      pub sought-mask : (shape : MaskShape) → k.mask ≡ Some shape → Masked c shape ≡ MaskOf bs end a
      sought-mask shape m = let r = read-mask bs c k i shape m in sym (w.same ∙ (mask-here bs end c h r.0 ∙ rw r.1))

      pub sought-other : k.mask ≡ None → Seeking bs a end (c + 20 + k.length)
      sought-other m =
          let o = read-other bs c k i m in
          let n = read_next bs c k i in
          record {
            within = sought-within;
            accepted = sym (chunks-next bs end c h false accepts ∙ rw (o, n)) ∙ w.accepted;
            same = w.same ∙ (mask_next bs end c h o ∙ rw n);
          }
