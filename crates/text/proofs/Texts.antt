-- Words put at a text's end.
use Rattle.std.proofs.Common.{◌≡◌, sym, ap, ◌∙◌, ℕ, ◌+◌, ◌-◌, ◌≤◌, List, ◌++◌, length, take, drop, replicate, append_assoc, arith, length-append, length-take-le}
use Rattle.std.proofs.lemmas.List.{length-replicate, drop-replicate}
use Rattle.std.proofs.lemmas.Slice.{take-put_mid}
use Rattle.std.proofs.Math.Seq.{drop-append-add}
use borrow.Rule.Slice.PartMut.{put_mid, post_of, Post-is}
use Rattle.text.specs.Text.{padded}
use Rattle.text.specs.Fields.{said, Clean}
use Rattle.text.specs.declared.Text.TheInside.{Inside}

-- a text is as long as what it says
pub length-said : (t : Inside) (l : List ℕ) → Clean t → said t ≡ l → t.length ≡ length l
length-said t l h e = sym (length-take-le t.length t.bytes (omega arith)) ∙ ap length e

zeros-behind : (l : List ℕ) (m : ℕ) → drop (length l + m) (padded l) ≡ replicate (192 - (length l + m)) 0
zeros-behind l m =
    let e : 192 - length l - m ≡ 192 - (length l + m) = omega arith in
    drop-append-add l (replicate (192 - length l) 0) m ∙ drop-replicate m (192 - length l) 0 ∙ rw e

module _ (xs ws ys : List ℕ) (n : ℕ) (room : n + length ws ≤ 192) (whole : length xs ≡ 192) (rest : xs ≡ padded (take n xs)) (same : ys ≡ ws) where
  pub said-more : take (n + length ws) (put_mid n (n + length ws - n) xs ys) ≡ take n xs ++ ws
  said-more =
      let e : n + length ws ≡ n + length ys = omega (arith, ap length same) in
      take-put_mid n (n + length ws - n) xs ys (n + length ws) e (omega arith) ∙ rw same

  zeros : post_of n (n + length ws - n) xs ≡ replicate (192 - (n + length ws)) 0
  zeros =
      let l : length (take n xs) ≡ n = length-take-le n xs (omega arith) in
      let d : drop (n + length ws) xs ≡ drop (n + length ws) (padded (take n xs)) = ap (drop (n + length ws)) rest in
      let z : drop (length (take n xs) + length ws) (padded (take n xs)) ≡ replicate (192 - (length (take n xs) + length ws)) 0 = zeros-behind (take n xs) (length ws) in
      Post-is n (n + length ws) xs (omega arith) ∙ cc

  pub put-clean : Clean (record { bytes = put_mid n (n + length ws - n) xs ys; length = n + length ws })
  put-clean =
      let l : length (take n xs) ≡ n = length-take-le n xs (omega arith) in
      let m : length (take n xs ++ ws) ≡ n + length ws = simp length-append (omega arith) in
      record {
        within = room;
        whole = rw zeros (simp (length-append, length-replicate) (omega (arith, ap length same)));
        rest = rw (said-more, zeros, same, m) (sym (append_assoc (take n xs) ws (replicate (192 - (n + length ws)) 0)));
      }
