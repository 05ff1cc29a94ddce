-- The words of a block copied to another: as many bytes as there is room for words. And with one block of a union used up, the words left of both so copied
-- are those of the union.
use mathlib.Core.Path.{◌≡◌, refl, sym, ◌∙◌}
use mathlib.Core.Bool.{true, false}
use mathlib.Core.Logic.{◌⊎◌}
use mathlib.Core.List.{List, [], ◌∷◌, ◌++◌}
use Prim.Native.Nat.{ℕ, zero, suc, ◌+◌, ◌-◌, ◌*◌, ◌/◌, ◌≤◌, ◌<◌, ◌%◌, min}
use native.Mathlib.Nat.{le_refl, zero-add, suc-add, add-sub_cancel_left}
use native.Mathlib.Omega.{arith}
use lib.ListN.{length, take, drop, get_or, length-drop}
use lib.Seq.{sets, slice, length-sets, length-take-le, drop_at, take-add, drop-drop, take_all}
use borrow.Rule.Slice.PartMut.{put_mid, mid_of}
use mir.Syntax.{w8}
use mir.Val.{Fits}
use Rattle.fields.specs.Bytes.{number_at, to_le, stored, Bytes}
use Rattle.fields.proofs.Numbers.{length-to_le, sets-append, stored-fits, stored-not, length-stored, field_back}
use Rattle.fields.proofs.Copying.{part-stored}
use Rattle.run_list.specs.Blocks.{words_at, block_runs, block_words}
use Rattle.run_list.proofs.BlockWords.{length-words_at, length-block_words, word-within}
use Rattle.boundary.specs.Merge.{combine, either}
use Rattle.boundary.specs.Stores.{StoredBy, set_bytes, store_all, Puts, Part}
use Rattle.boundary.specs.declared.Cursor.{Cursor}
use Rattle.boundary.proofs.Stores.{stores-append}
use Rattle.boundary.proofs.Advancing.{Merging}
use Rattle.boundary.proofs.Uniting.{united-words}

-- ---- a block's words as bytes

module _ (b : List ℕ) where
  words-add : (m n at : ℕ) → words_at (m + n) b at ≡ words_at m b at ++ words_at n b (at + 8 * m)
  unfolding words_at
  words-add zero n at = let e : at + 8 * 0 ≡ at = omega arith in rw (zero-add n, e)
  words-add (suc m) n at =
      let e : at + 8 + 8 * m ≡ at + 8 * suc m = omega arith in
      rw (suc-add m n, words-add m n (at + 8), e)

  words-from : (from n : ℕ) → from + n ≡ length (block_words b) → drop from (block_words b) ≡ words_at n b (4 + 8 * from)
  unfolding block_words
  words-from from n e =
      let d : 2 * block_runs b ≡ from + n = omega (arith, length-block_words b) in
      rw (d, words-add from n 4) (drop_at (words_at from b 4) (words_at n b (4 + 8 * from)) from (length-words_at from b 4))

  -- words stored one by one are their bytes stored
  words-bytes : Bytes b → (n at k : ℕ) (out : List ℕ) → at + 8 * n ≤ length b → 4 + 8 * (k + n) ≤ length out
      → store_all set_bytes out k (words_at n b at) ≡ sets out (4 + 8 * k) (take (8 * n) (drop at b))
  unfolding words_at set_bytes
  words-bytes all zero at k out h r = refl
  words-bytes all (suc n) at k out h r =
      let w = number_at 8 b at in
      let p = 4 + 8 * k in
      let first = take 8 (drop at b) in
      let others = take (8 * n) (drop (at + 8) b) in
      let l = length-to_le 8 w in
      let e : stored out p (to_le 8 w) ≡ sets out p first = stored-fits out p (to_le 8 w) (omega arith) ∙ rw (field_back 8 b at (omega arith) all) in
      let f : length first ≡ 8 = length-take-le 8 (drop at b) (omega (arith, length-drop at b)) in
      let m : 8 * suc n ≡ 8 + 8 * n = omega arith in
      let g : 4 + 8 * suc k ≡ p + 8 = omega arith in
      words-bytes all n (at + 8) (suc k) (stored out p (to_le 8 w)) (omega arith) (omega (arith, length-stored out p (to_le 8 w)))
      ∙ rw (e, m, take-add 8 (8 * n) (drop at b), drop-drop 8 at b, sets-append out p first others, f, g)

length-stores : (out : List ℕ) (k : ℕ) (ws : List ℕ) → length (store_all set_bytes out k ws) ≡ length out
unfolding set_bytes
length-stores out k [] = refl
length-stores out k (w ∷ ws) = length-stores (stored out (4 + 8 * k) (to_le 8 w)) (suc k) ws ∙ length-stored out (4 + 8 * k) (to_le 8 w)

-- where no word fits nothing is stored
words-past : (out : List ℕ) (k : ℕ) (ws : List ℕ) → length out < 4 + 8 * (k + 1) → store_all set_bytes out k ws ≡ out
unfolding set_bytes
words-past out k [] h = refl
words-past out k (w ∷ ws) h =
    let l = length-to_le 8 w in
    rw (← stored-not out (4 + 8 * k) (to_le 8 w) (omega arith)) (words-past out (suc k) ws (omega arith))

-- ---- copied

-- a part that was lent and has come back with the bytes of another is a store of them
pub part-copied : (b out : List ℕ) (from k n : ℕ) → 4 + 8 * from + 8 * n ≤ length b → 4 + 8 * k + 8 * n ≤ length out → (p : List ℕ)
    → p ≡ sets (mid_of (4 + 8 * k) (4 + 8 * k + 8 * n - (4 + 8 * k)) out) 0 (take (4 + 8 * from + 8 * n - (4 + 8 * from)) (drop (4 + 8 * from) b))
    → put_mid (4 + 8 * k) (4 + 8 * k + 8 * n - (4 + 8 * k)) out p ≡ sets out (4 + 8 * k) (take (8 * n) (drop (4 + 8 * from) b))
part-copied b out from k n h r p e =
    let to = 4 + 8 * k in
    let v = take (8 * n) (drop (4 + 8 * from) b) in
    let m : length v ≡ 8 * n = length-take-le (8 * n) (drop (4 + 8 * from) b) (omega (arith, length-drop (4 + 8 * from) b)) in
    rw (e, add-sub_cancel_left to (8 * n), add-sub_cancel_left (4 + 8 * from) (8 * n)) (part-stored to (8 * n) out v (omega arith) (omega arith))

-- some words of a block are within it
pub within : (b : List ℕ) (from count w : ℕ) → (w ≡ 0 → ⊥) → count ≡ length (block_words b) → from ≤ count → w ≤ count - from → 4 + 8 * from + 8 * w ≤ length b
within b from count zero nz e h l = absurd (nz refl)
within b from count (suc w) nz e h l = omega (arith, word-within b (from + w) (omega arith))

-- the words of a block from an index on, of which w fit: storing these is storing all
module _ (b : List ℕ) (count from k : ℕ) (e : count ≡ length (block_words b)) (p : Part (block_words b) from count k) (out : List ℕ) where
  copied_next : k + (count - from) ≡ k + length (drop from (block_words b))
  copied_next = omega (arith, length-drop from (block_words b))

  module _ (w : ℕ) (ew : w ≡ min (count - from) ((length out - 4) / 8 - k)) where
    words-fit : store_all set_bytes out k (drop from (block_words b)) ≡ store_all set_bytes out k (words_at w b (4 + 8 * from))
    unfolding words_at
    words-fit = go (count - from - w) (omega (arith, p.some))
      where
        go : (m : ℕ) → from + (w + m) ≡ count → store_all set_bytes out k (drop from (block_words b)) ≡ store_all set_bytes out k (words_at w b (4 + 8 * from))
        go zero d = rw (words-from b from w (omega arith))
        go (suc m) d =
            let first = words_at w b (4 + 8 * from) in
            let others = words_at (suc m) b (4 + 8 * from + 8 * w) in
            let done = store_all set_bytes out k first in
            rw (words-from b from (w + suc m) (omega arith), words-add b w (suc m) (4 + 8 * from))
            (stores-append set_bytes out k first others ∙ rw (length-words_at w b (4 + 8 * from)) (words-past done (k + w) others (omega (arith, length-stores out k first))))

    pub copied-words : (w ≡ 0 → ⊥) → ((j : ℕ) → Fits w8 (get_or b j 0)) → (out' : List ℕ) → out' ≡ sets out (4 + 8 * k) (take (8 * w) (drop (4 + 8 * from) b))
        → Puts set_bytes false true (drop from (block_words b)) k out (k + (count - from)) out'
    copied-words nz all out' d =
        let inside : 4 + 8 * from + 8 * w ≤ length b = within b from count w nz e p.some (omega arith) in
        let room : 4 + 8 * (k + w) ≤ length out = omega (arith, nz) in
        record {
          next = copied_next;
          written = d ∙ sym (words-fit ∙ words-bytes b (λ i. omega (arith, all i)) w (4 + 8 * from) k out inside room);
          same = rw d (length-sets out (4 + 8 * k) (take (8 * w) (drop (4 + 8 * from) b)));
        }

  pub copied_none : 0 ≡ min (count - from) ((length out - 4) / 8 - k) → Puts set_bytes false true (drop from (block_words b)) k out (k + (count - from)) out
  unfolding words_at
  copied_none z = record { next = copied_next; written = sym (words-fit 0 z); same = refl }

-- ---- one block of a union is used up

slice-end : (i n : ℕ) (ws : List ℕ) → n ≡ length ws → slice i n ws ≡ drop i ws
slice-end i n ws e = rw (e, take_all (length ws) ws (le_refl (length ws)))

module _ (a b : List ℕ) (m n : ℕ) (em : m ≡ length a) (en : n ≡ length b) (out₀ : List ℕ) (t : Cursor) (out : List ℕ)
    (c : Merging set_bytes either a b out₀ (m + n) t out) (ea : length a % 2 ≡ 0) (eb : length b % 2 ≡ 0)
    (l r : List ℕ) (el : a ≡ block_words l) (er : b ≡ block_words r) (k : ℕ) (mid : List ℕ) (p : Puts set_bytes false true (drop t.i (block_words l)) t.k out k mid)
    (k' : ℕ) (end : List ℕ) (q : Puts set_bytes false true (drop t.j (block_words r)) k mid k' end) where
  pub united-copies : (m ≤ t.i) ⊎ (n ≤ t.j) → StoredBy set_bytes (combine either a b) out₀ k' end
  united-copies used =
      let pl : Puts set_bytes false true (slice t.i m a) t.k out k mid = rw (slice-end t.i m a em, el) p in
      let qr : Puts set_bytes false true (slice t.j n b) k mid k' end = rw (slice-end t.j n b en, er) q in
      united-words a b m n em en out₀ t out c ea eb k mid pl k' end qr used
