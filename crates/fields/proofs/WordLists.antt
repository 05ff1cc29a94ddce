-- The words of a list of any kind, by the law that the kind has.
use Rattle.std.proofs.Common.{◌≡◌, refl, sym, ap, ◌∙◌, ℕ, zero, suc, ◌+◌, ◌*◌, ◌<◌, List, [], length, get_or, take, drop, arith}
use lib.Seq.{drop-drop, get_or-take, get_or-drop}
use Rattle.std.specs.Simd.{first_chunks}
use Rattle.fields.specs.Bytes.{from_le, number_at}

module _ {A : Type 0} (word : A → ℕ) (words : List A → List ℕ) (index : (ws : List A) (i : ℕ) (none : A) → i < length ws → get_or (words ws) i 0 ≡ word (get_or ws i none)) where
  -- the number of the element at an index is the one at this index
  pub word_at : (ws : List A) (i : ℕ) (x : A) (r : ℕ) → i < length ws → x ≡ get_or ws i x → r ≡ word x → r ≡ get_or (words ws) i 0
  word_at ws i x r h e d = d ∙ ap word e ∙ sym (index ws i x h)

-- ---- the words of bytes in place

pub chunk_at : (n i : ℕ) (bs : List ℕ) → i < n → from_le (get_or (first_chunks 8 n bs) i []) ≡ number_at 8 bs (i * 8)
unfolding number_at
chunk_at zero i bs h = absurd (omega arith)
chunk_at (suc n) zero bs h = refl
chunk_at (suc n) (suc i) bs h =
    let e : 8 + i * 8 ≡ suc i * 8 = omega arith in
    chunk_at n i (drop 8 bs) (omega arith) ∙ rw (drop-drop (i * 8) 8 bs) (ap (λ (k : ℕ). from_le (take 8 (drop k bs))) e)

pub chunks-length : (k n : ℕ) {A : Type 0} (xs : List A) → length (first_chunks k n xs) ≡ n
chunks-length k zero xs = refl
chunks-length k (suc n) xs = ap suc (chunks-length k n (drop k xs))

-- ---- a list in pairs

pair-get_or : {A : Type 0} (n i j : ℕ) (xs pair : List A) (d : A) → i < n → j < 2 → get_or (get_or (first_chunks 2 n xs) i pair) j d ≡ get_or xs (2 * i + j) d
pair-get_or zero i j xs pair d h g = absurd (omega arith)
pair-get_or (suc n) zero j xs pair d h g = let e : 2 * 0 + j ≡ j = omega arith in rw e (get_or-take 2 xs j d g)
pair-get_or (suc n) (suc i) j xs pair d h g =
    let e : 2 + (2 * i + j) ≡ 2 * suc i + j = omega arith in
    pair-get_or n i j (drop 2 xs) pair d (omega arith) g ∙ get_or-drop 2 xs (2 * i + j) d ∙ ap (λ (m : ℕ). get_or xs m d) e

module _ {A : Type 0} (n i : ℕ) (xs pair : List A) (d : A) (h : i < n) where
  pub pair-first : get_or (get_or (first_chunks 2 n xs) i pair) 0 d ≡ get_or xs (2 * i) d
  pair-first =
      let e : 2 * i + 0 ≡ 2 * i = omega arith in
      pair-get_or n i 0 xs pair d h (omega arith) ∙ ap (λ (m : ℕ). get_or xs m d) e

  pub pair-second : get_or (get_or (first_chunks 2 n xs) i pair) 1 d ≡ get_or xs (2 * i + 1) d
  pair-second = pair-get_or n i 1 xs pair d h (omega arith)
