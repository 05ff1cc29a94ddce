-- The combination written as a block: its run count after its words. Where it fits, it is the block of its words.
use mathlib.Core.Path.{◌≡◌, refl, sym, ◌∙◌}
use mathlib.Core.Logic.{◌≢◌}
use mathlib.Core.List.{List, [], ◌∷◌}
use Prim.Native.Nat.{ℕ, suc, ◌+◌, ◌*◌, ◌/◌, ◌%◌, ◌≤◌, ◌<◌}
use native.Mathlib.Omega.{arith}
use lib.ListN.{length, set}
use lib.Seq.{sets, length-sets, set_comm}
use Rattle.fields.specs.Bytes.{to_le, stored}
use Rattle.fields.proofs.Numbers.{length-to_le, sets-append, stored-fits}
use Rattle.run_list.specs.Blocks.{word_bytes, block_bytes}
use Rattle.boundary.specs.Stores.{store_words, StoredWords}
use Rattle.bitmap.specs.Calls.{StoredBlock}
use Rattle.run_list.proofs.RoundTrip.{length-block_bytes}

-- four bytes hold the remainder by 2^32
pub to_le-rest : (x : ℕ) → to_le 4 (x % 4294967296) ≡ to_le 4 x
unfolding to_le
to_le-rest x = bytes (omega arith) (omega arith) (omega arith) (omega arith)
  where
    bytes : {a b c d a' b' c' d' : ℕ} → a ≡ a' → b ≡ b' → c ≡ c' → d ≡ d' → a ∷ b ∷ c ∷ d ∷ [] ≡ a' ∷ b' ∷ c' ∷ d' ∷ []
    bytes p q r s = cc

pub block-stored : (ws before mid : List ℕ) (n : ℕ) → StoredWords ws before n mid → (out : List ℕ) → out ≡ stored mid 0 (to_le 4 (n / 2 % 4294967296))
    → StoredBlock ws before n out
block-stored ws before mid n s out e =
    record { number = s.number; written = e ∙ rw (to_le-rest (n / 2), s.number, s.written) }

-- ---- where the block fits

-- stores apart from each other may be swapped
set-swap : (l : List ℕ) (i x j : ℕ) (w : List ℕ) → i < j → set (sets l j w) i x ≡ sets (set l i x) j w
set-swap l i x j [] h = refl
set-swap l i x j (y ∷ w) h =
    let n : i ≢ j = λ e. omega arith in
    set-swap (set l j y) i x (suc j) w (omega arith) ∙ rw (set_comm l i j x y n)

pub sets-swap : (l : List ℕ) (i : ℕ) (v : List ℕ) (j : ℕ) (w : List ℕ) → i + length v ≤ j → sets (sets l j w) i v ≡ sets (sets l i v) j w
sets-swap l i [] j w h = refl
sets-swap l i (x ∷ v) j w h = rw (set-swap l i x j w (omega arith)) (sets-swap (set l i x) (suc i) v j w (omega arith))

words-fit : (ws out : List ℕ) (at : ℕ) → at + 8 * length ws ≤ length out → store_words out at ws ≡ sets out at (word_bytes ws)
unfolding store_words word_bytes
words-fit [] out at h = refl
words-fit (w ∷ ws) out at h =
    let v = to_le 8 w in
    let l = length-to_le 8 w in
    let e = length-sets out at v in
    rw (stored-fits out at v (omega arith), words-fit ws (sets out at v) (at + 8) (omega arith), sets-append out at v (word_bytes ws), l)

pub stored-whole : (ws before : List ℕ) (n : ℕ) (out : List ℕ) → StoredBlock ws before n out → length (block_bytes ws) ≤ length before → out ≡ sets before 0 (block_bytes ws)
unfolding block_bytes
stored-whole ws before n out s h =
    let c = to_le 4 (length ws / 2) in
    let l = length-to_le 4 (length ws / 2) in
    let b = length-block_bytes ws in
    let e = length-sets before 4 (word_bytes ws) in
    let p : 0 + length c ≡ 4 = omega arith in
    s.written
    ∙ rw (words-fit ws before 4 (omega arith), stored-fits (sets before 4 (word_bytes ws)) 0 c (omega arith))
    (sets-swap before 0 c 4 (word_bytes ws) (omega arith) ∙ sym (sets-append before 0 c (word_bytes ws) ∙ rw p))
