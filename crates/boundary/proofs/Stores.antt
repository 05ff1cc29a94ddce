-- Boundaries stored, and words stored one after another, for any way to store a word.
use mathlib.Core.Path.{◌≡◌, refl, sym, ◌∙◌}
use mathlib.Core.Bool.{Bool, true, false, beq, true≢false}
use mathlib.Core.Logic.{⊎_elim}
use mathlib.Core.List.{List, [], ◌∷◌, ◌++◌}
use Prim.Native.Nat.{ℕ, suc, ◌+◌, ◌-◌, ◌*◌, ◌≤◌, min}
use native.Mathlib.Nat.{add-zero}
use native.Mathlib.Omega.{arith}
use lib.ListN.{length, set}
use lib.Seq.{sets, slice, slice_empty, length-slice}
use Rattle.fields.specs.Bytes.{to_le, stored}
use Rattle.fields.proofs.Tests.{split-le}
use Rattle.boundary.specs.Stores.{store_words, Storer, Storing, set_bytes, store_all, emits, Puts, Part}

-- ---- words stored one after another

pub stores_words : (out : List ℕ) (k : ℕ) (ws : List ℕ) → store_all set out k ws ≡ sets out k ws
stores_words out k [] = refl
stores_words out k (w ∷ ws) = stores_words (set out k w) (suc k) ws

pub stores-bytes : (out : List ℕ) (k : ℕ) (ws : List ℕ) → store_all set_bytes out k ws ≡ store_words out (4 + 8 * k) ws
unfolding set_bytes store_words
stores-bytes out k [] = refl
stores-bytes out k (w ∷ ws) =
    let e : 4 + 8 * suc k ≡ 4 + 8 * k + 8 = omega arith in
    stores-bytes (stored out (4 + 8 * k) (to_le 8 w)) (suc k) ws ∙ rw e

pub stores-append : (store : Storer) (out : List ℕ) (k : ℕ) (xs ys : List ℕ)
    → store_all store out k (xs ++ ys) ≡ store_all store (store_all store out k xs) (k + length xs) ys
stores-append store out k [] ys = rw (add-zero k)
stores-append store out k (x ∷ xs) ys =
    let e : suc k + length xs ≡ k + length (x ∷ xs) = omega arith in
    stores-append store (store out k x) (suc k) xs ys ∙ rw e

module _ (store : Storer) (room : ℕ → ℕ) (l : Storing store room) where
  -- past the end there is nothing to store in
  stores-past : (out : List ℕ) (k : ℕ) (ws : List ℕ) → room (length out) ≤ k → store_all store out k ws ≡ out
  stores-past out k [] h = refl
  stores-past out k (w ∷ ws) h = rw (l.past out k w h) (stores-past out (suc k) ws (omega arith))

-- ---- boundaries stored, or not

emits-all : (u v : Bool) (ws : List ℕ) → beq u v ≡ false → emits u v ws ≡ ws
emits-all true true ws e = absurd (true≢false e)
emits-all true false ws e = refl
emits-all false true ws e = refl
emits-all false false ws e = absurd (true≢false e)

module _ (store : Storer) (u v : Bool) (ws : List ℕ) (k : ℕ) (out : List ℕ) where
  puts-all : beq u v ≡ false → (k' : ℕ) → k' ≡ k + length ws → (out' : List ℕ) → out' ≡ store_all store out k ws → length out' ≡ length out
      → Puts store u v ws k out k' out'
  puts-all e k' n out' d l = let t = emits-all u v ws e in record { next = rw t n; written = rw t d; same = l }

-- ---- a stretch of words copied

-- after i words: storing the others gives what storing all gives
pub record Copying (store : Storer) (room : ℕ → ℕ) (ws out₀ : List ℕ) (from to k most i : ℕ) (out : List ℕ) : Type 0 where
  pub room-left : most ≡ min (to - from) (room (length out₀) - k)
  pub part : Part ws from to k
  pub done : i ≤ most
  pub same : length out ≡ length out₀
  pub within : most ≤ to - from
  pub fits : most ≤ room (length out₀) - k
  pub words : store_all store out (k + i) (slice (from + i) to ws) ≡ store_all store out₀ k (slice from to ws)

module _ (store : Storer) (room : ℕ → ℕ) (ws out₀ : List ℕ) (from to k most : ℕ) where
  module _ (l : Storing store room) (i : ℕ) (out : List ℕ) (c : Copying store room ws out₀ from to k most i out) where
    pub copied : (u v : Bool) → beq u v ≡ false → most ≤ i → Puts store u v (slice from to ws) k out₀ (k + (to - from)) out
    copied u v e h =
        let p = c.part in
        let n = length-slice from to ws p.all in
        puts-all store u v (slice from to ws) k out₀ e (k + (to - from)) (rw n) out (sym left ∙ c.words) c.same
      where
        left : store_all store out (k + i) (slice (from + i) to ws) ≡ out
        left =
            ⊎_elim
            (λ d. let p = c.part in let t : from + i ≡ to = omega (arith, d.1, c.done, c.within, p.some) in rw (t, slice_empty to ws))
            (λ d. stores-past store room l out (k + i) (slice (from + i) to ws) (rw c.same (omega (arith, d.1, c.room-left, c.done))))
            (split-le (to - from) i)
