-- What the readers give is a sum of bytes (request 3): "For every lent slice and place, the number is the sum of the bytes from there on, eight at most,
-- each times 256 to the power of its distance".
use mathlib.Core.Path.{◌≡◌, refl, sym, ◌∙◌}
use mathlib.Core.Logic.{⊎_elim}
use mathlib.Core.List.{List, [], ◌∷◌}
use Prim.Native.Nat.{ℕ, zero, suc, ◌+◌, ◌-◌, ◌*◌, ◌^◌, ◌≤◌, ◌<◌, min}
use native.Mathlib.Nat.{pow-succ', mul_assoc, mul_comm, zero-mul}
use native.Mathlib.Omega.{arith}
use lib.ListN.{length, take, drop, get_or, get_or-eq_default}
use lib.Seq.{get_or-drop}
use Rattle.fields.specs.Bytes.{from_le, number_at}
use Rattle.fields.proofs.Tests.{split-le}
use Rattle.fields.specs.Sums.{sum_below, weighed, bytes_sum}

-- ---- sums

-- the first term by itself
sum-first : (n : ℕ) (f : ℕ → ℕ) → sum_below (suc n) f ≡ f 0 + sum_below n (λ i. f (suc i))
unfolding sum_below
sum-first zero f = omega arith
sum-first (suc n) f = omega (arith, sum-first n f)

sum-same : (n : ℕ) (f g : ℕ → ℕ) → ((i : ℕ) → i < n → f i ≡ g i) → sum_below n f ≡ sum_below n g
unfolding sum_below
sum-same zero f g e = refl
sum-same (suc n) f g e = omega (arith, sum-same n f g (λ i h. e i (omega arith)), e n (omega arith))

-- each term 256 times as much
sum-weighed : (n : ℕ) (f : ℕ → ℕ) → sum_below n (λ i. f i * 256) ≡ sum_below n f * 256
unfolding sum_below
sum-weighed zero f = refl
sum-weighed (suc n) f = omega (arith, sum-weighed n f)

-- the terms from m on are zero
sum-until : (m n : ℕ) (f : ℕ → ℕ) → m ≤ n → ((i : ℕ) → m ≤ i → f i ≡ 0) → sum_below n f ≡ sum_below m f
unfolding sum_below
sum-until m zero f h z = let e : m ≡ 0 = omega arith in rw e
sum-until m (suc n) f h z =
    ⊎_elim
    (λ k. let e : m ≡ suc n = omega (arith, k.1) in rw e)
    (λ k. omega (arith, sum-until m n f (omega (arith, k.1)) z, z n (omega (arith, k.1))))
    (split-le (suc n) m)

-- ---- the number of bytes

from_le-sum : (n : ℕ) (bs : List ℕ) → from_le (take n bs) ≡ sum_below n (λ i. get_or bs i 0 * 256 ^ i)
unfolding from_le sum_below
from_le-sum zero bs = refl
from_le-sum (suc n) [] =
    sym (sum-until 0 (suc n) (λ i. get_or {A = ℕ} [] i 0 * 256 ^ i) (omega arith) (λ i h. zero-mul (256 ^ i)))
from_le-sum (suc n) (b ∷ bs) =
    let f : ℕ → ℕ = λ i. get_or bs i 0 * 256 ^ i in
    let g : ℕ → ℕ = λ i. get_or (b ∷ bs) i 0 * 256 ^ i in
    let t : (i : ℕ) → i < n → g (suc i) ≡ f i * 256 = λ i h. rw (pow-succ' 256 i, mul_comm 256 (256 ^ i), ← mul_assoc (get_or bs i 0) (256 ^ i) 256) refl in
    omega (arith, sum-first n g, sum-same n (λ i. g (suc i)) (λ i. f i * 256) t, sum-weighed n f, from_le-sum n bs)

-- absent bytes count as zero
pub number-zeros : (n : ℕ) (bytes : List ℕ) (at : ℕ) → number_at n bytes at ≡ sum_below n (weighed bytes at)
unfolding number_at
number-zeros n bytes at =
    from_le-sum n (drop at bytes) ∙ sum-same n _ (weighed bytes at) (λ i h. rw (get_or-drop at bytes i 0) refl)

-- fewer bytes are left
few-left : (n : ℕ) (bytes : List ℕ) (at : ℕ) → length bytes - at ≤ n → sum_below n (weighed bytes at) ≡ sum_below (length bytes - at) (weighed bytes at)
few-left n bytes at h =
    sum-until (length bytes - at) n (weighed bytes at) h (λ i k. rw (get_or-eq_default bytes 0 {n = at + i} (omega arith)) (zero-mul (256 ^ i)))

-- the sentence: `u64_at` gives this number for n = 8, `u32_at` for n = 4, `load_word` for n = 8 and place 0
pub number-sum : (n : ℕ) (bytes : List ℕ) (at : ℕ) → number_at n bytes at ≡ bytes_sum n bytes at
number-sum n bytes at =
    ⊎_elim
    (λ k. let e : min n (length bytes - at) ≡ n = omega (arith, k.1) in rw e (number-zeros n bytes at))
    (λ k. let e : min n (length bytes - at) ≡ length bytes - at = omega (arith, k.1) in rw e (number-zeros n bytes at ∙ few-left n bytes at (omega (arith, k.1))))
    (split-le n (length bytes - at))
