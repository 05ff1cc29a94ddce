-- The digits of a number in bytes are the bits of the bytes, and its set digits are counted by them.
use mathlib.Core.Path.{◌≡◌, refl, ap, ◌∙◌}
use mathlib.Core.Logic.{⊎_elim}
use mathlib.Core.List.{List, [], ◌∷◌}
use Prim.Native.Nat.{ℕ, zero, suc, ◌+◌, ◌-◌, ◌*◌, ◌/◌, ◌%◌, ◌^◌, ◌≤◌, ◌<◌}
use native.Mathlib.Nat.{add-zero, add-suc, pow-succ', div-div-eq-div-mul, zero-div, mod-lt}
use native.Mathlib.Omega.{arith}
use lib.Arith.{mod-mul}
use lib.Count.{ones, ones_in, ones_cat}
use lib.Dec.{eqb, lit<}
use lib.Pow.{pow-add, pow_pos}
use lib.ListN.{take, drop, get_or}
use lib.Seq.{get_or-drop}
use Rattle.fields.specs.Bytes.{from_le, number_at, Bytes}
use Rattle.fields.specs.Counting.{bit}
use Rattle.fields.proofs.Numbers.{number_at-bound}
use Rattle.fields.proofs.Counting.{count-suc}
use Rattle.fields.proofs.Tests.{split-le}
use Rattle.packed.specs.Bits.{bit_at, set_below}

-- ---- a digit of a number is a bit of a byte

-- within the first byte
pub low_digit : (k b y : ℕ) → k < 8 → (b + 256 * y) / 2 ^ k % 2 ≡ b / 2 ^ k % 2
low_digit zero b y h = omega arith
low_digit (suc zero) b y h = omega arith
low_digit (suc (suc zero)) b y h = omega arith
low_digit (suc (suc (suc zero))) b y h = omega arith
low_digit (suc (suc (suc (suc zero)))) b y h = omega arith
low_digit (suc (suc (suc (suc (suc zero))))) b y h = omega arith
low_digit (suc (suc (suc (suc (suc (suc zero)))))) b y h = omega arith
low_digit (suc (suc (suc (suc (suc (suc (suc zero))))))) b y h = omega arith
low_digit (suc (suc (suc (suc (suc (suc (suc (suc k)))))))) b y h = absurd (omega arith)

-- past it
high-shift : (b y j : ℕ) → b < 256 → (b + 256 * y) / 2 ^ (8 + j) ≡ y / 2 ^ j
high-shift b y j h =
    let d : (b + 256 * y) / 256 ≡ y = omega arith in
    rw (pow-add 2 8 j, ← div-div-eq-div-mul (b + 256 * y) 256 (2 ^ j), d)

digit : (n : ℕ) (bs : List ℕ) (k : ℕ) → Bytes bs → k < 8 * n → from_le (take n bs) / 2 ^ k % 2 ≡ get_or bs (k / 8) 0 / 2 ^ (k % 8) % 2
unfolding from_le
digit zero bs k all h = absurd (omega arith)
digit (suc n) [] k all h = rw (zero-div (2 ^ k), zero-div (2 ^ (k % 8)))
digit (suc n) (b ∷ bs) k all h =
    ⊎_elim
    (λ e. let j = k - 8 in
    let p : k ≡ 8 + j = omega (arith, e.1) in
    let q : k / 8 ≡ suc (j / 8) = omega (arith, e.1) in
    let m : k % 8 ≡ j % 8 = omega (arith, e.1) in
    rw (q, m) (ap (λ (x : ℕ). (b + 256 * from_le (take n bs)) / 2 ^ x % 2) p
    ∙ ap (λ (x : ℕ). x % 2) (high-shift b (from_le (take n bs)) j (all 0)) ∙ digit n bs j (λ i. all (suc i)) (omega (arith, e.1))))
    (λ e. let q : k / 8 ≡ 0 = omega (arith, e.1) in
    let m : k % 8 ≡ k = omega (arith, e.1) in
    rw (q, m) (low_digit k b (from_le (take n bs)) e.1)) (split-le 8 k)

-- a number at a place: its digit k is bit k from there
pub number-digit : (n : ℕ) (bs : List ℕ) (at k : ℕ) → Bytes bs → k < 8 * n → eqb (number_at n bs at / 2 ^ k % 2) 1 ≡ bit_at bs (at * 8 + k)
unfolding number_at bit_at
number-digit n bs at k all h =
    let q : (at * 8 + k) / 8 ≡ at + k / 8 = omega arith in
    let m : (at * 8 + k) % 8 ≡ k % 8 = omega arith in
    rw (q, m, ← get_or-drop at bs (k / 8) 0) (ap (λ (d : ℕ). eqb d 1) (digit n (drop at bs) k (λ i. rw (get_or-drop at bs i 0) (all (at + i))) h))

-- ---- set digits, one by one

ones-digit : (d : ℕ) → d < 2 → ones d ≡ d
unfolding ones ones_in
ones-digit zero h = refl
ones-digit (suc zero) h = refl
ones-digit (suc (suc d)) h = absurd (omega arith)

pub ones-more : (x k : ℕ) → ones (x % 2 ^ suc k) ≡ ones (x % 2 ^ k) + x / 2 ^ k % 2
ones-more x k =
    let low : x % 2 ^ k < 2 ^ k = mod-lt x (pow_pos k) in
    let d : x / 2 ^ k % 2 < 2 = omega arith in
    rw (pow-succ' 2 k, mod-mul x {m = 2} {c = 2 ^ k} (lit< tt) (pow_pos k), ones_cat k (x / 2 ^ k % 2) (x % 2 ^ k) low, ones-digit (x / 2 ^ k % 2) d) (omega arith)

pub bit-digit : (d : ℕ) → d < 2 → bit (eqb d 1) ≡ d
bit-digit zero h = refl
bit-digit (suc zero) h = refl
bit-digit (suc (suc d)) h = absurd (omega arith)

-- ---- set bits by words

-- the first k bits of word i
pub set-tail : (bs : List ℕ) (i k : ℕ) → Bytes bs → k ≤ 64 → set_below bs (i * 64 + k) ≡ set_below bs (i * 64) + ones (number_at 8 bs (i * 8) % 2 ^ k)
unfolding set_below ones ones_in
set-tail bs i zero all h =
    let e : number_at 8 bs (i * 8) % 1 ≡ 0 = omega arith in
    rw (add-zero (i * 64), e) (omega arith)
set-tail bs i (suc k) all h =
    let x = number_at 8 bs (i * 8) in
    let p : i * 64 + k ≡ i * 8 * 8 + k = omega arith in
    let b : bit (bit_at bs (i * 64 + k)) ≡ x / 2 ^ k % 2 = rw (p, ← number-digit 8 bs (i * 8) k all (omega arith)) (bit-digit (x / 2 ^ k % 2) (omega arith)) in
    rw (add-suc (i * 64) k, count-suc (bit_at bs) (i * 64 + k), b, ones-more x k) (omega (arith, set-tail bs i k all (omega arith)))

-- all of word i
pub set_word : (bs : List ℕ) (i : ℕ) → Bytes bs → set_below bs ((i + 1) * 64) ≡ set_below bs (i * 64) + ones (number_at 8 bs (i * 8))
set_word bs i all =
    let p : (i + 1) * 64 ≡ i * 64 + 64 = omega arith in
    let m : number_at 8 bs (i * 8) % 2 ^ 64 ≡ number_at 8 bs (i * 8) = omega (arith, number_at-bound 8 bs (i * 8) all) in
    rw p (rw m at (set-tail bs i 64 all (omega arith)))
