-- Laws of numbers in bytes: reading by halves, what is written, and the two undoing each other.
use mathlib.Core.Path.{◌≡◌, refl, sym, ap, ◌∙◌, subst}
use mathlib.Core.Bool.{Bool, true, false, cond}
use mathlib.Core.List.{List, [], ◌∷◌, ◌++◌}
use Prim.Native.Nat.{ℕ, zero, suc, ◌+◌, ◌-◌, ◌*◌, ◌/◌, ◌%◌, ◌^◌, ◌≤◌, ◌<◌}
use native.Mathlib.Nat.{sub-zero, pow-succ', pow-le-pow_right, mul_assoc, mul_comm, div-div-eq-div-mul, div-one, zero-add, add-zero, suc-add, add-suc}
use native.Mathlib.Omega.{arith}
use borrow.Author.Tests.{le-leb, lt-leb}
use lib.Arith.{mod-mul}
use lib.Dec.{leb, lit<}
use lib.ListN.{length, take, drop, get_or, set, length-drop}
use lib.Seq.{take-take, take_all, take-nil, drop-cons, drop-drop, sets, length-sets, take_at, drop_at, get_or-drop}
use Rattle.fields.specs.Bytes.{from_le, number_at, to_le, stored, Bytes}
use Rattle.fields.specs.Reading.{Read}

-- ---- reading

from_le-add : (m n : ℕ) (bs : List ℕ) → from_le (take (m + n) bs) ≡ from_le (take m bs) + from_le (take n (drop m bs)) * 256 ^ m
unfolding from_le
from_le-add zero n bs = rw (zero-add n) (omega arith)
from_le-add (suc m) n [] = rw (take-nil (suc m + n), take-nil n) (omega arith)
from_le-add (suc m) n (b ∷ bs) =
    rw (suc-add m n, from_le-add m n bs, pow-succ' 256 m, mul_comm 256 (256 ^ m), ← mul_assoc (from_le (take n (drop m bs))) (256 ^ m) 256) (omega arith)

pub number_at-add : (m n : ℕ) (bs : List ℕ) (at : ℕ) → number_at (m + n) bs at ≡ number_at m bs at + number_at n bs (at + m) * 256 ^ m
unfolding number_at
number_at-add m n bs at = from_le-add m n (drop at bs) ∙ rw (drop-drop m at bs)

pub pow_pos : (n : ℕ) → 0 < 256 ^ n
pow_pos zero = lit< tt
pow_pos (suc n) = let h = pow_pos n in rw (pow-succ' 256 n) (omega arith)

pow_mono : (k m : ℕ) → k ≤ m → 256 ^ k ≤ 256 ^ m
pow_mono k m h = pow-le-pow_right (lit< tt) h

-- fewer bytes are left than are read
pub number_at-all : (n : ℕ) (bs : List ℕ) (at : ℕ) → length bs - at ≤ n → number_at n bs at ≡ number_at (length bs - at) bs at
unfolding number_at
number_at-all n bs at h =
    let l = length-drop at bs in
    rw (take_all n (drop at bs) (omega arith), take_all (length bs - at) (drop at bs) (omega arith))

-- one byte, and two numbers side by side: all steps of the readers
pub read_one : (bs : List ℕ) (at b : ℕ) → at < length bs → b ≡ get_or bs at 0 → b < 256 → Read 1 bs at b
unfolding number_at from_le
read_one bs at b h e k = record { value = rw (drop-cons bs at 0 h) (omega arith); small = k }

pub read-add : (m n : ℕ) (bs : List ℕ) (at x y : ℕ) → Read m bs at x → Read n bs (at + m) y → Read (m + n) bs at (x + y * 256 ^ m)
read-add m n bs at x y p q =
    record {
      value = rw (number_at-add m n bs at, ← p.value, ← q.value);
      small = rw (pow-sum m n) (omega (arith, p.small, steps y (256 ^ n) (256 ^ m) q.small));
    }
  where
    pow-sum : (m n : ℕ) → 256 ^ (m + n) ≡ 256 ^ n * 256 ^ m
    pow-sum zero n = rw (zero-add n) (omega arith)
    pow-sum (suc m) n =
        rw (suc-add m n, pow-succ' 256 (m + n), pow-sum m n, pow-succ' 256 m, mul_comm 256 (256 ^ m), ← mul_assoc (256 ^ n) (256 ^ m) 256) (omega arith)

    steps : (y d c : ℕ) → y < d → y * c + c ≤ d * c
    steps y zero c k = absurd (omega arith)
    steps zero (suc d) c k = omega arith
    steps (suc y) (suc d) c k = omega (arith, steps y d c (omega arith))

-- ---- the bytes that are left, summed from the last one

pub record Summed (bs : List ℕ) (at i sum : ℕ) : Type 0 where
  pub low : at ≤ i
  pub high : i ≤ length bs
  pub read : Read (length bs - i) bs i sum
  pub small : sum < 256 ^ 7

module _ (bs : List ℕ) (at : ℕ) where
  pub summed-start : at ≤ length bs → Summed bs at (length bs) 0
  unfolding number_at from_le
  summed-start h =
      let e : length bs - length bs ≡ 0 = omega arith in
      record { low = h; high = omega arith; read = record { value = rw e; small = rw e (lit< tt) }; small = lit< tt }

  module _ (i sum : ℕ) (m : Summed bs at i sum) where
    pub summed-fits : length bs < at + 8 → at < i → sum < 256 ^ 6
    summed-fits h k = omega (arith, m.read.small, pow_mono (length bs - i) 6 (omega (arith, m.high)))

    pub summed-next : (b : ℕ) → length bs < at + 8 → at < i → Read 1 bs (i - 1) b → Summed bs at (i - 1) (b + sum * 256)
    summed-next b h k r =
        let e : i ≡ i - 1 + 1 = omega arith in
        let n : 1 + (length bs - i) ≡ length bs - (i - 1) = omega (arith, m.high) in
        record {
          low = omega arith;
          high = omega (arith, m.high);
          read = rw n at (read-add 1 (length bs - i) bs (i - 1) b sum r (subst (λ (j : ℕ). Read (length bs - i) bs j sum) e m.read));
          small = omega (arith, r.small, summed-fits h k);
        }

-- past the end
pub read_past : (bs : List ℕ) (at : ℕ) → length bs < at → Read (length bs - at) bs at 0
unfolding number_at from_le
read_past bs at h =
    let e : length bs - at ≡ 0 = omega arith in
    record { value = rw e; small = rw e (lit< tt) }

-- the ways through a reader of n bytes where fewer are left
module _ (n : ℕ) (bs : List ℕ) (at r : ℕ) (e : Read (length bs - at) bs at r) where
  short-is : length bs < at + n → r ≡ number_at n bs at
  short-is h = e.value ∙ sym (number_at-all n bs at (omega arith))

  short-small : length bs < at + n → r < 256 ^ n
  short-small h = omega (arith, e.small, pow_mono (length bs - at) n (omega arith))

  pub read-few : length bs < n → r ≡ number_at n bs at
  read-few h = short-is (omega arith)

  pub few-small : length bs < n → r < 256 ^ n
  few-small h = short-small (omega arith)

  pub read-late : n ≤ length bs → length bs - n < at → r ≡ number_at n bs at
  read-late h k = short-is (omega arith)

  pub late-small : n ≤ length bs → length bs - n < at → r < 256 ^ n
  late-small h k = short-small (omega arith)

-- ---- bytes of a number

pub length-to_le : (n x : ℕ) → length (to_le n x) ≡ n
unfolding to_le
length-to_le zero x = refl
length-to_le (suc n) x = ap suc (length-to_le n (x / 256))

to_le-add : (m n x : ℕ) → to_le (m + n) x ≡ to_le m x ++ to_le n (x / 256 ^ m)
unfolding to_le
to_le-add zero n x = rw (zero-add n, div-one x)
to_le-add (suc m) n x = rw (suc-add m n, to_le-add m n (x / 256), div-div-eq-div-mul x 256 (256 ^ m), ← pow-succ' 256 m)

pub from_le-to_le : (n x : ℕ) → from_le (to_le n x) ≡ x % 256 ^ n
unfolding from_le to_le
from_le-to_le zero x = omega arith
from_le-to_le (suc n) x =
    rw (from_le-to_le n (x / 256), pow-succ' 256 n, mul_comm 256 (256 ^ n))
    (omega (arith, mod-mul x {m = 256 ^ n} {c = 256} (pow_pos n) (lit< tt)))

-- ---- writing

-- two stores side by side are one
pub sets-append : (l : List ℕ) (i : ℕ) (v w : List ℕ) → sets l i (v ++ w) ≡ sets (sets l i v) (i + length v) w
sets-append l i [] w = rw (add-zero i)
sets-append l i (x ∷ v) w = rw (add-suc i (length v), ← suc-add i (length v)) (sets-append (set l i x) (suc i) v w)

-- t is s with the m lowest bytes of x stored, u is t with the n next ones after them
pub put-add : (m n : ℕ) (s t u : List ℕ) (at x : ℕ) → t ≡ sets s at (to_le m x) → u ≡ sets t (at + m) (to_le n (x / 256 ^ m)) → u ≡ sets s at (to_le (m + n) x)
put-add m n s t u at x p q =
    q ∙ rw (p, to_le-add m n x, sets-append s at (to_le m x) (to_le n (x / 256 ^ m)), length-to_le m x)

module _ (l : List ℕ) (at : ℕ) (v : List ℕ) where
  pub stored-fits : at + length v ≤ length l → stored l at v ≡ sets l at v
  unfolding stored
  stored-fits h = rw (le-leb (at + length v) (length l) h)

  pub stored-not : length l < at + length v → l ≡ stored l at v
  unfolding stored
  stored-not h = rw (lt-leb (at + length v) (length l) h)

  pub length-stored : length (stored l at v) ≡ length l
  unfolding stored
  length-stored = go (leb (at + length v) (length l))
    where
      go : (t : Bool) → length (cond t (sets l at v) l) ≡ length l
      go true = length-sets l at v
      go false = refl

-- ---- what was written is read, what was read is written

-- a field that stands in a list
pub field-there : (n : ℕ) (p q : List ℕ) (x at : ℕ) → length p ≡ at → number_at n (p ++ (to_le n x ++ q)) at ≡ x % 256 ^ n
unfolding number_at
field-there n p q x at h =
    rw (drop_at p (to_le n x ++ q) at h, take_at (to_le n x) q n (length-to_le n x)) (from_le-to_le n x)

to_le-from_le : (n : ℕ) (bs : List ℕ) → n ≤ length bs → Bytes bs → to_le n (from_le (take n bs)) ≡ take n bs
unfolding to_le from_le
to_le-from_le zero bs h all = refl
to_le-from_le (suc n) [] h all = absurd (omega arith)
to_le-from_le (suc n) (b ∷ bs) h all =
    let y = from_le (take n bs) in
    let k : b < 256 = all 0 in
    let p : (b + 256 * y) % 256 ≡ b = omega arith in
    let q : (b + 256 * y) / 256 ≡ y = omega arith in
    rw (p, q, to_le-from_le n bs (omega arith) (λ i. all (suc i)))

pub field_back : (n : ℕ) (bs : List ℕ) (at : ℕ) → at + n ≤ length bs → Bytes bs → to_le n (number_at n bs at) ≡ take n (drop at bs)
unfolding number_at
field_back n bs at h all = to_le-from_le n (drop at bs) (omega (arith, length-drop at bs)) (λ i. rw (get_or-drop at bs i 0) (all (at + i)))

from_le-bound : (n : ℕ) (bs : List ℕ) → Bytes bs → from_le (take n bs) < 256 ^ n
unfolding from_le
from_le-bound zero bs all = lit< tt
from_le-bound (suc n) [] all = pow_pos (suc n)
from_le-bound (suc n) (b ∷ bs) all =
    let h = from_le-bound n bs (λ i. all (suc i)) in
    let k : b < 256 = all 0 in
    rw (pow-succ' 256 n) (omega arith)

pub number_at-bound : (n : ℕ) (bs : List ℕ) (at : ℕ) → Bytes bs → number_at n bs at < 256 ^ n
unfolding number_at
number_at-bound n bs at all = from_le-bound n (drop at bs) (λ i. rw (get_or-drop at bs i 0) (all (at + i)))

-- ---- what is written is bytes

pub to_le-bytes : (n x : ℕ) → Bytes (to_le n x)
unfolding to_le
to_le-bytes zero x i = omega arith
to_le-bytes (suc n) x zero = omega arith
to_le-bytes (suc n) x (suc i) = to_le-bytes n (x / 256) i

pub bytes-append : (a b : List ℕ) → Bytes a → Bytes b → Bytes (a ++ b)
bytes-append [] b p q i = q i
bytes-append (x ∷ a) b p q zero = p 0
bytes-append (x ∷ a) b p q (suc i) = bytes-append a b (λ j. p (suc j)) q i

-- ---- a number in a part of the bytes

drop-of-take : (i m : ℕ) (l : List ℕ) → i ≤ m → drop i (take m l) ≡ take (m - i) (drop i l)
drop-of-take zero m l h = rw (sub-zero m)
drop-of-take (suc i) zero l h = absurd (omega arith)
drop-of-take (suc i) (suc m) [] h = sym (take-nil (suc m - suc i))
drop-of-take (suc i) (suc m) (x ∷ l) h = let e : suc m - suc i ≡ m - i = omega arith in rw e (drop-of-take i m l (omega arith))

-- n bytes from place i of the part that starts at a place are those of the whole
pub part-number : (n i : ℕ) (bs : List ℕ) (at end : ℕ) → at + i + n ≤ end → number_at n (take (end - at) (drop at bs)) i ≡ number_at n bs (at + i)
unfolding number_at
part-number n i bs at end h =
    rw (drop-of-take i (end - at) (drop at bs) (omega arith), take-take n (end - at - i) (drop i (drop at bs)) (omega arith), drop-drop i at bs)

-- the number of a part of eight bytes
module _ (bs : List ℕ) (at end : ℕ) (e : end ≡ at + 8) where
  pub part-word : (r : ℕ) → r ≡ number_at 8 (take (end - at) (drop at bs)) 0 → r ≡ number_at 8 bs at
  part-word r h = let z : at + 0 ≡ at = omega arith in h ∙ part-number 8 0 bs at end (omega arith) ∙ ap (number_at 8 bs) z
