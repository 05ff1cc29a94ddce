-- Stores past the end, parts that are replaced, and zeros.
use mathlib.Core.Path.{◌≡◌, refl, sym, ◌∙◌}
use mathlib.Core.Logic.{⊎_elim}
use mathlib.Core.List.{List, [], ◌∷◌, ◌++◌, append_assoc}
use Prim.Native.Nat.{ℕ, suc, ◌+◌, ◌-◌, ◌≤◌, ◌<◌, min}
use native.Mathlib.Omega.{arith}
use borrow.Rule.Slice.PartMut.{put_mid, mid_of}
use lib.ListN.{length, take, drop, get_or, set, replicate, length-set, length-drop, length-replicate, get_or-replicate}
use lib.Seq.{ext_get_or, sets, sets-eq, set_out, drop-drop, take-nil, length-take-le}
use Rattle.std.proofs.lemmas.List.{take-replicate}
use Rattle.fields.specs.Answers.{zeroed}
use Rattle.fields.proofs.Tests.{split-le}

-- nothing is stored past the end
pub sets-past : (vs l : List ℕ) (i : ℕ) → length l ≤ i → sets l i vs ≡ l
sets-past [] l i h = refl
sets-past (v ∷ vs) l i h =
    let e : set l i v ≡ l = set_out l i v h in
    rw e (sets-past vs l (suc i) (omega arith))

-- what is stored past the end is lost
pub sets-within : (v l : List ℕ) (i : ℕ) → sets l i (take (length l - i) v) ≡ sets l i v
sets-within [] l i = rw (take-nil {A = ℕ} (length l - i))
sets-within (x ∷ v) l i =
    ⊎_elim
    (λ k. let z : length l - i ≡ 0 = omega (arith, k.1) in rw z (sym (sets-past (x ∷ v) l i k.1)))
    (λ k.
    let e : length l - i ≡ suc (length (set l i x) - suc i) = omega (arith, k.1, length-set l i x) in
    rw e (sets-within v (set l i x) (suc i)))
    (split-le (length l) i)

-- a part that is replaced by as many numbers
pub part-all : (a k : ℕ) (l v : List ℕ) → a + k ≤ length l → length v ≡ k → put_mid a k l v ≡ sets l a v
part-all a k l v h f =
    let e : a + k ≡ a + length v = omega arith in
    sym (sets-eq v l a (omega arith) ∙ rw (append_assoc (take a l) v (drop (a + length v) l), ← drop-drop (length v) a l, f))

-- zeros that fit
pub zeroed-is : (l : List ℕ) (from to : ℕ) → from ≤ to → to ≤ length l → zeroed from to l ≡ (take from l ++ replicate (to - from) 0) ++ drop to l
unfolding zeroed
zeroed-is l from to h k =
    let n : from + length (replicate {A = ℕ} (to - from) 0) ≡ to = simp length-replicate (omega arith) in
    sets-eq (replicate (to - from) 0) l from (omega (arith, n)) ∙ rw n

-- zeros that do not fit are lost
zeroed-within : (from to : ℕ) (l : List ℕ) → sets l from (replicate (min to (length l) - from) 0) ≡ zeroed from to l
unfolding zeroed
zeroed-within from to l =
    ⊎_elim
    (λ k. let m : min to (length l) ≡ to = omega (arith, k.1) in rw m)
    (λ k.
    let m : min to (length l) ≡ length l = omega (arith, k.1) in
    let t : take (length l - from) (replicate {A = ℕ} (to - from) 0) ≡ replicate (length l - from) 0 = take-replicate (length l - from) (to - from) 0 (omega (arith, k.1)) in
    rw m (rw t at (sets-within (replicate (to - from) 0) l from)))
    (split-le to (length l))

-- the ways through the clearing of a part
module _ (from to end : ℕ) (l : List ℕ) (e : end ≡ min to (length l)) where
  pub cleared : (p : List ℕ) (n : ℕ) → from < end → length p ≡ length (mid_of from (end - from) l) → ((k : ℕ) → k < n → get_or p k 0 ≡ 0) → length p ≤ n
      → put_mid from (end - from) l p ≡ zeroed from to l
  cleared p n h q all t =
      let o : length (mid_of from (end - from) l) ≡ end - from = length-take-le (end - from) (drop from l) (omega (arith, length-drop from l)) in
      let m : length p ≡ end - from = q ∙ o in
      let r : length (replicate {A = ℕ} (end - from) 0) ≡ end - from = length-replicate (end - from) 0 in
      let z : p ≡ replicate (end - from) 0 = ext_get_or 0 p (replicate (end - from) 0) (m ∙ sym r) (λ k i. all k (omega arith) ∙ sym (get_or-replicate (end - from) k 0 0 (omega (arith, m)))) in
      rw z (part-all from (end - from) l (replicate (end - from) 0) (omega arith) r ∙ rw e (zeroed-within from to l))

  pub not-cleared : end ≤ from → l ≡ zeroed from to l
  not-cleared h =
      let z : min to (length l) - from ≡ 0 = omega arith in
      let w : sets l from (replicate 0 0) ≡ zeroed from to l = rw z at (zeroed-within from to l) in
      w
