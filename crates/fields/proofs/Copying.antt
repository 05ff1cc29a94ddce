-- Bytes copied one after another, those from i on still to be copied; and what is stored in a part that was lent is stored in the whole.
use mathlib.Core.Path.{◌≡◌, refl, sym, ◌∙◌}
use mathlib.Core.Logic.{⊎_elim}
use mathlib.Core.List.{List, [], ◌∷◌, ◌++◌, append_assoc}
use Prim.Native.Nat.{ℕ, zero, suc, ◌+◌, ◌-◌, ◌≤◌, ◌<◌, min}
use native.Mathlib.Numerals.{add-one}
use native.Mathlib.Omega.{arith}
use borrow.Rule.Slice.PartMut.{put_mid, mid_of}
use lib.ListN.{length, take, drop, get_or, set, length-set, length-drop, drop_of_length-le, take-append-drop}
use lib.Seq.{sets, sets-eq, drop-cons, drop-drop, length-take-le}
use Rattle.fields.specs.Bytes.{stored}
use Rattle.fields.proofs.Numbers.{stored-fits, stored-not}
use Rattle.fields.proofs.Clearing.{sets-past, part-all}
use Rattle.fields.proofs.Tests.{split-le}

pub record Copying (bytes before : List ℕ) (i : ℕ) (out : List ℕ) : Type 0 where
  pub same : length out ≡ length before
  pub rest : sets out i (drop i bytes) ≡ sets before 0 bytes

pub copying-start : (bytes out : List ℕ) → Copying bytes out 0 out
copying-start bytes out = record { same = refl; rest = refl }

module _ (bytes before : List ℕ) (n : ℕ) (e : n ≡ min (length bytes) (length before)) (i : ℕ) (out : List ℕ) (m : Copying bytes before i out) where
  pub copying-next : i < n → Copying bytes before (i + 1) (set out i (get_or bytes i 0))
  copying-next h =
      record { same = length-set out i (get_or bytes i 0) ∙ m.same; rest = rw (add-one i) (rw (drop-cons bytes i 0 (omega arith)) at m.rest) }

  pub copying-end : n ≤ i → out ≡ sets before 0 bytes
  copying-end h = sym done ∙ m.rest
    where
      done : sets out i (drop i bytes) ≡ out
      done =
          ⊎_elim
          (λ k. rw (drop_of_length-le bytes {i = i} k.1))
          (λ k. sets-past (drop i bytes) out i (omega (arith, k.1, m.same)))
          (split-le (length bytes) i)

sets-front : (v l : List ℕ) → length v ≤ length l → sets l 0 v ≡ v ++ drop (length v) l
sets-front v l h = let z : 0 + length v ≡ length v = omega arith in sets-eq v l 0 (omega arith) ∙ rw z

-- ---- parts

drop-take : (j k : ℕ) (l : List ℕ) → j ≤ k → drop j (take k l) ++ drop k l ≡ drop j l
drop-take zero k l h = take-append-drop k l
drop-take (suc j) zero l h = let z : ⊥ = omega arith in absurd z
drop-take (suc j) (suc k) [] h = refl
drop-take (suc j) (suc k) (x ∷ l) h = drop-take j k l (omega arith)

-- bytes stored at the front of a part are stored from the part's place on
pub part-stored : (a k : ℕ) (l v : List ℕ) → a + k ≤ length l → length v ≤ k → put_mid a k l (sets (mid_of a k l) 0 v) ≡ sets l a v
part-stored a k l v h f =
    let d = drop a l in
    let m = take k d in
    let n : length m ≡ k = length-take-le k d (omega (arith, length-drop a l)) in
    let e1 : sets m 0 v ≡ v ++ drop (length v) m = sets-front v m (omega arith) in
    let e2 : (v ++ drop (length v) m) ++ drop k d ≡ v ++ drop (length v) d = append_assoc v (drop (length v) m) (drop k d) ∙ rw (drop-take (length v) k d f) in
    let e3 : sets l a v ≡ take a l ++ (v ++ drop (length v) d) =
    sets-eq v l a (omega arith) ∙ rw (append_assoc (take a l) v (drop (a + length v) l), ← drop-drop (length v) a l) in
    rw (e1, e2) (sym e3)

-- the same of a store in a part where all of it fits
pub part-put : (a end : ℕ) (l v p : List ℕ) → end ≤ length l → a + length v ≤ end → p ≡ stored (mid_of a (end - a) l) 0 v → put_mid a (end - a) l p ≡ sets l a v
part-put a end l v p h f e =
    let n : length (take (end - a) (drop a l)) ≡ end - a = length-take-le (end - a) (drop a l) (omega (arith, length-drop a l)) in
    rw (e, stored-fits (take (end - a) (drop a l)) 0 v (omega arith)) (part-stored a (end - a) l v (omega arith) (omega arith))

-- the ways through a writer of n bytes
module _ (n : ℕ) (l : List ℕ) (at : ℕ) (field : List ℕ) (f : length field ≡ n) where
  pub put-few : length l < n → l ≡ stored l at field
  put-few h = stored-not l at field (omega arith)

  module _ (h : n ≤ length l) where
    pub put-late : length l - n < at → l ≡ stored l at field
    put-late k = stored-not l at field (omega arith)

    pub put-fits : (p : List ℕ) → at ≤ length l - n → p ≡ field → put_mid at (at + n - at) l p ≡ stored l at field
    put-fits p k e =
        let z : at + n - at ≡ n = omega arith in
        rw (z, e, stored-fits l at field (omega arith)) (part-all at n l field (omega arith) f)
