-- The two ways to store a word: as it is, and as the eight bytes of a block's word.
use mathlib.Core.Path.{◌≡◌, refl, sym, ap, ◌∙◌}
use mathlib.Core.Logic.{⊎_elim}
use mathlib.Core.List.{List, [], ◌∷◌, ◌++◌, append_assoc}
use Prim.Native.Nat.{ℕ, zero, suc, ◌+◌, ◌-◌, ◌*◌, ◌/◌, ◌≤◌, ◌<◌}
use native.Mathlib.Omega.{arith}
use lib.ListN.{length, take, drop, get_or, set, length-set, length-append}
use lib.Seq.{sets, sets-eq, length-sets, length-take-le, take_at, drop_at, drop-cons, set_out, set-get_or}
use borrow.Rule.Slice.PartMut.{put_mid, mid_of}
use mir.Syntax.{w8}
use mir.Val.{Fits}
use Rattle.fields.specs.Bytes.{number_at, to_le, stored}
use Rattle.fields.proofs.Numbers.{length-to_le, stored-fits, stored-not, length-stored, field_back, part-word}
use Rattle.fields.proofs.Copying.{part-put}
use Rattle.fields.proofs.Tests.{split-le}
use Rattle.boundary.specs.Stores.{Storing, set_bytes}

-- ---- as it is

set-again : (out : List ℕ) (k x y : ℕ) → set (set out k x) k y ≡ set out k y
set-again [] k x y = refl
set-again (o ∷ out) zero x y = refl
set-again (o ∷ out) (suc k) x y = ap (λ l. o ∷ l) (set-again out k x y)

pub storing_words : Storing set (λ n. n)
storing_words = record { past = λ out k x h. set_out out k x h; same = λ out k x. length-set out k x; again = set-again }

-- ---- as bytes

sets-twice : (l : List ℕ) (at : ℕ) (v w : List ℕ) → length v ≡ length w → at + length v ≤ length l → sets (sets l at v) at w ≡ sets l at w
sets-twice l at v w e h =
    let t = take at l in
    let d = drop (at + length v) l in
    let lt : length t ≡ at = length-take-le at l (omega arith) in
    let lv : length (t ++ v) ≡ at + length w = omega (arith, length-append t v) in
    sets-eq w (sets l at v) at (omega (arith, length-sets l at v))
    ∙ rw (sets-eq v l at h, drop_at (t ++ v) d (at + length w) lv, append_assoc t v d, take_at t (v ++ d) at lt, e) (sym (sets-eq w l at (omega arith)))

pub bytes-twice : (out : List ℕ) (k x y : ℕ) → set_bytes (set_bytes out k x) k y ≡ set_bytes out k y
unfolding set_bytes
bytes-twice out k x y = ⊎_elim (λ h. fit h.1) (λ h. unfit h.1) (split-le (4 + 8 * k + 8) (length out))
  where
    fit : 4 + 8 * k + 8 ≤ length out → stored (stored out (4 + 8 * k) (to_le 8 x)) (4 + 8 * k) (to_le 8 y) ≡ stored out (4 + 8 * k) (to_le 8 y)
    fit h =
        let p = 4 + 8 * k in
        let v = to_le 8 x in
        let w = to_le 8 y in
        let lv = length-to_le 8 x in
        let lw = length-to_le 8 y in
        rw (stored-fits out p v (omega arith), stored-fits out p w (omega arith), stored-fits (sets out p v) p w (omega (arith, length-sets out p v)))
        (sets-twice out p v w (omega arith) (omega arith))

    unfit : length out < 4 + 8 * k + 8 → stored (stored out (4 + 8 * k) (to_le 8 x)) (4 + 8 * k) (to_le 8 y) ≡ stored out (4 + 8 * k) (to_le 8 y)
    unfit h = let lv = length-to_le 8 x in rw (← stored-not out (4 + 8 * k) (to_le 8 x) (omega arith))

pub storing-bytes : Storing set_bytes (λ n. (n - 4) / 8)
unfolding set_bytes
storing-bytes =
    record {
      past = λ out k x h. let l = length-to_le 8 x in sym (stored-not out (4 + 8 * k) (to_le 8 x) (omega arith));
      same = λ out k x. length-stored out (4 + 8 * k) (to_le 8 x);
      again = bytes-twice;
    }

pub bytes-past : (out : List ℕ) (k x : ℕ) → (length out + 4) / 8 ≤ k + 1 → out ≡ set_bytes out k x
bytes-past out k x h = sym (storing-bytes.past out k x (omega arith))

-- bytes stored where they are change nothing
sets-same : (n : ℕ) (l : List ℕ) (at : ℕ) → at + n ≤ length l → sets l at (take n (drop at l)) ≡ l
sets-same zero l at h = refl
sets-same (suc n) l at h =
    rw (drop-cons l at 0 (omega arith))
    (ap (λ m. sets m (suc at) (take n (drop (suc at) l))) (set-get_or l at 0) ∙ sets-same n l (suc at) (omega arith))

module _ (out : List ℕ) (k : ℕ) (h : k < (length out - 4) / 8) where
  -- a word read from its part and stored again
  pub bytes-same : ((j : ℕ) → Fits w8 (get_or out j 0)) → (x : ℕ) → x ≡ number_at 8 (take (4 + 8 * k + 8 - (4 + 8 * k)) (drop (4 + 8 * k) out)) 0 → set_bytes out k x ≡ out
  unfolding set_bytes
  bytes-same all x e =
      let at = 4 + 8 * k in
      let y = part-word out at (at + 8) refl x e in
      let l = length-to_le 8 x in
      stored-fits out at (to_le 8 x) (omega arith) ∙ rw (y, field_back 8 out at (omega arith) (λ i. omega (arith, all i))) (sets-same 8 out at (omega arith))

  -- a word put into its part
  pub bytes-set : (x : ℕ) (p : List ℕ) → p ≡ stored (mid_of (4 + 8 * k) (4 + 8 * k + 8 - (4 + 8 * k)) out) 0 (to_le 8 x)
      → put_mid (4 + 8 * k) (4 + 8 * k + 8 - (4 + 8 * k)) out p ≡ set_bytes out k x
  unfolding set_bytes
  bytes-set x p e =
      let at = 4 + 8 * k in
      let v = to_le 8 x in
      let l = length-to_le 8 x in
      part-put at (at + 8) out v p (omega arith) (omega arith) e ∙ sym (stored-fits out at v (omega arith))
