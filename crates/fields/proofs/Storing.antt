-- A list stored word by word: those from i on are still to be stored.
use mathlib.Core.Path.{◌≡◌, refl, sym, ◌∙◌}
use mathlib.Core.List.{List, [], ◌∷◌, map}
use Prim.Native.Nat.{ℕ, zero, suc, ◌+◌, ◌≤◌, ◌<◌}
use native.Mathlib.Numerals.{add-one}
use native.Mathlib.Omega.{arith}
use lib.ListN.{length, drop, get_or, set, length-set, length-map, drop_of_length-le}
use lib.Seq.{sets, drop-cons}

pub record Storing (ws : List ℕ) (n : ℕ) (before : List ℕ) (i : ℕ) (out : List ℕ) : Type 0 where
  pub size : n ≡ length ws
  pub within : i ≤ n
  pub room : n ≤ length before
  pub same : length out ≡ length before
  pub rest : sets out i (drop i ws) ≡ sets before 0 ws

pub storing-start : (ws : List ℕ) (n : ℕ) (out : List ℕ) → n ≡ length ws → length ws ≤ length out → Storing ws n out 0 out
storing-start ws n out e h = record { size = e; within = omega arith; room = omega arith; same = refl; rest = refl }

module _ (ws : List ℕ) (n : ℕ) (before : List ℕ) (i : ℕ) (out : List ℕ) (m : Storing ws n before i out) where
  pub storing-next : i < n → (w : ℕ) → w ≡ get_or ws i 0 → Storing ws n before (i + 1) (set out i w)
  storing-next h w e =
      record {
        size = m.size;
        within = omega arith;
        room = m.room;
        same = length-set out i w ∙ m.same;
        rest = rw (add-one i, e) (rw (drop-cons ws i 0 (omega (arith, m.size))) at m.rest);
      }

  pub storing-end : n ≤ i → out ≡ sets before 0 ws
  storing-end h = let e = drop_of_length-le ws {i = i} (omega (arith, m.size)) in rw e at m.rest

-- ---- one word for each of a list

pub get_d_map : (f : ℕ → ℕ) (l : List ℕ) (i : ℕ) → i < length l → get_or (map f l) i 0 ≡ f (get_or l i 0)
get_d_map f [] i h = absurd (omega arith)
get_d_map f (x ∷ l) zero h = refl
get_d_map f (x ∷ l) (suc i) h = get_d_map f l i (omega arith)

module _ (f : ℕ → ℕ) (ps : List ℕ) where
  pub map-length : length ps ≡ length (map f ps)
  map-length = sym (length-map ps f)

  module _ (out : List ℕ) where
    pub map_next : (i : ℕ) (out' : List ℕ) → Storing (map f ps) (length ps) out i out' → i < length ps → (w : ℕ) → w ≡ f (get_or ps i 0)
        → Storing (map f ps) (length ps) out (i + 1) (set out' i w)
    map_next i out' m h w e = storing-next (map f ps) (length ps) out i out' m h w (e ∙ sym (get_d_map f ps i h))
