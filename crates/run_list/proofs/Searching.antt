-- The search by quarters, one law for each way through the code; and what it gives on words that do not decrease.
use mathlib.Core.Path.{◌≡◌, refl, sym, ◌∙◌}
use mathlib.Core.Logic.{◌⊎◌, inl, inr, ⊎_elim}
use mathlib.Core.List.{List, [], ◌∷◌}
use Prim.Native.Nat.{ℕ, zero, suc, ◌+◌, ◌-◌, ◌*◌, ◌/◌, ◌≤◌, ◌<◌}
use native.Mathlib.Nat.{le_refl, mul-le-mul_right}
use native.Mathlib.Omega.{arith}
use borrow.Author.Tests.{lt-ltb, le-ltb}
use lib.Dec.{leb}
use lib.ListN.{length, get_or}
use Rattle.fields.proofs.Tests.{split-le}
use Rattle.fields.proofs.Counting.{bit-small}
use Rattle.run_list.specs.Rising.{From, Rising}
use Rattle.run_list.specs.Rows.{upper_bound}
use Rattle.run_list.specs.Search.{reached, linear, quarter, quarters, searched}
use Rattle.fields.specs.Counting.{Test}
use Rattle.run_list.proofs.Places.{upper_bound-le, upper_bound-above, from-get_or}

-- ---- a step

module _ (ws : List ℕ) (r base q : ℕ) where
  pub quarter-is : (b₁ b₂ b₃ m : ℕ) → Test (get_or ws (base + q) 0) r b₁ → Test (get_or ws (base + 2 * q) 0) r b₂ → Test (get_or ws (base + 3 * q) 0) r b₃
      → m ≡ (b₁ + b₂ + b₃) * q → base + m ≡ quarter r ws base q
  unfolding quarter
  quarter-is b₁ b₂ b₃ m e₁ e₂ e₃ e = rw (e, e₁.value, e₂.value, e₃.value)

  quarter-le : quarter r ws base q ≤ base + 3 * q
  unfolding quarter
  quarter-le = omega (arith, mul-le-mul_right q three)
    where
      three : reached r ws (base + q) + reached r ws (base + 2 * q) + reached r ws (base + 3 * q) ≤ 3
      three = omega (arith, bit-small (leb (get_or ws (base + q) 0) r), bit-small (leb (get_or ws (base + 2 * q) 0) r), bit-small (leb (get_or ws (base + 3 * q) 0) r))

-- ---- the last size words, of which k are tested

pub record Linear (ws : List ℕ) (r base size at k : ℕ) : Type 0 where
  pub within : k ≤ size
  pub fits : at + (size - k) ≤ length ws
  pub rest : linear r ws at (size - k) ≡ linear r ws base size

module _ (ws : List ℕ) (r base size : ℕ) where
  module _ (at k : ℕ) (m : Linear ws r base size at k) where
    pub linear-next : k < size → (b : ℕ) → Test (get_or ws at 0) r b → Linear ws r base size (at + b) (k + 1)
    unfolding linear
    linear-next h b t =
        let e : size - k ≡ suc (size - (k + 1)) = omega arith in
        record { within = omega arith; fits = omega (arith, m.fits, t.small); rest = rw t.value (rw e at m.rest) }

    pub linear-end : size ≤ k → at ≡ linear r ws base size
    unfolding linear
    linear-end h = let e : size - k ≡ 0 = omega arith in rw e at m.rest

-- ---- the quarters: size words from base on are still to be searched

pub record Searching (ws : List ℕ) (r base size : ℕ) : Type 0 where
  pub fits : base + size ≤ length ws
  pub rest : quarters size r ws base size ≡ searched r ws

-- steps to spare make no difference
steps-more : (n m r : ℕ) (ws : List ℕ) (base size : ℕ) → size ≤ n → size ≤ m → quarters n r ws base size ≡ quarters m r ws base size
unfolding quarters
steps-more zero zero r ws base size h k = refl
steps-more zero (suc m) r ws base size h k = rw (le-ltb 3 size (omega arith))
steps-more (suc n) zero r ws base size h k = rw (le-ltb 3 size (omega arith))
steps-more (suc n) (suc m) r ws base size h k =
    ⊎_elim
    (λ t. rw t.0 (steps-more n m r ws (quarter r ws base (size / 4)) (size - 3 * (size / 4)) (omega (arith, t.1)) (omega (arith, t.1))))
    (λ t. rw t.0) (split-le 4 size)

steps-none : (n r : ℕ) (ws : List ℕ) (base size : ℕ) → size ≤ 3 → quarters n r ws base size ≡ linear r ws base size
unfolding quarters
steps-none zero r ws base size h = refl
steps-none (suc n) r ws base size h = rw (le-ltb 3 size h)

module _ (ws : List ℕ) (r : ℕ) where
  pub search-start : Searching ws r 0 (length ws)
  unfolding searched
  search-start = record { fits = omega arith; rest = refl }

  module _ (base size : ℕ) (m : Searching ws r base size) where
    pub search-next : 3 < size → (to : ℕ) → to ≡ quarter r ws base (size / 4) → Searching ws r to (size - 3 * (size / 4))
    unfolding quarters
    search-next h to e =
        record { fits = omega (arith, m.fits, quarter-le ws r base (size / 4)); rest = rw e (sym passed ∙ m.rest) }
      where
        passed : quarters size r ws base size ≡ quarters (size - 3 * (size / 4)) r ws (quarter r ws base (size / 4)) (size - 3 * (size / 4))
        passed =
            steps-more size (suc (size - 1)) r ws base size (omega arith) (omega arith)
            ∙ rw (lt-ltb 3 size h) (steps-more (size - 1) (size - 3 * (size / 4)) r ws (quarter r ws base (size / 4)) (size - 3 * (size / 4)) (omega arith) (omega arith))

    pub search-end : size ≤ 3 → (at : ℕ) → at ≡ linear r ws base size → at ≡ searched r ws
    search-end h at e = e ∙ sym (steps-none size r ws base size h) ∙ m.rest

-- ---- on words that do not decrease; neighbours may be equal

abbrev pub NonDecreasing : List ℕ → Type 0
NonDecreasing ws = (i j : ℕ) → i ≤ j → j < length ws → get_or ws i 0 ≤ get_or ws j 0

-- the first word that is not at most r
pub upper_bound-next : (r : ℕ) (ws : List ℕ) → upper_bound r ws < length ws → r < get_or ws (upper_bound r ws) 0
upper_bound-next r [] h = absurd (omega arith)
upper_bound-next r (x ∷ ws) h =
    ⊎_elim (λ e. rw e.0 (upper_bound-next r ws (omega (arith, rw e.0 at h)))) (λ e. rw e.0 e.1) (split-le x r)

-- the words at most r end within size places from base on
record Within (ws : List ℕ) (r base size : ℕ) : Type 0 where
  low : base ≤ upper_bound r ws
  high : upper_bound r ws ≤ base + size
  fits : base + size ≤ length ws

module _ (ws : List ℕ) (r : ℕ) (f : NonDecreasing ws) where
  upper_bound-before : (m : ℕ) → m < length ws → get_or ws m 0 ≤ r → m < upper_bound r ws
  upper_bound-before m h k =
      ⊎_elim (λ t. absurd (omega (arith, f (upper_bound r ws) m t.1 h, upper_bound-next r ws (omega (arith, t.1)), k))) (λ t. t.1) (split-le (upper_bound r ws) m)

  -- a test says on which side of the place a word is
  Side : ℕ → Type 0
  Side i = ((reached r ws i ≡ 1) × (i < upper_bound r ws)) ⊎ ((reached r ws i ≡ 0) × (upper_bound r ws ≤ i))

  side : (i : ℕ) → i < length ws → Side i
  unfolding Side
  side i h =
      ⊎_elim (λ e. inl (rw e.0, upper_bound-before i h e.1)) (λ e. inr (rw e.0, upper_bound-above r ws i e.1)) (split-le (get_or ws i 0) r)

  -- the tests passed are the first ones, so the place is past that many steps, and not past one more
  within-quarter : (base size : ℕ) → 3 < size → Within ws r base size → Within ws r (quarter r ws base (size / 4)) (size - 3 * (size / 4))
  unfolding quarter Side
  within-quarter base size g w =
      go (side (base + size / 4) (omega (arith, w.fits))) (side (base + 2 * (size / 4)) (omega (arith, w.fits))) (side (base + 3 * (size / 4)) (omega (arith, w.fits)))
    where
      to : ℕ
      to = quarter r ws base (size / 4)

      moved : (k : ℕ) → to ≡ base + k → base + k ≤ upper_bound r ws → upper_bound r ws ≤ base + k + (size - 3 * (size / 4)) → k ≤ 3 * (size / 4) → Within ws r to (size - 3 * (size / 4))
      moved k t l u b = record { low = omega arith; high = omega arith; fits = omega (arith, w.fits) }

      go : Side (base + size / 4) → Side (base + 2 * (size / 4)) → Side (base + 3 * (size / 4)) → Within ws r to (size - 3 * (size / 4))
      go (inr x) (inr y) (inr z) = moved 0 (rw (x.0, y.0, z.0) (omega arith)) (omega (arith, w.low)) (omega (arith, x.1)) (omega arith)
      go (inl x) (inr y) (inr z) = moved (size / 4) (rw (x.0, y.0, z.0) (omega arith)) (omega (arith, x.1)) (omega (arith, y.1)) (omega arith)
      go (inl x) (inl y) (inr z) = moved (2 * (size / 4)) (rw (x.0, y.0, z.0) (omega arith)) (omega (arith, y.1)) (omega (arith, z.1)) (omega arith)
      go (inl x) (inl y) (inl z) = moved (3 * (size / 4)) (rw (x.0, y.0, z.0) (omega arith)) (omega (arith, z.1)) (omega (arith, w.high)) (omega arith)
      go (inr x) (inl y) z = absurd (omega (arith, x.1, y.1))
      go (inr x) (inr y) (inl z) = absurd (omega (arith, x.1, z.1))
      go (inl x) (inr y) (inl z) = absurd (omega (arith, y.1, z.1))

  within-few : (n base : ℕ) → Within ws r base n → linear r ws base n ≡ upper_bound r ws
  unfolding linear Side
  within-few zero base w = omega (arith, w.low, w.high)
  within-few (suc n) base w =
      within-few n (base + reached r ws base)
      (⊎_elim
      (λ k. record { low = omega (arith, k.0, k.1); high = omega (arith, k.0, w.high); fits = omega (arith, k.0, w.fits) })
      (λ k. record { low = omega (arith, k.0, w.low); high = omega (arith, k.0, k.1); fits = omega (arith, k.0, w.fits) }) (side base (omega (arith, w.fits))))

  within_all : (n base size : ℕ) → Within ws r base size → quarters n r ws base size ≡ upper_bound r ws
  unfolding quarters
  within_all zero base size w = within-few size base w
  within_all (suc n) base size w =
      ⊎_elim
      (λ t. rw t.0 (within_all n (quarter r ws base (size / 4)) (size - 3 * (size / 4)) (within-quarter base size t.1 w)))
      (λ t. rw t.0 (within-few size base w)) (split-le 4 size)

  -- the search gives the number of words at most r
  pub searched-nondecreasing : searched r ws ≡ upper_bound r ws
  unfolding searched
  searched-nondecreasing = within_all (length ws) 0 (length ws) (record { low = omega arith; high = omega (arith, upper_bound-le r ws); fits = omega arith })

pub rising-nondecreasing : (lo : ℕ) (ws : List ℕ) → From lo ws → NonDecreasing ws
rising-nondecreasing lo [] f i j h l = absurd (omega arith)
rising-nondecreasing lo (x ∷ ws) f zero zero h l = le_refl x
rising-nondecreasing lo (x ∷ ws) f zero (suc j) h l = omega (arith, from-get_or (suc x) ws j f.1 (omega arith))
rising-nondecreasing lo (x ∷ ws) f (suc i) zero h l = absurd (omega arith)
rising-nondecreasing lo (x ∷ ws) f (suc i) (suc j) h l = rising-nondecreasing (suc x) ws f.1 i j (omega arith) (omega arith)

pub searched-rising : (ws : List ℕ) (r : ℕ) → Rising ws → searched r ws ≡ upper_bound r ws
searched-rising ws r f = searched-nondecreasing ws r (rising-nondecreasing 0 ws f)
