-- The walk over the heads of entries: the place after k of them, and what is known there.
use mathlib.Core.Path.{◌≡◌, refl, sym, ◌∙◌}
use mathlib.Core.List.{List, ◌∷◌, ◌++◌}
use Prim.Native.Nat.{ℕ, zero, suc, ◌+◌, ◌-◌, ◌≤◌, ◌<◌}
use native.Mathlib.Nat.{zero-add, suc-add}
use native.Mathlib.Omega.{arith}
use Rattle.fields.proofs.Refusals.{then-none, front-none, rest-none}
use Rattle.run_list.specs.Blocks.{block_fault}
use Rattle.index.specs.Index.{value_at, length_at, block_at, next_at, entry_at, head_fault, entries_fault, entry_list, entry_count, index_fault}
use Rattle.index.specs.Inner.{EntriesFit}
use Rattle.index.specs.Search.{place_after}
use Rattle.index.proofs.Entries.{Opened, open-first, open-index}

pub place-next : (k : ℕ) (s : List ℕ) (at : ℕ) → place_after (k + 1) s at ≡ next_at s (place_after k s at)
unfolding place_after
place-next zero s at = refl
place-next (suc k) s at = rw (suc-add k 1) (place-next k s (next_at s at))

pub entries-split : (k m : ℕ) (s : List ℕ) (at : ℕ) → entry_list (k + m) s at ≡ entry_list k s at ++ entry_list m s (place_after k s at)
unfolding entry_list place_after
entries-split zero m s at = rw (zero-add m)
entries-split (suc k) m s at = rw (suc-add k m, entries-split k m s (next_at s at))

-- ---- entries that are not refused

entries-front : (k m : ℕ) (s : List ℕ) (at lo : ℕ) → entries_fault (k + m) s at lo ≡ 0 → entries_fault k s at lo ≡ 0
unfolding entries_fault
entries-front zero m s at lo e = refl
entries-front (suc k) m s at lo e =
    let e' = rw (suc-add k m) at e in
    let h = front-none (head_fault s at lo) _ e' in
    let r = rest-none (head_fault s at lo) _ e' in
    let b = front-none (block_fault (block_at s at)) _ r in
    then-none _ _ h ∙ then-none _ _ b ∙ entries-front k m s (next_at s at) (suc (value_at s at)) (rest-none (block_fault (block_at s at)) _ r)

pub fit-front : (k m : ℕ) (s : List ℕ) (at : ℕ) → EntriesFit s at (k + m) → EntriesFit s at k
fit-front k m s at t = record { short = t.short; place = t.place; lo = t.lo; right = entries-front k m s at t.lo t.right }

pub fit-after : (k m : ℕ) (s : List ℕ) (at : ℕ) → EntriesFit s at (k + m) → EntriesFit s (place_after k s at) m
unfolding place_after
fit-after zero m s at t = rw (zero-add m) at t
fit-after (suc k) m s at t =
    let o = open-first (k + m) s at t.lo (rw (suc-add k m) at t.right) in
    fit-after k m s (next_at s at) (record { short = t.short; place = o.fit.fits; lo = suc (value_at s at); right = o.rest })

pub index-fit : (s : List ℕ) (n : ℕ) → index_fault s ≡ 0 → n ≡ entry_count s → EntriesFit s 4 n
index-fit s n e c = let t = open-index s e in record { short = t.short; place = t.counted; lo = 0; right = rw c t.right }

-- ---- the walk: of n entries from start on k are passed, and the next is at a place

pub record Along (s : List ℕ) (start n at k : ℕ) : Type 0 where
  pub within : k ≤ n
  pub place : at ≡ place_after k s start

pub along-start : (s : List ℕ) (start n : ℕ) → Along s start n start 0
unfolding place_after
along-start s start n = record { within = omega arith; place = refl }

module _ (s : List ℕ) (start n at k : ℕ) (m : Along s start n at k) where
  cut : k + (n - k) ≡ n
  cut = omega (arith, m.within)

  pub along-split : entry_list n s start ≡ entry_list k s start ++ entry_list (n - k) s at
  along-split = rw m.place (rw cut at (entries-split k (n - k) s start))

  module _ (t : EntriesFit s start n) where
    pub along-front : EntriesFit s start k
    along-front = fit-front k (n - k) s start (rw cut t)

    pub along-after : EntriesFit s at (n - k)
    along-after = rw m.place (fit-after k (n - k) s start (rw cut t))

  module _ (h : k < n) where
    pub along-next : (l : ℕ) → l ≡ length_at s at → Along s start n (at + 12 + l) (k + 1)
    along-next l e = record { within = omega arith; place = rw e (sym (place-next k s start ∙ rw (← m.place))) }

    pub along-first : entry_list (n - k) s at ≡ entry_at s at ∷ entry_list (n - (k + 1)) s (next_at s at)
    unfolding entry_list
    along-first = let e : n - k ≡ suc (n - (k + 1)) = omega arith in rw e

    pub along-open : (t : EntriesFit s start n) → Opened (n - (k + 1)) s at (along-after t).lo
    along-open t =
        let e : n - k ≡ suc (n - (k + 1)) = omega arith in
        open-first (n - (k + 1)) s at (along-after t).lo (rw e at (along-after t).right)
