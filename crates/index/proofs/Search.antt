-- The search for a value: one law for each way through `seek`, and what it finds in an index that is not refused.
use mathlib.Core.Path.{◌≡◌, refl, sym, ◌∙◌}
use mathlib.Core.Bool.{Bool, true, false, ◌&&◌, true≢false}
use mathlib.Core.Logic.{⊎_elim}
use mathlib.Core.List.{List, [], ◌∷◌, ◌++◌}
use Prim.Native.Nat.{ℕ, zero, suc, ◌+◌, ◌-◌, ◌*◌, ◌^◌, ◌≤◌, ◌<◌, min}
use native.Mathlib.Nat.{sub-zero}
use native.Mathlib.Omega.{arith}
use borrow.Author.Tests.{le-leb, lt-leb, lt-ltb, le-ltb, ltb-true, leb-true, eqb-true, eq-eqb, ne_eqb}
use lib.Dec.{leb, ltb, eqb}
use lib.ListN.{length}
use Rattle.fields.specs.Bytes.{number_at, Bytes}
use Rattle.fields.proofs.Tests.{split-le}
use Rattle.run_list.specs.Blocks.{block_runs, block_words, block_bytes}
use Rattle.index.specs.Index.{Entry, value_at, length_at, block_at, next_at, entry_at, entries_fault, entry_list, entry_count, index_fault, entries, block_of}
use Rattle.index.specs.Inner.{EntriesFit}
use Rattle.index.specs.Search.{place_after, passed, lesser, point_of, is_known, PlaceOf, place_of, size_of, found}
use Rattle.index.proofs.Entries.{Opened, open-first, block_written}
use Rattle.index.proofs.Places.{Along, along-start, along-next, along-split, along-front, along-after, along-first, along-open, index-fit}

-- ---- the loop

-- the entries that are passed, and those from here on that will be, are all that the search passes. No place that is reached is far past the bytes
pub record Seeking (s : List ℕ) (v n at k : ℕ) : Type 0 where
  pub along : Along s 4 n at k
  pub count : n ≡ entry_count s
  pub short : length s * 1 < 2 ^ 63
  pub small : at < 2 ^ 63 + 2 ^ 33
  pub rest : k + passed (n - k) s at v ≡ passed n s 4 v

pub seeking-start : (s : List ℕ) (v n : ℕ) → n ≡ entry_count s → length s * 1 < 2 ^ 63 → Seeking s v n 4 0
seeking-start s v n c h = record { along = along-start s 4 n; count = c; short = h; small = omega arith; rest = rw (sub-zero n) (omega arith) }

module _ (s : List ℕ) (v n at k : ℕ) (m : Seeking s v n at k) where
  -- the search ends here
  ends : (known : Bool) → passed (n - k) s at v ≡ 0 → (ltb k n && (leb (at + 12) (length s) && eqb v (value_at s at))) ≡ known
      → PlaceOf s v (record { below = k; at = at; known = known })
  unfolding is_known
  ends known z e =
      let b : k ≡ lesser s v = rw (← m.count) (omega (arith, m.rest)) in
      let p : at ≡ point_of s v = m.along.place ∙ rw b in
      record { below = b; place = p; known = sym (rw (← p, ← b, ← m.count) e); small = m.small }

  module _ (h : k < n) where
    one : n - k ≡ suc (n - (k + 1))
    one = omega arith

    pub seek-short : length s < at + 12 → PlaceOf s v (record { below = k; at = at; known = false })
    unfolding passed
    seek-short g = let t = lt-leb (at + 12) (length s) g in ends false (rw (one, t)) (rw (lt-ltb k n h, t))

    module _ (g : at + 12 ≤ length s) (x : ℕ) (ex : x ≡ value_at s at) where
      there : leb (at + 12) (length s) ≡ true
      there = le-leb (at + 12) (length s) g

      pub seek_stop : v ≤ x → PlaceOf s v (record { below = k; at = at; known = eqb v x })
      unfolding passed
      seek_stop f =
          let t : leb v (value_at s at) ≡ true = le-leb v (value_at s at) (omega arith) in
          ends (eqb v x) (rw (one, there, t)) (rw (lt-ltb k n h, there, ex))

      pub seek-next : x < v → (l : ℕ) → l ≡ length_at s at → l < 4294967296 → Seeking s v n (at + 12 + l) (k + 1)
      unfolding passed
      seek-next f l e low =
          let t : leb v (value_at s at) ≡ false = lt-leb v (value_at s at) (omega arith) in
          let r : passed (n - k) s at v ≡ suc (passed (n - (k + 1)) s (at + 12 + l) v) = rw (one, there, t, e) in
          record { along = along-next s 4 n at k m.along h l e; count = m.count; short = m.short; small = omega (arith, m.short, low); rest = omega (arith, r, m.rest) }

  pub seek-end : n ≤ k → PlaceOf s v (record { below = n; at = at; known = false })
  unfolding passed
  seek-end h =
      let e : n ≡ k = omega (arith, h, m.along.within) in
      let z : n - k ≡ 0 = omega arith in
      let p : PlaceOf s v (record { below = k; at = at; known = false }) = ends false (rw z) (rw (le-ltb k n h)) in
      rw (← e) at p

-- ---- what the search passes

-- lesser values
abbrev pub Below : ℕ → List Entry → Type 0
Below v [] = Unit {0}
Below v (e ∷ es) = (e.value < v) × Below v es

-- k of n entries from a place on have them, and the next one has not
record Stops (n : ℕ) (s : List ℕ) (at v k : ℕ) : Type 0 where
  few : k ≤ n
  below : Below v (entry_list k s at)
  stop : k < n → place_after k s at + 12 ≤ length s → v ≤ value_at s (place_after k s at)

passed-stops : (n : ℕ) (s : List ℕ) (at v : ℕ) → Stops n s at v (passed n s at v)
unfolding passed place_after entry_list
passed-stops zero s at v = record { few = omega arith; below = tt; stop = λ h. absurd (omega arith) }
passed-stops (suc n) s at v =
    ⊎_elim
    (λ a. ⊎_elim
    (λ b. rw (a.0, b.0) (record { few = omega arith; below = tt; stop = λ h g. b.1 }))
    (λ b. let r = passed-stops n s (next_at s at) v in
    rw (a.0, b.0) (record { few = omega (arith, r.few); below = (b.1, r.below); stop = λ h g. r.stop (omega (arith, h)) g }))
    (split-le v (value_at s at)))
    (λ a. rw a.0 (record { few = omega arith; below = tt; stop = λ h g. absurd (omega (arith, g, a.1)) })) (split-le (at + 12) (length s))

skip_block : (v : ℕ) (es fs : List Entry) → Below v es → block_of (es ++ fs) v ≡ block_of fs v
unfolding block_of
skip_block v [] fs b = refl
skip_block v (e ∷ es) fs b = rw (ne_eqb e.value v (λ z. omega (arith, z, b.0)), skip_block v es fs b.1)

-- values rise, so that a lesser one is missing
missing : (n : ℕ) (s : List ℕ) (at lo v : ℕ) → entries_fault n s at lo ≡ 0 → v < lo → block_of (entry_list n s at) v ≡ []
unfolding block_of entry_list
missing zero s at lo v e h = refl
missing (suc n) s at lo v e h =
    let o = open-first n s at lo e in
    rw (ne_eqb (value_at s at) v (λ z. omega (arith, z, o.low))) (missing n s (next_at s at) (suc (value_at s at)) v o.rest (omega (arith, o.low)))

-- at a place before greater values
gap_block : (n : ℕ) (s : List ℕ) (at lo v : ℕ) → entries_fault n s at lo ≡ 0 → (0 < n → v < value_at s at) → block_of (entry_list n s at) v ≡ []
unfolding block_of entry_list
gap_block zero s at lo v e h = refl
gap_block (suc n) s at lo v e h =
    let g = h (omega arith) in
    rw (ne_eqb (value_at s at) v (λ z. omega (arith, z, g))) (missing n s (next_at s at) (suc (value_at s at)) v (open-first n s at lo e).rest (omega arith))

-- ---- in an index that is not refused

both_true : (a b : Bool) → (a && b) ≡ true → (a ≡ true) × (b ≡ true)
both_true true b e = (refl, e)
both_true false b e = absurd (true≢false (sym e))

module _ (s : List ℕ) (v : ℕ) where
  pub known-there : is_known s v ≡ true → (lesser s v < entry_count s) × (point_of s v + 12 ≤ length s) × (v ≡ value_at s (point_of s v))
  unfolding is_known
  known-there e =
      let a = both_true _ _ e in
      let b = both_true _ _ a.1 in
      (ltb-true _ _ a.0, leb-true _ _ b.0, eqb-true _ _ b.1)

  stops : Stops (entry_count s) s 4 v (lesser s v)
  stops = passed-stops (entry_count s) s 4 v

  pub search-below : Below v (entry_list (lesser s v) s 4)
  search-below = stops.below

  abbrev after : ℕ
  after = entry_count s - lesser s v

  pub search-along : Along s 4 (entry_count s) (point_of s v) (lesser s v)
  search-along = record { within = stops.few; place = refl }

  pub search-split : entries s ≡ entry_list (lesser s v) s 4 ++ entry_list after s (point_of s v)
  unfolding entries
  search-split = along-split s 4 (entry_count s) (point_of s v) (lesser s v) search-along

  search-block : block_of (entries s) v ≡ block_of (entry_list after s (point_of s v)) v
  search-block = rw search-split (skip_block v (entry_list (lesser s v) s 4) (entry_list after s (point_of s v)) search-below)

  module _ (e : index_fault s ≡ 0) where
    all_fit : EntriesFit s 4 (entry_count s)
    all_fit = index-fit s (entry_count s) e refl

    pub before-fit : EntriesFit s 4 (lesser s v)
    before-fit = along-front s 4 (entry_count s) (point_of s v) (lesser s v) search-along all_fit

    pub after-fit : EntriesFit s (point_of s v) after
    after-fit = along-after s 4 (entry_count s) (point_of s v) (lesser s v) search-along all_fit

    -- the value has an entry
    module _ (z : is_known s v ≡ true) where
      pub known-first : entry_list after s (point_of s v) ≡ entry_at s (point_of s v) ∷ entry_list (entry_count s - (lesser s v + 1)) s (next_at s (point_of s v))
      known-first = along-first s 4 (entry_count s) (point_of s v) (lesser s v) search-along (known-there z).0

      pub known-open : Opened (entry_count s - (lesser s v + 1)) s (point_of s v) after-fit.lo
      unfolding after-fit
      known-open = along-open s 4 (entry_count s) (point_of s v) (lesser s v) search-along (known-there z).0 all_fit

      pub known-block : block_of (entries s) v ≡ block_bytes (block_words (block_at s (point_of s v)))
      unfolding block_of
      known-block = search-block ∙ rw (known-first, eq-eqb (value_at s (point_of s v)) v (sym (known-there z).2))

    -- the value has none, and the next value is greater
    module _ (z : is_known s v ≡ false) where
      pub unknown-above : lesser s v < entry_count s → v < value_at s (point_of s v)
      unfolding is_known
      unknown-above h =
          let o = along-open s 4 (entry_count s) (point_of s v) (lesser s v) search-along h all_fit in
          let f : point_of s v + 12 ≤ length s = omega (arith, o.fit.fits) in
          let g = stops.stop h f in
          ⊎_elim
          (λ k. k.1)
          (λ k. let q : v ≡ value_at s (point_of s v) = omega (arith, k.1) in
          absurd (true≢false (sym (rw (lt-ltb _ _ h, le-leb _ _ f, eq-eqb v (value_at s (point_of s v)) q)) ∙ z)))
          (split-le (suc v) (value_at s (point_of s v)))

      pub unknown-block : block_of (entries s) v ≡ []
      unknown-block = search-block ∙ gap_block after s (point_of s v) after-fit.lo v after-fit.right (λ h. unknown-above (omega arith))

-- ---- what is found

-- on an index that is not refused, the exact block of the value
pub found-is : (s : List ℕ) (v : ℕ) → Bytes s → index_fault s ≡ 0 → found s v ≡ block_of (entries s) v
unfolding found place_of size_of
found-is s v all e = go (is_known s v) refl
  where
    go : (t : Bool) → is_known s v ≡ t → found s v ≡ block_of (entries s) v
    go true z =
        let p = point_of s v in
        let f = (known-open s v e z).fit in
        let n : min (4 + 16 * number_at 4 s (p + 12)) (length_at s p) ≡ 4 + 16 * block_runs (block_at s p) = omega (arith, f.count, f.runs) in
        rw (z, n) (sym (known-block s v e z ∙ block_written s p f all))
    go false z = rw z (sym (unknown-block s v e z))
