-- The population count, one law for each way through the code.
use mathlib.Core.Path.{◌≡◌, refl, sym, ◌∙◌}
use mathlib.Core.Bool.{false}
use mathlib.Core.Logic.{⊎_elim}
use mathlib.Core.List.{List, []}
use Prim.Native.Nat.{ℕ, zero, suc, ◌+◌, ◌-◌, ◌*◌, ◌/◌, ◌%◌, ◌^◌, ◌≤◌, ◌<◌, min}
use native.Mathlib.Nat.{add-zero, add-suc, zero-div, min-eq_left, min-eq_right}
use native.Mathlib.Omega.{arith}
use lib.Dec.{eqb}
use lib.ListN.{length, take, drop, get_or, get_or-eq_default}
use mir.Val.{Fits}
use mir.Syntax.{w8, w64}
use Rattle.fields.specs.Bytes.{from_le, number_at, Bytes}
use Rattle.fields.proofs.Counting.{count-suc, count-le, count-more}
use Rattle.fields.proofs.Tests.{split-le}
use Rattle.std.proofs.lemmas.List.{length-take, get_or-take, get_or-drop}
use Rattle.packed.specs.Bits.{bit_at, set_below, cut_to, Ones, WholeWords}
use Rattle.packed.proofs.Digits.{set-tail, set_word}

-- ---- a bit

module _ (bs : List ℕ) (r : ℕ) where
  pub bit-there : eqb (get_or bs (r / 8) 0 / 2 ^ (r % 8) % 2) 1 ≡ bit_at bs r
  unfolding bit_at
  bit-there = refl

  pub bit_past : length bs ≤ r / 8 → false ≡ bit_at bs r
  unfolding bit_at
  bit_past h = rw (get_or-eq_default bs 0 h, zero-div (2 ^ (r % 8)))

-- ---- a place, cut to the bytes

module _ (bs : List ℕ) (p : ℕ) where
  pub cut-past : length bs ≤ p / 8 → length bs * 8 ≡ cut_to bs p
  unfolding cut_to
  cut-past h = sym (min-eq_right (omega arith))

  pub cut-le : cut_to bs p ≤ length bs * 8
  unfolding cut_to
  cut-le = ⊎_elim (λ e. rw (min-eq_left e.1) e.1) (λ e. past (omega (arith, e.1))) (split-le p (length bs * 8))
    where
      past : length bs * 8 ≤ p → min p (length bs * 8) ≤ length bs * 8
      past h = rw (min-eq_right h) (omega arith)

  pub cut-within : p / 8 < length bs → p ≡ cut_to bs p
  unfolding cut_to
  cut-within h = sym (min-eq_left (omega arith))

-- ---- set bits before a place

pub set-le : (bs : List ℕ) (p : ℕ) → set_below bs p ≤ p
unfolding set_below
set-le bs p = count-le (bit_at bs) p

pub set-mono : (bs : List ℕ) (p q : ℕ) → p ≤ q → set_below bs p ≤ set_below bs q
unfolding set_below
set-mono bs p q h = let e : p + (q - p) ≡ q = omega arith in rw e at (count-more (bit_at bs) p (q - p)).0

-- no bit past the bytes is set
past_bytes : (bs : List ℕ) (n : ℕ) → set_below bs (length bs * 8 + n) ≡ set_below bs (length bs * 8)
unfolding set_below
past_bytes bs zero = rw (add-zero (length bs * 8))
past_bytes bs (suc n) =
    rw (add-suc (length bs * 8) n, count-suc (bit_at bs) (length bs * 8 + n), ← bit_past bs (length bs * 8 + n) (omega arith))
    (add-zero _ ∙ past_bytes bs n)

pub set_past : (bs : List ℕ) (p q : ℕ) → length bs * 8 ≤ p → length bs * 8 ≤ q → set_below bs p ≡ set_below bs q
set_past bs p q h k =
    let e : length bs * 8 + (p - length bs * 8) ≡ p = omega arith in
    let d : length bs * 8 + (q - length bs * 8) ≡ q = omega arith in
    (rw e at (past_bytes bs (p - length bs * 8))) ∙ sym (rw d at (past_bytes bs (q - length bs * 8)))

-- "bits at or past len never count": a place past the bytes is cut to their end
pub set-cut : (bs : List ℕ) (p : ℕ) → set_below bs (cut_to bs p) ≡ set_below bs p
unfolding cut_to
set-cut bs p =
    ⊎_elim (λ e. rw (min-eq_left e.1)) (λ e. set_past bs (min p (length bs * 8)) p (omega (arith, e.1)) (omega (arith, e.1))) (split-le p (length bs * 8))

-- all set bits are counted within the bytes
pub set-bytes : (bs : List ℕ) (p : ℕ) → set_below bs p ≤ length bs * 8
set-bytes bs p = omega (arith, set-cut bs p, set-le bs (cut_to bs p), cut-le bs p)

-- ---- words

-- what a slice of bytes holds
pub are-bytes : (bs : List ℕ) → ((i : ℕ) → Fits w8 (get_or bs i 0)) → Bytes bs
are-bytes bs h i = omega (arith, h i)

pub record Words (bs : List ℕ) (from to i sum : ℕ) : Type 0 where
  pub low : from ≤ i
  pub high : i ≤ to
  pub fits : to * 64 < 2 ^ 64
  pub room : to * 8 ≤ length bs
  pub total : sum + set_below bs (from * 64) ≡ set_below bs (i * 64)

module _ (bs : List ℕ) (from to : ℕ) where
  -- word j of those from the first on, the sum standing at it
  module _ (ws : List (List ℕ)) (e : WholeWords bs ws) (j sum : ℕ) (m : Words bs from to (from + j) sum) (h : j < length (take (to - from) (drop from ws)))
      (w o : ℕ) (ew : w ≡ from_le (get_or (take (to - from) (drop from ws)) j [])) (d : Ones w o) where
    below : j < to - from
    below = omega (arith, h, length-take (to - from) (drop from ws))

    there : from + j < length ws
    there = omega (arith, h, below, m.room, e.count)

    read : w ≡ number_at 8 bs ((from + j) * 8)
    read = ew ∙ rw (get_or-take (to - from) (drop from ws) j [] below, get_or-drop from ws j []) (e.each (from + j) there)

    -- the sum stays below the place that it counts up to
    pub words-fit : Fits w64 (sum + o)
    words-fit = record { fits = omega (arith, m.total, m.fits, d.small, below, set-le bs ((from + j) * 64)) }

    pub words-next : Bytes bs → Words bs from to (from + (j + 1)) (sum + o)
    words-next all =
        let p : from + (j + 1) ≡ (from + j) + 1 = omega arith in
        record {
          low = omega arith;
          high = omega (arith, below);
          fits = m.fits;
          room = m.room;
          total = rw p (omega (arith, m.total, d.value, rw (← read) at (set_word bs (from + j) all)));
        }

-- ---- from a word on, up to a place

module _ (bs : List ℕ) (word place end : ℕ) (e : end ≡ cut_to bs place) where
  -- every word before the last place is there
  pub last_within : end / 64 * 8 ≤ length bs
  last_within = omega (arith, e, cut-le bs place)

  pub from_past : end / 64 < word → 0 ≡ set_below bs place - set_below bs (word * 64)
  from_past h =
      let c : set_below bs end ≡ set_below bs place = rw e (set-cut bs place) in
      omega (arith, c, set-mono bs end (word * 64) (omega arith))

  module _ (all : Bytes bs) (sum : ℕ) (s : sum + set_below bs (word * 64) ≡ set_below bs (end / 64 * 64)) (w : ℕ) (ew : w ≡ number_at 8 bs (end / 64 * 8))
      (v : ℕ) (ev : v ≡ w % 2 ^ (end % 64)) (o : ℕ) (d : Ones v o) where
    whole : sum + o + set_below bs (word * 64) ≡ set_below bs place
    whole =
        let c : set_below bs end ≡ set_below bs place = rw e (set-cut bs place) in
        let p : end / 64 * 64 + end % 64 ≡ end = omega arith in
        let t = rw (p, ← ew, ← ev) at (set-tail bs (end / 64) (end % 64) all (omega arith)) in
        omega (arith, c, t, s, d.value)

    pub from-fits : place < 2 ^ 64 → Fits w64 (sum + o)
    from-fits h = record { fits = omega (arith, whole, set-le bs place) }

    pub from-done : sum + o ≡ set_below bs place - set_below bs (word * 64)
    from-done = omega (arith, whole)
