-- The lengths of what is written: 4 + 16 times entries + 16 times runs, no more than the index that was read.
use mathlib.Core.Path.{◌≡◌, refl, sym, ap, ◌∙◌}
use mathlib.Core.List.{List, [], ◌∷◌, ◌++◌}
use Prim.Native.Nat.{ℕ, zero, suc, ◌+◌, ◌*◌, ◌%◌, ◌≤◌}
use native.Mathlib.Omega.{arith}
use lib.ListN.{length, length-append}
use mathlib.Core.Bool.{Bool, true, false}
use Rattle.fields.specs.Bytes.{to_le}
use Rattle.fields.proofs.Numbers.{length-to_le}
use Rattle.run_list.specs.Blocks.{block_runs, block_bytes}
use Rattle.run_list.proofs.BlockWords.{length-block_words}
use Rattle.run_list.proofs.RoundTrip.{length-block_bytes}
use Rattle.index.specs.Index.{Entry, block_at, next_at, value_at, entry_at, entries_fault, entry_list, entry_count, index_fault, entries, all_runs, entry_bytes, entries_bytes, index_bytes}
use Rattle.index.proofs.Entries.{open-first, open-index}
use Rattle.fields.specs.Refusal.{when, ◌then◌}
use Rattle.fields.proofs.Refusals.{then-assoc}
use Rattle.fields.proofs.Answers.{accepted-none}
use Rattle.fields.specs.Limits.{max_bytes}
use Rattle.index.specs.Calls.{Read}
use Rattle.index.specs.declared.IndexRead.{IndexRead}

pub length-entry_bytes : (e : Entry) → length (entry_bytes e) ≡ 16 + 8 * length e.words
unfolding entry_bytes
length-entry_bytes e =
    let b = block_bytes e.words in
    omega (arith, length-append (to_le 8 e.value) (to_le 4 (length b) ++ b), length-append (to_le 4 (length b)) b, length-to_le 8 e.value, length-to_le 4 (length b), length-block_bytes e.words)

-- every list has pairs
abbrev pub Paired : List Entry → Type 0
Paired [] = Unit {0}
Paired (e ∷ es) = (length e.words % 2 ≡ 0) × Paired es

pub length-entries_bytes : (es : List Entry) → Paired es → length (entries_bytes es) ≡ 16 * length es + 16 * all_runs es
unfolding entries_bytes all_runs
length-entries_bytes [] p = refl
length-entries_bytes (e ∷ es) p =
    omega (arith, length-append (entry_bytes e) (entries_bytes es), length-entry_bytes e, length-entries_bytes es p.1, p.0)

pub index-size : (es : List Entry) → length (index_bytes es) ≡ 4 + length (entries_bytes es)
unfolding index_bytes
index-size es = omega (arith, length-append (to_le 4 (length es)) (entries_bytes es), length-to_le 4 (length es))

-- ---- of what was read

pub length-entry_list : (n : ℕ) (s : List ℕ) (at : ℕ) → length (entry_list n s at) ≡ n
unfolding entry_list
length-entry_list zero s at = refl
length-entry_list (suc n) s at = ap suc (length-entry_list n s (next_at s at))

pub length-entries : (s : List ℕ) → length (entries s) ≡ entry_count s
unfolding entries
length-entries s = length-entry_list (entry_count s) s 4

paired : (n : ℕ) (s : List ℕ) (at : ℕ) → Paired (entry_list n s at)
unfolding entry_list
paired zero s at = tt
paired (suc n) s at = (omega (arith, length-block_words (block_at s at)), paired n s (next_at s at))

pub length-written : (s : List ℕ) → length (index_bytes (entries s)) ≡ 4 + 16 * length (entries s) + 16 * all_runs (entries s)
unfolding entries
length-written s = omega (arith, index-size (entries s), length-entries_bytes (entries s) (paired (entry_count s) s 4))

pub length-entry : (s : List ℕ) (at : ℕ) → length (entry_bytes (entry_at s at)) ≡ 16 + 16 * block_runs (block_at s at)
length-entry s at = omega (arith, length-entry_bytes (entry_at s at), length-block_words (block_at s at))

-- n entries from a place on, written, are no longer than where they were read
pub entries-within : (n : ℕ) (s : List ℕ) (at lo : ℕ) → at ≤ length s → entries_fault n s at lo ≡ 0
    → at + length (entries_bytes (entry_list n s at)) ≤ length s
unfolding entries_bytes entry_list
entries-within zero s at lo h e = omega arith
entries-within (suc n) s at lo h e =
    let o = open-first n s at lo e in
    let t = o.fit in
    omega (
      arith,
      entries-within n s (next_at s at) (suc (value_at s at)) t.fits o.rest,
      length-append (entry_bytes (entry_at s at)) (entries_bytes (entry_list n s (next_at s at))),
      length-entry s at,
      t.runs,
    )

pub written-within : (s : List ℕ) → index_fault s ≡ 0 → length (index_bytes (entries s)) ≤ length s
unfolding entries
written-within s e =
    let t = open-index s e in
    omega (arith, index-size (entries s), entries-within (entry_count s) s 4 0 t.counted t.right)

-- 1 for the index and 1 for another argument are one number, so that the other's length can be judged first
pub long-first : (s t : Bool) (g : ℕ) → (when t 1 then when s 1 then g) ≡ (when s 1 then when t 1 then g)
unfolding when ◌then◌
long-first true true g = refl
long-first true false g = refl
long-first false true g = refl
long-first false false g = refl

pub long_order : (s t : Bool) (g h : ℕ) → (when t 1 then (when s 1 then g) then h) ≡ (when s 1 then when t 1 then g then h)
long_order s t g h = rw (then-assoc (when s 1) g h) (long-first s t (g then h))

-- ---- the counts of an index that is not refused

module _ (s : List ℕ) (r : IndexRead) (k : Read s r) (z : r.refusal ≡ 0) where
  pub read-accepted : index_fault s ≡ 0
  read-accepted = sym k.refusal ∙ z

  pub read-entries : r.entries ≡ length (entries s)
  read-entries = k.count ∙ accepted-none (index_fault s) (length (entries s)) 0 read-accepted

  pub read-runs : r.runs ≡ all_runs (entries s)
  read-runs = k.total ∙ accepted-none (index_fault s) (all_runs (entries s)) 0 read-accepted

module _ (s : List ℕ) (a : index_fault s ≡ 0) (n m : ℕ) (en : n ≡ length (entries s)) (em : m ≡ all_runs (entries s)) where
  pub counts-written : 4 + 16 * (n + m) ≡ length (index_bytes (entries s))
  counts-written = omega (arith, length-written s)

  pub counts-short : 4 + 16 * (n + m) ≤ max_bytes
  counts-short = omega (arith, counts-written, written-within s a, (open-index s a).short)
