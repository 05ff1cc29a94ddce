-- "Writing what was read yields the input with its ignored bytes cut and lengths made exact", byte by byte; it yields the input itself exactly where there
-- was nothing to ignore.
use mathlib.Core.Path.{◌≡◌, refl, sym, ap, ◌∙◌}
use mathlib.Core.List.{List, ◌++◌, append_assoc}
use Prim.Native.Nat.{ℕ, zero, suc, ◌+◌, ◌*◌, ◌≤◌}
use native.Mathlib.Omega.{arith}
use lib.ListN.{length, take, drop, length-append, take-append-drop}
use lib.Seq.{take_all, drop-drop, drop-length}
use Rattle.fields.specs.Bytes.{to_le, Bytes}
use Rattle.fields.proofs.Numbers.{field_back}
use Rattle.run_list.specs.Blocks.{run_count, exact_block}
use Rattle.run_list.proofs.BlockWords.{block_fault-none}
use Rattle.run_list.proofs.RoundTrip.{read-writes}
use Rattle.index.specs.Index.{value_at, length_at, block_at, next_at, entry_at, entries_fault, entry_list, entry_count, index_fault, entries, entry_bytes, entries_bytes, index_bytes}
use Rattle.index.specs.Exact.{exact_entries, exact, ExactFrom, NothingIgnored}
use Rattle.index.proofs.Entries.{open-first, open-index, block-bytes, length-block}
use Rattle.index.proofs.Sizes.{length-entries, length-entry, entries-within, index-size}

-- ---- what is written is the exact input

list-exact : (n : ℕ) (s : List ℕ) (at lo : ℕ) → Bytes s → entries_fault n s at lo ≡ 0 → entries_bytes (entry_list n s at) ≡ exact_entries n s at
unfolding entries_bytes entry_bytes entry_list exact_entries
list-exact zero s at lo all e = refl
list-exact (suc n) s at lo all e =
    let o = open-first n s at lo e in
    let b = exact_block (block_at s at) in
    let g = to_le 4 (length b) in
    let f = take 8 (drop at s) in
    let rest = exact_entries n s (next_at s at) in
    rw (
      read-writes (block_at s at) (block-bytes s at all) o.fit.right,
      field_back 8 s at (omega (arith, o.fit.fits)) all,
      list-exact n s (next_at s at) (suc (value_at s at)) all o.rest,
    )
    (append_assoc f (g ++ b) rest ∙ ap (λ (l : List ℕ). f ++ l) (append_assoc g b rest))

-- an index that is not refused, read and written
pub exact-written : (s : List ℕ) → Bytes s → index_fault s ≡ 0 → index_bytes (entries s) ≡ exact s
unfolding index_bytes entries exact
exact-written s all e =
    let t = open-index s e in
    rw (length-entries s, field_back 4 s 0 t.counted all, list-exact (entry_count s) s 4 0 all t.right)

-- ---- where nothing is ignored

part : (n at : ℕ) (s : List ℕ) → take n (drop at s) ++ drop (at + n) s ≡ drop at s
part n at s = rw (← drop-drop n at s) (take-append-drop n (drop at s))

-- the bytes of an entry and those after it
parts : (s : List ℕ) (at : ℕ) → take 8 (drop at s) ++ (take 4 (drop (at + 8) s) ++ (block_at s at ++ drop (next_at s at) s)) ≡ drop at s
unfolding block_at
parts s at =
    let k : at + 12 ≡ at + 8 + 4 = omega arith in
    rw (part (length_at s at) (at + 12) s, k, part 4 (at + 8) s) (part 8 at s)

exact_same : (b : List ℕ) → length b ≡ 4 + 16 * run_count b → exact_block b ≡ b
unfolding exact_block
exact_same b e = take_all (4 + 16 * run_count b) b (omega arith)

list-whole : (n : ℕ) (s : List ℕ) (at lo : ℕ) → Bytes s → entries_fault n s at lo ≡ 0 → ExactFrom n s at → exact_entries n s at ≡ drop at s
unfolding exact_entries
list-whole zero s at lo all e x = rw x (sym (drop-length s))
list-whole (suc n) s at lo all e x =
    let o = open-first n s at lo e in
    let b = block_at s at in
    let l = length-block s at o.fit.fits in
    rw (exact_same b (l ∙ x.0), l, field_back 4 s (at + 8) (omega (arith, o.fit.fits)) all, list-whole n s (next_at s at) (suc (value_at s at)) all o.rest x.1)
    (parts s at)

-- entries that fill the bytes when they are written leave nothing out
list_full : (n : ℕ) (s : List ℕ) (at lo : ℕ) → at ≤ length s → entries_fault n s at lo ≡ 0 → length s ≤ at + length (entries_bytes (entry_list n s at)) → ExactFrom n s at
unfolding entries_bytes entry_list
list_full zero s at lo h e k = omega arith
list_full (suc n) s at lo h e k =
    let o = open-first n s at lo e in
    let t = o.fit in
    let b = block_at s at in
    let w = (block_fault-none b t.right).all in
    let l = length-append (entry_bytes (entry_at s at)) (entries_bytes (entry_list n s (next_at s at))) in
    let m = length-entry s at in
    let r = entries-within n s (next_at s at) (suc (value_at s at)) t.fits o.rest in
    (omega (arith, t.runs), list_full n s (next_at s at) (suc (value_at s at)) t.fits o.rest (omega (arith, t.runs)))

module _ (s : List ℕ) (all : Bytes s) (e : index_fault s ≡ 0) where
  -- the input itself, where nothing is ignored
  pub exact-whole : NothingIgnored s → exact s ≡ s
  unfolding exact
  exact-whole x = let t = open-index s e in rw (list-whole (entry_count s) s 4 0 all t.right x) (take-append-drop 4 s)

  -- nothing is ignored where it is as long as what is written
  full : length (index_bytes (entries s)) ≡ length s → NothingIgnored s
  unfolding entries
  full l =
      let t = open-index s e in
      list_full (entry_count s) s 4 0 t.counted t.right (omega (arith, l, index-size (entries s)))

  -- and only there
  pub whole-exact : exact s ≡ s → NothingIgnored s
  whole-exact x = full (ap length (exact-written s all e ∙ x))

  -- so it is the same bytes
  pub full-same : length (index_bytes (entries s)) ≡ length s → index_bytes (entries s) ≡ s
  full-same l = exact-written s all e ∙ exact-whole (full l)
