-- A written index reads back as the same entries, whatever bytes follow it; and an index that was read and is written has the entries it had.
use mathlib.Core.Path.{◌≡◌, refl, sym, ◌∙◌}
use mathlib.Core.Bool.{false}
use mathlib.Core.List.{List, [], ◌∷◌, ◌++◌, append_assoc, append-nil}
use Prim.Native.Nat.{ℕ, zero, suc, ◌+◌, ◌%◌, ◌^◌, ◌≤◌, ◌<◌}
use native.Mathlib.Omega.{arith}
use borrow.Author.Tests.{le-ltb}
use lib.Dec.{ltb}
use lib.ListN.{length, length-append}
use lib.Seq.{take_at, drop_at}
use Rattle.fields.specs.Bytes.{number_at, to_le, Bytes}
use Rattle.fields.proofs.Refusals.{then-none, when_false}
use Rattle.fields.proofs.Numbers.{length-to_le, field-there, number_at-bound, to_le-bytes, bytes-append}
use Rattle.fields.specs.Limits.{max_bytes}
use Rattle.fields.proofs.Limits.{long-none}
use Rattle.run_list.specs.Rising.{All}
use Rattle.run_list.specs.Runs.{Valid}
use Rattle.run_list.specs.Blocks.{block_fault, block_words, block_bytes}
use Rattle.run_list.proofs.RoundTrip as blocks
use Rattle.index.specs.Index.{Entry, value_at, length_at, block_at, next_at, head_fault, entries_fault, entry_list, entry_count, index_fault, entries, entry_bytes, entries_bytes, index_bytes}
use Rattle.index.proofs.Entries.{head-right, open-first, open-index, block-bytes}
use Rattle.index.proofs.Sizes.{length-entry_bytes, index-size, written-within}

-- an entry that can be written: its value is at least lo
pub record Sound (lo : ℕ) (e : Entry) : Type 0 where
  pub low : lo ≤ e.value
  pub value : e.value < 2 ^ 64
  pub valid : Valid e.words
  pub words : All (λ w. w < 2 ^ 64) e.words

-- "Values strictly rise"
abbrev pub Sounds : ℕ → List Entry → Type 0
Sounds lo [] = Unit {0}
Sounds lo (e ∷ es) = Sound lo e × Sounds (suc e.value) es

-- ---- what is written is bytes

entry-bytes : (e : Entry) → Bytes (entry_bytes e)
unfolding entry_bytes
entry-bytes e =
    let b = block_bytes e.words in
    bytes-append (to_le 8 e.value) (to_le 4 (length b) ++ b) (to_le-bytes 8 e.value)
    (bytes-append (to_le 4 (length b)) b (to_le-bytes 4 (length b)) (blocks.written-bytes e.words))

entries-bytes : (es : List Entry) → Bytes (entries_bytes es)
unfolding entries_bytes
entries-bytes [] = λ i. omega arith
entries-bytes (e ∷ es) = bytes-append (entry_bytes e) (entries_bytes es) (entry-bytes e) (entries-bytes es)

pub written-bytes : (es : List Entry) → Bytes (index_bytes es)
unfolding index_bytes
written-bytes es = bytes-append (to_le 4 (length es)) (entries_bytes es) (to_le-bytes 4 (length es)) (entries-bytes es)

-- ---- what was written is read

head-fine : (s : List ℕ) (at lo : ℕ) → next_at s at ≤ length s → lo ≤ value_at s at → head_fault s at lo ≡ 0
head-fine s at lo h k =
    sym (head-right s at lo (omega arith) (omega arith) (value_at s at) refl false (sym (le-ltb (value_at s at) lo k)) refl (omega arith) (length_at s at) refl (omega arith))

-- an entry whose bytes are in a list
record There (s : List ℕ) (at : ℕ) (e : Entry) : Type 0 where
  value : value_at s at ≡ e.value
  size : length_at s at ≡ length (block_bytes e.words)
  block : block_at s at ≡ block_bytes e.words

entry-there : (e : Entry) (s p q : List ℕ) (at : ℕ) → s ≡ p ++ (entry_bytes e ++ q) → length p ≡ at → length s ≤ max_bytes → e.value < 2 ^ 64 → There s at e
unfolding entry_bytes block_at
entry-there e s p q at d h k v =
    let b = block_bytes e.words in
    let f = to_le 8 e.value in
    let g = to_le 4 (length b) in
    let d1 : s ≡ p ++ (f ++ (g ++ (b ++ q))) = d ∙ simp append_assoc in
    let d2 : s ≡ (p ++ f) ++ (g ++ (b ++ q)) = d1 ∙ simp append_assoc in
    let d3 : s ≡ ((p ++ f) ++ g) ++ (b ++ q) = d1 ∙ simp append_assoc in
    let h2 : length (p ++ f) ≡ at + 8 = omega (arith, length-append p f, length-to_le 8 e.value) in
    let h3 : length ((p ++ f) ++ g) ≡ at + 12 = omega (arith, length-append (p ++ f) g, length-to_le 4 (length b)) in
    let l : length b ≤ length s = rw d3 (omega (arith, length-append ((p ++ f) ++ g) (b ++ q), length-append b q)) in
    let m8 : e.value % 256 ^ 8 ≡ e.value = omega arith in
    let m4 : length b % 256 ^ 4 ≡ length b = omega arith in
    let size : number_at 4 s (at + 8) ≡ length b = rw d2 (field-there 4 (p ++ f) (b ++ q) (length b) (at + 8) h2 ∙ m4) in
    record {
      value = rw d1 (field-there 8 p (g ++ (b ++ q)) e.value at h ∙ m8);
      size = size;
      block = rw size (rw d3 (rw (drop_at ((p ++ f) ++ g) (b ++ q) (at + 12) h3) (take_at b q (length b) refl)));
    }

-- written entries whose bytes are in a list
entries-there : (es : List Entry) (s p q : List ℕ) (at lo : ℕ) → s ≡ p ++ (entries_bytes es ++ q) → length p ≡ at → length s ≤ max_bytes → Sounds lo es
    → (entries_fault (length es) s at lo ≡ 0) × (entry_list (length es) s at ≡ es)
unfolding entries_bytes entries_fault entry_list
entries-there [] s p q at lo d h k r = (refl, refl)
entries-there (e ∷ es) s p q at lo d h k r =
    let v = entry_bytes e in
    let w = entries_bytes es in
    let o = r.0 in
    let d1 : s ≡ p ++ (v ++ (w ++ q)) = d ∙ simp append_assoc in
    let d2 : s ≡ (p ++ v) ++ (w ++ q) = d1 ∙ simp append_assoc in
    let t = entry-there e s p (w ++ q) at d1 h k o.value in
    let lb = blocks.length-block_bytes e.words in
    let lv = length-entry_bytes e in
    let lp = length-append p v in
    let l : length (p ++ v) ≤ length s = rw d2 (omega (arith, length-append (p ++ v) (w ++ q))) in
    let x : length (p ++ v) ≡ next_at s at = omega (arith, t.size) in
    let b = rw (append-nil (block_bytes e.words)) at (blocks.written-reads e.words [] o.valid (omega arith) o.words) in
    let n = entries-there es s (p ++ v) q (next_at s at) (suc (value_at s at)) d2 x k (rw t.value r.1) in
    let hd = head-fine s at lo (omega arith) (rw t.value o.low) in
    let bf : block_fault (block_at s at) ≡ 0 = rw t.block b.0 in
    let bw : block_words (block_at s at) ≡ e.words = rw t.block b.1 in
    (then-none _ _ hd ∙ then-none _ _ bf ∙ n.0, rw (t.value, bw, n.1))

-- an entry has bytes
pub entries-few : (es : List Entry) → length es ≤ length (entries_bytes es)
unfolding entries_bytes
entries-few [] = omega arith
entries-few (e ∷ es) = omega (arith, entries-few es, length-append (entry_bytes e) (entries_bytes es), length-entry_bytes e)

pub written-reads : (es : List Entry) (rest : List ℕ) → Sounds 0 es → length (index_bytes es ++ rest) ≤ max_bytes
    → (index_fault (index_bytes es ++ rest) ≡ 0) × (entries (index_bytes es ++ rest) ≡ es)
unfolding index_bytes index_fault entries
written-reads es rest r k =
    let s = index_bytes es ++ rest in
    let f = to_le 4 (length es) in
    let d : s ≡ f ++ (entries_bytes es ++ rest) = append_assoc f (entries_bytes es) rest in
    let l = length-append (index_bytes es) rest in
    let i = index-size es in
    let m : length es % 256 ^ 4 ≡ length es = omega (arith, entries-few es) in
    let c : entry_count s ≡ length es = rw d (field-there 4 [] (entries_bytes es ++ rest) (length es) 0 refl ∙ m) in
    let n = entries-there es s f rest 4 0 d (length-to_le 4 (length es)) k r in
    let long = sym (long-none max_bytes s k) in
    let short = when_false (ltb (length s) 4) 2 (le-ltb (length s) 4 (omega arith)) in
    (then-none _ _ long ∙ then-none _ _ short ∙ rw c n.0, rw c n.1)

-- ---- what was read can be written

list-sound : (n : ℕ) (s : List ℕ) (at lo : ℕ) → Bytes s → entries_fault n s at lo ≡ 0 → Sounds lo (entry_list n s at)
unfolding entry_list
list-sound zero s at lo all e = tt
list-sound (suc n) s at lo all e =
    let o = open-first n s at lo e in
    let t = o.fit in (
      record {
        low = o.low;
        value = number_at-bound 8 s at all;
        valid = blocks.read-valid (block_at s at) t.right;
        words = blocks.block_words-small (block_at s at) (block-bytes s at all);
      },
      list-sound n s (next_at s at) (suc (value_at s at)) all o.rest,
    )

module _ (s : List ℕ) (all : Bytes s) (e : index_fault s ≡ 0) where
  pub entries-sound : Sounds 0 (entries s)
  unfolding entries
  entries-sound = list-sound (entry_count s) s 4 0 all (open-index s e).right

  pub written-again : (index_fault (index_bytes (entries s)) ≡ 0) × (entries (index_bytes (entries s)) ≡ entries s)
  written-again =
      let z = append-nil (index_bytes (entries s)) in
      rw z at (written-reads (entries s) [] entries-sound (rw z (omega (arith, written-within s e, (open-index s e).short))))
