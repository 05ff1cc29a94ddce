-- Writing entries: a block into a part that is lent, the three stores of an entry, entries one after another. One law for each way through the code.
use mathlib.Core.Path.{◌≡◌, refl, sym, ◌∙◌, ap}
use mathlib.Core.List.{List, [], ◌∷◌, ◌++◌, append-nil, append_assoc}
use Prim.Native.Nat.{ℕ, ◌+◌, ◌*◌, ◌≤◌, ◌<◌, ◌-◌}
use native.Mathlib.Omega.{arith}
use lib.ListN.{length, length-append, take, drop, get_or, length-drop}
use lib.Seq.{sets, length-sets, sets-eq, length-take-le, drop-drop, drop-length}
use native.Mathlib.Nat.{add-sub_cancel_left}
use borrow.Rule.Slice.PartMut.{put_mid, mid_of}
use mir.Syntax.{w8}
use mir.Val.{Fits}
use Rattle.fields.specs.Answers.{StoredAt}
use Rattle.fields.specs.Bytes.{number_at, to_le, stored}
use Rattle.fields.proofs.Numbers.{part-number, length-to_le, sets-append, stored-fits, length-stored}
use Rattle.fields.specs.Limits.{max_bytes}
use Rattle.run_list.specs.Blocks.{block_runs}
use Rattle.index.specs.Index.{Entry, block_at, next_at, entry_at, entry_list, entry_count, index_fault, entries, entry_bytes, entries_bytes, index_bytes, value_at}
use Rattle.index.specs.Inner.{EntriesFit}
use Rattle.index_write.specs.Inner.{bytes_from}
use Rattle.index.proofs.Places.{Along, along-start, along-next, along-split, along-first, along-open, entries-split, index-fit}
use Rattle.index.proofs.Sizes.{length-entry, length-entries, index-size}
use Rattle.fields.proofs.Answers.{call-full, call-done}
use Rattle.index_write.specs.Calls.{Encoded}
use Rattle.index.proofs.Entries.{EntryFits, block_written}
use Rattle.index.proofs.Exactly.{full-same}

-- stores that fill a list
pub sets-all : (o v : List ℕ) → length v ≡ length o → sets o 0 v ≡ v
sets-all o v e =
    let z : 0 + length v ≡ length o = omega arith in
    sets-eq v o 0 (omega arith) ∙ rw (z, drop-length o) (append-nil v)

-- ---- an entry

-- a part that was lent and has come back is a store
pub put-part : (a k : ℕ) (xs ys : List ℕ) → a + k ≤ length xs → length ys ≡ k → put_mid a k xs ys ≡ sets xs a ys
put-part a k xs ys h e = sym (sets-eq ys xs a (omega arith) ∙ rw (e, append_assoc, ← drop-drop k a xs))

-- an entry is three stores side by side: its value, the length n of its block, and its block in a part that is lent
module _ (o o1 o2 : List ℕ) (to v n : ℕ) (h : to + 12 + n ≤ length o) (g1 : o1 ≡ stored o to (to_le 8 v)) (g2 : o2 ≡ stored o1 (to + 8) (to_le 4 n)) where
  same : (length o1 ≡ length o) × (length o2 ≡ length o1)
  same = (rw g1 (length-stored o to (to_le 8 v)), rw g2 (length-stored o1 (to + 8) (to_le 4 n)))

  pub part_length : length (mid_of (to + 12) (to + 12 + n - (to + 12)) o2) ≡ n
  part_length =
      rw (add-sub_cancel_left (to + 12) n) (length-take-le n (drop (to + 12) o2) (omega (arith, length-drop (to + 12) o2, same.0, same.1)))

  pub entry-stored : (p : List ℕ) → length p ≡ n → put_mid (to + 12) (to + 12 + n - (to + 12)) o2 p ≡ sets o to (to_le 8 v ++ (to_le 4 n ++ p))
  entry-stored p lp =
      let a = to_le 8 v in
      let b = to_le 4 n in
      let la = length-to_le 8 v in
      let lb = length-to_le 4 n in
      let d1 : o1 ≡ sets o to a = g1 ∙ stored-fits o to a (omega arith) in
      let d2 : o2 ≡ sets o1 (to + 8) b = g2 ∙ stored-fits o1 (to + 8) b (omega (arith, same.0)) in
      let e : to + length a ≡ to + 8 = omega arith in
      let f : to + 8 + length b ≡ to + 12 = omega arith in
      rw (add-sub_cancel_left (to + 12) n)
      (put-part (to + 12) n o2 p (omega (arith, same.0, same.1)) lp ∙ rw (d2, d1, sets-append o to a (b ++ p), e, sets-append (sets o to a) (to + 8) b p, f))

-- the block is copied
pub entry-put : (o o1 o2 p b : List ℕ) (to v : ℕ) → to + 12 + length b ≤ length o → o1 ≡ stored o to (to_le 8 v) → o2 ≡ stored o1 (to + 8) (to_le 4 (length b))
    → p ≡ sets (mid_of (to + 12) (to + 12 + length b - (to + 12)) o2) 0 b
    → put_mid (to + 12) (to + 12 + length b - (to + 12)) o2 p ≡ sets o to (to_le 8 v ++ (to_le 4 (length b) ++ b))
entry-put o o1 o2 p b to v h g1 g2 g3 =
    let q : p ≡ b = g3 ∙ sets-all _ b (sym (part_length o o1 o2 to v (length b) h g1 g2)) in
    entry-stored o o1 o2 to v (length b) h g1 g2 p (ap length q) ∙ rw q

-- so is an entry of an index, from its fields where they stand
pub entry-written : (s : List ℕ) (at : ℕ) → EntryFits s at → ((j : ℕ) → Fits w8 (get_or s j 0)) → (o o1 o2 p : List ℕ) (to v r : ℕ)
    → to + 16 + 16 * block_runs (block_at s at) ≤ length o → r ≡ number_at 4 s (at + 12) → v ≡ value_at s at → o1 ≡ stored o to (to_le 8 v)
    → o2 ≡ stored o1 (to + 8) (to_le 4 (4 + 16 * r))
    → p ≡ sets (mid_of (to + 12) (to + 12 + (4 + 16 * r) - (to + 12)) o2) 0 (take (at + 12 + (4 + 16 * r) - (at + 12)) (drop (at + 12) s))
    → put_mid (to + 12) (to + 12 + (4 + 16 * r) - (to + 12)) o2 p ≡ sets o to (entry_bytes (entry_at s at))
unfolding entry_bytes
entry-written s at t all o o1 o2 p to v r h e f g1 g2 g3 =
    let n = 4 + 16 * r in
    let d = drop (at + 12) s in
    let k : n ≡ 4 + 16 * block_runs (block_at s at) = omega (arith, t.count) in
    let g : to + 12 + n ≤ length o = omega arith in
    let l : length (take n d) ≡ n = length-take-le n d (omega (arith, length-drop (at + 12) s, t.fits, t.runs)) in
    let q : p ≡ take n d = g3 ∙ rw (add-sub_cancel_left (at + 12) n) (sets-all _ (take n d) (l ∙ sym (part_length o o1 o2 to v n g g1 g2))) in
    entry-stored o o1 o2 to v n g g1 g2 p (ap length q ∙ l) ∙ rw (block_written s at t (λ i. omega (arith, all i)), ← k, l, f, q)

-- the part that has the head of an entry and the count of its runs, and the block of an entry with r runs
abbrev front : List ℕ → ℕ → List ℕ
front s at = take (at + 16 - at) (drop at s)

abbrev block : List ℕ → ℕ → ℕ → List ℕ
block s at r = take (at + 16 + 16 * r - (at + 12)) (drop (at + 12) s)

module _ (s : List ℕ) (at : ℕ) (t : EntryFits s at) (r : ℕ) (er : r ≡ number_at 4 (front s at) 12) where
  count-is : r ≡ block_runs (block_at s at)
  count-is = er ∙ part-number 4 12 s at (at + 16) (omega arith) ∙ t.count

  block-size : at + 16 + 16 * r - (at + 12) ≡ 4 + 16 * block_runs (block_at s at)
  block-size = omega (arith, count-is)

  block_length : length (block s at r) ≡ 4 + 16 * block_runs (block_at s at)
  block_length =
      rw block-size (length-take-le (4 + 16 * block_runs (block_at s at)) (drop (at + 12) s) (omega (arith, length-drop (at + 12) s, t.fits, t.runs)))

  -- an entry that is read
  entry-is : ((j : ℕ) → Fits w8 (get_or s j 0)) → (v : ℕ) → v ≡ number_at 8 (front s at) 0
      → to_le 8 v ++ (to_le 4 (length (block s at r)) ++ block s at r) ≡ entry_bytes (entry_at s at)
  unfolding entry_bytes
  entry-is all v ev =
      let z : at + 0 ≡ at = omega arith in
      let e : v ≡ value_at s at = ev ∙ part-number 8 0 s at (at + 16) (omega arith) ∙ ap (number_at 8 s) z in
      rw (block_written s at t (λ i. omega (arith, all i)), block-size, e)

-- ---- entries one after another

pub entries_bytes-append : (a b : List Entry) → entries_bytes (a ++ b) ≡ entries_bytes a ++ entries_bytes b
unfolding entries_bytes
entries_bytes-append [] b = refl
entries_bytes-append (e ∷ a) b = rw (entries_bytes-append a b) (sym (append_assoc (entry_bytes e) (entries_bytes a) (entries_bytes b)))

module _ (s : List ℕ) (start n at k : ℕ) (m : Along s start n at k) where
  pub bytes-split : length (bytes_from s start n) ≡ length (bytes_from s start k) + length (bytes_from s at (n - k))
  bytes-split =
      let a = entry_list k s start in
      let b = entry_list (n - k) s at in
      rw (along-split s start n at k m, entries_bytes-append a b) (length-append (entries_bytes a) (entries_bytes b))

  pub bytes-first : k < n → length (bytes_from s at (n - k)) ≡ 16 + 16 * block_runs (block_at s at) + length (bytes_from s (next_at s at) (n - (k + 1)))
  unfolding entries_bytes
  bytes-first h =
      rw (along-first s start n at k m h)
      (omega (arith, length-append (entry_bytes (entry_at s at)) (bytes_from s (next_at s at) (n - (k + 1))), length-entry s at))

-- n entries from start on are to be written from first on; k of them are
pub record Writing (s : List ℕ) (start n : ℕ) (before : List ℕ) (first : ℕ) (out : List ℕ) (at to k : ℕ) : Type 0 where
  pub along : Along s start n at k
  pub fit : EntriesFit s start n
  pub short : length s ≤ max_bytes
  pub place : at ≤ length s
  pub same : length out ≡ length before
  pub room : to ≤ length before
  pub all : first + length (bytes_from s start n) ≤ length before
  pub done : StoredAt (bytes_from s start k) before first to out

pub writing_start : (s : List ℕ) (start n : ℕ) (out : List ℕ) (first : ℕ) → EntriesFit s start n → first + length (bytes_from s start n) ≤ length out
    → Writing s start n out first out start first 0
unfolding entries_bytes entry_list
writing_start s start n out first t h =
    record {
      along = along-start s start n;
      fit = t;
      short = t.short;
      place = t.place;
      same = refl;
      room = omega arith;
      all = h;
      done = record { next = omega arith; written = refl };
    }

module _ (s : List ℕ) (start n : ℕ) (before : List ℕ) (first : ℕ) (out : List ℕ) (at to k : ℕ) (m : Writing s start n before first out at to k) where
  module _ (h : k < n) where
    fits : EntryFits s at
    fits = (along-open s start n at k m.along h m.fit).fit

    sizes : to + 16 + 16 * block_runs (block_at s at) ≤ length before
    sizes = omega (arith, m.all, m.done.next, bytes-split s start n at k m.along, bytes-first s start n at k m.along h)

    -- one entry more
    one : bytes_from s start (k + 1) ≡ bytes_from s start k ++ entry_bytes (entry_at s at)
    unfolding entries_bytes entry_list
    one =
        rw (entries-split k 1 s start, ← m.along.place, entries_bytes-append (entry_list k s start) (entry_at s at ∷ []), append-nil (entry_bytes (entry_at s at)))

    pub front-there : at + 16 ≤ length s
    front-there = omega (arith, fits.fits, fits.runs)

    module _ (r : ℕ) (er : r ≡ number_at 4 (front s at) 12) where
      pub block-there : at + 16 + 16 * r ≤ length s
      block-there = omega (arith, count-is s at fits r er, fits.fits, fits.runs)

      pub writing-room : to + 12 + length (block s at r) ≤ length out
      writing-room = omega (arith, m.same, sizes, count-is s at fits r er, block_length s at fits r er)

      pub writing-next : ((j : ℕ) → Fits w8 (get_or s j 0)) → (v : ℕ) → v ≡ number_at 8 (front s at) 0 → (out' : List ℕ)
          → out' ≡ sets out to (to_le 8 v ++ (to_le 4 (length (block s at r)) ++ block s at r)) → (l : ℕ) → l ≡ number_at 4 (front s at) 8
          → Writing s start n before first out' (at + 12 + l) (to + (at + 16 + 16 * r - at)) (k + 1)
      writing-next all v ev out' d l el =
          let w = entry_bytes (entry_at s at) in
          let b = bytes_from s start k in
          let q : to ≡ first + length b = m.done.next in
          let c = count-is s at fits r er in
          let f : l ≡ number_at 4 s (at + 8) = el ∙ part-number 4 8 s at (at + 16) (omega arith) in
          let g : out' ≡ sets out to w = d ∙ rw (entry-is s at fits r er all v ev) in
          record {
            along = along-next s start n at k m.along h l f;
            fit = m.fit;
            short = m.short;
            place = omega (arith, fits.fits);
            same = rw g (length-sets out to w) ∙ m.same;
            room = omega (arith, sizes, c);
            all = m.all;
            done = record {
              next = rw one (omega (arith, length-append b w, length-entry s at, c));
              written = g ∙ rw (one, sets-append before first b w, ← q, ← m.done.written);
            };
          }

-- ---- the entry count, then the entries

module _ (o o1 : List ℕ) (x : ℕ) (d : o1 ≡ stored o 0 (to_le 4 x)) where
  pub index-room : (s : List ℕ) → x ≡ entry_count s → length (index_bytes (entries s)) ≤ length o → 4 + length (bytes_from s 4 x) ≤ length o1
  unfolding entries
  index-room s e h =
      let l : length o1 ≡ length o = rw d (length-stored o 0 (to_le 4 x)) in
      rw e (omega (arith, index-size (entries s)))

  pub headed : (es : List Entry) → x ≡ length es → length (index_bytes es) ≤ length o → (o2 : List ℕ) → o2 ≡ sets o1 4 (entries_bytes es)
      → o2 ≡ sets o 0 (index_bytes es)
  unfolding index_bytes
  headed es e h o2 f =
      let v = to_le 4 x in
      let l = length-to_le 4 x in
      let b : o1 ≡ sets o 0 v = d ∙ stored-fits o 0 v (omega (arith, index-size es)) in
      let p : 0 + length v ≡ 4 = omega arith in
      let j : sets o 0 (v ++ entries_bytes es) ≡ sets (sets o 0 v) 4 (entries_bytes es) = rw p at (sets-append o 0 v (entries_bytes es)) in
      f ∙ rw (b, ← e) (sym j)

  pub index-done : (s : List ℕ) → x ≡ entry_count s → length (index_bytes (entries s)) ≤ length o → (r : ℕ) (o2 : List ℕ) → StoredAt (bytes_from s 4 x) o1 4 r o2
      → o2 ≡ sets o 0 (index_bytes (entries s))
  unfolding entries
  index-done s e h r o2 m = headed (entries s) (e ∙ sym (length-entries s)) h o2 (rw e at m.written)

-- ---- an index as long as what is written

pub index-copied : (s o o1 : List ℕ) → ((j : ℕ) → Fits w8 (get_or s j 0)) → index_fault s ≡ 0 → (n : ℕ) → n ≡ length (index_bytes (entries s)) → n ≡ length s
    → o1 ≡ sets o 0 s → o1 ≡ sets o 0 (index_bytes (entries s))
index-copied s o o1 all e n en es d = d ∙ ap (sets o 0) (sym (full-same s (λ i. omega (arith, all i)) e (sym en ∙ es)))

-- ---- `encode`, one law for each way through it

module _ (s out : List ℕ) (z : 0 ≡ index_fault s) (b : List ℕ) (eb : b ≡ s) (n : ℕ) (en : n ≡ length (index_bytes (entries b))) where
  size : n ≡ length (index_bytes (entries s))
  size = rw eb at en

  pub encode-full : length out < n → Encoded s out (record { refusal = 10; len = 0 }) out
  encode-full = call-full (index_fault s) _ _ out 0 z refl n size

  pub encode-fit : (x : ℕ) → x ≡ entry_count s → EntriesFit s 4 x
  encode-fit x = index-fit s x (sym z)

  module _ (h : n ≤ length out) where
    written : (out' : List ℕ) → out' ≡ sets out 0 (index_bytes (entries s)) → Encoded s out (record { refusal = 0; len = n }) out'
    written = call-done (index_fault s) _ (index_bytes (entries s)) out 0 z refl n size h size

    pub encode-same : ((j : ℕ) → Fits w8 (get_or s j 0)) → n ≡ length s → (out' : List ℕ) → out' ≡ sets out 0 s → Encoded s out (record { refusal = 0; len = n }) out'
    encode-same all es out' d = written out' (index-copied s out out' all (sym z) n size es d)

    module _ (x : ℕ) (ex : x ≡ entry_count s) (o1 : List ℕ) (d : o1 ≡ stored out 0 (to_le 4 x)) where
      room : length (index_bytes (entries s)) ≤ length out
      room = omega (arith, size)

      pub encode-room : 4 + length (bytes_from s 4 x) ≤ length o1
      encode-room = index-room out o1 x d s ex room

      pub encode-done : (r : ℕ) (o2 : List ℕ) → StoredAt (bytes_from s 4 x) o1 4 r o2 → Encoded s out (record { refusal = 0; len = n }) o2
      encode-done r o2 m = written o2 (index-done out o1 x d s ex room r o2 m)
