-- The calls that look a value up: one law for each way through the code; the part that `bitmap_at` names is the block that `bitmap` gives back; and that
-- block reads as the run list of the value.
use mathlib.Core.Path.{◌≡◌, refl, sym, ap, ◌∙◌}
use mathlib.Core.Bool.{Bool, true, false, true≢false}
use mathlib.Core.Logic.{⊎_elim}
use mathlib.Core.List.{List, [], ◌∷◌, append-nil}
use Prim.Native.Nat.{ℕ, zero, suc, ◌+◌, ◌-◌, ◌*◌, ◌≤◌, ◌<◌, min}
use native.Mathlib.Nat.{add-sub_cancel_left}
use native.Mathlib.Omega.{arith}
use mir.Syntax.{w8}
use mir.Val.{Fits}
use lib.ListN.{length, take, drop, get_or, length-drop, length-take, length-append}
use Rattle.fields.specs.Bytes.{number_at, Bytes, from_le}
use Rattle.fields.proofs.Answers.{accepted-none, accepted-some}
use Rattle.fields.proofs.Tests.{split-eq}
use Rattle.index.specs.Index.{length_at, block_at, index_fault, entries, block_of, Entry, entry_bytes, entries_bytes, words_of}
use Rattle.std.specs.Prelude.{Result, Ok, Err, Option, Some, None, IfSome}
use Rattle.std.specs.Result.{is_err}
use Rattle.fields.specs.declared.outcome.Refusal.{Refusal}
use Rattle.fields.proofs.Refusals.{refusal_some}
use Rattle.index.specs.Calls.{Read, read_of, lookup, lookup_place, PartOf, part_of}
use Rattle.index.specs.Search.{point_of, is_known, PlaceOf, place_of, size_of, found, FoundAt}
use Rattle.index.specs.declared.Counts.{Counts}
use Rattle.index.specs.declared.Part.{Part}
use Rattle.index.specs.declared.Place.{Place}
use Rattle.index.proofs.Search.{known-there, known-block, found-is}
use Rattle.fields.specs.Limits.{max_bytes}
use Rattle.run_list.specs.Blocks.{words_at, block_runs, block_words, block_bytes}
use Rattle.run_list.proofs.RoundTrip.{written-words, length-block_bytes}
use Rattle.index.proofs.Entries.{open-index}
use Rattle.index.proofs.Sizes.{index-size, length-entry_bytes, written-within}
use Rattle.index.proofs.IndexTrip.{Sounds, entries-sound}

-- ---- what is found is a part of the bytes

prefix : (n : ℕ) (l : List ℕ) → take (length (take n l)) l ≡ take n l
prefix zero l = refl
prefix (suc n) [] = refl
prefix (suc n) (x ∷ l) = rw (prefix n l)

found_part : (s : List ℕ) (v : ℕ) → take (length (found s v)) (drop (place_of s v) s) ≡ found s v
unfolding found
found_part s v = prefix (size_of s v) (drop (place_of s v) s)

module _ (s : List ℕ) (v : ℕ) (r : Place) (p : PlaceOf s v r) where
  module _ (z : r.known ≡ true) where
    known-here : is_known s v ≡ true
    known-here = sym p.known ∙ z

    pub part_in : r.at + 12 ≤ length s
    part_in = rw p.place (known-there s v known-here).1

    pub part-known : (c : ℕ) → c ≡ number_at 4 s (r.at + 12) → (l : ℕ) → l ≡ length_at s r.at → (n : ℕ) → n ≡ min (4 + 16 * c) l
        → (m : ℕ) → m ≡ min n (length s - (r.at + 12)) → FoundAt s v (record { at = r.at + 12; len = m })
    unfolding found place_of size_of
    part-known c ec l el n en m em =
        let q = point_of s v in
        let size = min (4 + 16 * number_at 4 s (q + 12)) (length_at s q) in
        let k : size ≡ n = sym (en ∙ rw (ec, el, p.place)) in
        record {
          place = rw (known-here, p.place);
          size = rw (known-here, k) (em ∙ rw p.place (sym (length-take n (drop (q + 12) s) ∙ rw (length-drop (q + 12) s))));
          within = omega (arith, part_in);
        }

  pub part-missing : r.known ≡ false → FoundAt s v (record { at = 0; len = 0 })
  unfolding found place_of size_of
  part-missing z = let f = sym p.known ∙ z in record { place = rw f; size = rw f; within = omega arith }

pub find-done : (s : List ℕ) (v : ℕ) (r : Part) → FoundAt s v r → take (r.at + r.len - r.at) (drop r.at s) ≡ found s v
find-done s v r p = rw (add-sub_cancel_left r.at r.len, p.place, p.size) (found_part s v)

-- ---- `bitmap` and `bitmap_at`

refused-number : (k : Result Counts Refusal) → is_err k ≡ true → (read_of k).refusal ≡ 0 → ⊥
refused-number (Ok c) z = absurd (true≢false (sym z))
refused-number (Err e) z = refusal_some e

accepted-number : (k : Result Counts Refusal) → is_err k ≡ false → (read_of k).refusal ≡ 0
accepted-number (Ok c) z = refl
accepted-number (Err e) z = absurd (true≢false z)

module _ (s : List ℕ) (k : Result Counts Refusal) (d : Read s (read_of k)) (v : ℕ) (t : Bool) (is : t ≡ is_err k) where
  module _ (z : t ≡ true) where
    refused : index_fault s ≡ 0 → ⊥
    refused e = refused-number k (sym is ∙ z) (d.refusal ∙ e)

    pub lookup-none : [] ≡ lookup s v
    unfolding lookup
    lookup-none = sym (accepted-some (index_fault s) (block_of (entries s) v) [] refused)

    pub part_none : PartOf s v (record { at = 0; len = 0 })
    unfolding lookup_place
    part_none = record { place = sym (accepted-some (index_fault s) (place_of s v) 0 refused); size = rw (← lookup-none) }

  module _ (z : t ≡ false) where
    right : index_fault s ≡ 0
    right = sym d.refusal ∙ accepted-number k (sym is ∙ z)

    pub lookup-found : ((j : ℕ) → Fits w8 (get_or s j 0)) → (b : List ℕ) → b ≡ found s v → b ≡ lookup s v
    unfolding lookup
    lookup-found all b e = e ∙ found-is s v (λ j. omega (arith, all j)) right ∙ sym (accepted-none (index_fault s) (block_of (entries s) v) [] right)

    pub part-is : ((j : ℕ) → Fits w8 (get_or s j 0)) → (r : Part) → FoundAt s v r → PartOf s v r
    unfolding lookup_place
    part-is all r p =
        record { place = p.place ∙ sym (accepted-none (index_fault s) (place_of s v) 0 right); size = p.size ∙ ap length (lookup-found all (found s v) refl) }

    -- the block of a known value has at least its count
    pub part-some : ((j : ℕ) → Fits w8 (get_or s j 0)) → (r : Option Part) → FoundAt s v (part_of r) → IfSome r (λ p. is_known s v ≡ true)
        → IfSome r (λ p. 0 < p.len)
    part-some all None p f = tt
    part-some all (Some r) p f =
        let e = p.size ∙ ap length (found-is s v (λ j. omega (arith, all j)) right ∙ known-block s v right f) in
        omega (arith, e, length-block_bytes (block_words (block_at s (point_of s v))))

-- of any index, refused or not, and any value
pub part-lookup : (s : List ℕ) (v : ℕ) → Bytes s → take (length (lookup s v)) (drop (lookup_place s v) s) ≡ lookup s v
unfolding lookup lookup_place
part-lookup s v all =
    ⊎_elim
    (λ k. rw (accepted-none (index_fault s) (place_of s v) 0 k.1, accepted-none (index_fault s) (block_of (entries s) v) [] k.1, ← found-is s v all k.1) (found_part s v))
    (λ k. rw (accepted-some (index_fault s) (block_of (entries s) v) [] k.1))
    (split-eq (index_fault s) 0)

no_words : block_words [] ≡ []
unfolding block_words block_runs words_at number_at from_le
no_words = refl

words-of : (es : List Entry) (lo v : ℕ) → Sounds lo es → length (entries_bytes es) ≤ max_bytes → block_words (block_of es v) ≡ words_of es v
unfolding block_of words_of entries_bytes
words-of [] lo v s h = no_words
words-of (e ∷ es) lo v s h =
    let l = length-append (entry_bytes e) (entries_bytes es) in
    let n = length-entry_bytes e in
    let ih = words-of es (suc e.value) v s.1 (omega arith) in
    let here : block_words (block_bytes e.words) ≡ e.words =
    rw (append-nil (block_bytes e.words)) at (written-words e.words [] s.0.valid (omega arith) s.0.words) in
    ⊎_elim (λ k. rw k.0 here) (λ k. rw k.0 ih) (split-eq e.value v)

module _ (s : List ℕ) (v : ℕ) (all : Bytes s) (e : index_fault s ≡ 0) where
  exact-words : block_words (block_of (entries s) v) ≡ words_of (entries s) v
  exact-words = words-of (entries s) 0 v (entries-sound s all e) (omega (arith, index-size (entries s), written-within s e, (open-index s e).short))

  pub found-words : block_words (found s v) ≡ words_of (entries s) v
  found-words = rw (found-is s v all e) exact-words

  pub lookup-words : block_words (lookup s v) ≡ words_of (entries s) v
  unfolding lookup
  lookup-words = rw (accepted-none (index_fault s) (block_of (entries s) v) [] e) exact-words
