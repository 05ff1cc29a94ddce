-- The calls on packed bits, one law for each way through the code: b are the bits once they are judged, end is len, cut.
use mathlib.Core.Path.{◌≡◌, refl, sym, ◌∙◌}
use mathlib.Core.Bool.{true, false}
use mathlib.Core.List.{List, map}
use Prim.Native.Nat.{ℕ, ◌+◌, ◌/◌, ◌%◌, ◌≤◌, ◌<◌, min}
use native.Mathlib.Nat.{min-eq_left}
use native.Mathlib.Omega.{arith}
use borrow.Author.Tests.{eq-eqb, ne_eqb}
use lib.ListN.{length, length-map}
use lib.Seq.{sets}
use Rattle.fields.specs.Refusal.{refusal_number}
use Rattle.fields.specs.Refusal.{◌then◌}
use Rattle.fields.specs.Answers.{short, Gives, Writes}
use Rattle.fields.specs.Directory.{same, other_directory}
use Rattle.fields.specs.Limits.{too_long, max_bits}
use Rattle.fields.specs.declared.outcome.Refusal.{Refusal}
use Rattle.fields.specs.declared.outcome.Answer.{Answer}
use Rattle.fields.proofs.Refusals.{refusal_some, when_true, when_false, found_first, found-next}
use Rattle.fields.proofs.Answers.{gives-refused, call-full, call-done, judged-refused, judged-writes, says-refused, says-accepted}
use Rattle.fields.proofs.Directories.{other-found, other_none}
use Rattle.run_list.specs.Runs.{odd}
use Rattle.packed.specs.Bits.{cut_to, counts}
use Rattle.packed.proofs.Entries.{length-counts}
use Rattle.bit_rank.specs.BitRanks.{bit_directory, bit_rank, bit_ranges, rank_fault, range_fault, Directory, Ranks, Ranges, Total}
use Rattle.bit_rank.proofs.BitLaws.{rank-total, ranges-length}

-- ---- a directory

module _ (bits : List ℕ) (end n : ℕ) (en : n ≡ end / 512 + 1) where
  pub right-found : (directory : List ℕ) → true ≡ same directory (counts 512 bits 0 n) → 0 ≡ other_directory directory (bit_directory 512 bits end)
  unfolding bit_directory
  right-found directory e = other_none directory _ true (rw en at e) refl

  pub other-seen : (directory : List ℕ) → false ≡ same directory (counts 512 bits 0 n) → 9 ≡ other_directory directory (bit_directory 512 bits end)
  unfolding bit_directory
  other-seen directory e = other-found directory _ false (rw en at e) refl

module _ (bits : List ℕ) (len : ℕ) (out : List ℕ) where
  pub new-refused : (e : Refusal) → refusal_number e ≡ too_long max_bits bits → Directory bits len out (record { refusal = refusal_number e; len = 0 }) out
  new-refused e d = judged-refused _ _ out e d

  module _ (z : 0 ≡ too_long max_bits bits) (n : ℕ) (en : n ≡ cut_to bits len / 512 + 1) where
    entries : n ≡ length (bit_directory 512 bits (cut_to bits len))
    unfolding bit_directory
    entries = en ∙ sym (length-counts 512 bits 0 (cut_to bits len / 512 + 1))

    pub new-full : length out < n → Directory bits len out (record { refusal = 10; len = 0 }) out
    new-full h = call-full _ _ _ out 0 z refl n entries h

    pub new-done : n ≤ length out → (b : List ℕ) → b ≡ bits → (out' : List ℕ) → out' ≡ sets out 0 (counts 512 b 0 (min n (length out)))
        → Directory bits len out (record { refusal = 0; len = n }) out'
    unfolding bit_directory
    new-done h b eb out' w = call-done _ _ _ out 0 z refl n entries h entries out' (w ∙ rw (eb, min-eq_left h, en))

-- ---- ranks

module _ (bits : List ℕ) (len : ℕ) (directory : List ℕ) where
  rank-long : (e : Refusal) → refusal_number e ≡ too_long max_bits bits → refusal_number e ≡ rank_fault 512 bits (cut_to bits len) directory
  unfolding rank_fault
  rank-long e d = found_first _ _ _ d (refusal_some e)

  -- one word for each key, by any rule g
  pub keys-refused : (g : ℕ → ℕ) (keys out : List ℕ) (e : Refusal) → refusal_number e ≡ too_long max_bits bits
      → Gives (rank_fault 512 bits (cut_to bits len) directory then short (length keys) (length out)) (map g keys) 0 out (record { refusal = refusal_number e; len = 0 }) out
  keys-refused g keys out e d = gives-refused _ _ 0 out (refusal_number e) (found_first _ _ _ (rank-long e d) (refusal_some e)) (refusal_some e)

  pub rank-refused : (positions out : List ℕ) (e : Refusal) → refusal_number e ≡ too_long max_bits bits → Ranks bits len directory positions out (record { refusal = refusal_number e; len = 0 }) out
  rank-refused positions out = keys-refused (bit_rank bits (cut_to bits len)) positions out

  pub total-refused : (e : Refusal) → refusal_number e ≡ too_long max_bits bits → Total bits len directory (record { refusal = refusal_number e; number = 0 })
  total-refused e d = says-refused _ _ 0 (refusal_number e) (rank-long e d) (refusal_some e)

  module _ (z : 0 ≡ too_long max_bits bits) (b : List ℕ) (eb : b ≡ bits) (end : ℕ) (ee : end ≡ cut_to bits len) where
    rank-directory : (g : ℕ) → g ≡ other_directory directory (bit_directory 512 b end) → g ≡ rank_fault 512 bits (cut_to bits len) directory
    unfolding rank_fault
    rank-directory g d = found-next _ _ 0 g z refl (rw (eb, ee) at d)

    module _ (g : ℕ → ℕ) (keys out : List ℕ) where
      pub keys-other : (e : Refusal) → refusal_number e ≡ other_directory directory (bit_directory 512 b end)
          → Gives (rank_fault 512 bits (cut_to bits len) directory then short (length keys) (length out)) (map g keys) 0 out (record { refusal = refusal_number e; len = 0 }) out
      keys-other e d = gives-refused _ _ 0 out (refusal_number e) (found_first _ _ _ (rank-directory (refusal_number e) d) (refusal_some e)) (refusal_some e)

      pub keys-done : 0 ≡ other_directory directory (bit_directory 512 b end) → (r : Answer) (out' : List ℕ) → Writes (map g keys) out r out'
          → Gives (rank_fault 512 bits (cut_to bits len) directory then short (length keys) (length out)) (map g keys) 0 out r out'
      keys-done d r out' w = rw (length-map keys g) at (judged-writes _ _ out (sym (rank-directory 0 d)) r out' w)

    pub rank-other : (e : Refusal) → refusal_number e ≡ other_directory directory (bit_directory 512 b end) → (positions out : List ℕ)
        → Ranks bits len directory positions out (record { refusal = refusal_number e; len = 0 }) out
    rank-other e d positions out = keys-other (bit_rank bits (cut_to bits len)) positions out e d

    pub total-other : (e : Refusal) → refusal_number e ≡ other_directory directory (bit_directory 512 b end) → Total bits len directory (record { refusal = refusal_number e; number = 0 })
    total-other e d = says-refused _ _ 0 (refusal_number e) (rank-directory (refusal_number e) d) (refusal_some e)

    module _ (d : 0 ≡ other_directory directory (bit_directory 512 b end)) (b' : List ℕ) (eb' : b' ≡ b) (end' : ℕ) (ee' : end' ≡ end) where
      pub rank-done : (positions out : List ℕ) (r : Answer) (out' : List ℕ) → Writes (map (bit_rank b' end') positions) out r out' → Ranks bits len directory positions out r out'
      rank-done positions out r out' w =
          keys-done (bit_rank bits (cut_to bits len)) positions out d r out' (rw (eb', eb, ee', ee) at w)

      pub total-done : (r : ℕ) → r ≡ bit_rank b' end' end → Total bits len directory (record { refusal = 0; number = r })
      total-done r e = says-accepted _ _ 0 0 (rank-directory 0 d) refl r (e ∙ rw (eb', eb, ee', ee) (rank-total bits (cut_to bits len)))

-- ---- counts of ranges

module _ (bits : List ℕ) (len : ℕ) (directory pairs out : List ℕ) where
  pub range-refused : (e : Refusal) → refusal_number e ≡ too_long max_bits bits → Ranges bits len directory pairs out (record { refusal = refusal_number e; len = 0 }) out
  unfolding range_fault
  range-refused e d = gives-refused _ _ 0 out (refusal_number e) (found_first _ _ _ (found_first _ _ _ d (refusal_some e)) (refusal_some e)) (refusal_some e)

  module _ (z : 0 ≡ too_long max_bits bits) where
    pub range-odd : length pairs % 2 ≡ 1 → Ranges bits len directory pairs out (record { refusal = 6; len = 0 }) out
    unfolding range_fault odd
    range-odd k =
        let six = found-next _ _ 0 6 z refl (found_first _ _ 6 (sym (when_true _ 6 (eq-eqb (length pairs % 2) 1 k))) (λ y. absurd (omega arith))) in
        gives-refused _ _ 0 out 6 (found_first _ _ 6 six (λ y. absurd (omega arith))) (λ y. absurd (omega arith))

    module _ (k : length pairs % 2 ≡ 1 → ⊥) (b : List ℕ) (eb : b ≡ bits) (end : ℕ) (ee : end ≡ cut_to bits len) where
      range-directory : (g : ℕ) → g ≡ other_directory directory (bit_directory 512 b end) → g ≡ range_fault 512 bits (cut_to bits len) directory pairs
      unfolding range_fault odd
      range-directory g d = found-next _ _ 0 g z refl (found-next _ _ 0 g (sym (when_false _ 6 (ne_eqb (length pairs % 2) 1 k))) refl (rw (eb, ee) at d))

      pub range-other : (e : Refusal) → refusal_number e ≡ other_directory directory (bit_directory 512 b end) → Ranges bits len directory pairs out (record { refusal = refusal_number e; len = 0 }) out
      range-other e d = gives-refused _ _ 0 out (refusal_number e) (found_first _ _ _ (range-directory (refusal_number e) d) (refusal_some e)) (refusal_some e)

      module _ (d : 0 ≡ other_directory directory (bit_directory 512 b end)) where
        pub range-full : length out < length pairs / 2 → Ranges bits len directory pairs out (record { refusal = 10; len = 0 }) out
        range-full h = call-full _ _ _ out 0 (range-directory 0 d) refl (length pairs / 2) (ranges-length bits (cut_to bits len) pairs) h

        pub range-done : length pairs / 2 ≤ length out → (b' : List ℕ) → b' ≡ b → (end' : ℕ) → end' ≡ end → (out' : List ℕ) → out' ≡ sets out 0 (bit_ranges b' end' pairs)
            → Ranges bits len directory pairs out (record { refusal = 0; len = length pairs / 2 }) out'
        range-done h b' eb' end' ee' out' w =
            let l = ranges-length bits (cut_to bits len) pairs in
            call-done _ _ _ out 0 (range-directory 0 d) refl (length pairs / 2) l h l out' (w ∙ rw (eb', eb, ee', ee))
