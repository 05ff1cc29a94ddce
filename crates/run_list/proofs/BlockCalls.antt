-- The loops over a block and the answers of `decode` and `encode`, one law for each way through the code.
use mathlib.Core.Path.{◌≡◌, refl, sym, ◌∙◌}
use mathlib.Core.List.{List, ◌++◌, map}
use Prim.Native.Nat.{ℕ, suc, ◌+◌, ◌-◌, ◌*◌, ◌/◌, ◌≤◌, ◌<◌}
use native.Mathlib.Numerals.{add-one}
use native.Mathlib.Omega.{arith}
use borrow.Author.Tests.{lt-ltb, le-ltb, ltb-false}
use lib.Dec.{ltb}
use borrow.Rule.Slice.PartMut.{put_mid}
use lib.ListN.{length, drop, get_or, drop_of_length-le, length-map}
use lib.Seq.{sets, length-sets, drop-cons}
use Rattle.std.specs.Prelude.{Option, Ok, Err}
use Rattle.std.specs.Int.{to_le_bytes, w64}
use Rattle.fields.specs.Refusal.{when, ◌then◌, refusal_number}
use Rattle.fields.specs.declared.outcome.Refusal.{Refusal}
use Rattle.fields.specs.declared.outcome.Refusal.TheVariants.{CutShort}
use Rattle.fields.specs.Bytes.{from_le, number_at, to_le, stored}
use Rattle.fields.specs.Answers.{short}
use Rattle.fields.proofs.Refusals.{refusal_some, then-none, then_some, front-none, when_true, when_false, when-none}
use Rattle.fields.proofs.Numbers.{length-to_le, sets-append, stored-fits}
use Rattle.fields.proofs.Clearing.{part-all}
use Rattle.fields.proofs.Words.{to_le-bytes_8}
use Rattle.fields.proofs.Answers.{gives-refused, gives-accepted, says-refused, says-accepted}
use Rattle.fields.specs.Limits.{too_long, max_words, max_bytes}
use Rattle.run_list.specs.Runs.{run_fault, runs_fault, own_fault, fault}
use Rattle.run_list.specs.Blocks.{run_count, run_at_fault, block_fault, block_runs, block_words, word_bytes, block_bytes}
use Rattle.run_list.specs.Calls.{Decoded, Encoded, RunAt, above}
use Rattle.run_list.proofs.BlockWords.{run-cut, run-there, get_or-block_words, block_fault-words}
use Rattle.run_list.proofs.RoundTrip.{length-block_bytes}

-- ---- a word

pub word_read : (b : List ℕ) (i r : ℕ) → i < length (block_words b) → r ≡ number_at 8 b (4 + 8 * i) → r ≡ get_or (block_words b) i 0
word_read b i r h e = e ∙ sym (get_or-block_words b i h)

-- ---- one run of a block

module _ (b : List ℕ) (k : ℕ) (last : Option ℕ) where
  run-missing : length b < 4 + 16 * k + 16 → RunAt b k last (Err CutShort)
  run-missing h = says-refused _ _ 0 2 (sym (run-cut b (4 + 16 * k) (above last) h)) (λ z. absurd (omega arith))

  pub run_small : length b < 20 → RunAt b k last (Err CutShort)
  run_small h = run-missing (omega arith)

  pub run_past : 20 ≤ length b → (length b - 20) / 16 < k → RunAt b k last (Err CutShort)
  run_past g h = run-missing (omega arith)

  module _ (g : 20 ≤ length b) (h : k ≤ (length b - 20) / 16) (s e : ℕ) (es : s ≡ number_at 8 b (4 + 16 * k)) (ee : e ≡ number_at 8 b (4 + 16 * k + 8)) where
    run-judged : run_fault (above last) s e ≡ run_at_fault b (4 + 16 * k) (above last)
    run-judged = rw (es, ee) (sym (run-there b (4 + 16 * k) (above last) (omega arith)))

    pub run-faulty : (f : Refusal) → refusal_number f ≡ run_fault (above last) s e → RunAt b k last (Err f)
    run-faulty f ef = says-refused _ _ 0 (refusal_number f) (ef ∙ run-judged) (refusal_some f)

    pub run-read : 0 ≡ run_fault (above last) s e → RunAt b k last (Ok e)
    run-read ef = says-accepted _ _ 0 0 (ef ∙ run-judged) refl e ee

-- ---- the fault of a block

module _ (b : List ℕ) where
  pub block-short : length b < 4 → 2 ≡ block_fault b
  block-short h =
      sym (block_fault-words b ∙ then_some _ _ (λ z. absurd (omega (arith, two, z))) ∙ two)
    where
      two : when (ltb (length b) 4) 2 ≡ 2
      two = when_true (ltb (length b) 4) 2 (lt-ltb (length b) 4 h)

  module _ (h : 4 ≤ length b) where
    counted : block_fault b ≡ (runs_fault 0 (block_words b) then when (ltb (block_runs b) (run_count b)) 2)
    counted = block_fault-words b ∙ then-none _ _ (when_false (ltb (length b) 4) 2 (le-ltb (length b) 4 h))

    pub block-found : (f : ℕ) → (f ≡ 0 → ⊥) → runs_fault 0 (block_words b) ≡ f → f ≡ block_fault b
    block-found f z e = sym (counted ∙ rw e (then_some f _ z))

    module _ (e : runs_fault 0 (block_words b) ≡ 0) (n : ℕ) (en : n ≡ block_runs b) (m : ℕ) (em : m ≡ run_count b) where
      judged : block_fault b ≡ when (ltb n m) 2
      judged = counted ∙ then-none _ _ e ∙ rw (en, em)

      pub block-cut : n < m → 2 ≡ block_fault b
      block-cut k = sym (judged ∙ when_true (ltb n m) 2 (lt-ltb n m k))

      pub block-whole : m ≤ n → 0 ≡ block_fault b
      block-whole k = sym (judged ∙ when_false (ltb n m) 2 (le-ltb n m k))

-- ---- `decode`

module _ (b out : List ℕ) where
  pub decode-long : max_bytes < length b → Decoded b out (record { refusal = 1; len = 0 }) out
  unfolding too_long when ◌then◌
  decode-long h = gives-refused _ _ 0 out 1 (rw (lt-ltb max_bytes (length b) h)) (λ z. absurd (omega arith))

  module _ (h : length b ≤ max_bytes) (f : ℕ) (e : f ≡ block_fault b) where
    not-long : (too_long max_bytes b then block_fault b then short (length (block_words b)) (length out)) ≡ (f then short (length (block_words b)) (length out))
    unfolding too_long
    not-long = then-none _ _ (when_false (ltb max_bytes (length b)) 1 (le-ltb max_bytes (length b) h)) ∙ rw (← e)

    pub decode-fault : (f ≡ 0 → ⊥) → Decoded b out (record { refusal = f; len = 0 }) out
    decode-fault z = gives-refused _ _ 0 out f (sym (not-long ∙ then_some f _ z)) z

    module _ (z : f ≡ 0) (ws : List (List ℕ)) (e' : map from_le ws ≡ block_words b) where
      count : length (block_words b) ≡ length ws
      count = rw (← e') (length-map ws from_le)

      pub decode-room : length out < length ws → Decoded b out (record { refusal = 10; len = 0 }) out
      unfolding short
      decode-room k =
          let t = lt-ltb (length out) (length (block_words b)) (omega (arith, count)) in
          gives-refused _ _ 0 out 10 (sym (not-long ∙ then-none f _ z ∙ when_true (ltb (length out) (length (block_words b))) 10 t)) (λ y. absurd (omega arith))

      pub decode-done : length ws ≤ length out → (out' : List ℕ) → out' ≡ sets out 0 (map from_le ws) → Decoded b out (record { refusal = 0; len = length ws }) out'
      unfolding short
      decode-done k out' w =
          let t = le-ltb (length out) (length (block_words b)) (omega (arith, count)) in
          gives-accepted _ (block_words b) 0 out (not-long ∙ then-none f _ z ∙ when_false (ltb (length out) (length (block_words b))) 10 t)
          (omega arith)
          (omega (arith, count))
          (length ws)
          out'
          (sym count)
          (w ∙ rw e')

-- ---- writing words: those from i on are still to be stored. before is the output after its run count

pub record Putting (ws before : List ℕ) (i : ℕ) (out : List ℕ) : Type 0 where
  pub within : i ≤ length ws
  pub room : 4 + 8 * length ws ≤ length before
  pub same : length out ≡ length before
  pub rest : sets out (4 + 8 * i) (word_bytes (drop i ws)) ≡ sets before 4 (word_bytes ws)

word_bytes-cons : (ws : List ℕ) (i : ℕ) → i < length ws → word_bytes (drop i ws) ≡ to_le 8 (get_or ws i 0) ++ word_bytes (drop (suc i) ws)
unfolding word_bytes
word_bytes-cons ws i h = rw (drop-cons ws i 0 h)

module _ (ws before : List ℕ) (i : ℕ) (out : List ℕ) (m : Putting ws before i out) where
  -- a word is written into a part of eight bytes
  pub putting-next : i < length ws → (p : List ℕ) → p ≡ to_le_bytes w64 (get_or ws i 0)
      → Putting ws before (i + 1) (put_mid (4 + 8 * i) (4 + 8 * i + 8 - (4 + 8 * i)) out p)
  putting-next h p e =
      let v = to_le 8 (get_or ws i 0) in
      let l = length-to_le 8 (get_or ws i 0) in
      let n : 4 + 8 * i + length v ≡ 4 + 8 * (i + 1) = omega arith in
      let z : 4 + 8 * i + 8 - (4 + 8 * i) ≡ 8 = omega arith in
      let f : p ≡ v = e ∙ to_le-bytes_8 (get_or ws i 0) in
      let d : put_mid (4 + 8 * i) (4 + 8 * i + 8 - (4 + 8 * i)) out p ≡ sets out (4 + 8 * i) v =
      rw (z, f) (part-all (4 + 8 * i) 8 out v (omega (arith, m.same, m.room)) l) in
      record {
        within = omega arith;
        room = m.room;
        same = rw d (length-sets out (4 + 8 * i) v) ∙ m.same;
        rest = rw (← n, add-one i, d, ← sets-append out (4 + 8 * i) v (word_bytes (drop (suc i) ws)), ← word_bytes-cons ws i h) m.rest;
      }

  pub putting-end : (o : List ℕ) → length ws ≤ i → 4 + 8 * length ws ≤ length o → before ≡ stored o 0 (to_le 4 (length ws / 2)) → out ≡ sets o 0 (block_bytes ws)
  unfolding word_bytes block_bytes
  putting-end o h k e =
      let v = to_le 4 (length ws / 2) in
      let l = length-to_le 4 (length ws / 2) in
      let d : before ≡ sets o 0 v = e ∙ stored-fits o 0 v (omega arith) in
      let p : 0 + length v ≡ 4 = omega arith in
      (rw (drop_of_length-le ws {i = i} h) at m.rest) ∙ rw (sets-append o 0 v (word_bytes ws), p, ← d)

-- ---- `encode`

module _ (ws out : List ℕ) (f : ℕ) (e : f ≡ fault ws) where
  pub encode-fault : (f ≡ 0 → ⊥) → Encoded ws out (record { refusal = f; len = 0 }) out
  encode-fault z = gives-refused _ _ 0 out f (sym (rw (← e) (then_some f _ z))) z

  module _ (z : f ≡ 0) where
    only-room : (fault ws then short (length (block_bytes ws)) (length out)) ≡ when (ltb (length out) (length (block_bytes ws))) 10
    unfolding short
    only-room = then-none (fault ws) _ (sym e ∙ z)

    pub encode-limit : length ws ≤ max_words
    unfolding fault too_long
    encode-limit =
        ltb-false max_words (length ws) (when-none (ltb max_words (length ws)) 0 (front-none (too_long max_words ws) (own_fault ws) (sym e ∙ z)))

    pub encode-room : length out < 4 + 8 * length ws → Encoded ws out (record { refusal = 10; len = 0 }) out
    encode-room k =
        let t = lt-ltb (length out) (length (block_bytes ws)) (omega (arith, length-block_bytes ws)) in
        gives-refused _ _ 0 out 10 (sym (only-room ∙ when_true (ltb (length out) (length (block_bytes ws))) 10 t)) (λ y. absurd (omega arith))

    pub encode-done : 4 + 8 * length ws ≤ length out → (out' : List ℕ) → out' ≡ sets out 0 (block_bytes ws) → Encoded ws out (record { refusal = 0; len = 4 + 8 * length ws }) out'
    encode-done k out' w =
        let l = length-block_bytes ws in
        let t = le-ltb (length out) (length (block_bytes ws)) (omega arith) in
        gives-accepted _ (block_bytes ws) 0 out (only-room ∙ when_false (ltb (length out) (length (block_bytes ws))) 10 t)
        (omega arith)
        (omega arith)
        (4 + 8 * length ws)
        out'
        (omega arith)
        w
