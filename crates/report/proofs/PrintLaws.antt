-- Writing text: one law for each way through the code.
use mathlib.Core.Path.{◌≡◌, refl, ap, ◌∙◌}
use mathlib.Core.List.{List, [], ◌∷◌, ◌++◌}
use Prim.Native.Nat.{ℕ, suc, ◌+◌, ◌*◌, ◌/◌, ◌^◌, ◌≤◌, ◌<◌}
use native.Mathlib.Numerals.{add-one}
use native.Mathlib.Omega.{arith}
use lib.ListN.{length, drop, get_or, length-append, drop_of_length-le}
use lib.Seq.{sets, length-sets, drop-cons}
use Rattle.fields.specs.Answers.{StoredAt}
use Rattle.std.specs.Fmt as fmt
use Rattle.fields.proofs.Numbers.{sets-append}
use Rattle.run_list.specs.Runs.{fault}
use Rattle.run_list.specs.Rows.{rows}
use Rattle.run_list.proofs.Validity.{fault-accepted}
use Rattle.std.specs.Simd.{first_chunks}
use Rattle.report.specs.Report.{decimal, count_word, run_word, number_line, run_line, run_lines, kept_text}
use Rattle.report.proofs.PrintRead.{decimal-is, decimal-length, number-length, run_length}

-- ---- bytes

-- the bytes from i on are still to be stored
pub record Putting (bytes before : List ℕ) (at i to : ℕ) (out : List ℕ) : Type 0 where
  pub within : i ≤ length bytes
  pub place : to ≡ at + i
  pub same : length out ≡ length before
  pub rest : sets out to (drop i bytes) ≡ sets before at bytes

-- ---- lines

text-join : {v w s t u : List ℕ} {at n m : ℕ} → StoredAt v s at n t → StoredAt w t n m u → StoredAt (v ++ w) s at m u
text-join {v} {w} {s} {t} {u} {at} {n} {m} p q =
    record {
      next = omega (arith, p.next, q.next, length-append v w);
      written = rw (sets-append s at v w, ← p.written, ← p.next) q.written;
    }

-- a number that std printed
pub number-put : (x : ℕ) (w s : List ℕ) (at n : ℕ) (t : List ℕ) → StoredAt w s at n t → (text : List ℕ) → w ≡ text → text ≡ fmt.decimal x → x < 2 ^ 64
    → StoredAt (decimal x) s at n t
number-put x w s at n t p text v e h = rw (v ∙ e ∙ decimal-is x h) at p

module _ (word : List ℕ) (x : ℕ) (s : List ℕ) (at n : ℕ) (t : List ℕ) (m : ℕ) (u : List ℕ) (p : StoredAt word s at n t) (q : StoredAt (decimal x) t n m u) where
  pub line-room : at + length word + 20 < 2 ^ 62 → m < 2 ^ 62
  line-room h = omega (arith, p.next, q.next, decimal-length x)

  pub line-put : (k : ℕ) (v : List ℕ) → StoredAt (10 ∷ []) u m k v → StoredAt (number_line word x) s at k v
  unfolding number_line
  line-put k v r = text-join p (text-join q r)

module _ (a : ℕ) (s : List ℕ) (at n : ℕ) (t : List ℕ) (m : ℕ) (u : List ℕ) (p : StoredAt run_word s at n t) (q : StoredAt (decimal a) t n m u) where
  pub run-room : at + 46 < 2 ^ 62 → m + 1 + 20 < 2 ^ 62
  run-room h = omega (arith, p.next, q.next, decimal-length a)

  pub run-put : (b k : ℕ) (v : List ℕ) → StoredAt (number_line (44 ∷ []) b) u m k v → StoredAt (run_line a b) s at k v
  unfolding number_line run_line
  run-put b k v r = text-join p (text-join q r)

-- ---- runs

-- the lines of pairs of words
unfoldable pub pair_lines : List (List ℕ) → List ℕ
unfolding run_line
pair_lines [] = []
pair_lines (p ∷ ps) = run_line (get_or p 0 0) (get_or p 1 0) ++ pair_lines ps

-- the pairs from the i-th on are still to be stored
pub record Running (pairs : List (List ℕ)) (before : List ℕ) (at i to : ℕ) (out : List ℕ) : Type 0 where
  pub within : i ≤ length pairs
  pub room : to ≤ at + 46 * i
  pub same : length out ≡ length before
  pub place : to + length (pair_lines (drop i pairs)) ≡ at + length (pair_lines pairs)
  pub rest : sets out to (pair_lines (drop i pairs)) ≡ sets before at (pair_lines pairs)

pub pairs-lines : (runs : List ℕ) → pair_lines (first_chunks 2 (length runs / 2) runs) ≡ run_lines runs
unfolding pair_lines run_lines
pairs-lines [] = refl
pairs-lines (s ∷ []) = refl
pairs-lines (s ∷ e ∷ runs) =
    let n : length (s ∷ e ∷ runs) / 2 ≡ suc (length runs / 2) = omega arith in
    rw (n, pairs-lines runs)

module _ (pairs : List (List ℕ)) (before : List ℕ) (at : ℕ) where
  module _ (i to : ℕ) (out : List ℕ) (m : Running pairs before at i to out) where
    module _ (h : i < length pairs) where
      module _ (d : List ℕ) where
        cut : pair_lines (drop i pairs) ≡ run_line (get_or (get_or pairs i d) 0 0) (get_or (get_or pairs i d) 1 0) ++ pair_lines (drop (i + 1) pairs)
        unfolding pair_lines
        cut = rw (drop-cons pairs i d h, add-one i)

        pub running-next : (n : ℕ) (out' : List ℕ) → StoredAt (run_line (get_or (get_or pairs i d) 0 0) (get_or (get_or pairs i d) 1 0)) out to n out'
            → Running pairs before at (i + 1) n out'
        running-next n out' t =
            let line = run_line (get_or (get_or pairs i d) 0 0) (get_or (get_or pairs i d) 1 0) in
            let more = pair_lines (drop (i + 1) pairs) in
            record {
              within = omega arith;
              room = omega (arith, m.room, t.next, run_length (get_or (get_or pairs i d) 0 0) (get_or (get_or pairs i d) 1 0));
              same = ap length t.written ∙ (length-sets out to line ∙ m.same);
              place = omega (arith, t.next, ap length cut, length-append line more, m.place);
              rest = rw (t.next, t.written, ← sets-append out to line more, ← cut) m.rest;
            }

    pub running-end : length pairs ≤ i → (runs : List ℕ) → pairs ≡ first_chunks 2 (length runs / 2) runs → StoredAt (run_lines runs) before at to out
    unfolding pair_lines
    running-end h runs e =
        let z = drop_of_length-le pairs {i = i} h in
        let w : pair_lines pairs ≡ run_lines runs = rw e (pairs-lines runs) in
        record { next = omega (arith, rw z at m.place, ap length w); written = rw (z, w) at m.rest }

-- ---- all that is kept

module _ (runs s : List ℕ) (x : ℕ) (e : x ≡ rows runs) (at n : ℕ) (t : List ℕ) (p : StoredAt (number_line count_word x) s at n t) where
  -- a run list has fewer than 2^30 words
  pub kept-room : at < 2 ^ 61 → fault runs ≡ 0 → n + 23 * length runs < 2 ^ 62
  kept-room h z = omega (arith, p.next, number-length count_word x, (fault-accepted runs z).limit)

  pub kept_put : (m : ℕ) (u : List ℕ) → StoredAt (run_lines runs) t n m u → StoredAt (kept_text runs) s at m u
  unfolding kept_text
  kept_put m u q = text-join {v = number_line count_word (rows runs)} (rw e at p) q
