-- What demand 3 supposes can be met, so that nothing in it holds emptily: for a filter and an accepted index that lists its values there are a run, a directory and calls of
-- rank and select that are not refused. Document 01's program has such an index and such a filter; the empty filter is one too.
use mathlib.Core.Path.{◌≡◌, refl, ap, ◌∙◌}
use mathlib.Core.Bool.{Bool, true, false, or_comm}
use mathlib.Core.List.{List, [], ◌∷◌, map}
use Prim.Native.Nat.{ℕ, ◌+◌, ◌/◌, ◌^◌, ◌<◌}
use native.Mathlib.Omega.{arith}
use lib.Dec.{eqb}
use lib.ListN.{length}
use Rattle.fields.specs.Refusal.{when, ◌then◌}
use Rattle.fields.specs.Bytes.{from_le, number_at, to_le}
use Rattle.fields.specs.Answers.{after, short, Gives}
use Rattle.fields.specs.declared.outcome.Answer.{Answer}
use Rattle.fields.specs.Limits.{too_long}
use Rattle.run_list.specs.Rising.{elem}
use Rattle.run_list.specs.Runs.{run_fault, fault, odd}
use Rattle.run_list.specs.Rows.{rows_below}
use Rattle.boundary.specs.Merge.{merge, combine}
use Rattle.run_list.specs.Blocks.{read_fault, block_fault, words_at, block_runs, block_words, word_bytes, block_bytes}
use Rattle.run_rank.specs.RunRanks.{run_directory, run_select, directory_fault}
use Rattle.index.specs.Index.{block_at, head_fault, entries_fault, entry_list, entries, index_fault, words_of, entry_bytes, entries_bytes, index_bytes, present, sample, sample_bytes}
use Rattle.bitmap_index.specs.Filter.{step, keep_from, keep, says_from, says, named, kinds_fault}
use Rattle.bitmap_index.proofs.MissingLaws.{filter-missing}
use Rattle.index.proofs.IndexTrip.{written-bytes}
use Rattle.demands.specs.Demand3.{Filter, Accepted, Lists, Run, left, Built, directory_of, SameRuns, Demand3}
use Rattle.demands.specs.Table.{sample_steps}
use Rattle.demands.proofs.Theorem.{answered, gives_of, zeros, length-zeros, short_none, run-left, serves, run_of, demand3}

-- ---- for every filter and every accepted index that lists its values

-- a call of rank or select (`Ranks`, `Selects`), f giving the word for each of ps, with just the space that is needed: not refused
pub record Called (f : ℕ → ℕ) (runs directory ps : List ℕ) : Type 0 where
  pub answer : Answer
  pub output : List ℕ
  pub call : Gives (directory_fault runs directory then short (length ps) (length (zeros (length ps)))) (map f ps) 0 (zeros (length ps)) answer output
  pub accepted : answer.refusal ≡ 0

pub record Met (index steps : List ℕ) : Type 0 where
  pub run : Run index steps
  pub accepted : run.answer.refusal ≡ 0
  pub built : Built (left run)
  pub built-accepted : built.answer.refusal ≡ 0
  pub ranks : (positions : List ℕ) → Called (rows_below (left run)) (left run) (directory_of built) positions
  pub selects : (ks : List ℕ) → Called (run_select (left run)) (left run) (directory_of built) ks

room : (n : ℕ) → short n (length (zeros n)) ≡ 0
room n = short_none n (length (zeros n)) (omega (arith, length-zeros n))

built_of : (runs : List ℕ) → Built runs
built_of runs =
    let z = zeros (length runs / 2 + 1) in
    let f = fault runs then short (length (run_directory runs)) (length z) in
    record { output = z; answer = answered f (run_directory runs); output' = after f (run_directory runs) 0 z; call = gives_of f (run_directory runs) 0 z }

module _ (f : ℕ → ℕ) (runs directory ps : List ℕ) where
  -- a call that is refused only for a short output
  called_of : ((r : Answer) (out : List ℕ) → Gives (directory_fault runs directory then short (length ps) (length (zeros (length ps)))) (map f ps) 0 (zeros (length ps)) r out
      → r.refusal ≡ short (length ps) (length (zeros (length ps)))) → Called f runs directory ps
  called_of only =
      let z = zeros (length ps) in
      let g = directory_fault runs directory then short (length ps) (length z) in
      let c = gives_of g (map f ps) 0 z in
      record { answer = answered g (map f ps); output = after g (map f ps) 0 z; call = c; accepted = only (answered g (map f ps)) (after g (map f ps) 0 z) c ∙ room (length ps) }

pub met : (index steps : List ℕ) → Accepted index → Lists index steps → Filter steps → Met index steps
unfolding built_of
met index steps a l f =
    let run = run_of index steps in
    let s = serves steps f index a l run in
    let built = built_of (left run) in
    let right = s.1.built built ∙ room (length (left run) / 2 + 1) in
    record {
      run = run;
      accepted = s.0;
      built = built;
      built-accepted = right;
      ranks = λ ps. called_of (rows_below (left run)) (left run) (directory_of built) ps (λ r out g. (s.1.ranked built right ps (zeros (length ps)) out r g).0);
      selects = λ ks. called_of (run_select (left run)) (left run) (directory_of built) ks (λ r out g. (s.1.selected built right ks (zeros (length ks)) out r g).0);
    }

-- ---- document 01's program

sample-reads : index_fault sample_bytes ≡ 0
unfolding sample index_fault entries_fault head_fault block_at entry_bytes entries_bytes index_bytes read_fault block_fault run_fault word_bytes block_bytes number_at from_le to_le when ◌then◌ too_long
sample-reads = refl

pub sample-accepted : Accepted sample_bytes
sample-accepted = record { bytes = written-bytes sample; read = sample-reads }

sample-present : (present (entries sample_bytes) 3 ≡ true) × (present (entries sample_bytes) 7 ≡ true)
unfolding sample entry_list entries block_at entry_bytes entries_bytes index_bytes words_at block_runs block_words word_bytes block_bytes number_at from_le to_le present
sample-present = (refl, refl)

-- it lists both values of the program's filter
pub sample-lists : Lists sample_bytes sample_steps
unfolding named
sample-lists = (sample-present.0, (sample-present.1, tt))

pub sample-filter : Filter sample_steps
sample-filter = record { few = omega arith; mix = (omega arith, omega arith, omega arith, (omega arith, omega arith, omega arith, tt)) }

pub empty-filter : Filter []
empty-filter = record { few = omega arith; mix = tt }

pub sample-met : Met sample_bytes sample_steps
sample-met = met sample_bytes sample_steps sample-accepted sample-lists sample-filter

pub empty-met : Met sample_bytes []
unfolding named
empty-met = met sample_bytes [] sample-accepted tt empty-filter

pub sample-demand : Demand3 sample_steps []
sample-demand = demand3 sample_steps [] sample-filter empty-filter

-- any run of the program's filter over its index leaves 0 to 2 and 7 to 9
sample-keeps : keep (entries sample_bytes) sample_steps ≡ 0 ∷ 2 ∷ 7 ∷ 9 ∷ []
unfolding sample entry_list entries block_at entry_bytes entries_bytes index_bytes words_at block_runs block_words word_bytes block_bytes number_at from_le to_le keep keep_from step words_of combine merge
sample-keeps = refl

pub sample-left : (run : Run sample_bytes sample_steps) → left run ≡ 0 ∷ 2 ∷ 7 ∷ 9 ∷ []
sample-left run = run-left sample_bytes sample_steps sample-accepted sample-lists sample-filter run ∙ sample-keeps

-- ---- both sides of the agreement occur

-- to the set of value 3 alone, the program's filter says yes and the empty one no
pub filters-differ : (says sample_steps (λ v. eqb v 3) ≡ true) × (says [] (λ v. eqb v 3) ≡ false)
unfolding says says_from step
filters-differ = (refl, refl)

-- "take,u", "or,v" and "take,v", "or,u" say the same to every set
abbrev pub two_values : ℕ → ℕ → List ℕ
two_values u v = 1 ∷ u ∷ 3 ∷ v ∷ []

two-filter : (u v : ℕ) → u < 2 ^ 64 → v < 2 ^ 64 → Filter (two_values u v)
two-filter u v h k = record { few = omega arith; mix = (omega arith, omega arith, h, (omega arith, omega arith, k, tt)) }

two-say : (u v : ℕ) (set : ℕ → Bool) → says (two_values u v) set ≡ says (two_values v u) set
unfolding says says_from step
two-say u v set = or_comm (set u) (set v)

-- so they leave the same runs on every accepted index that lists both
pub two-agree : (u v : ℕ) → u < 2 ^ 64 → v < 2 ^ 64
    → (index : List ℕ) → Accepted index → Lists index (two_values u v) → Lists index (two_values v u) → (a : Run index (two_values u v)) (b : Run index (two_values v u))
    → SameRuns a b
two-agree u v h k = (demand3 (two_values u v) (two_values v u) (two-filter u v h k) (two-filter v u k h)).agree.1 (two-say u v)

-- ---- which indexes are left out, and why

-- "take,5", "take,3" and "take,3" say the same to every set
abbrev pub two_takes : List ℕ
two_takes = 1 ∷ 5 ∷ 1 ∷ 3 ∷ []

abbrev pub one_take : List ℕ
one_take = 1 ∷ 3 ∷ []

pub takes-say : (set : ℕ → Bool) → says two_takes set ≡ says one_take set
unfolding says says_from step
takes-say set = refl

sample-lacks : present (entries sample_bytes) 5 ≡ false
unfolding sample entry_list entries block_at entry_bytes entries_bytes index_bytes words_at block_runs block_words word_bytes block_bytes number_at from_le to_le present
sample-lacks = refl

sample-takes : keep (entries sample_bytes) one_take ≡ 0 ∷ 4 ∷ 6 ∷ 9 ∷ []
unfolding sample entry_list entries block_at entry_bytes entries_bytes index_bytes words_at block_runs block_words word_bytes block_bytes number_at from_le to_le keep keep_from step words_of combine merge
sample-takes = refl

two-kinds : kinds_fault two_takes ≡ 0
unfolding kinds_fault when ◌then◌
two-kinds = refl

two-pairs : odd two_takes ≡ false
unfolding odd
two-pairs = refl

two-named : elem 5 (named two_takes) ≡ true
unfolding named
two-named = refl

-- over the program's index, which lacks value 5, the first is refused 11, whatever its lists
pub takes-refused : (run : Run sample_bytes two_takes) → (run.answer.refusal ≡ 11) × (run.answer.len ≡ 0)
takes-refused run =
    let m = filter-missing sample_bytes two_takes run.output run.scratch run.answer run.output' run.scratch' run.call sample-reads (omega arith) two-pairs two-kinds 5 two-named sample-lacks in
    (m.0, m.1)

-- so that the two agree only over the indexes that list what they name
pub takes-differ : (a : Run sample_bytes two_takes) (b : Run sample_bytes one_take) → SameRuns a b → ⊥
unfolding named
takes-differ a b same =
    let l : left b ≡ 0 ∷ 4 ∷ 6 ∷ 9 ∷ [] =
    run-left sample_bytes one_take sample-accepted (sample-present.0, tt) (record { few = omega arith; mix = (omega arith, omega arith, omega arith, tt) }) b ∙ sample-takes in
    absurd (no-words (left a) (rw (takes-refused a).1 refl) (same.1 ∙ l))
  where
    no-words : (ws : List ℕ) → length ws ≡ 0 → ws ≡ 0 ∷ 4 ∷ 6 ∷ 9 ∷ [] → ⊥
    no-words ws e d = absurd (omega (arith, e, ap length d))
