-- Edges, computed: what the calls' definitions give on small inputs, as outcomes.
use mathlib.Core.Path.{◌≡◌, refl}
use mathlib.Core.Bool.{true, false}
use mathlib.Core.List.{List, [], ◌∷◌, ◌++◌}
use Prim.Native.Nat.{ℕ}
use lib.ListN.{length, take}
use Rattle.fields.specs.Refusal.{when, ◌then◌}
use Rattle.fields.specs.Bytes.{number_at, from_le, to_le}
use Rattle.fields.specs.Answers.{accepted, padded, over, after, short}
use Rattle.fields.proofs.Outcomes.{Outcome, outcome, sevens}
use Rattle.fields.specs.Limits.{too_long, max_bytes}
use Rattle.run_list.specs.Runs.{has, run_fault, runs_fault, odd, own_fault, fault}
use Rattle.run_list.specs.Rows.{rows}
use Rattle.run_list.specs.Blocks.{read_fault, block_fault, words_at, block_runs, block_words, word_bytes, block_bytes}

decoded : List ℕ → List ℕ → Outcome
decoded block before = outcome (too_long max_bytes block then block_fault block then short (length (block_words block)) (length before)) (block_words block) 0 before

encoded : List ℕ → List ℕ → Outcome
encoded ws before = outcome (fault ws then short (length (block_bytes ws)) (length before)) (block_bytes ws) 0 before

-- an end of 2^64 - 1, the greatest word: row 2^64 - 2 is the last one
last_row : (has (5 ∷ 18446744073709551615 ∷ []) 18446744073709551614 ≡ true)
    × (has (5 ∷ 18446744073709551615 ∷ []) 18446744073709551615 ≡ false)
    × (rows (0 ∷ 18446744073709551615 ∷ []) ≡ 18446744073709551615)
last_row = (refl, refl, refl)

-- bytes after the last run are ignored; a run cut short is 2, after the faults of the runs before it; the greatest end; a short output
block-edges : (decoded (block_bytes (0 ∷ 3 ∷ []) ++ (9 ∷ 9 ∷ [])) sevens ≡ (0, 2, 0 ∷ 3 ∷ 7 ∷ []))
    × (decoded (take 35 (block_bytes (0 ∷ 3 ∷ 4 ∷ 5 ∷ []))) (7 ∷ sevens) ≡ (2, 0, 7 ∷ sevens))
    × (decoded (take 35 (block_bytes (5 ∷ 3 ∷ 4 ∷ 5 ∷ []))) (7 ∷ sevens) ≡ (3, 0, 7 ∷ sevens))
    × (decoded (block_bytes (0 ∷ 18446744073709551615 ∷ [])) sevens ≡ (0, 2, 0 ∷ 18446744073709551615 ∷ 7 ∷ []))
    × (decoded (block_bytes (0 ∷ 3 ∷ [])) (7 ∷ []) ≡ (10, 0, 7 ∷ []))
    × (encoded [] (7 ∷ sevens) ≡ (0, 4, 0 ∷ 0 ∷ 0 ∷ 0 ∷ []))
    × (encoded [] sevens ≡ (10, 0, sevens))
unfolding decoded encoded outcome fault too_long own_fault odd runs_fault block_fault read_fault run_fault when ◌then◌ short accepted after padded over number_at from_le to_le words_at block_runs block_words word_bytes block_bytes
block-edges = (refl, refl, refl, refl, refl, refl, refl)
