-- Rank and select over a run list (document 01, "Rank and select", `RankSelect`).
use Rattle.std.specs.Prelude.{◌≡◌, refl, cond, List, [], ◌∷◌, map, ℕ, ◌+◌, ◌-◌, ltb, length}
use Rattle.fields.specs.Refusal.{when, ◌then◌}
use Rattle.fields.specs.Counting.{bit}
use Rattle.fields.specs.Answers.{none, short, short2, Gives, Gives2}
use Rattle.fields.specs.Directory.{same, other_directory}
use Rattle.fields.specs.declared.outcome.Answer.{Answer}
use Rattle.fields.specs.Limits.{too_long}
use Rattle.run_list.specs.Runs.{has, run_fault, runs_fault, odd, own_fault, fault}
use Rattle.run_list.specs.Rows.{rows_below}

-- per run the rows in the runs before it, counted on from before; then the rows in all runs
unfoldable pub directory_from : ℕ → List ℕ → List ℕ
directory_from before [] = before ∷ []
directory_from before (s ∷ []) = before ∷ []
directory_from before (s ∷ e ∷ ws) = before ∷ directory_from (before + (e - s)) ws

-- "The directory has one word per run: rows in the runs before it", and then "one word more than there are runs, the last being the total. For no runs it is the
-- single word 0" (REQUESTS.md, job 4)
unfoldable pub run_directory : List ℕ → List ℕ
unfolding directory_from
run_directory runs = directory_from 0 runs

-- "`select(k)` is the listed row with exactly k listed rows below it": the row k places into the runs, none where they have no more than k rows
unfoldable pub run_select : List ℕ → ℕ → ℕ
run_select [] k = none
run_select (s ∷ []) k = none
run_select (s ∷ e ∷ ws) k = cond (ltb k (e - s)) (s + k) (run_select ws (k - (e - s)))

-- ---- the calls

-- `from_runs`
abbrev pub Directory : List ℕ → List ℕ → Answer → List ℕ → Type 0
Directory runs before r out = Gives (fault runs then short (length (run_directory runs)) (length before)) (run_directory runs) 0 before r out

-- 1 and the list's own faults, then 9
unfoldable pub directory_fault : List ℕ → List ℕ → ℕ
unfolding run_directory
directory_fault runs directory = fault runs then other_directory directory (run_directory runs)

-- `rank`: "the number of listed rows below p, p not included" is `rows_below runs p`
abbrev pub Ranks : List ℕ → List ℕ → List ℕ → List ℕ → Answer → List ℕ → Type 0
Ranks runs directory positions before r out =
    Gives (directory_fault runs directory then short (length positions) (length before)) (map (rows_below runs) positions) 0 before r out

-- `select`
abbrev pub Selects : List ℕ → List ℕ → List ℕ → List ℕ → Answer → List ℕ → Type 0
Selects runs directory positions before r out =
    Gives (directory_fault runs directory then short (length positions) (length before)) (map (run_select runs) positions) 0 before r out

-- `rank_and_contains`: "also writes 1 or 0 per position in a second list"; its length is "the words of one list"
abbrev pub RanksAndContains : List ℕ → List ℕ → List ℕ → List ℕ → List ℕ → Answer → List ℕ → List ℕ → Type 0
RanksAndContains runs directory positions before before₂ r out out₂ =
    Gives2 (directory_fault runs directory then short2 (length positions) (length before) (length before₂)) (map (rows_below runs) positions) (map (λ p. bit (has runs p)) positions) 0 before before₂ r out out₂

-- document 01's table, rows 9 and 10; no runs; a run up to 2^64 - 1; a directory of other runs, one without its total, one with the total of all runs but the
-- last, one with the total in front, none for no runs
examples : (map (rows_below (2 ∷ 4 ∷ 7 ∷ 8 ∷ [])) (0 ∷ 2 ∷ 3 ∷ 4 ∷ 8 ∷ []) ≡ 0 ∷ 0 ∷ 1 ∷ 2 ∷ 3 ∷ [])
    × (map (run_select (2 ∷ 4 ∷ 7 ∷ 8 ∷ [])) (0 ∷ 1 ∷ 2 ∷ 3 ∷ []) ≡ 2 ∷ 3 ∷ 7 ∷ none ∷ [])
    × (run_directory (2 ∷ 4 ∷ 7 ∷ 8 ∷ []) ≡ 0 ∷ 2 ∷ 3 ∷ [])
    × (run_directory [] ≡ 0 ∷ [])
    × (map (rows_below []) (0 ∷ 5 ∷ []) ≡ 0 ∷ 0 ∷ [])
    × (map (run_select []) (0 ∷ 5 ∷ []) ≡ none ∷ none ∷ [])
    × (map (rows_below (0 ∷ 18446744073709551615 ∷ [])) (5 ∷ 18446744073709551615 ∷ []) ≡ 5 ∷ 18446744073709551615 ∷ [])
    × (map (run_select (0 ∷ 18446744073709551615 ∷ [])) (18446744073709551614 ∷ 18446744073709551615 ∷ []) ≡ 18446744073709551614 ∷ none ∷ [])
    × (run_directory (0 ∷ 18446744073709551615 ∷ []) ≡ 0 ∷ 18446744073709551615 ∷ [])
    × (directory_fault (2 ∷ 4 ∷ 7 ∷ 8 ∷ []) (0 ∷ 3 ∷ 4 ∷ []) ≡ 9)
    × (directory_fault (2 ∷ 4 ∷ 7 ∷ 8 ∷ []) (0 ∷ 2 ∷ []) ≡ 9)
    × (directory_fault (2 ∷ 4 ∷ 7 ∷ 8 ∷ []) (0 ∷ 2 ∷ 2 ∷ []) ≡ 9)
    × (directory_fault (2 ∷ 4 ∷ 7 ∷ 8 ∷ []) (3 ∷ 0 ∷ 2 ∷ []) ≡ 9)
    × (directory_fault [] [] ≡ 9)
    × (directory_fault (2 ∷ 4 ∷ 7 ∷ 7 ∷ []) (0 ∷ 3 ∷ []) ≡ 3)
unfolding run_directory directory_from run_select directory_fault fault too_long own_fault odd runs_fault run_fault other_directory same when ◌then◌
examples = (refl, refl, refl, refl, refl, refl, refl, refl, refl, refl, refl, refl, refl, refl, refl)
