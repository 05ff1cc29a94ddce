-- What the directory means, in listed rows; and which directories are accepted.
use mathlib.Core.Path.{◌≡◌, refl, sym, ◌∙◌}
use mathlib.Core.Bool.{false}
use mathlib.Core.Logic.{⊎_elim}
use mathlib.Core.List.{List, [], ◌∷◌}
use Prim.Native.Nat.{ℕ, zero, suc, ◌+◌, ◌*◌, ◌/◌, ◌^◌, ◌≤◌, ◌<◌}
use native.Mathlib.Omega.{arith}
use lib.ListN.{length, take, get_or}
use lib.Seq.{ext_get_or}
use Rattle.fields.specs.Answers.{none}
use Rattle.fields.specs.declared.outcome.Answer.{Answer}
use Rattle.fields.proofs.Refusals.{front-none, rest-none, then-none}
use Rattle.fields.proofs.Answers.{gives-result}
use Rattle.fields.proofs.Directories.{compare-length, other-found, directory-right, right-directory}
use Rattle.fields.proofs.Tests.{split-le}
use Rattle.run_list.specs.Runs.{ValidFrom, Valid, fault}
use Rattle.run_list.specs.Rising.{All}
use Rattle.run_list.specs.Rows.{rows_below}
use Rattle.run_list.proofs.Boundaries.{valid-from}
use Rattle.run_list.proofs.Places.{from-get_or}
use Rattle.run_list.proofs.RowCalls.{below-count, rows-count}
use Rattle.run_list.proofs.Validity.{fault-accepted}
use Rattle.run_rank.specs.RunRanks.{run_directory, directory_from, directory_fault, Directory}
use Rattle.run_rank.specs.Meaning.{CountsRows}
use Rattle.run_rank.specs.Inner.{rows_before}
use Rattle.run_rank.proofs.RunLaws.{below_none, length-run_directory, entry-is, start-past, total-rows}

-- the rows of the first i runs are those below the start of run i
before-start : (ws : List ℕ) (lo i : ℕ) → ValidFrom lo ws → i < length ws / 2 → rows_before i ws ≡ rows_below ws (get_or ws (2 * i) 0)
unfolding rows_before
before-start [] lo i v h = absurd (omega arith)
before-start (s ∷ []) lo i v h = absurd v
before-start (s ∷ e ∷ ws) lo zero v h = omega (arith, below_none ws (suc e) s v.2 (omega (arith, v.1)))
before-start (s ∷ e ∷ ws) lo (suc i) v h =
    let above = from-get_or (suc e) ws (2 * i) (valid-from ws (suc e) v.2) (omega arith) in
    rw (start-past s e ws i) (omega (arith, above, before-start ws (suc e) i v.2 (omega arith)))

small-none : (ws : List ℕ) → All (λ w. w < 2 ^ 64) ws → All (λ w. w ≤ none) ws
small-none [] h = tt
small-none (x ∷ ws) h = (omega (arith, h.0), small-none ws h.1)

module _ (ws : List ℕ) (v : Valid ws) (h : All (λ w. w < 2 ^ 64) ws) where
  -- "one word more than there are runs, the last being the total"; the others are the rows in the runs before each
  pub directory-counts : CountsRows ws (run_directory ws)
  directory-counts =
      record {
        words = length-run_directory ws;
        before = λ i l. entry-is ws i (omega arith) ∙ before-start ws 0 i v l ∙ below-count ws (get_or ws (2 * i) 0) v;
        total = total-rows ws ∙ rows-count ws none v (small-none ws h);
      }

  -- and no other list is so
  pub counts-directory : (directory : List ℕ) → CountsRows ws directory → directory ≡ run_directory ws
  counts-directory directory c = ext_get_or 0 directory (run_directory ws) (c.words ∙ sym d.words) each
    where
      d : CountsRows ws (run_directory ws)
      d = directory-counts

      each : (i : ℕ) → i < length directory → get_or directory i 0 ≡ get_or (run_directory ws) i 0
      each i l =
          ⊎_elim
          (λ t. c.before i t.1 ∙ sym (d.before i t.1))
          (λ t. let e : i ≡ length ws / 2 = omega (arith, t.1, c.words) in rw e (c.total ∙ sym d.total)) (split-le (suc i) (length ws / 2))

-- "For no runs it is the single word 0"
pub directory_empty : run_directory [] ≡ 0 ∷ []
unfolding run_directory directory_from
directory_empty = refl

-- ---- the calls

-- what `from_runs` leaves
pub built-counts : (ws before out : List ℕ) (r : Answer) → All (λ w. w < 2 ^ 64) ws → Directory ws before r out → r.refusal ≡ 0 → CountsRows ws (take r.len out)
built-counts ws before out r h d z =
    rw (gives-result _ (run_directory ws) 0 before r out d z) (directory-counts ws (fault-accepted ws (front-none _ _ (sym d.refusal ∙ z))).valid h)

-- the directories that `rank`, `select` and `rank_and_contains` accept
module _ (ws directory : List ℕ) where
  pub accepted-runs : directory_fault ws directory ≡ 0 → fault ws ≡ 0
  unfolding directory_fault
  accepted-runs z = front-none _ _ z

  pub accepted-directory : directory_fault ws directory ≡ 0 → directory ≡ run_directory ws
  unfolding directory_fault
  accepted-directory z = directory-right directory (run_directory ws) (rest-none _ _ z)

  pub directory-accepted : fault ws ≡ 0 → directory ≡ run_directory ws → directory_fault ws directory ≡ 0
  unfolding directory_fault
  directory-accepted z e = then-none _ _ z ∙ rw e (right-directory (run_directory ws))

  -- "An old directory no longer matches and gives 9": one that has not just one word more than there are runs
  pub old-directory : fault ws ≡ 0 → (length directory ≡ length ws / 2 + 1 → ⊥) → directory_fault ws directory ≡ 9
  unfolding directory_fault
  old-directory z h =
      then-none _ _ z ∙ sym (other-found directory (run_directory ws) false (compare-length directory (run_directory ws) (length ws / 2 + 1) (sym (length-run_directory ws)) h) refl)
