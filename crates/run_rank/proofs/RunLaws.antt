-- Rank and select over a run list: what they mean, and one law for each way through the code.
use mathlib.Core.Path.{◌≡◌, refl, ap, ◌∙◌}
use mathlib.Core.Bool.{true, false, ◌&&◌, or-true}
use mathlib.Core.Logic.{⊎_elim}
use mathlib.Core.List.{List, [], ◌∷◌}
use Prim.Native.Nat.{ℕ, zero, suc, ◌+◌, ◌-◌, ◌*◌, ◌/◌, ◌%◌, ◌≤◌, ◌<◌}
use native.Mathlib.Omega.{arith}
use borrow.Author.Tests.{le-leb, lt-ltb, le-ltb}
use lib.Dec.{leb}
use lib.ListN.{length, get_or, drop}
use Rattle.fields.specs.Counting.{count_below}
use Rattle.fields.specs.Answers.{none}
use Rattle.fields.proofs.Tests.{split-le}
use Rattle.run_list.specs.Runs.{has, ValidFrom, Valid}
use Rattle.run_list.specs.Rising.{From, Rising}
use Rattle.run_list.specs.Rows.{rows, rows_below, upper_bound}
use Rattle.run_list.proofs.RowCalls.{below-count}
use Rattle.run_rank.specs.RunRanks.{directory_from, run_directory, run_select}
use Rattle.run_rank.specs.Inner.{rows_before}

-- ---- what the numbers mean. Rank is the number of listed rows below the position: `below-count` of run_list

-- no row is listed below the first start
pub below_none : (ws : List ℕ) (lo p : ℕ) → ValidFrom lo ws → p ≤ lo → rows_below ws p ≡ 0
below_none [] lo p v h = refl
below_none (s ∷ []) lo p v h = refl
below_none (s ∷ e ∷ ws) lo p v h = omega (arith, v.0, below_none ws (suc e) p v.2 (omega (arith, v.0, v.1)))

-- the row x, at least lo, is listed, with k rows below it
record Selected (ws : List ℕ) (lo k x : ℕ) : Type 0 where
  low : lo ≤ x
  listed : has ws x ≡ true
  count : rows_below ws x ≡ k

select-from : (ws : List ℕ) (lo k : ℕ) → ValidFrom lo ws → k < rows ws → Selected ws lo k (run_select ws k)
unfolding run_select
select-from [] lo k v h = absurd (omega arith)
select-from (s ∷ []) lo k v h = absurd (omega arith)
select-from (s ∷ e ∷ ws) lo k v h =
    ⊎_elim (λ t. rw t.0 (here t.1)) (λ t. rw t.0 (later (run_select ws (k - (e - s))) t.1 (select-from ws (suc e) (k - (e - s)) v.2 (omega (arith, t.1)))))
    (split-le (suc k) (e - s))
  where
    here : k < e - s → Selected (s ∷ e ∷ ws) lo k (s + k)
    here t =
        record {
          low = omega (arith, v.0);
          listed = rw (le-leb s (s + k) (omega arith), lt-ltb (s + k) e (omega arith));
          count = omega (arith, below_none ws (suc e) (s + k) v.2 (omega arith));
        }

    later : (x : ℕ) → e - s < suc k → Selected ws (suc e) (k - (e - s)) x → Selected (s ∷ e ∷ ws) lo k x
    later x t g =
        record {
          low = omega (arith, v.0, v.1, g.low);
          listed = rw (le-ltb x e (omega (arith, g.low)), g.listed) (or-true (leb s x && false));
          count = omega (arith, v.1, g.low, g.count);
        }

-- below the number of listed rows, select gives the listed row with k listed rows below it. No other row is so: `count-row` of fields
pub select_row : (ws : List ℕ) (k : ℕ) → Valid ws → k < rows ws → (has ws (run_select ws k) ≡ true) × (count_below (has ws) (run_select ws k) ≡ k)
select_row ws k v h =
    let g = select-from ws 0 k v h in
    (g.listed, omega (arith, g.count, below-count ws (run_select ws k) v))

-- from there on there is none
pub select-none : (ws : List ℕ) (k : ℕ) → length ws % 2 ≡ 0 → rows ws ≤ k → run_select ws k ≡ none
unfolding run_select
select-none [] k o h = refl
select-none (s ∷ []) k o h = refl
select-none (s ∷ e ∷ ws) k o h = rw (le-ltb k (e - s) (omega arith)) (select-none ws (k - (e - s)) (omega arith) (omega arith))

-- ---- the directory: its word for run i is the rows of the runs before it, and its last word the rows of all

length_from : (before : ℕ) (ws : List ℕ) → length (directory_from before ws) ≡ length ws / 2 + 1
unfolding directory_from
length_from before [] = refl
length_from before (s ∷ []) = refl
length_from before (s ∷ e ∷ ws) = omega (arith, length_from (before + (e - s)) ws)

-- "one word more than there are runs"
pub length-run_directory : (ws : List ℕ) → length (run_directory ws) ≡ length ws / 2 + 1
unfolding run_directory
length-run_directory ws = length_from 0 ws

entry-from : (ws : List ℕ) (before i : ℕ) → i ≤ length ws / 2 → get_or (directory_from before ws) i 0 ≡ before + rows_before i ws
unfolding directory_from rows_before
entry-from [] before zero h = omega arith
entry-from [] before (suc i) h = absurd (omega arith)
entry-from (s ∷ []) before zero h = omega arith
entry-from (s ∷ []) before (suc i) h = absurd (omega arith)
entry-from (s ∷ e ∷ ws) before zero h = omega arith
entry-from (s ∷ e ∷ ws) before (suc i) h = omega (arith, entry-from ws (before + (e - s)) i (omega arith))

pub entry-is : (ws : List ℕ) (i : ℕ) → i ≤ length ws / 2 → get_or (run_directory ws) i 0 ≡ rows_before i ws
unfolding run_directory
entry-is ws i h = entry-from ws 0 i h ∙ omega arith

-- the words of run j, past the first run
module _ (s e : ℕ) (ws : List ℕ) (j : ℕ) where
  pub start-past : get_or (s ∷ e ∷ ws) (2 * suc j) 0 ≡ get_or ws (2 * j) 0
  start-past = let p : 2 * suc j ≡ suc (suc (2 * j)) = omega arith in ap (λ (k : ℕ). get_or (s ∷ e ∷ ws) k 0) p

  end-past : get_or (s ∷ e ∷ ws) (2 * suc j + 1) 0 ≡ get_or ws (2 * j + 1) 0
  end-past = let p : 2 * suc j + 1 ≡ suc (suc (2 * j + 1)) = omega arith in ap (λ (k : ℕ). get_or (s ∷ e ∷ ws) k 0) p

pub before-next : (ws : List ℕ) (i : ℕ) → i < length ws / 2 → rows_before (suc i) ws ≡ rows_before i ws + (get_or ws (2 * i + 1) 0 - get_or ws (2 * i) 0)
unfolding rows_before
before-next [] i h = absurd (omega arith)
before-next (s ∷ []) i h = absurd (omega arith)
before-next (s ∷ e ∷ ws) zero h = omega arith
before-next (s ∷ e ∷ ws) (suc i) h = omega (arith, before-next ws i (omega arith), start-past s e ws i, end-past s e ws i)

pub before-le : (i : ℕ) (ws : List ℕ) → rows_before i ws ≤ rows ws
unfolding rows_before
before-le zero ws = omega arith
before-le (suc i) [] = omega arith
before-le (suc i) (s ∷ []) = omega arith
before-le (suc i) (s ∷ e ∷ ws) = omega (arith, before-le i ws)

before-all : (ws : List ℕ) → rows_before (length ws / 2) ws ≡ rows ws
unfolding rows_before
before-all [] = refl
before-all (s ∷ []) = refl
before-all (s ∷ e ∷ ws) = let p : length (s ∷ e ∷ ws) / 2 ≡ suc (length ws / 2) = omega arith in rw p (omega (arith, before-all ws))

-- "the last being the total": the rows of all runs
pub total-rows : (ws : List ℕ) → get_or (run_directory ws) (length ws / 2) 0 ≡ rows ws
total-rows ws = entry-is ws (length ws / 2) (omega arith) ∙ before-all ws

-- no run is empty, so that the words rise
rising-from : (ws : List ℕ) (lo before from : ℕ) → ValidFrom lo ws → from ≤ before → From from (directory_from before ws)
unfolding directory_from
rising-from [] lo before from v h = (h, tt)
rising-from (s ∷ []) lo before from v h = (h, tt)
rising-from (s ∷ e ∷ ws) lo before from v h = (h, rising-from ws (suc e) (before + (e - s)) (suc before) v.2 (omega (arith, v.1)))

pub directory-rising : (ws : List ℕ) → Valid ws → Rising (run_directory ws)
unfolding run_directory
directory-rising ws v = rising-from ws 0 0 0 v (omega arith)

-- ---- rank: of the runs, half as many as there are words at most p end by p, and the next one may have begun

pub below-ended : (ws : List ℕ) (lo p : ℕ) → ValidFrom lo ws → upper_bound p ws ≡ length ws → rows_below ws p ≡ rows_before (length ws / 2) ws
unfolding rows_before
below-ended [] lo p v h = refl
below-ended (s ∷ []) lo p v h = absurd v
below-ended (s ∷ e ∷ ws) lo p v h =
    let z : length (s ∷ e ∷ ws) / 2 ≡ suc (length ws / 2) = omega arith in
    ⊎_elim
    (λ t. ⊎_elim (λ u. rw z (omega (arith, u.1, below-ended ws (suc e) p v.2 (omega (arith, rw (t.0, u.0) at h))))) (λ u. absurd (omega (arith, rw (t.0, u.0) at h))) (split-le e p))
    (λ t. absurd (omega (arith, rw t.0 at h))) (split-le s p)

pub below-begun : (ws : List ℕ) (lo p : ℕ) → ValidFrom lo ws → upper_bound p ws < length ws
    → rows_below ws p ≡ rows_before (upper_bound p ws / 2) ws + (p - get_or ws (2 * (upper_bound p ws / 2)) 0)
unfolding rows_before
below-begun [] lo p v h = absurd (omega arith)
below-begun (s ∷ []) lo p v h = absurd v
below-begun (s ∷ e ∷ ws) lo p v h =
    ⊎_elim
    (λ t. ⊎_elim
    (λ u. rw (t.0, u.0) (later (upper_bound p ws) t.1 u.1 (below-begun ws (suc e) p v.2 (omega (arith, rw (t.0, u.0) at h)))))
    (λ u. rw (t.0, u.0) (omega (arith, t.1, u.1, below_none ws (suc e) p v.2 (omega (arith, u.1))))) (split-le e p))
    (λ t. rw t.0 (omega (arith, t.1, below_none ws (suc e) p v.2 (omega (arith, t.1, v.1))))) (split-le s p)
  where
    later : (n : ℕ) → s ≤ p → e ≤ p → rows_below ws p ≡ rows_before (n / 2) ws + (p - get_or ws (2 * (n / 2)) 0)
        → rows_below (s ∷ e ∷ ws) p ≡ rows_before (suc (suc n) / 2) (s ∷ e ∷ ws) + (p - get_or (s ∷ e ∷ ws) (2 * (suc (suc n) / 2)) 0)
    later n a b ih =
        let z : suc (suc n) / 2 ≡ suc (n / 2) = omega arith in
        rw (z, start-past s e ws (n / 2)) (omega (arith, ih, a, b))

-- ---- select: the last run with no more than k rows before it is run j

directory-first : (before : ℕ) (ws : List ℕ) → directory_from before ws ≡ before ∷ drop 1 (directory_from before ws)
unfolding directory_from
directory-first before [] = refl
directory-first before (s ∷ []) = refl
directory-first before (s ∷ e ∷ ws) = refl

module _ (ws : List ℕ) (before k : ℕ) where
  first-above : upper_bound k (directory_from before ws) ≡ 0 → k < before
  first-above h = ⊎_elim (λ t. absurd (omega (arith, rw (directory-first before ws, t.0) at h))) (λ t. t.1) (split-le before k)

  first-le : (j : ℕ) → upper_bound k (directory_from before ws) ≡ suc j → before ≤ k
  first-le j h = ⊎_elim (λ t. t.1) (λ t. absurd (omega (arith, rw (directory-first before ws, t.0) at h))) (split-le before k)

-- the first word is 0, so that some run has begun
pub select-begun : (ws : List ℕ) (k : ℕ) → 0 < upper_bound k (run_directory ws)
unfolding run_directory
select-begun ws k = ⊎_elim (λ t. t.1) (λ t. absurd (omega (arith, first-above ws 0 k (omega (arith, t.1))))) (split-le 1 (upper_bound k (directory_from 0 ws)))

pub select-run : (ws : List ℕ) (before k j : ℕ) → j < length ws / 2 → upper_bound k (directory_from before ws) ≡ suc j
    → run_select ws (k - before) ≡ get_or ws (2 * j) 0 + (k - (before + rows_before j ws))
unfolding directory_from run_select rows_before
select-run [] before k j l h = absurd (omega arith)
select-run (s ∷ []) before k j l h = absurd (omega arith)
select-run (s ∷ e ∷ ws) before k zero l h =
    let b = first-le (s ∷ e ∷ ws) before k zero h in
    let a = first-above ws (before + (e - s)) k (omega (arith, rw (le-leb before k b) at h)) in
    rw (lt-ltb (k - before) (e - s) (omega (arith, a, b))) (omega arith)
select-run (s ∷ e ∷ ws) before k (suc j) l h =
    let b = first-le (s ∷ e ∷ ws) before k (suc j) h in
    let g : upper_bound k (directory_from (before + (e - s)) ws) ≡ suc j = omega (arith, rw (le-leb before k b) at h) in
    let w = first-le ws (before + (e - s)) k j g in
    let x : k - before - (e - s) ≡ k - (before + (e - s)) = omega arith in
    let y : before + (e - s) + rows_before j ws ≡ before + ((e - s) + rows_before j ws) = omega arith in
    rw (le-ltb (k - before) (e - s) (omega (arith, w)), x, start-past s e ws j, ← y) (select-run ws (before + (e - s)) k j (omega arith) g)

-- run j has more rows than are between k and the rows before it
pub select-width : (ws : List ℕ) (before k j : ℕ) → j < length ws / 2 → upper_bound k (directory_from before ws) ≡ suc j
    → k - (before + rows_before j ws) < get_or ws (2 * j + 1) 0 - get_or ws (2 * j) 0
unfolding directory_from rows_before
select-width [] before k j l h = absurd (omega arith)
select-width (s ∷ []) before k j l h = absurd (omega arith)
select-width (s ∷ e ∷ ws) before k zero l h =
    let b = first-le (s ∷ e ∷ ws) before k zero h in
    omega (arith, b, first-above ws (before + (e - s)) k (omega (arith, rw (le-leb before k b) at h)))
select-width (s ∷ e ∷ ws) before k (suc j) l h =
    let b = first-le (s ∷ e ∷ ws) before k (suc j) h in
    let y : before + (e - s) + rows_before j ws ≡ before + ((e - s) + rows_before j ws) = omega arith in
    rw (start-past s e ws j, end-past s e ws j, ← y) (select-width ws (before + (e - s)) k j (omega arith) (omega (arith, rw (le-leb before k b) at h)))
