-- The calls over a run list, one law for each way through the code.
use mathlib.Core.Path.{◌≡◌, refl, sym, ap, ◌∙◌}
use mathlib.Core.Bool.{Bool, true, false}
use mathlib.Core.List.{List, map}
use Prim.Native.Nat.{ℕ, suc, ◌+◌, ◌-◌, ◌*◌, ◌/◌, ◌%◌, ◌^◌, ◌≤◌, ◌<◌}
use native.Mathlib.Nat.{zero-add, sub-zero}
use native.Mathlib.Omega.{arith}
use borrow.Author.Tests.{eqb-true}
use lib.Dec.{eqb}
use lib.ListN.{length, get_or}
use lib.Seq.{sets}
use mir.Val.{Fits}
use mir.Syntax.{w64}
use Rattle.std.specs.Prelude.{Some, None}
use Rattle.fields.specs.Refusal.{◌then◌, refusal_number}
use Rattle.fields.specs.declared.outcome.Refusal.{Refusal}
use Rattle.fields.specs.declared.outcome.Answer.{Answer}
use Rattle.fields.specs.Counting.{bit}
use Rattle.fields.specs.Limits.{max_words}
use Rattle.fields.specs.Answers.{option_of, short, Gives, Writes}
use Rattle.fields.specs.Directory.{same, other_directory}
use Rattle.fields.proofs.Refusals.{refusal_some, then-none, found_first, found-next}
use Rattle.fields.proofs.Answers.{gives-refused, judged-refused, judged-writes, call-full, call-done, option-some, option-none}
use Rattle.fields.proofs.Counting.{count-le}
use Rattle.fields.proofs.Directories.{other-found}
use Rattle.fields.proofs.Storing.{map-length}
use Rattle.run_list.specs.Runs.{has, Valid, fault}
use Rattle.run_list.specs.Rows.{rows_below, upper_bound}
use Rattle.run_list.specs.Places.{place, ended}
use Rattle.run_list.specs.declared.place.Place.{Place}
use Rattle.run_list.specs.Search.{searched}
use Rattle.run_list.proofs.Validity.{valid-even, fault-accepted}
use Rattle.run_list.proofs.Places.{upper_bound-le, upper_bound-front, ended-place}
use Rattle.run_list.proofs.Searching.{searched-rising}
use Rattle.run_list.proofs.PlaceLaws.{begun-all, begun-listed}
use Rattle.run_list.proofs.RowCalls.{below-count}
use Rattle.run_rank.specs.RunRanks.{directory_from, run_directory, run_select, directory_fault, Directory, Ranks, Selects}
use Rattle.run_rank.specs.Inner.{rows_before}
use Rattle.run_rank.proofs.RunLaws.{length-run_directory, entry-is, total-rows, directory-rising, below-ended, below-begun, select-none, select-begun, select-run, select-width}
use Rattle.run_rank.proofs.DirectoryCalls.{entries, other-none}

-- ---- a run list with its directory

module _ (ws directory : List ℕ) where
  pub index-refused : (e : Refusal) → refusal_number e ≡ fault ws → refusal_number e ≡ directory_fault ws directory
  unfolding directory_fault
  index-refused e d = found_first _ _ _ d (refusal_some e)

  -- t is whether the runs and the directory have no fault
  module _ (t : Bool) (e : t ≡ eqb (directory_fault ws directory) 0) where
    pub index-found : t ≡ true → directory_fault ws directory ≡ 0
    index-found h = eqb-true (directory_fault ws directory) 0 (sym e ∙ h)

    -- if the runs have none, the directory is another one
    pub index-other : t ≡ false → 0 ≡ fault ws → 9 ≡ directory_fault ws directory
    unfolding directory_fault other_directory
    index-other h z =
        let other : false ≡ same directory (run_directory ws) = sym h ∙ e ∙ ap (λ (n : ℕ). eqb n 0) (then-none _ _ (sym z)) ∙ other-none (same directory (run_directory ws)) in
        found-next _ _ 0 9 z refl (other-found directory (run_directory ws) false other refl)

-- ---- the calls: l are the runs once they are judged and indexed

module _ (ws out : List ℕ) where
  pub directory-refused : (e : Refusal) → refusal_number e ≡ fault ws → Directory ws out (record { refusal = refusal_number e; len = 0 }) out
  directory-refused e d = judged-refused _ _ out e d

  module _ (z : 0 ≡ fault ws) where
    pub directory-full : length out < length ws / 2 + 1 → Directory ws out (record { refusal = 10; len = 0 }) out
    directory-full h = call-full _ _ _ out 0 z refl (length ws / 2 + 1) (entries ws) h

    pub directory-done : length ws / 2 + 1 ≤ length out → (l : List ℕ) → l ≡ ws → (out' : List ℕ) → out' ≡ sets out 0 (run_directory l)
        → Directory ws out (record { refusal = 0; len = length ws / 2 + 1 }) out'
    directory-done h l el out' w = call-done _ _ _ out 0 z refl (length ws / 2 + 1) (entries ws) h (entries ws) out' (w ∙ rw el)

module _ (ws directory ps out : List ℕ) where
  pub rank-refused : (e : Refusal) → refusal_number e ≡ directory_fault ws directory → Ranks ws directory ps out (record { refusal = refusal_number e; len = 0 }) out
  rank-refused e d = gives-refused _ _ 0 out (refusal_number e) (found_first _ _ _ d (refusal_some e)) (refusal_some e)

  pub select-refused : (e : Refusal) → refusal_number e ≡ directory_fault ws directory → Selects ws directory ps out (record { refusal = refusal_number e; len = 0 }) out
  select-refused e d = gives-refused _ _ 0 out (refusal_number e) (found_first _ _ _ d (refusal_some e)) (refusal_some e)

  module _ (z : 0 ≡ directory_fault ws directory) (l : List ℕ) (el : l ≡ ws) (r : Answer) (out' : List ℕ) where
    looked-up : (g : ℕ → ℕ) → Writes (map g ps) out r out' → Gives (directory_fault ws directory then short (length ps) (length out)) (map g ps) 0 out r out'
    looked-up g w = rw (← map-length g ps) at (judged-writes _ _ out (sym z) r out' w)

    pub rank-done : Writes (map (rows_below l) ps) out r out' → Ranks ws directory ps out r out'
    rank-done w = looked-up (rows_below ws) (rw el at w)

    pub select-done : Writes (map (run_select l) ps) out r out' → Selects ws directory ps out r out'
    select-done w = looked-up (run_select ws) (rw el at w)

-- ---- one position

module _ (ws : List ℕ) (a : fault ws ≡ 0) where
  valid : Valid ws
  valid = (fault-accepted ws a).valid

  pub pairs : length ws % 2 ≡ 0
  pairs = valid-even ws 0 valid

  pub limit : length ws ≤ max_words
  limit = (fault-accepted ws a).limit

  module _ (directory : List ℕ) (d : directory ≡ run_directory ws) where
    pub size : length directory ≡ length ws / 2 + 1
    size = ap length d ∙ length-run_directory ws

    -- found is the place of the position p
    module _ (p : ℕ) (found : Place) (placed : found ≡ place ws p) where
      pub begun-few : 2 * found.begun ≤ length ws
      begun-few = omega (arith, ap (λ (q : Place). q.begun) placed, begun-all ws p valid, pairs)

      pub begun-some : bit found.listed ≤ found.begun
      begun-some = rw (ap (λ (q : Place). q.listed) placed, ap (λ (q : Place). q.begun) placed) (begun-listed ws p valid)

      -- m runs end at the position or below it
      module _ (m : ℕ) (s : m ≡ ended found) where
        e : m ≡ upper_bound p ws / 2
        e = s ∙ ap ended placed ∙ ended-place ws p valid

        before : get_or directory m 0 ≡ rows_before m ws
        before = rw d (entry-is ws m (omega (arith, e, upper_bound-le p ws)))

        -- all runs end by then
        pub rank-total : 2 * m ≡ length ws → get_or directory m 0 ≡ rows_below ws p
        rank-total z =
            let half : m ≡ length ws / 2 = omega (arith, z) in
            before ∙ rw half (sym (below-ended ws 0 p valid (omega (arith, z, e, upper_bound-le p ws))))

        module _ (h : 2 * m ≡ length ws → ⊥) where
          pub rank_is : get_or directory m 0 + (p - get_or ws (2 * m) 0) ≡ rows_below ws p
          rank_is = rw (before, e) (sym (below-begun ws 0 p valid (omega (arith, h, e, upper_bound-le p ws, pairs))))

          -- no more rows are listed below p than there are
          pub rank-fits : Fits w64 p → Fits w64 (get_or directory m 0 + (p - get_or ws (2 * m) 0))
          rank-fits b = record { fits = omega (arith, rank_is, below-count ws p valid, count-le (has ws) p, b.fits) }

    -- n words of the directory are at most k
    module _ (k n : ℕ) (s : n ≡ searched k directory) where
      count : n ≡ upper_bound k (run_directory ws)
      count = s ∙ rw d (searched-rising (run_directory ws) k (directory-rising ws valid))

      pub select-first : 1 ≤ n
      select-first = omega (arith, count, select-begun ws k)

      pub select-place : n - 1 < length directory
      select-place = omega (arith, select-first, count, upper_bound-le k (run_directory ws), ap length d)

      pub select-order : get_or directory (n - 1) 0 ≤ k
      select-order = rw d (upper_bound-front k (run_directory ws) (n - 1) (omega (arith, select-first, count)))

      -- the total is at most k
      pub select-past : n ≡ length directory → None ≡ option_of (run_select ws k)
      select-past z =
          let i : n - 1 ≡ length ws / 2 = omega (arith, z, size) in
          option-none _ (sym (select-none ws k pairs (omega (arith, rw (i, d) at select-order, total-rows ws))))

      module _ (h : n ≡ length directory → ⊥) where
        in-runs : n - 1 < length ws / 2
        in-runs = omega (arith, h, size, select-place, select-first)

        pub run-place : 2 * (n - 1) < length ws
        run-place = omega (arith, in-runs)

        begun : upper_bound k (directory_from 0 ws) ≡ suc (n - 1)
        unfolding run_directory
        begun = omega (arith, select-first, count)

        entry : get_or directory (n - 1) 0 ≡ rows_before (n - 1) ws
        entry = rw d (entry-is ws (n - 1) (omega (arith, in-runs)))

        select-here : get_or ws (2 * (n - 1)) 0 + (k - get_or directory (n - 1) 0) ≡ run_select ws k
        select-here = rw entry (sym (rw (sub-zero k, zero-add (rows_before (n - 1) ws)) at (select-run ws 0 k (n - 1) in-runs begun)))

        row-end : get_or ws (2 * (n - 1)) 0 + (k - get_or directory (n - 1) 0) < get_or ws (2 * (n - 1) + 1) 0
        row-end = rw entry (omega (arith, rw (zero-add (rows_before (n - 1) ws)) at (select-width ws 0 k (n - 1) in-runs begun)))

        -- a row is below its run's end, and so it fits and is not the mark for none
        module _ (small : (i : ℕ) → get_or ws i 0 < 2 ^ 64) where
          pub select-fits : Fits w64 (get_or ws (2 * (n - 1)) 0 + (k - get_or directory (n - 1) 0))
          select-fits = record { fits = omega (arith, row-end, small (2 * (n - 1) + 1)) }

          pub select-found : Some (get_or ws (2 * (n - 1)) 0 + (k - get_or directory (n - 1) 0)) ≡ option_of (run_select ws k)
          select-found = option-some _ _ select-here (λ z. omega (arith, z, row-end, small (2 * (n - 1) + 1)))
