-- Building a directory, and judging runs and comparing their directory: one law for each way through the code.
use mathlib.Core.Path.{◌≡◌, refl, sym, ◌∙◌}
use mathlib.Core.Bool.{Bool, true, false, not, true≢false}
use mathlib.Core.List.{List}
use Prim.Native.Nat.{ℕ, suc, ◌+◌, ◌-◌, ◌*◌, ◌/◌, ◌%◌, ◌≤◌, ◌<◌}
use native.Mathlib.Numerals.{add-one}
use native.Mathlib.Omega.{arith}
use borrow.Author.Tests.{eq-eqb, ne_eqb, eqb-true}
use lib.Dec.{eqb}
use lib.ListN.{length, get_or}
use mir.Val.{Fits}
use mir.Syntax.{w64}
use Rattle.std.specs.Prelude.{Option, Some, None, Result}
use Rattle.std.specs.Result.{is_ok}
use Rattle.fields.specs.Refusal.{when, refusal_of}
use Rattle.fields.specs.declared.outcome.Refusal.{Refusal}
use Rattle.fields.specs.Limits.{max_words}
use Rattle.fields.specs.Directory.{same, other_directory}
use Rattle.fields.proofs.Refusals.{then-none, ok-number, err-number}
use Rattle.fields.proofs.Counted.{Entries, Filling, filling-start, Checking, checking-start, checking-next, checking-other, checking-end}
use Rattle.fields.proofs.Directories.{compare-length, is_same}
use Rattle.run_list.specs.Calls.{above}
use Rattle.run_list.specs.Runs.{run_fault, fault}
use Rattle.run_list.proofs.Boundaries.{valid-from}
use Rattle.run_list.proofs.Judging.{Judged, judged-start, judged-next, judged-fault, judged-end, own-found, fault-own}
use Rattle.run_list.proofs.RowCalls.{rises_next, rows_fit}
use Rattle.run_list.proofs.Validity.{run-low, run-some, valid-even, valid-runs, fault-accepted}
use Rattle.run_rank.specs.RunRanks.{run_directory, directory_fault}
use Rattle.run_rank.specs.Inner.{rows_before}
use Rattle.run_rank.proofs.RunLaws.{length-run_directory, entry-is, before-next, before-le}
use Rattle.run_rank.proofs.DirectoryLaws.{accepted-runs, accepted-directory}

-- ---- the directory, entry by entry

module _ (ws : List ℕ) where
  pub entries : length ws / 2 + 1 ≡ length (run_directory ws)
  entries = sym (length-run_directory ws)

  pub counted : Entries (run_directory ws) (length ws / 2 + 1) (λ i. rows_before i ws)
  unfolding rows_before
  counted = record { size = entries; first = refl; each = λ i h. sym (entry-is ws i (omega arith)) }

  pub other_length : (given : List ℕ) → (length given ≡ length ws / 2 + 1 → ⊥) → false ≡ same given (run_directory ws)
  other_length given = compare-length given (run_directory ws) (length ws / 2 + 1) counted.size

  module _ (i before : ℕ) (h : i < length ws / 2) (e : before ≡ rows_before i ws) where
    pub entry_next : before + (get_or ws (2 * i + 1) 0 - get_or ws (2 * i) 0) ≡ rows_before (i + 1) ws
    entry_next = rw (add-one i) (omega (arith, before-next ws i h))

    module _ (a : fault ws ≡ 0) where
      pub entry-order : get_or ws (2 * i) 0 ≤ get_or ws (2 * i + 1) 0
      entry-order = omega (arith, rises_next 0 ws (2 * i) (valid-from ws 0 (fault-accepted ws a).valid) (omega arith))

      pub entry-fits : ((j : ℕ) → Fits w64 (get_or ws j 0)) → Fits w64 (before + (get_or ws (2 * i + 1) 0 - get_or ws (2 * i) 0))
      entry-fits b =
          record { fits = omega (arith, before-next ws i h, before-le (suc i) ws, rows_fit ws (fault-accepted ws a).valid b) }

-- built and compared entry by entry: the runs before run i are passed, and w is the rows in them
pub record Fills (ws before : List ℕ) (i w : ℕ) (out : List ℕ) : Type 0 where
  pub filling : Filling (run_directory ws) (length ws / 2 + 1) (λ j. rows_before j ws) before i w out

pub record Checks (ws given : List ℕ) (i w : ℕ) : Type 0 where
  pub checking : Checking (run_directory ws) (length ws / 2 + 1) (λ j. rows_before j ws) given i w

module _ (ws : List ℕ) where
  pub fills-start : (before : List ℕ) → length ws / 2 < length before → Fills ws before 0 0 before
  fills-start before h = record { filling = filling-start _ _ _ before (counted ws) (omega arith) }

  pub checks-start : (given : List ℕ) → length given ≡ length ws / 2 + 1 → Checks ws given 0 0
  checks-start given h = record { checking = checking-start _ _ _ given (counted ws) h }

  module _ (given : List ℕ) (i w : ℕ) (m : Checks ws given i w) where
    pub checks-next : i < length ws / 2 → get_or given i 0 ≡ w → (y : ℕ) → y ≡ rows_before (i + 1) ws → Checks ws given (i + 1) y
    checks-next h k y e = record { checking = checking-next _ _ _ given i w m.checking (omega arith) k y e }

    pub checks-other : i < length ws / 2 → (get_or given i 0 ≡ w → ⊥) → false ≡ same given (run_directory ws)
    checks-other h k = checking-other _ _ _ given i w m.checking (omega arith) k

    -- the total is compared last
    pub checks-end : i ≡ length ws / 2 → (t : Bool) → t ≡ eqb (get_or given i 0) w → t ≡ same given (run_directory ws)
    checks-end h true e = checking-end _ _ _ given (i + 1) _ (checking-next _ _ _ given i w m.checking (omega arith) (eqb-true _ _ (sym e)) _ refl) (omega arith)
    checks-end h false e = checking-other _ _ _ given i w m.checking (omega arith) (λ k. true≢false (sym (eq-eqb _ _ k) ∙ sym e))

-- ---- judged and compared in one pass

-- the runs before run i have no fault, and no more rows than there are numbers below the next start
pub record Indexing (ws given : List ℕ) (i : ℕ) (last : Option ℕ) (w : ℕ) : Type 0 where
  pub judged : Judged ws (length ws / 2) i last
  pub checks : Checks ws given i w
  pub below : w ≤ above last

-- 9 is no fault where the directories are the same
pub other-none : (t : Bool) → eqb (when (not t) 9) 0 ≡ t
unfolding when
other-none true = refl
other-none false = refl

module _ (ws given : List ℕ) where
  not_indexed : (directory_fault ws given ≡ 0 → ⊥) → false ≡ eqb (directory_fault ws given) 0
  not_indexed h = sym (ne_eqb (directory_fault ws given) 0 h)

  pub indexed-long : max_words < length ws → false ≡ eqb (directory_fault ws given) 0
  indexed-long h = not_indexed (λ z. absurd (omega (arith, h, (fault-accepted ws (accepted-runs ws given z)).limit)))

  pub indexed-odd : length ws % 2 ≡ 1 → false ≡ eqb (directory_fault ws given) 0
  indexed-odd h = not_indexed (λ z. absurd (omega (arith, h, valid-even ws 0 (fault-accepted ws (accepted-runs ws given z)).valid)))

  indexed-other : false ≡ same given (run_directory ws) → false ≡ eqb (directory_fault ws given) 0
  indexed-other h = not_indexed (λ z. true≢false (sym (is_same (run_directory ws)) ∙ sym (rw (accepted-directory ws given z) at h)))

  pub indexed-length : (length given ≡ length ws / 2 + 1 → ⊥) → false ≡ eqb (directory_fault ws given) 0
  indexed-length h = indexed-other (other_length ws given h)

  module _ (o : length ws % 2 ≡ 1 → ⊥) where
    pub indexing-start : length given ≡ length ws / 2 + 1 → Indexing ws given 0 None 0
    indexing-start h = record { judged = judged-start ws (length ws / 2) (omega (arith, o)); checks = checks-start ws given h; below = omega arith }

    module _ (i : ℕ) (last : Option ℕ) (w : ℕ) (m : Indexing ws given i last w) where
      module _ (h : i < length ws / 2) where
        pub indexing-other : (get_or given i 0 ≡ w → ⊥) → false ≡ eqb (directory_fault ws given) 0
        indexing-other k = indexed-other (checks-other ws given i w m.checks h k)

        -- k is what the judging of run i gives
        module _ (k : Result (Unit {0}) Refusal) (e : refusal_of k ≡ run_fault (above last) (get_or ws (2 * i) 0) (get_or ws (2 * i + 1) 0)) where
          pub indexing-fault : is_ok k ≡ false → false ≡ eqb (directory_fault ws given) 0
          indexing-fault r =
              let z = err-number k r in
              not_indexed (λ y. z (sym (judged-fault ws (length ws / 2) i last m.judged h _ _ refl refl (refusal_of k) e z) ∙ valid-runs ws 0 (fault-accepted ws (accepted-runs ws given y)).valid))

          module _ (r : is_ok k ≡ true) where
            z : refusal_of k ≡ 0
            z = ok-number k r

            low : above last ≤ get_or ws (2 * i) 0
            low = run-low _ _ _ (sym e ∙ z)

            some : get_or ws (2 * i) 0 < get_or ws (2 * i + 1) 0
            some = run-some _ _ _ (sym e ∙ z)

            pub indexing-order : get_or ws (2 * i) 0 ≤ get_or ws (2 * i + 1) 0
            indexing-order = omega (arith, some)

            pub indexing-fits : Fits w64 (get_or ws (2 * i + 1) 0) → Fits w64 (w + (get_or ws (2 * i + 1) 0 - get_or ws (2 * i) 0))
            indexing-fits b = record { fits = omega (arith, b.fits, low, some, m.below) }

            pub indexing-next : get_or given i 0 ≡ w → Indexing ws given (i + 1) (Some (get_or ws (2 * i + 1) 0)) (w + (get_or ws (2 * i + 1) 0 - get_or ws (2 * i) 0))
            indexing-next d =
                record {
                  judged = judged-next ws (length ws / 2) i last m.judged h _ _ refl refl (refusal_of k) e z;
                  checks = checks-next ws given i w m.checks h d _ (entry_next ws i w h m.checks.checking.here);
                  below = omega (arith, low, some, m.below);
                }

      pub indexing-end : length ws ≤ max_words → length ws / 2 ≤ i → eqb (get_or given (length ws / 2) 0) w ≡ eqb (directory_fault ws given) 0
      unfolding directory_fault other_directory
      indexing-end l h =
          let n : i ≡ length ws / 2 = omega (arith, h, m.judged.within) in
          rw n at (checks-end ws given i w m.checks n _ refl) ∙ sym (rw (then-none _ _ right) (other-none (same given (run_directory ws))))
        where
          right : fault ws ≡ 0
          right = sym (fault-own ws l 0 (own-found ws 0 o (judged-end ws (length ws / 2) i last m.judged (omega (arith, h)))))
