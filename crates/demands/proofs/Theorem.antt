-- Demand 3.
use mathlib.Core.Path.{◌≡◌, refl, sym, ap, ap₂, ◌∙◌}
use mathlib.Core.Bool.{Bool, not, ◌&&◌}
use mathlib.Core.List.{List, [], ◌∷◌, ◌++◌, map}
use Prim.Native.Nat.{ℕ, ◌+◌, ◌*◌, ◌/◌, ◌%◌, ◌^◌, ◌≤◌, ◌<◌}
use native.Mathlib.Omega.{arith}
use borrow.Author.Tests.{le-ltb, le-leb, ne_eqb}
use lib.Dec.{leb, ltb}
use lib.ListN.{length, take, length-append, replicate, length-replicate}
use Rattle.fields.specs.Refusal.{◌then◌}
use Rattle.fields.specs.Answers.{none, accepted, after, short, short2, Gives}
use Rattle.fields.specs.declared.outcome.Answer.{Answer}
use Rattle.fields.proofs.Refusals.{then-none, front-none, rest-none, when_false}
use Rattle.fields.proofs.Answers.{accepted-none, gives-result}
use Rattle.fields.proofs.Counting.{count-row}
use Rattle.fields.proofs.Directories.{right-directory}
use Rattle.fields.specs.Limits.{too_long, max_words}
use Rattle.run_list.specs.Rising.{All}
use Rattle.run_list.specs.Runs.{has, Valid, odd, fault}
use Rattle.run_list.specs.Rows.{rows, rows_below}
use Rattle.run_list.proofs.Validity.{valid-even, accepted-fault}
use Rattle.run_list.proofs.RowCalls.{below-count, rows-count}
use Rattle.run_rank.specs.RunRanks.{run_directory, run_select, directory_fault}
use Rattle.run_rank.proofs.RunLaws.{select_row, select-none, length-run_directory}
use Rattle.run_rank.proofs.DirectoryLaws.{directory-counts}
use Rattle.index.specs.Index.{index_fault, entries, all_runs, index_bytes}
use Rattle.bitmap_index.specs.Filter.{keep, says, named, need, kinds_fault, filter_fault}
use Rattle.index.proofs.IndexTrip.{entries-sound}
use Rattle.bitmap_index.proofs.FilterLaws.{keep-within, keep-limit, keep-has, keep_all, all_words-small, all-weaken, all_append}
use Rattle.bitmap_index.proofs.NamedValues.{named-few}
use Rattle.bitmap_index.proofs.MissingLaws.{missing-fault}
use Rattle.demands.specs.Demand3.{Mix, Filter, Accepted, Lists, listing, Run, left, Built, directory_of, kept_below, kept, Selected, Each, Leaves, Serves, SameRuns, Statement}
use Rattle.demands.proofs.Agreement.{witness, says-keep, keep-says}
use Rattle.demands.proofs.Witness.{named_small, witness-accepted, witness-entries, witness-lists-left, witness-lists-right}

-- ---- what a filter leaves goes to rank and select: any valid list of 64-bit words within the limit

module _ (ws : List ℕ) (v : Valid ws) (l : length ws ≤ max_words) (fits : All (λ w. w < 2 ^ 64) ws) where
  right : fault ws ≡ 0
  right = accepted-fault ws (record { limit = l; valid = v })

  built-only : (b : Built ws) → b.answer.refusal ≡ short (length ws / 2 + 1) (length b.output)
  built-only b = b.call.refusal ∙ then-none (fault ws) _ right ∙ rw (length-run_directory ws)

  module _ (b : Built ws) (z : b.answer.refusal ≡ 0) where
    directory-is : directory_of b ≡ run_directory ws
    directory-is = gives-result _ (run_directory ws) 0 b.output b.answer b.output' b.call z

    directory-right : directory_fault ws (directory_of b) ≡ 0
    unfolding directory_fault
    directory-right = then-none (fault ws) _ right ∙ rw directory-is (right-directory (run_directory ws))

    -- a call with the runs and their directory
    called : (f : ℕ → ℕ) (ps before out : List ℕ) (r : Answer)
        → Gives (directory_fault ws (directory_of b) then short (length ps) (length before)) (map f ps) 0 before r out
        → (r.refusal ≡ short (length ps) (length before)) × (r.refusal ≡ 0 → take r.len out ≡ map f ps)
    called f ps before out r g = (g.refusal ∙ then-none _ _ directory-right, gives-result _ (map f ps) 0 before r out g)

  ranks-count : (ps : List ℕ) → map (rows_below ws) ps ≡ map (kept_below ws) ps
  ranks-count [] = refl
  ranks-count (p ∷ ps) = ap₂ ◌∷◌ (below-count ws p v) (ranks-count ps)

  rows-kept : rows ws ≡ kept ws
  rows-kept = rows-count ws none v (all-weaken (λ w. w < 2 ^ 64) (λ w. w ≤ none) (λ w p. omega arith) ws fits)

  selects : (k : ℕ) → Selected ws k (run_select ws k)
  selects k =
      record {
        listed = λ h. select_row ws k v (omega (arith, rows-kept));
        only = λ h x p q.
            let s = select_row ws k v (omega (arith, rows-kept)) in
            count-row (has ws) x (run_select ws k) p s.0 (q ∙ sym s.1);
        past = λ h. select-none ws k (valid-even ws 0 v) (omega (arith, rows-kept));
      }

  selects-each : (ks : List ℕ) → Each (Selected ws) ks (map (run_select ws) ks)
  selects-each [] = tt
  selects-each (k ∷ ks) = (selects k, selects-each ks)

  leaves : (index steps : List ℕ) → ((row : ℕ) → has ws row ≡ says steps (listing index row)) → Leaves index steps ws
  leaves index steps h =
      record {
        rows = h;
        built = built-only;
        directory = λ b z. rw (directory-is b z) (directory-counts ws v fits);
        ranked = λ b z ps before out r g.
            let c = called b z (rows_below ws) ps before out r g in
            (c.0, λ y. c.1 y ∙ ranks-count ps);
        selected = λ b z ks before out r g.
            let c = called b z (run_select ws) ks before out r g in
            (c.0, λ y. rw (c.1 y) (selects-each ks));
      }

-- ---- the filter over an accepted index

mix-even : (steps : List ℕ) → Mix steps → length steps % 2 ≡ 0
mix-even [] m = refl
mix-even (kind ∷ []) m = absurd m
mix-even (kind ∷ v ∷ steps) m = omega (arith, mix-even steps m.3)

mix-kinds : (steps : List ℕ) → Mix steps → kinds_fault steps ≡ 0
unfolding kinds_fault
mix-kinds [] m = refl
mix-kinds (kind ∷ []) m = refl
mix-kinds (kind ∷ v ∷ steps) m =
    then-none _ _ (when_false (not (leb 1 kind && leb kind 4)) 8 (rw (le-leb 1 kind m.0, le-leb kind 4 m.1))) ∙ mix-kinds steps m.3

filter-right : (index steps : List ℕ) → Accepted index → Lists index steps → Filter steps → filter_fault index steps ≡ 0
unfolding filter_fault index_fault too_long odd
filter-right index steps a l f =
    let m = mix-even steps f.mix in
    then-none _ _ (front-none _ _ a.read)
    ∙ then-none _ _ (when_false (ltb 8192 (length steps)) 1 (le-ltb 8192 (length steps) (omega (arith, f.few))))
    ∙ then-none _ _ (rest-none _ _ a.read)
    ∙ then-none _ _ (when_false (odd steps) 6 (ne_eqb (length steps % 2) 1 (λ k. omega arith)))
    ∙ then-none _ _ (mix-kinds steps f.mix)
    ∙ (missing-fault (entries index) (named steps)).1 l

pub short_none : (n room : ℕ) → n ≤ room → short n room ≡ 0
unfolding short
short_none n room h = when_false (ltb room n) 10 (le-ltb room n h)

module _ (index steps : List ℕ) (a : Accepted index) (l : Lists index steps) (f : Filter steps) (run : Run index steps) where
  abbrev words : List ℕ
  words = keep (entries index) steps

  refusal : ℕ
  refusal = filter_fault index steps then short2 (need (entries index)) (length run.output) (length run.scratch)

  space : (room : ℕ) → 2 * all_runs (entries index) ≤ room → short (need (entries index)) room ≡ 0
  unfolding need
  space room h = short_none (2 * all_runs (entries index)) room h

  not-refused : refusal ≡ 0
  unfolding refusal short2
  not-refused =
      then-none _ _ (filter-right index steps a l f) ∙ then-none _ _ (space (length run.output) run.space) ∙ space (length run.scratch) run.space₂

  run-accepted : run.answer.refusal ≡ 0
  unfolding refusal
  run-accepted = run.call.first.refusal ∙ not-refused

  run_length : run.answer.len ≡ length words
  unfolding refusal
  run_length = run.call.first.len ∙ accepted-none refusal (length words) 0 not-refused

  pub run-left : left run ≡ keep (entries index) steps
  run-left = gives-result _ words (need (entries index)) run.output run.answer run.output' run.call.first run-accepted

pub serves : (steps : List ℕ) → Filter steps → Serves steps
serves steps f index a l run =
    let es = entries index in
    let s = entries-sound index a.bytes a.read in (
      run-accepted index steps a l f run,
      rw (run-left index steps a l f run)
          (leaves (keep es steps) (keep-within es s steps).valid (keep-limit index a.bytes a.read steps)
          (keep_all (λ w. w < 2 ^ 64) es s (all_words-small es 0 s) steps) index steps (keep-has es s steps)),
    )

-- ---- calls as their contracts have them

pub answered : ℕ → List ℕ → Answer
answered f ws = record { refusal = f; len = accepted f (length ws) 0 }

pub gives_of : (f : ℕ) (ws : List ℕ) (n : ℕ) (before : List ℕ) → Gives f ws n before (answered f ws) (after f ws n before)
unfolding answered
gives_of f ws n before = record { refusal = refl; len = refl; output = refl }

pub zeros : ℕ → List ℕ
zeros n = replicate n 0

pub length-zeros : (n : ℕ) → length (zeros n) ≡ n
unfolding zeros
length-zeros n = length-replicate n 0

-- a run of the filter, with just the space that is needed
pub run_of : (index steps : List ℕ) → Run index steps
run_of index steps =
    let es = entries index in
    let z = zeros (2 * all_runs es) in
    let f = filter_fault index steps then short2 (need es) (length z) (length z) in
    let enough = length-zeros (2 * all_runs es) in
    record {
      output = z;
      scratch = z;
      space = omega arith;
      space₂ = omega arith;
      answer = answered f (keep es steps);
      output' = after f (keep es steps) (need es) z;
      scratch' = after f [] (need es) z;
      call = record { first = gives_of f (keep es steps) (need es) z; second = refl };
    }

-- ---- the demand

module _ (A B : List ℕ) (a : Filter A) (b : Filter B) where
  abbrev Same : Type 0
  Same = (index : List ℕ) → Accepted index → Lists index A → Lists index B → (p : Run index A) (q : Run index B) → SameRuns p q

  -- what is said to a set, by an index made for it
  same-says : Same → (set : ℕ → Bool) → says A set ≡ says B set
  same-says h set =
      let vs = named A ++ named B in
      let small = all_append (λ v. v < 2 ^ 64) (named A) (named B) (named_small A a.mix) (named_small B b.mix) in
      let few : length vs ≤ 8192 = omega (arith, length-append (named A) (named B), named-few A, named-few B, a.few, b.few) in
      let index = index_bytes (witness set vs) in
      let w = witness-accepted set vs small few in
      let k : Lists index A = witness-lists-left set A B small few in
      let l : Lists index B = witness-lists-right set A B small few in
      let p = run_of index A in
      let q = run_of index B in
      let e : keep (entries index) A ≡ keep (entries index) B = sym (run-left index A w k a p) ∙ (h index w k l p q).1 ∙ run-left index B w l b q in
      keep-says set A B small (rw (witness-entries set vs small few) at e)

  says_same : ((set : ℕ → Bool) → says A set ≡ says B set) → Same
  says_same h index w i j p q =
      let k = says-keep A B h (entries index) (entries-sound index w.bytes w.read) in
      (run_length index A w i a p ∙ ap length k ∙ sym (run_length index B w j b q), run-left index A w i a p ∙ k ∙ sym (run-left index B w j b q))

pub demand3 : Statement
demand3 A B a b = record { first = serves A a; second = serves B b; agree = (same-says A B a b, says_same A B a b) }
