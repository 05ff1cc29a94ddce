-- The walk of `decode` over the runs of a block and over the entries of an index: those before run j, and before entry k, have no fault, and their runs are
-- counted.
use mathlib.Core.Path.{◌≡◌, refl, sym, ◌∙◌, ap}
use mathlib.Core.List.{List}
use Prim.Native.Nat.{ℕ, suc, ◌+◌, ◌-◌, ◌*◌, ◌/◌, ◌≤◌, ◌<◌}
use native.Mathlib.Nat.{sub-zero}
use native.Mathlib.Omega.{arith}
use borrow.Author.Tests.{lt-ltb, le-ltb}
use lib.ListN.{length, take, drop, get_or, length-take}
use Rattle.std.specs.Prelude.{Option, Some, None}
use Rattle.fields.specs.Refusal.{when, ◌then◌, refusal_number}
use Rattle.fields.specs.declared.outcome.Refusal.{Refusal}
use Rattle.fields.specs.declared.outcome.Refusal.TheVariants.{TooLong, CutShort}
use Rattle.fields.proofs.Refusals.{then-none, then_some, refusal_some}
use Rattle.fields.proofs.Answers.{accepted-some, accepted-none}
use Rattle.fields.specs.Limits.{max_bytes, too_long}
use Rattle.run_list.specs.Blocks.{run_count, block_fault, block_runs, block_words}
use Rattle.run_list.specs.Runs.{run_fault}
use Rattle.run_list.specs.Calls.{above}
use Rattle.run_list.proofs.Judging.{Judged, judged-start, judged-next, judged-fault, judged-end}
use Rattle.run_list.proofs.BlockWords.{length-block_words, runs-within}
use Rattle.run_list.proofs.BlockCalls.{block-short, block-found, block-cut, block-whole}
use Rattle.index.specs.Index.{value_at, length_at, block_at, next_at, head_fault, entries_fault, entry_list, entry_count, index_fault, entries, all_runs}
use Rattle.index.specs.Calls.{Read}
use Rattle.index.proofs.Sizes.{length-entry_list}
use Rattle.index.proofs.Entries.{head-fits, block-part}

-- of the n whole runs of a block those before run j have no fault
abbrev pub Passing : List ℕ → ℕ → ℕ → Option ℕ → Type 0
Passing b = Judged (block_words b)

pub passing-start : (b : List ℕ) (n : ℕ) → n ≡ block_runs b → Passing b n 0 None
passing-start b n e = judged-start (block_words b) n (length-block_words b ∙ rw e)

module _ (b : List ℕ) (n j : ℕ) (last : Option ℕ) (p : Passing b n j last) where
  module _ (h : j < n) (s e : ℕ) (es : s ≡ get_or (block_words b) (2 * j) 0) (ee : e ≡ get_or (block_words b) (2 * j + 1) 0) where
    pub passing-next : 0 ≡ run_fault (above last) s e → Passing b n (j + 1) (Some e)
    passing-next z = judged-next (block_words b) n j last p h s e es ee 0 z refl

    passing-fault : 4 ≤ length b → (f : Refusal) → refusal_number f ≡ run_fault (above last) s e → refusal_number f ≡ block_fault b
    passing-fault l f z = block-found b l (refusal_number f) (refusal_some f) (judged-fault (block_words b) n j last p h s e es ee (refusal_number f) z (refusal_some f))

  -- all whole runs are passed; c are counted
  module _ (l : 4 ≤ length b) (en : n ≡ block_runs b) (h : n ≤ j) (c : ℕ) (ec : c ≡ run_count b) where
    passing-cut : n < c → 2 ≡ block_fault b
    passing-cut k = block-cut b l (judged-end (block_words b) n j last p h) n en c ec k

    passing-end : c ≤ n → 0 ≡ block_fault b
    passing-end k = block-whole b l (judged-end (block_words b) n j last p h) n en c ec k

-- ---- one entry's runs

pub entry_runs : (b : List ℕ) → length (block_words b) / 2 ≡ block_runs b
entry_runs b = omega (arith, length-block_words b)

-- ---- a refusal

abbrev pub Refused : List ℕ → Refusal → Type 0
Refused s f = Read s (record { refusal = refusal_number f; entries = 0; runs = 0 })

read-refused : (s : List ℕ) (f : Refusal) → refusal_number f ≡ index_fault s → Refused s f
read-refused s f e =
    let y : index_fault s ≡ 0 → ⊥ = λ x. refusal_some f (e ∙ x) in
    record {
      refusal = e;
      count = sym (accepted-some (index_fault s) _ 0 y);
      total = sym (accepted-some (index_fault s) _ 0 y);
    }

module _ (s : List ℕ) where
  pub read-long : max_bytes < length s → Refused s TooLong
  unfolding index_fault when ◌then◌ too_long
  read-long h = read-refused s TooLong (rw (lt-ltb max_bytes (length s) h))

  pub read-short : length s ≤ max_bytes → length s < 4 → Refused s CutShort
  unfolding index_fault when ◌then◌ too_long
  read-short g h = read-refused s CutShort (rw (le-ltb max_bytes (length s) g, lt-ltb (length s) 4 h))

-- ---- the walk: n entries are counted

pub record Walked (s : List ℕ) (n k at : ℕ) (last : Option ℕ) (runs : ℕ) : Type 0 where
  pub within : k ≤ n
  pub few : 16 * runs ≤ at
  pub room : at ≤ length s
  pub rest : index_fault s ≡ entries_fault (n - k) s at (above last)
  pub total : all_runs (entries s) ≡ runs + all_runs (entry_list (n - k) s at)

pub walked_start : (s : List ℕ) (n : ℕ) → length s ≤ max_bytes → 4 ≤ length s → n ≡ entry_count s → Walked s n 0 4 None 0
unfolding index_fault entries when ◌then◌ too_long
walked_start s n g h e =
    record {
      within = omega arith;
      few = omega arith;
      room = h;
      rest = rw (le-ltb max_bytes (length s) g, le-ltb (length s) 4 h, sub-zero n, e);
      total = rw (sub-zero n, e) (omega arith);
    }

module _ (s : List ℕ) (n k at : ℕ) (last : Option ℕ) (runs : ℕ) (w : Walked s n k at last runs) where
  -- the walk is over
  pub read-right : n ≤ k → n ≡ entry_count s → Read s (record { refusal = 0; entries = n; runs = runs })
  unfolding entries entries_fault entry_list all_runs
  read-right h e =
      let z : n - k ≡ 0 = omega arith in
      let y : index_fault s ≡ 0 = w.rest ∙ rw z in
      let t = rw z at w.total in
      record {
        refusal = sym y;
        count = e ∙ sym (accepted-none (index_fault s) _ 0 y ∙ length-entry_list (entry_count s) s 4);
        total = omega arith ∙ sym (accepted-none (index_fault s) _ 0 y);
      }

  module _ (h : k < n) where
    one : n - k ≡ suc (n - (k + 1))
    one = omega arith

    one_entry : index_fault s ≡ (head_fault s at (above last) then block_fault (block_at s at) then entries_fault (n - (k + 1)) s (next_at s at) (suc (value_at s at)))
    unfolding entries_fault
    one_entry = w.rest ∙ rw one

    pub head-stop : (f : Refusal) → refusal_number f ≡ head_fault s at (above last) → Refused s f
    head-stop f e = read-refused s f (sym (one_entry ∙ rw (← e) (then_some (refusal_number f) _ (refusal_some f))))

    module _ (z : 0 ≡ head_fault s at (above last)) (len : ℕ) (el : len ≡ length_at s at) where
      pub entry-fits : at + 12 + len ≤ length s
      entry-fits = omega (arith, head-fits s at (above last) (sym z))

      module _ (b : List ℕ) (eb : b ≡ take (at + 12 + len - (at + 12)) (drop (at + 12) s)) where
        is_block : b ≡ block_at s at
        is_block = eb ∙ block-part s at len el

        inner : index_fault s ≡ (block_fault b then entries_fault (n - (k + 1)) s (next_at s at) (suc (value_at s at)))
        inner = one_entry ∙ then-none _ _ (sym z) ∙ rw (← is_block)

        block-stop : (f : Refusal) → refusal_number f ≡ block_fault b → Refused s f
        block-stop f d = read-refused s f (sym (inner ∙ rw (← d) (then_some (refusal_number f) _ (refusal_some f))))

        pub cut-stop : length b < 4 → Refused s CutShort
        cut-stop g = block-stop CutShort (block-short b g)

        module _ (l4 : 4 ≤ length b) (m j : ℕ) (previous : Option ℕ) (p : Passing b m j previous) where
          pub run-stop : j < m → (x y : ℕ) → x ≡ get_or (block_words b) (2 * j) 0 → y ≡ get_or (block_words b) (2 * j + 1) 0
              → (f : Refusal) → refusal_number f ≡ run_fault (above previous) x y → Refused s f
          run-stop h x y ex ey f d = block-stop f (passing-fault b m j previous p h x y ex ey l4 f d)

          module _ (em : m ≡ block_runs b) (past : m ≤ j) (c : ℕ) (ec : c ≡ run_count b) where
            pub last-stop : m < c → Refused s CutShort
            last-stop q = block-stop CutShort (passing-cut b m j previous p l4 em past c ec q)

            pub entry_next : c ≤ m → (v : ℕ) → v ≡ value_at s at → Walked s n (k + 1) (at + 12 + len) (Some v) (runs + m)
            unfolding entry_list all_runs
            entry_next q v ev =
                let y = sym (passing-end b m j previous p l4 em past c ec q) in
                let a : m ≡ block_runs (block_at s at) = em ∙ ap block_runs is_block in
                let e = entry_runs (block_at s at) in
                let t : at + 12 + len ≡ next_at s at = omega arith in
                let u : all_runs (entry_list (n - k) s at) ≡ length (block_words (block_at s at)) / 2 + all_runs (entry_list (n - (k + 1)) s (next_at s at)) = rw one in
                record {
                  within = omega arith;
                  few = omega (arith, runs-within b l4, w.few, ap length eb, length-take (at + 12 + len - (at + 12)) (drop (at + 12) s));
                  room = entry-fits;
                  rest = inner ∙ then-none (block_fault b) _ y ∙ rw (t, ev);
                  total = w.total ∙ rw t (omega arith);
                }
