-- The steps of a filter, carried out in two lists: what the steps from here on make of the kept runs is what all of them make of none. One law for each
-- way through the code.
use mathlib.Core.Path.{◌≡◌, refl, sym, ap, ◌∙◌}
use mathlib.Core.Logic.{⊎_elim}
use mathlib.Core.List.{List, [], ◌++◌, map}
use Prim.Native.Nat.{ℕ, zero, suc, ◌+◌, ◌-◌, ◌*◌, ◌%◌, ◌≤◌, ◌<◌}
use native.Mathlib.Omega.{arith}
use borrow.Author.Tests.{eq-eqb, ne_eqb}
use mir.Syntax.{w8}
use mir.Val.{Fits}
use lib.ListN.{length, take, drop, get_or, drop_of_length-le}
use lib.Seq.{length-sets, drop-cons, drop-drop, drop_at, take_at, length-take-le}
use Rattle.fields.specs.Answers.{over, Stored}
use Rattle.fields.proofs.Answers.{over-sets}
use Rattle.fields.proofs.Tests.{split-eq}
use Rattle.boundary.specs.Merge.{combine, op_of}
use Rattle.run_list.specs.Blocks.{block_words}
use Rattle.index.specs.Index.{Entry, index_fault, entries, words_of}
use Rattle.index.specs.Search.{place_of, block_from}
use Rattle.bitmap_index.specs.Filter.{step, keep_from, keep, named, need}
use Rattle.bitmap_index.specs.Inner.{stepped, first_kept, FirstStep, Ran}
use Rattle.index.proofs.IndexTrip.{Sounds, entries-sound}
use Rattle.index.proofs.LookupCalls.{found-words}
use Rattle.bitmap_index.proofs.NamedValues.{step_block}
use Rattle.bitmap_index.proofs.FilterLaws.{Within, within-start, within_step, within-fits}

-- ---- one step

-- the rows of the named value are those of its block, and the operation is the one of its truth table
pub step-done : (s ks steps out places : List ℕ) (i : ℕ) → index_fault s ≡ 0 → ((j : ℕ) → Fits w8 (get_or s j 0))
    → places ≡ map (place_of s) (named steps) → i < length places
    → (kind table : ℕ) → step kind ≡ step (get_or steps (2 * i) 0) → (block : List ℕ) → block ≡ block_from s (get_or places i 0) → op_of table ≡ step kind
    → (n : ℕ) (out' : List ℕ) → Stored (combine (op_of table) ks (block_words block)) out n out' → Stored (stepped (entries s) steps i ks) out n out'
step-done s ks steps out places i e all are h kind table a block d o n out' st =
    let v = get_or steps (2 * i + 1) 0 in
    let w : block_words block ≡ words_of (entries s) v = rw (d, step_block s e steps places are i h) (found-words s v (λ j. omega (arith, all j)) e) in
    rw (← a) (rw (o, w) at st)

step-drop : (es : List Entry) (ks steps : List ℕ) (i : ℕ) → 2 * i + 1 < length steps
    → keep_from es ks (drop (2 * i) steps) ≡ keep_from es (stepped es steps i ks) (drop (2 * (i + 1)) steps)
unfolding keep_from
step-drop es ks steps i h =
    let e : 2 * (i + 1) ≡ suc (suc (2 * i)) = omega arith in
    let o : 2 * i + 1 ≡ suc (2 * i) = omega arith in
    rw (e, o, drop-cons steps (2 * i) 0 (omega arith), drop-cons steps (suc (2 * i)) 0 (omega arith))

-- what was stored at the front of a list that has room, with room need
module _ (ws before : List ℕ) (most n : ℕ) (out : List ℕ) (st : Stored ws before n out) (l : length ws ≤ most) (r : most ≤ length before) where
  whole : out ≡ ws ++ drop (length ws) before
  unfolding over
  whole = st.written ∙ over-sets ws before (omega arith)

  stored-front : take n out ≡ ws
  stored-front = rw whole (take_at ws (drop (length ws) before) n (sym st.number))

  stored-size : length out ≡ length before
  stored-size = rw st.written (length-sets before 0 ws)

  stored-later : drop most out ≡ drop most before
  stored-later =
      let e : most ≡ length ws + (most - length ws) = omega arith in
      rw (whole, e) (sym (drop-drop (most - length ws) (length ws) (ws ++ drop (length ws) before)) ∙ ap (drop (most - length ws)) (drop_at ws (drop (length ws) before) (length ws) refl) ∙ drop-drop (most - length ws) (length ws) before)

-- ---- the loop

-- out starts with the kept runs; those that the steps from i on leave are still to come
pub record Filtering (s steps : List ℕ) (n : ℕ) (before scratch : List ℕ) (i len : ℕ) (out scratch' : List ℕ) : Type 0 where
  pub sound : Sounds 0 (entries s)
  pub few : n ≤ 4096
  pub steps-number : 2 * n ≡ length steps
  pub place : i ≤ n
  pub even : (n - i) % 2 ≡ 0
  pub within : Within (entries s) (take len out)
  pub fits : len ≤ length out
  pub rest : keep_from (entries s) (take len out) (drop (2 * i) steps) ≡ keep (entries s) steps
  pub room : need (entries s) ≤ length before
  pub room₂ : need (entries s) ≤ length scratch
  pub size : length out ≡ length before
  pub size₂ : length scratch' ≡ length scratch
  pub later : drop (need (entries s)) out ≡ drop (need (entries s)) before
  pub later₂ : drop (need (entries s)) scratch' ≡ drop (need (entries s)) scratch

-- the first step of an odd number
pub first-in : (steps : List ℕ) (n : ℕ) → (n % 2 ≡ 0 → ⊥) → 2 * n ≡ length steps → 1 < length steps
first-in steps n z e = omega (arith, some n z)
  where
    some : (m : ℕ) → (m % 2 ≡ 0 → ⊥) → 0 < m
    some zero z = absurd (z refl)
    some (suc m) z = omega arith

module _ (es : List Entry) (steps : List ℕ) (n : ℕ) where
  first-even : n % 2 ≡ 0 → first_kept es steps n ≡ []
  first-even e = rw (eq-eqb (n % 2) 0 e)

  first-odd : (n % 2 ≡ 0 → ⊥) → first_kept es steps n ≡ stepped es steps 0 []
  first-odd z = rw (ne_eqb (n % 2) 0 z)

  module _ (sound : Sounds 0 es) (e : 2 * n ≡ length steps) where
    first-within : Within es (first_kept es steps n)
    first-within =
        ⊎_elim
        (λ k. rw (first-even k.1) (within-start es))
        (λ k. rw (first-odd k.1) (within_step es sound (get_or steps 0 0) (get_or steps 1 0) [] (within-start es))) (split-eq (n % 2) 0)

    first_rest : keep_from es (first_kept es steps n) (drop (2 * (n % 2)) steps) ≡ keep es steps
    unfolding keep
    first_rest =
        ⊎_elim
        (λ k. rw (first-even k.1, k.1))
        (λ k. let o : n % 2 ≡ 1 = omega (arith, k.1) in
        rw (first-odd k.1, o) (sym (step-drop es [] steps 0 (omega (arith, first-in steps n k.1 e))))) (split-eq (n % 2) 0)

module _ (s steps : List ℕ) (n : ℕ) (e : index_fault s ≡ 0) (all : (j : ℕ) → Fits w8 (get_or s j 0)) where
  sound : Sounds 0 (entries s)
  sound = entries-sound s (λ j. omega (arith, all j)) e

  pub filtering-start : (len : ℕ) (out scratch : List ℕ) → FirstStep s steps n len out scratch → Filtering s steps n out scratch (n % 2) len out scratch
  filtering-start len out scratch b =
      record {
        sound = sound;
        few = b.few;
        steps-number = b.number;
        place = omega arith;
        even = omega arith;
        within = rw b.front (first-within (entries s) steps n sound b.number);
        fits = b.fits;
        rest = rw b.front (first_rest (entries s) steps n sound b.number);
        room = b.room;
        room₂ = b.room₂;
        size = refl;
        size₂ = refl;
        later = refl;
        later₂ = refl;
      }

  module _ (before scratch : List ℕ) (q : n ≤ 4096) (c : 2 * n ≡ length steps) (r : need (entries s) ≤ length before) (r₂ : need (entries s) ≤ length scratch)
      (len : ℕ) (out : List ℕ) (st : Stored (first_kept (entries s) steps n) before len out) where
    short : length (first_kept (entries s) steps n) ≤ need (entries s)
    short = within-fits (entries s) sound (first_kept (entries s) steps n) (first-within (entries s) steps n sound c)

    same : length out ≡ length before
    same = stored-size (first_kept (entries s) steps n) before (need (entries s)) len out st short r

    pub first-right : FirstStep s steps n len out scratch
    first-right =
        record {
          few = q;
          number = c;
          fits = omega (arith, st.number, same, short);
          front = stored-front (first_kept (entries s) steps n) before (need (entries s)) len out st short r;
          room = omega (arith, same);
          room₂ = r₂;
        }

    pub ran : (k : ℕ) (out' scratch' : List ℕ) → Ran s steps out scratch k out' scratch' → Ran s steps before scratch k out' scratch'
    ran k out' scratch' m =
        record {
          number = m.number;
          front = m.front;
          size = m.size ∙ same;
          size₂ = m.size₂;
          later = m.later ∙ stored-later (first_kept (entries s) steps n) before (need (entries s)) len out st short r;
          later₂ = m.later₂;
        }

module _ (s steps : List ℕ) (n : ℕ) (before scratch : List ℕ) where
  module _ (i len : ℕ) (out scratch' : List ℕ) (m : Filtering s steps n before scratch i len out scratch') where
    pub filtering-part : len ≡ length (take len out)
    filtering-part = sym (length-take-le len out m.fits)

    module _ (h : i < n) where
      pub filtering-in : 2 * i + 1 < length steps
      filtering-in = omega (arith, m.steps-number)

      pub filtering-in₂ : 2 * (i + 1) + 1 < length steps
      filtering-in₂ = omega (arith, m.steps-number, m.even)

      module _ (mid : ℕ) (other : List ℕ) (st : Stored (stepped (entries s) steps i (take len out)) scratch' mid other) where
        ks : List ℕ
        ks = stepped (entries s) steps i (take len out)

        within-mid : Within (entries s) ks
        unfolding ks
        within-mid = within_step (entries s) m.sound (get_or steps (2 * i) 0) (get_or steps (2 * i + 1) 0) (take len out) m.within

        small : length ks ≤ need (entries s)
        small = within-fits (entries s) m.sound ks within-mid

        room_mid : need (entries s) ≤ length scratch'
        room_mid = omega (arith, m.room₂, m.size₂)

        front-mid : take mid other ≡ ks
        unfolding ks
        front-mid = stored-front _ scratch' (need (entries s)) mid other st small room_mid

        size-mid : length other ≡ length scratch'
        unfolding ks
        size-mid = stored-size _ scratch' (need (entries s)) mid other st small room_mid

        pub filtering-mid : mid ≤ length other
        unfolding ks
        filtering-mid = omega (arith, st.number, size-mid, small, room_mid)

        pub filtering-mid-part : mid ≡ length (take mid other)
        filtering-mid-part = sym (length-take-le mid other filtering-mid)

        pub filtering-next : (len' : ℕ) (out' : List ℕ) → Stored (stepped (entries s) steps (i + 1) (take mid other)) out len' out'
            → Filtering s steps n before scratch (i + 2) len' out' other
        unfolding ks
        filtering-next len' out' st' =
            let es = entries s in
            let ws = stepped es steps (i + 1) (take mid other) in
            let w : Within es ws = within_step es m.sound (get_or steps (2 * (i + 1)) 0) (get_or steps (2 * (i + 1) + 1) 0) (take mid other) (rw front-mid within-mid) in
            let l = within-fits es m.sound ws w in
            let r : need es ≤ length out = omega (arith, m.room, m.size) in
            let f = stored-front ws out (need es) len' out' st' l r in
            let z = stored-size ws out (need es) len' out' st' l r in
            let two : i + 1 + 1 ≡ i + 2 = omega arith in
            record {
              sound = m.sound;
              few = m.few;
              steps-number = m.steps-number;
              place = omega (arith, m.even);
              even = omega (arith, m.even);
              within = rw f w;
              fits = omega (arith, st'.number, z);
              rest = rw f (sym (rw two at (step-drop es (take mid other) steps (i + 1) filtering-in₂)) ∙ rw front-mid (sym (step-drop es (take len out) steps i filtering-in)) ∙ m.rest);
              room = m.room;
              room₂ = m.room₂;
              size = z ∙ m.size;
              size₂ = size-mid ∙ m.size₂;
              later = stored-later ws out (need es) len' out' st' l r ∙ m.later;
              later₂ = stored-later ks scratch' (need es) mid other st small room_mid ∙ m.later₂;
            }

    pub filtering-end : n ≤ i → Ran s steps before scratch len out scratch'
    unfolding keep_from
    filtering-end h =
        let z : drop (2 * i) steps ≡ [] = drop_of_length-le steps {i = 2 * i} (omega (arith, m.steps-number)) in
        let k : take len out ≡ keep (entries s) steps = rw z at m.rest in
        record {
          number = filtering-part ∙ ap length k;
          front = k;
          size = m.size;
          size₂ = m.size₂;
          later = m.later;
          later₂ = m.later₂;
        }

  -- the last two steps are carried out
  pub filtering-last : (i len : ℕ) (out scratch' : List ℕ) → i < n → n - i ≤ 2 → Filtering s steps n before scratch (i + 2) len out scratch'
      → Ran s steps before scratch len out scratch'
  filtering-last i len out scratch' h k m = filtering-end (i + 2) len out scratch' m (omega arith)
