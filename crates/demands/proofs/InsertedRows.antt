-- After an insertion a row is listed under a value where it was before, or where it is among the inserted rows and the value is theirs; and the new
-- entries can be written and read back.
use mathlib.Core.Path.{◌≡◌, refl, sym, ◌∙◌}
use mathlib.Core.Bool.{Bool, true, false, cond, ◌||◌}
use mathlib.Core.Logic.{⊎_elim}
use mathlib.Core.List.{List, [], ◌∷◌, append-nil}
use Prim.Native.Nat.{ℕ, suc, ◌+◌, ◌*◌, ◌^◌, ◌≤◌, ◌<◌}
use native.Mathlib.Omega.{arith}
use borrow.Author.Tests.{lt-ltb, le-ltb, eq-eqb, ne_eqb}
use lib.Dec.{eqb}
use lib.ListN.{length, take, length-append}
use Rattle.fields.specs.Refusal.{◌then◌}
use Rattle.fields.specs.Bytes.{Bytes}
use Rattle.fields.specs.declared.outcome.Answer.{Answer}
use Rattle.fields.proofs.Refusals.{then-none, front-none, rest-none}
use Rattle.fields.proofs.Answers.{gives-result}
use Rattle.fields.proofs.Tests.{split-eq, split-le}
use Rattle.fields.specs.Limits.{too_long, no_room, max_bytes}
use Rattle.run_list.specs.Rising.{All}
use Rattle.run_list.specs.Runs.{has, Valid, fault}
use Rattle.boundary.specs.Merge.{combine, either}
use Rattle.run_list.proofs.Validity.{fault-accepted}
use Rattle.boundary.proofs.Combining.{combine-valid, combine-has, combine-all, combine-length}
use Rattle.index.specs.Index.{Entry, entry, bytes_fault, index_fault, entries, entry_bytes, entries_bytes, index_bytes, words_of}
use Rattle.index_write.specs.Calls.{inserted, insert_fault, Inserted}
use Rattle.fields.proofs.Limits.{room_within}
use Rattle.index.proofs.Sizes.{length-entry_bytes}
use Rattle.index.proofs.IndexTrip.{Sound, Sounds, written-reads, entries-sound}

-- only the least value that it may have
pub at_least : {lo lo' : ℕ} (e : Entry) → lo' ≤ e.value → Sound lo e → Sound lo' e
at_least e h s = record { low = h; value = s.value; valid = s.valid; words = s.words }

-- ---- the three places of a value

pub inserted-empty : (v : ℕ) (ws : List ℕ) → inserted v ws [] ≡ entry v ws ∷ []
unfolding inserted
inserted-empty v ws = refl

module _ (v : ℕ) (ws : List ℕ) (e : Entry) (es : List Entry) where
  pub inserted-front : v < e.value → inserted v ws (e ∷ es) ≡ entry v ws ∷ e ∷ es
  unfolding inserted
  inserted-front h = rw (lt-ltb v e.value h)

  pub inserted-here : v ≡ e.value → inserted v ws (e ∷ es) ≡ entry v (combine either ws e.words) ∷ es
  unfolding inserted
  inserted-here h = rw (le-ltb v e.value (omega arith), eq-eqb v e.value h)

  pub inserted-later : e.value < v → inserted v ws (e ∷ es) ≡ e ∷ inserted v ws es
  unfolding inserted
  inserted-later h = rw (le-ltb v e.value (omega arith), ne_eqb v e.value (λ z. omega arith))

  -- every proof about an insertion goes by them
  pub by_place : {A : Type 0} → (v < e.value → A) → (v ≡ e.value → A) → (e.value < v → A) → A
  by_place p q r =
      ⊎_elim (λ h. p h.1) (λ h. ⊎_elim (λ k. q k.1) (λ k. r (omega (arith, h.1, k.1))) (split-eq v e.value)) (split-le (suc v) e.value)

-- ---- rows

or-false : (p : Bool) → p ≡ (p || false)
or-false true = refl
or-false false = refl

module _ (e : Entry) (es : List Entry) (u : ℕ) where
  pub words-here : e.value ≡ u → words_of (e ∷ es) u ≡ e.words
  unfolding words_of
  words-here h = rw (eq-eqb e.value u h)

  pub words-later : (e.value ≡ u → ⊥) → words_of (e ∷ es) u ≡ words_of es u
  unfolding words_of
  words-later h = rw (ne_eqb e.value u h)

-- values below those of the entries are missing
pub words-missing : (es : List Entry) (lo u : ℕ) → Sounds lo es → u < lo → words_of es u ≡ []
unfolding words_of
words-missing [] lo u s h = refl
words-missing (e ∷ es) lo u s h =
    words-later e es u (λ z. omega (arith, s.0.low)) ∙ words-missing es (suc e.value) u s.1 (omega (arith, s.0.low))

module _ (v : ℕ) (ws : List ℕ) (valid : Valid ws) (u r : ℕ) where
  -- what is to be listed, from what was listed
  abbrev listed : List Entry → Bool
  listed es = cond (eqb u v) (has ws r || has (words_of es u) r) (has (words_of es u) r)

  listed_same : (es : List Entry) → u ≡ v → listed es ≡ (has ws r || has (words_of es u) r)
  listed_same es h = rw (eq-eqb u v h)

  listed-other : (es : List Entry) → (u ≡ v → ⊥) → listed es ≡ has (words_of es u) r
  listed-other es h = rw (ne_eqb u v h)

  -- a value that was missing, in front of the others
  rows_new : (es : List Entry) → words_of es v ≡ [] → has (words_of (entry v ws ∷ es) u) r ≡ listed es
  rows_new es h =
      ⊎_elim
      (λ k. let e : words_of es u ≡ [] = rw k.1 h in
      rw (words-here (entry v ws) es u (sym k.1)) (sym (listed_same es k.1 ∙ rw e (sym (or-false (has ws r))))))
      (λ k. rw (words-later (entry v ws) es u (λ z. k.1 (sym z))) (sym (listed-other es k.1)))
      (split-eq u v)

  pub inserted-rows : (es : List Entry) (lo : ℕ) → Sounds lo es
      → has (words_of (inserted v ws es) u) r ≡ cond (eqb u v) (has ws r || has (words_of es u) r) (has (words_of es u) r)
  inserted-rows [] lo s = rw (inserted-empty v ws) (rows_new [] (words-missing [] (suc v) v tt (omega arith)))
  inserted-rows (e ∷ es) lo s =
      by_place v ws e es
      (λ h. rw (inserted-front v ws e es h) (rows_new (e ∷ es) (words-missing (e ∷ es) e.value v (at_least e (omega arith) s.0, s.1) h)))
      (λ h. rw (inserted-here v ws e es h)
      (⊎_elim
      (λ k. rw (words-here (entry v (combine either ws e.words)) es u (sym k.1))
      (combine-has either refl ws e.words valid s.0.valid r ∙ sym (listed_same (e ∷ es) k.1 ∙ rw (words-here e es u (sym h ∙ sym k.1)))))
      (λ k. rw (words-later (entry v (combine either ws e.words)) es u (λ z. k.1 (sym z)))
      (sym (listed-other (e ∷ es) k.1 ∙ words-in e es (λ z. k.1 (sym (h ∙ z))))))
      (split-eq u v)))
      (λ h. rw (inserted-later v ws e es h)
      (⊎_elim
      (λ k. rw (words-here e (inserted v ws es) u k.1) (sym (listed-other (e ∷ es) (λ z. omega (arith, k.1)) ∙ rw (words-here e es u k.1))))
      (λ k. rw (words-later e (inserted v ws es) u k.1) (inserted-rows es (suc e.value) s.1 ∙ rw (words-later e es u k.1)))
      (split-eq e.value u)))
    where
      words-in : (e : Entry) (es : List Entry) → (e.value ≡ u → ⊥) → has (words_of (e ∷ es) u) r ≡ has (words_of es u) r
      words-in e es n = rw (words-later e es u n)

-- ---- the new entries

-- they are longer by no more than one entry with the inserted runs
pub inserted-size : (v : ℕ) (ws : List ℕ) (es : List Entry) → length (entries_bytes (inserted v ws es)) ≤ length (entries_bytes es) + (16 + 8 * length ws)
unfolding entries_bytes
inserted-size v ws [] = rw (inserted-empty v ws) (omega (arith, length-append (entry_bytes (entry v ws)) [], length-entry_bytes (entry v ws)))
inserted-size v ws (e ∷ es) =
    let n = length-entry_bytes (entry v ws) in
    let ih = inserted-size v ws es in
    let old = length-append (entry_bytes e) (entries_bytes es) in
    by_place v ws e es
    (λ h. rw (inserted-front v ws e es h) (omega (arith, n, length-append (entry_bytes (entry v ws)) (entries_bytes (e ∷ es)))))
    (λ h. let u = entry v (combine either ws e.words) in
    rw (inserted-here v ws e es h)
    (omega (arith, old, length-append (entry_bytes u) (entries_bytes es), length-entry_bytes u, length-entry_bytes e, combine-length either ws e.words)))
    (λ h. rw (inserted-later v ws e es h) (omega (arith, old, ih, length-append (entry_bytes e) (entries_bytes (inserted v ws es)))))

module _ (v : ℕ) (ws : List ℕ) (small : v < 2 ^ 64) (valid : Valid ws) (fit : All (λ w. w < 2 ^ 64) ws) where
  new : (lo : ℕ) → lo ≤ v → Sound lo (entry v ws)
  new lo h = record { low = h; value = small; valid = valid; words = fit }

  pub inserted-sound : (es : List Entry) (lo : ℕ) → lo ≤ v → Sounds lo es → Sounds lo (inserted v ws es)
  unfolding inserted
  inserted-sound [] lo h s = (new lo h, tt)
  inserted-sound (e ∷ es) lo h s =
      let o = s.0 in
      by_place v ws e es
      (λ k. rw (inserted-front v ws e es k) (new lo h, (at_least e k o, s.1)))
      (λ k. rw (inserted-here v ws e es k)
      (record { low = h; value = small; valid = combine-valid either refl ws e.words valid o.valid; words = combine-all either (λ w. w < 2 ^ 64) ws e.words fit o.words }, rw k s.1))
      (λ k. rw (inserted-later v ws e es k) (o, inserted-sound es (suc e.value) k s.1))

  -- an index that was read, with an insertion, reads back as what was inserted
  pub inserted-reads : (s : List ℕ) → Bytes s → index_fault s ≡ 0 → length (index_bytes (inserted v ws (entries s))) ≤ max_bytes
      → (index_fault (index_bytes (inserted v ws (entries s))) ≡ 0) × (entries (index_bytes (inserted v ws (entries s))) ≡ inserted v ws (entries s))
  inserted-reads s all e h =
      let es = inserted v ws (entries s) in
      let z = append-nil (index_bytes es) in
      rw z at (written-reads es [] (inserted-sound (entries s) 0 (omega arith) (entries-sound s all e)) (rw z h))

-- ---- the call: what an accepted insertion has written is an index, and lists these rows

-- an index that is judged with another argument, and not refused
pub index-judged : (s : List ℕ) (g h : ℕ) → (h ≡ 0 → bytes_fault s ≡ 0) → (too_long max_bytes s then g then h) ≡ 0 → index_fault s ≡ 0
unfolding index_fault
index-judged s g h b e = then-none _ _ (front-none _ _ e) ∙ b (rest-none _ _ (rest-none _ _ e))

pub fault-index : (s ws : List ℕ) → insert_fault s ws ≡ 0 → index_fault s ≡ 0
unfolding insert_fault
fault-index s ws e = index-judged s _ _ (front-none _ _) e

fault-runs : (s ws : List ℕ) → insert_fault s ws ≡ 0 → fault ws ≡ 0
unfolding insert_fault fault
fault-runs s ws e =
    let r = rest-none _ _ e in
    then-none _ _ (front-none _ _ r) ∙ rest-none _ _ (rest-none _ _ r)

module _ (s : List ℕ) (v : ℕ) (ws out : List ℕ) (a : Answer) (out' : List ℕ) (g : Inserted s v ws out a out') (z : a.refusal ≡ 0) where
  abbrev result : List ℕ
  result = index_bytes (inserted v ws (entries s))

  none : (insert_fault s ws then no_room max_bytes (length result) (length out)) ≡ 0
  none = sym g.refusal ∙ z

  module _ (all : Bytes s) (small : v < 2 ^ 64) (fit : All (λ w. w < 2 ^ 64) ws) where
    written : (index_fault result ≡ 0) × (entries result ≡ inserted v ws (entries s))
    written =
        inserted-reads v ws small (fault-accepted ws (fault-runs s ws (front-none _ _ none))).valid fit s all (fault-index s ws (front-none _ _ none))
        (room_within max_bytes (length result) (length out) (rest-none _ _ none))

    pub insert-index : index_fault (take a.len out') ≡ 0
    insert-index = rw (gives-result _ result 0 out a out' g z) written.0

    pub insert-entries : entries (take a.len out') ≡ inserted v ws (entries s)
    insert-entries = rw (gives-result _ result 0 out a out' g z) written.1

    pub insert-rows : (u r : ℕ)
        → has (words_of (entries (take a.len out')) u) r ≡ cond (eqb u v) (has ws r || has (words_of (entries s) u) r) (has (words_of (entries s) u) r)
    insert-rows u r =
        let f = front-none _ _ none in
        rw insert-entries
        (inserted-rows v ws (fault-accepted ws (fault-runs s ws f)).valid u r (entries s) 0 (entries-sound s all (fault-index s ws f)))
