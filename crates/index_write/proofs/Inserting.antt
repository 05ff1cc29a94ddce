-- The parts of `insert`: its insertion point, its faults and the size of its result. One law for each way through the code.
use mathlib.Core.Path.{◌≡◌, refl, sym, ◌∙◌, ap}
use mathlib.Core.List.{List, [], ◌∷◌, ◌++◌}
use Prim.Native.Nat.{ℕ, zero, suc, ◌+◌, ◌-◌, ◌*◌, ◌≤◌, ◌<◌}
use native.Mathlib.Omega.{arith}
use lib.Dec.{ltb}
use lib.ListN.{length, take, drop, length-append, length-take, length-drop}
use lib.Seq.{sets}
use mathlib.Core.Bool.{true, false}
use borrow.Author.Tests.{lt-ltb, le-ltb, eq-eqb, ne_eqb}
use Rattle.fields.specs.Answers.{Stored}
use Rattle.fields.specs.declared.outcome.Answer.{Answer}
use Rattle.fields.proofs.Refusals.{then-none, found_first, refusal_some}
use Rattle.fields.proofs.Answers.{gives-refused, gives-accepted}
use Rattle.fields.specs.Limits.{too_long, no_room, max_words, max_bytes}
use Rattle.fields.proofs.Limits.{long-found, long-none, room-none, room_within}
use Rattle.run_list.specs.Runs.{own_fault, fault, Valid}
use Rattle.boundary.specs.Merge.{combine, either, op_of}
use Rattle.run_list.specs.Blocks.{block_words, block_runs, words_at}
use Rattle.run_list.proofs.Validity.{fault-accepted}
use Rattle.boundary.proofs.Combining.{combine-length, combine-left-alone}
use Rattle.run_list.proofs.RoundTrip.{block_words-limit}
use Rattle.boundary.proofs.Values.{op-either}
use Rattle.index.specs.Index.{Entry, entry, bytes_fault, entry_list, index_fault, entries, all_runs, entry_bytes, entries_bytes, index_bytes, value_at, length_at, next_at, entry_count}
use Rattle.index.specs.Calls.{Read}
use Rattle.index.specs.declared.IndexRead.{IndexRead}
use Rattle.index_write.specs.Calls.{inserted, insert_fault, Inserted}
use Rattle.index_write.specs.Inner.{bytes_from, joined, inserted_at, InsertsAt, Fitting, Fitted}
use Rattle.index_write.specs.declared.InsertionPoint.{InsertionPoint}
use Rattle.fields.specs.Refusal.{◌then◌, refusal_number}
use Rattle.fields.specs.declared.outcome.Refusal.{Refusal}
use Rattle.fields.specs.declared.outcome.Refusal.TheVariants.{TooLong}
use Rattle.index.proofs.Entries.{block-part}
use Rattle.index.proofs.Sizes.{length-entry_bytes, length-entries, index-size, long_order, counts-short, read-accepted}
use Rattle.index_write.proofs.Writing.{entries_bytes-append, bytes-split, bytes-first}
use Rattle.fields.specs.Bytes.{number_at, from_le}
use Rattle.index.specs.Search.{lesser, point_of, is_known, PlaceOf}
use Rattle.index.specs.declared.Place.{Place}
use Rattle.index.proofs.Search.{Below, known-there, search-along, search-split, search-below, before-fit, after-fit, known-first, known-open, unknown-above}

-- ---- the insertion point

-- lesser values are passed
skip-inserted : (v : ℕ) (ws : List ℕ) (es fs : List Entry) → Below v es → inserted v ws (es ++ fs) ≡ es ++ inserted v ws fs
unfolding inserted
skip-inserted v ws [] fs b = refl
skip-inserted v ws (e ∷ es) fs b =
    rw (le-ltb v e.value (omega (arith, b.0)), ne_eqb v e.value (λ z. omega (arith, z, b.0)), skip-inserted v ws es fs b.1)

-- at a place before greater values
gap-inserted : (n : ℕ) (s : List ℕ) (at v : ℕ) (ws : List ℕ) → (0 < n → v < value_at s at) → inserted v ws (entry_list n s at) ≡ entry v ws ∷ entry_list n s at
unfolding inserted entry_list
gap-inserted zero s at v ws h = refl
gap-inserted (suc n) s at v ws h = rw (lt-ltb v (value_at s at) (h (omega arith)))

-- nothing is joined to runs
joined-none : (ws s : List ℕ) (at : ℕ) → Valid ws → joined ws s at at ≡ ws
unfolding block_words block_runs words_at number_at from_le
joined-none ws s at v =
    let z : at - at ≡ 0 = omega arith in
    rw z (combine-left-alone ws v)

module _ (s : List ℕ) (v : ℕ) (e : index_fault s ≡ 0) where
  abbrev k : ℕ
  k = lesser s v

  abbrev at : ℕ
  at = point_of s v

  parts : length (index_bytes (entries s)) ≡ 4 + length (bytes_from s 4 k) + length (bytes_from s at (entry_count s - k))
  unfolding entries
  parts = omega (arith, index-size (entries s), bytes-split s 4 (entry_count s) at k (search-along s v))

  search-inserted : (ws : List ℕ) → inserted v ws (entries s) ≡ entry_list k s 4 ++ inserted v ws (entry_list (entry_count s - k) s at)
  search-inserted ws = rw (search-split s v) (skip-inserted v ws (entry_list k s 4) (entry_list (entry_count s - k) s at) (search-below s v))

  unknown-inserted : is_known s v ≡ false → (ws : List ℕ) → inserted v ws (entry_list (entry_count s - k) s at) ≡ entry v ws ∷ entry_list (entry_count s - k) s at
  unknown-inserted z ws = gap-inserted (entry_count s - k) s at v ws (λ h. unknown-above s v e z (omega arith))

  module _ (n : ℕ) (en : n ≡ length (entries s)) where
    c : n ≡ entry_count s
    c = en ∙ length-entries s

    few : n ≤ max_bytes
    few = omega (arith, counts-short s e n (all_runs (entries s)) en refl)

    missing-point : is_known s v ≡ false → InsertsAt s v (record { below = k; from = at; next = at; rest = n - k; old = 0 })
    missing-point z =
        record {
          result = λ ws w. search-inserted ws ∙ rw (unknown-inserted z ws, joined-none ws s at w, c);
          size = rw c (sym (parts ∙ omega arith));
          front = before-fit s v e;
          after = rw c (after-fit s v e);
          part = omega arith;
          count = omega (arith, few, c, (search-along s v).within);
        }

    module _ (z : is_known s v ≡ true) (l q : ℕ) (el : l ≡ length_at s at) (eq : q ≡ number_at 4 s (at + 12)) where
      known-point : InsertsAt s v (record { below = k; from = at + 12; next = at + 12 + l; rest = n - k - 1; old = 16 + 16 * q })
      unfolding inserted
      known-point =
          let t = known-there s v z in
          let o = known-open s v e z in
          let f = o.fit in
          let i : n - k - 1 ≡ entry_count s - (k + 1) = omega (arith, c, t.0) in
          let y : at + 12 + l ≡ next_at s at = omega arith in
          record {
            result = λ ws w. search-inserted ws ∙ rw (known-first s v e z, le-ltb v (value_at s at) (omega (arith, t.2)), eq-eqb v (value_at s at) t.2, block-part s at l el, i, y);
            size = rw (i, y) (sym (parts ∙ omega (arith, bytes-first s 4 (entry_count s) at k (search-along s v) t.0, f.count)));
            front = before-fit s v e;
            after = record { short = (before-fit s v e).short; place = omega (arith, f.fits); lo = suc (value_at s at); right = rw (i, y) o.rest };
            part = omega arith;
            count = omega (arith, few, c, t.0);
          }

    module _ (r : Place) (p : PlaceOf s v r) where
      pub point-below : r.below ≤ n
      point-below = omega (arith, c, p.below, (search-along s v).within)

      pub point-one : r.known ≡ true → 1 ≤ n - r.below
      point-one z = omega (arith, c, p.below, (known-there s v (sym p.known ∙ z)).0)

      pub point-missing : r.known ≡ false → InsertsAt s v (record { below = r.below; from = r.at; next = r.at; rest = n - r.below; old = 0 })
      point-missing z = rw (p.below, p.place) (missing-point (sym p.known ∙ z))

      pub point-known : r.known ≡ true → (l : ℕ) → l ≡ length_at s r.at → (q : ℕ) → q ≡ number_at 4 s (r.at + 12)
          → InsertsAt s v (record { below = r.below; from = r.at + 12; next = r.at + 12 + l; rest = n - r.below - 1; old = 16 + 16 * q })
      point-known z l el q eq = rw (p.below, p.place) (known-point (sym p.known ∙ z) l q (rw p.place at el) (rw p.place at eq))

-- ---- sizes

pub union-counted : (ws b out : List ℕ) (n : ℕ) (out' : List ℕ) → Stored (combine (op_of 14) ws b) out n out' → n ≡ length (combine either ws b)
union-counted ws b out n out' t = t.number ∙ rw op-either

module _ (s : List ℕ) (v : ℕ) (ws : List ℕ) (r : InsertionPoint) where
  -- the words of the value
  abbrev words : List ℕ
  words = joined ws s r.from r.next

  pub inserted-bytes : entries_bytes (inserted_at s v ws r) ≡ bytes_from s 4 r.below ++ (entry_bytes (entry v words) ++ bytes_from s r.next r.rest)
  unfolding entries_bytes
  inserted-bytes = entries_bytes-append (entry_list r.below s 4) (entry v words ∷ entry_list r.rest s r.next)

  pub inserted-length : length (index_bytes (inserted_at s v ws r)) ≡ 4 + length (bytes_from s 4 r.below) + (16 + 8 * length words) + length (bytes_from s r.next r.rest)
  inserted-length =
      let a = bytes_from s 4 r.below in
      let b = entry_bytes (entry v words) in
      let c = bytes_from s r.next r.rest in
      let l : length (entries_bytes (inserted_at s v ws r)) ≡ length (a ++ (b ++ c)) = ap length inserted-bytes in
      omega (arith, index-size (inserted_at s v ws r), length-append a (b ++ c), length-append b c, length-entry_bytes (entry v words))

  module _ (t : InsertsAt s v r) where
    module _ (f : fault ws ≡ 0) where
      is_inserted : inserted v ws (entries s) ≡ inserted_at s v ws r
      is_inserted = t.result ws (fault-accepted ws f).valid

      pub words-few : (n : ℕ) → n ≡ length words → n ≤ 1073741820
      words-few n e =
          let b = take (r.next - r.from) (drop r.from s) in
          let lb : length b ≤ length (drop r.from s) = omega (arith, length-take (r.next - r.from) (drop r.from s)) in
          let ls : length b ≤ max_bytes = omega (arith, length-drop r.from s, t.after.short) in
          omega (arith, combine-length either ws (block_words b), (fault-accepted ws f).limit, block_words-limit b ls)

      module _ (size : ℕ) (g : size ≡ length (index_bytes (entries s))) (w : ℕ) (ew : w ≡ length words) (n : ℕ) (en : n ≡ size + (16 + 8 * w) - r.old) where
        grown-is : n ≡ length (index_bytes (inserted_at s v ws r))
        grown-is = omega (arith, inserted-length, t.size)

        full_is : n ≡ length (index_bytes (inserted v ws (entries s)))
        full_is = grown-is ∙ rw is_inserted

        module _ (out : List ℕ) where
          pub fitted-full : (e : Refusal) → refusal_number e ≡ no_room max_bytes n (length out)
              → Fitted (index_bytes (inserted v ws (entries s))) out (record { refusal = refusal_number e; len = 0 }) out
          fitted-full e is = gives-refused _ _ 0 out (refusal_number e) (is ∙ rw full_is) (refusal_some e)

          module _ (z : 0 ≡ no_room max_bytes n (length out)) where
            pub fitting : Fitting (inserted_at s v ws r) out
            fitting =
                let y : no_room max_bytes n (length out) ≡ 0 = sym z in
                record { room = rw (← grown-is) (room-none max_bytes n (length out) y); limit = rw (← grown-is) (room_within max_bytes n (length out) y) }

            pub fitted-done : (out' : List ℕ) → out' ≡ sets out 0 (index_bytes (inserted_at s v ws r))
                → Fitted (index_bytes (inserted v ws (entries s))) out (record { refusal = 0; len = n }) out'
            fitted-done out' d =
                let m = fitting in
                gives-accepted _ (index_bytes (inserted v ws (entries s))) 0 out (rw (← full_is) (sym z)) (omega arith) (rw is_inserted m.room) n out' full_is (d ∙ rw is_inserted)

-- ---- the call

insert-order : (s ws : List ℕ) → insert_fault s ws ≡ (too_long max_words ws then index_fault s then own_fault ws)
unfolding insert_fault index_fault too_long
insert-order s ws = sym (long_order (ltb max_bytes (length s)) (ltb max_words (length ws)) (bytes_fault s) (own_fault ws))

-- an index that is read without a refusal has no fault
pub insert-index : (s : List ℕ) (r : IndexRead) → Read s r → r.refusal ≡ 0 → index_fault s ≡ 0
insert-index = read-accepted

module _ (s : List ℕ) (v : ℕ) (ws out : List ℕ) where
  insert-refused : (e : Refusal) → refusal_number e ≡ insert_fault s ws → Inserted s v ws out (record { refusal = refusal_number e; len = 0 }) out
  insert-refused e is = gives-refused _ _ 0 out (refusal_number e) (found_first _ _ (refusal_number e) is (refusal_some e)) (refusal_some e)

  pub insert-long : max_words < length ws → Inserted s v ws out (record { refusal = 1; len = 0 }) out
  insert-long h = insert-refused TooLong (found_first _ _ 1 (long-found max_words ws h) (λ z. omega arith) ∙ sym (insert-order s ws))

  module _ (few : length ws ≤ max_words) where
    from-index : insert_fault s ws ≡ (index_fault s then own_fault ws)
    from-index = insert-order s ws ∙ then-none _ _ (sym (long-none max_words ws few))

    pub insert-faulty : (e : Refusal) → refusal_number e ≡ index_fault s → Inserted s v ws out (record { refusal = refusal_number e; len = 0 }) out
    insert-faulty e is = insert-refused e (found_first _ _ (refusal_number e) is (refusal_some e) ∙ sym from-index)

    module _ (z : 0 ≡ index_fault s) where
      from-runs : insert_fault s ws ≡ fault ws
      unfolding fault
      from-runs = from-index ∙ then-none _ _ (sym z) ∙ sym (then-none _ _ (sym (long-none max_words ws few)))

      pub insert-wrong : (e : Refusal) → refusal_number e ≡ fault ws → Inserted s v ws out (record { refusal = refusal_number e; len = 0 }) out
      insert-wrong e is = insert-refused e (is ∙ sym from-runs)

      -- the index and the runs that the judged values have
      pub insert-done : (t : List ℕ) → t ≡ s → 0 ≡ fault ws → (xs : List ℕ) → xs ≡ ws → (a : Answer) (out' : List ℕ)
          → Fitted (index_bytes (inserted v xs (entries t))) out a out' → Inserted s v ws out a out'
      insert-done t et y xs ex a out' g = rw (then-none (insert_fault s ws) _ (from-runs ∙ sym y)) (rw (et, ex) at g)
