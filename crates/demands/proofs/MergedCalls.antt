-- `merge`, from its contract: the result is an index that lists, under each value, the rows that the two list there; in either order of the two. With an
-- index of no entries it is `encode`, with an index of one entry it is `insert`.
use mathlib.Core.Path.{◌≡◌, sym, ap, ◌∙◌}
use mathlib.Core.Bool.{◌||◌}
use mathlib.Core.Logic.{◌↔◌}
use mathlib.Core.List.{List, [], ◌∷◌, append-nil}
use Prim.Native.Nat.{ℕ, ◌^◌, ◌≤◌, ◌<◌}
use native.Mathlib.Omega.{arith}
use borrow.Author.Tests.{le-ltb}
use lib.ListN.{length, take}
use Rattle.fields.specs.Refusal.{◌then◌}
use Rattle.fields.specs.Bytes.{Bytes}
use Rattle.fields.specs.Answers.{short, Gives}
use Rattle.fields.specs.declared.outcome.Answer.{Answer}
use Rattle.fields.specs.Limits.{too_long, no_room, max_bytes}
use Rattle.fields.proofs.Refusals.{then-none, front-none, rest-none, when_false}
use Rattle.fields.proofs.Answers.{gives-result}
use Rattle.fields.proofs.Limits.{room_within}
use Rattle.run_list.specs.Rising.{All}
use Rattle.run_list.specs.Runs.{has, fault}
use Rattle.run_list.specs.Blocks.{block_words}
use Rattle.run_list.proofs.Validity.{fault-accepted}
use Rattle.index.specs.Index.{Entry, entry, bytes_fault, index_fault, entries, index_bytes, words_of, present}
use Rattle.index.specs.Calls.{lookup}
use Rattle.index.specs.Exact.{NothingIgnored}
use Rattle.index.proofs.Entries.{open-index}
use Rattle.index.proofs.Sizes.{written-within}
use Rattle.index.proofs.IndexTrip.{Sounds, written-bytes, written-reads, entries-sound}
use Rattle.index.proofs.LookupCalls.{lookup-words}
use Rattle.index.proofs.Exactly.{exact-written, whole-exact}
use Rattle.index_write.specs.Calls.{Encoded, inserted, insert_fault, Inserted}
use Rattle.index_merge.specs.Calls.{merged, merge_fault, merged_bytes, Merged}
use Rattle.index_merge.proofs.Merging.{none-merged, merged-none}
use Rattle.index_merge.proofs.Calling.{fault-first, fault-second}
use Rattle.demands.proofs.MergedRows.{merged-one, merged-present, merged-sound, merged-rows, merged-swap}
use Rattle.demands.proofs.TableCalls.{then-last}
use Rattle.demands.proofs.BoundLaws.{then_same}

-- ---- refusals

-- an index that is judged with another argument, which is accepted
judged-alone : (s : List ℕ) (g h : ℕ) → (g then h) ≡ 0 → (too_long max_bytes s then g then bytes_fault s then h) ≡ index_fault s
unfolding index_fault
judged-alone s g h e = ap (λ (f : ℕ). too_long max_bytes s then f) (then-none g _ (front-none g h e) ∙ then-last (bytes_fault s) h (rest-none g h e))

insert-accepted : (s ws : List ℕ) → fault ws ≡ 0 → insert_fault s ws ≡ index_fault s
unfolding insert_fault fault
insert-accepted s ws e = judged-alone s _ _ e

module _ (s t : List ℕ) where
  -- where one is accepted, the refusal is that of the other
  pub first-accepted : index_fault s ≡ 0 → merge_fault s t ≡ index_fault t
  unfolding merge_fault index_fault
  first-accepted e = then-none _ _ (front-none _ _ e) ∙ ap (λ (f : ℕ). too_long max_bytes t then f) (then-none _ _ (rest-none _ _ e))

  pub second-accepted : index_fault t ≡ 0 → merge_fault s t ≡ index_fault s
  unfolding merge_fault index_fault
  second-accepted e = judged-alone s _ _ e

-- ---- what an accepted call has written

module _ (s t out : List ℕ) (a : Answer) (out' : List ℕ) (g : Merged s t out a out') (z : a.refusal ≡ 0) (all-s : Bytes s) (all-t : Bytes t) where
  abbrev es : List Entry
  es = entries s

  abbrev fs : List Entry
  fs = entries t

  none : (merge_fault s t then no_room max_bytes (length (merged_bytes s t)) (length out)) ≡ 0
  none = sym g.refusal ∙ z

  first-right : index_fault s ≡ 0
  first-right = fault-first s t (front-none _ _ none)

  second-right : index_fault t ≡ 0
  second-right = fault-second s t (front-none _ _ none)

  first-sound : Sounds 0 es
  first-sound = entries-sound s all-s first-right

  second-sound : Sounds 0 fs
  second-sound = entries-sound t all-t second-right

  result : take a.len out' ≡ merged_bytes s t
  result = gives-result _ (merged_bytes s t) 0 out a out' g z

  written : (index_fault (merged_bytes s t) ≡ 0) × (entries (merged_bytes s t) ≡ merged es fs)
  written =
      let n = append-nil (merged_bytes s t) in
      let room = room_within max_bytes (length (merged_bytes s t)) (length out) (rest-none _ _ none) in
      rw n at (written-reads (merged es fs) [] (merged-sound es fs 0 first-sound second-sound) (rw n room))

  -- it is an index
  pub merge-index : index_fault (take a.len out') ≡ 0
  merge-index = rw result written.0

  -- its entries are the merged ones
  pub merge-entries : entries (take a.len out') ≡ merged (entries s) (entries t)
  merge-entries = rw result written.1

  merge-bytes : Bytes (take a.len out')
  merge-bytes = rw result (written-bytes (merged es fs))

  -- its values rise
  pub merge-rising : Sounds 0 (entries (take a.len out'))
  merge-rising = entries-sound (take a.len out') merge-bytes merge-index

  -- the values of both, and no other
  pub merge-present : (u : ℕ) → present (entries (take a.len out')) u ≡ (present (entries s) u || present (entries t) u)
  merge-present u = rw merge-entries (merged-present es fs u)

  -- the rows of both
  pub merge-rows : (u r : ℕ) → has (words_of (entries (take a.len out')) u) r ≡ (has (words_of (entries s) u) r || has (words_of (entries t) u) r)
  merge-rows u r = rw merge-entries (merged-rows es fs 0 first-sound second-sound u r)

  -- "A bale must be found under a value in the merged index if and only if one of the two lists it there": by the blocks that `bitmap` gives
  pub merge-found : (u r : ℕ) → has (block_words (lookup (take a.len out') u)) r ≡ (has (block_words (lookup s u)) r || has (block_words (lookup t u)) r)
  merge-found u r =
      rw (lookup-words (take a.len out') u merge-bytes merge-index, lookup-words s u all-s first-right, lookup-words t u all-t second-right) (merge-rows u r)

  -- "The output is exact index bytes": no byte of it is ignored
  pub merge-exact : NothingIgnored (take a.len out')
  merge-exact =
      whole-exact (take a.len out') merge-bytes merge-index
      (sym (exact-written (take a.len out') merge-bytes merge-index) ∙ ap index_bytes merge-entries ∙ sym result)

-- ---- calls that give the same

-- accepted indexes give the same bytes in either order
pub merge-swap : (s t before : List ℕ) (r : Answer) (out : List ℕ) → merge_fault s t ≡ 0 → Bytes s → Bytes t
    → Merged s t before r out → Merged t s before r out
merge-swap s t before r out e all-s all-t =
    let first = fault-first s t e in
    let second = fault-second s t e in
    let none : merge_fault s t ≡ merge_fault t s = e ∙ sym (first-accepted t s second ∙ first) in
    let same : merged_bytes s t ≡ merged_bytes t s =
    ap index_bytes (merged-swap (entries s) (entries t) 0 (entries-sound s all-s first) (entries-sound t all-t second)) in
    λ g. rw (none, same) at g

module _ (s before : List ℕ) (r : Answer) (out : List ℕ) where
  -- a call that writes the entries of one index: they are never past the limit of a result
  as-encoded : (f : ℕ) (ws : List ℕ) → f ≡ index_fault s → ws ≡ index_bytes (entries s)
      → Gives (f then no_room max_bytes (length ws) (length before)) ws 0 before r out ↔ Encoded s before r out
  unfolding no_room
  as-encoded f ws e d =
      let room : (f then no_room max_bytes (length ws) (length before)) ≡ (index_fault s then short (length (index_bytes (entries s))) (length before)) =
      rw (e, d) (then_same (index_fault s) _ _
      (λ z. then-last _ _ (when_false _ 10 (le-ltb max_bytes (length (index_bytes (entries s))) (omega (arith, written-within s z, (open-index s z).short)))))) in
      (λ g. rw (room, d) at g, λ g. rw (room, d) g)

  -- with an index that has no entries, as the second and as the first: `encode`
  pub merge-empty : (t : List ℕ) → index_fault t ≡ 0 → entries t ≡ [] → Merged s t before r out ↔ Encoded s before r out
  merge-empty t e n = as-encoded (merge_fault s t) (merged_bytes s t) (second-accepted s t e) (rw n (ap index_bytes (merged-none (entries s))))

  pub empty-merge : (t : List ℕ) → index_fault t ≡ 0 → entries t ≡ [] → Merged t s before r out ↔ Encoded s before r out
  empty-merge t e n = as-encoded (merge_fault t s) (merged_bytes t s) (first-accepted t s e) (rw n (ap index_bytes (none-merged (entries s))))

  -- with an index of one entry: `insert`
  pub merge-insert : (v : ℕ) (ws : List ℕ) → fault ws ≡ 0 → v < 2 ^ 64 → All (λ w. w < 2 ^ 64) ws → length (index_bytes (entry v ws ∷ [])) ≤ max_bytes
      → Inserted s v ws before r out ↔ Merged (index_bytes (entry v ws ∷ [])) s before r out
  merge-insert v ws e small fit l =
      let one = entry v ws ∷ [] in
      let n = append-nil (index_bytes one) in
      let sound : Sounds 0 one = (record { low = omega arith; value = small; valid = (fault-accepted ws e).valid; words = fit }, tt) in
      let read = rw n at (written-reads one [] sound (rw n l)) in
      let none : insert_fault s ws ≡ merge_fault (index_bytes one) s = insert-accepted s ws e ∙ sym (first-accepted (index_bytes one) s read.0) in
      let same : index_bytes (inserted v ws (entries s)) ≡ merged_bytes (index_bytes one) s = rw read.1 (ap index_bytes (sym (merged-one v ws (entries s)))) in
      (λ g. rw (none, same) at g, λ g. rw (none, same) g)
