-- "A new value gets an entry, even with no runs": after an insertion the inserted value is present, and the values that were present before; no other is.
use mathlib.Core.Path.{◌≡◌, refl}
use mathlib.Core.Bool.{Bool, true, false, ◌||◌}
use mathlib.Core.List.{List, [], ◌∷◌}
use Prim.Native.Nat.{ℕ, ◌^◌, ◌<◌}
use lib.Dec.{eqb}
use lib.ListN.{take}
use Rattle.fields.specs.Bytes.{Bytes}
use Rattle.fields.specs.declared.outcome.Answer.{Answer}
use Rattle.run_list.specs.Rising.{All}
use Rattle.index.specs.Index.{Entry, entries, present}
use Rattle.index_write.specs.Calls.{inserted, Inserted}
use Rattle.demands.proofs.InsertedRows.{inserted-empty, inserted-front, inserted-here, inserted-later, by_place, insert-entries}

or-twice : (p q : Bool) → (p || q) ≡ (p || (p || q))
or-twice true q = refl
or-twice false q = refl

pub or_swap : (p q r : Bool) → (p || (q || r)) ≡ (q || (p || r))
or_swap true true r = refl
or_swap true false r = refl
or_swap false q r = refl

pub inserted-present : (v : ℕ) (ws : List ℕ) (es : List Entry) (u : ℕ) → present (inserted v ws es) u ≡ (eqb v u || present es u)
unfolding present
inserted-present v ws [] u = rw (inserted-empty v ws)
inserted-present v ws (e ∷ es) u =
    by_place v ws e es
    (λ h. rw (inserted-front v ws e es h))
    (λ h. rw (inserted-here v ws e es h, ← h) (or-twice (eqb v u) (present es u)))
    (λ h. rw (inserted-later v ws e es h, inserted-present v ws es u) (or_swap (eqb e.value u) (eqb v u) (present es u)))

-- ---- the call

pub insert-present : (s : List ℕ) (v : ℕ) (ws out : List ℕ) (a : Answer) (out' : List ℕ) → Inserted s v ws out a out' → a.refusal ≡ 0
    → Bytes s → v < 2 ^ 64 → All (λ w. w < 2 ^ 64) ws
    → (u : ℕ) → present (entries (take a.len out')) u ≡ (eqb v u || present (entries s) u)
insert-present s v ws out a out' g z all small fit u = rw (insert-entries s v ws out a out' g z all small fit) (inserted-present v ws (entries s) u)
