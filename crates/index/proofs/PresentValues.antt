-- Which values are present: those with a block to look up, and those that the search finds.
use mathlib.Core.Path.{◌≡◌, refl, sym, ap, ◌∙◌}
use mathlib.Core.Bool.{Bool, true, false, true≢false}
use mathlib.Core.Logic.{◌↔◌, ⊎_elim}
use mathlib.Core.List.{List, [], ◌∷◌}
use Prim.Native.Nat.{ℕ}
use native.Mathlib.Omega.{arith}
use lib.ListN.{length}
use Rattle.fields.proofs.Answers.{accepted-none}
use Rattle.fields.proofs.Tests.{split-eq}
use Rattle.run_list.specs.Blocks.{block_words, block_bytes}
use Rattle.run_list.proofs.RoundTrip.{length-block_bytes}
use Rattle.index.specs.Index.{Entry, block_at, index_fault, entries, block_of, present}
use Rattle.index.specs.Calls.{lookup}
use Rattle.index.specs.Search.{point_of, is_known}
use Rattle.index.proofs.Search.{known-block, unknown-block}

-- a block has at least its count
block-some : (ws : List ℕ) → length (block_bytes ws) ≡ 0 → ⊥
block-some ws e = absurd (omega (arith, length-block_bytes ws))

-- a present value has a block, even with no runs
missing-none : (es : List Entry) (v : ℕ) → length (block_of es v) ≡ 0 → present es v ≡ false
unfolding block_of present
missing-none [] v e = refl
missing-none (x ∷ es) v e =
    ⊎_elim (λ k. absurd (block-some x.words (rw k.0 at e))) (λ k. rw k.0 (missing-none es v (rw k.0 at e))) (split-eq x.value v)

none-missing : (es : List Entry) (v : ℕ) → present es v ≡ false → block_of es v ≡ []
unfolding block_of present
none-missing [] v e = refl
none-missing (x ∷ es) v e =
    ⊎_elim (λ k. absurd (true≢false (rw k.0 at e))) (λ k. rw k.0 (none-missing es v (rw k.0 at e))) (split-eq x.value v)

pub block-present : (es : List Entry) (v : ℕ) → (block_of es v ≡ []) ↔ (present es v ≡ false)
block-present es v = (λ e. missing-none es v (ap length e), none-missing es v)

module _ (s : List ℕ) (v : ℕ) (e : index_fault s ≡ 0) where
  -- `bitmap` gives back an empty part exactly for the values that are not present
  pub lookup-present : (length (lookup s v) ≡ 0) ↔ (present (entries s) v ≡ false)
  unfolding lookup
  lookup-present =
      let a = accepted-none (index_fault s) (block_of (entries s) v) [] e in
      (λ k. missing-none (entries s) v (rw a at k), λ k. rw (a, none-missing (entries s) v k))

  -- and the search finds the others
  pub known-present : is_known s v ≡ present (entries s) v
  known-present = go (is_known s v) (present (entries s) v) refl refl
    where
      go : (k p : Bool) → is_known s v ≡ k → present (entries s) v ≡ p → k ≡ p
      go true true z y = refl
      go true false z y =
          absurd (block-some (block_words (block_at s (point_of s v))) (ap length (sym (known-block s v e z) ∙ none-missing (entries s) v y)))
      go false p z y = sym (missing-none (entries s) v (ap length (unknown-block s v e z))) ∙ y
