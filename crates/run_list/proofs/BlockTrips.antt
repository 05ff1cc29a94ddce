-- `encode` and `decode`, each called with what the other has left: "A written block reads back as its list"; "Writing what was read yields the input with
-- its ignored bytes cut".
use mathlib.Core.Path.{◌≡◌, sym, ◌∙◌}
use mathlib.Core.List.{List, [], append-nil}
use Prim.Native.Nat.{ℕ, ◌^◌, ◌<◌}
use lib.ListN.{length, take}
use Rattle.fields.specs.Refusal.{◌then◌}
use Rattle.fields.specs.Bytes.{Bytes}
use Rattle.fields.specs.Answers.{short, Writes}
use Rattle.fields.specs.Limits.{too_long, max_bytes}
use Rattle.fields.specs.declared.outcome.Answer.{Answer}
use Rattle.fields.proofs.Refusals.{then-none, front-none, rest-none}
use Rattle.fields.proofs.Answers.{gives-result}
use Rattle.fields.proofs.Limits.{long-none, none-long}
use Rattle.run_list.specs.Rising.{All}
use Rattle.run_list.specs.Runs.{fault}
use Rattle.run_list.specs.Blocks.{block_fault, block_words, exact_block, block_bytes}
use Rattle.run_list.specs.Calls.{Decoded, Encoded}
use Rattle.run_list.proofs.Validity.{Accepted, fault-accepted, accepted-fault}
use Rattle.run_list.proofs.RoundTrip.{written-reads, read-writes, read-valid, block_words-limit, block_bytes-limit}

-- ---- encode, then decode

module _ (runs before out : List ℕ) (r : Answer) (e : Encoded runs before r out) (z : r.refusal ≡ 0) where
  encode-left : take r.len out ≡ block_bytes runs
  encode-left = gives-result _ (block_bytes runs) 0 before r out e z

  runs-right : Accepted runs
  runs-right = fault-accepted runs (front-none _ _ (sym e.refusal ∙ z))

  pub encode-decode : All (λ w. w < 2 ^ 64) runs → (before₂ out₂ : List ℕ) (r₂ : Answer) → Decoded (take r.len out) before₂ r₂ out₂
      → Writes runs before₂ r₂ out₂
  encode-decode small before₂ out₂ r₂ d =
      let b = block_bytes runs in
      let k : (block_fault b ≡ 0) × (block_words b ≡ runs) = rw (append-nil b) at (written-reads runs [] runs-right.valid runs-right.limit small) in
      let long = sym (long-none max_bytes b (block_bytes-limit runs runs-right.limit)) in
      let none : (too_long max_bytes b then block_fault b then short (length runs) (length before₂)) ≡ short (length runs) (length before₂) =
      then-none _ _ long ∙ then-none _ _ k.0 in
      rw none at (rw (encode-left, k.1) at d)

-- ---- decode, then encode

module _ (block before out : List ℕ) (r : Answer) (d : Decoded block before r out) (z : r.refusal ≡ 0) where
  decode-left : take r.len out ≡ block_words block
  decode-left = gives-result _ (block_words block) 0 before r out d z

  none : (too_long max_bytes block then block_fault block then short (length (block_words block)) (length before)) ≡ 0
  none = sym d.refusal ∙ z

  block-right : block_fault block ≡ 0
  block-right = front-none _ _ (rest-none _ _ none)

  words_right : fault (block_words block) ≡ 0
  words_right =
      accepted-fault (block_words block) (record { limit = block_words-limit block (none-long max_bytes block (front-none _ _ none)); valid = read-valid block block-right })

  -- what `decode` leaves is accepted as a run list
  pub decode-accepted : fault (take r.len out) ≡ 0
  decode-accepted = rw decode-left words_right

  pub decode-encode : Bytes block → (before₂ out₂ : List ℕ) (r₂ : Answer) → Encoded (take r.len out) before₂ r₂ out₂
      → Writes (exact_block block) before₂ r₂ out₂
  decode-encode all before₂ out₂ r₂ e =
      let none : (fault (block_words block) then short (length (exact_block block)) (length before₂)) ≡ short (length (exact_block block)) (length before₂) =
      then-none _ _ words_right in
      rw none at (rw (decode-left, read-writes block all block-right) at e)
