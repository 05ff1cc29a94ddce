-- `encode` of an index and `decode`, each with what the other gave: "A written index reads back as the same entries"; "Writing what was read yields the
-- input with its ignored bytes cut and lengths made exact".
use mathlib.Core.Path.{◌≡◌, sym, ◌∙◌}
use mathlib.Core.Logic.{⊎_elim}
use mathlib.Core.List.{List}
use Prim.Native.Nat.{ℕ, ◌+◌, ◌*◌}
use native.Mathlib.Omega.{arith}
use lib.ListN.{length, take}
use Rattle.fields.specs.Refusal.{◌then◌}
use Rattle.fields.specs.Bytes.{Bytes}
use Rattle.fields.specs.Answers.{short, after, Gives, Writes}
use Rattle.fields.specs.declared.outcome.Answer.{Answer}
use Rattle.fields.proofs.Refusals.{then-none, then_some, front-none}
use Rattle.fields.proofs.Answers.{accepted-none, accepted-some, gives-result}
use Rattle.fields.proofs.Tests.{split-eq}
use Rattle.index.specs.Index.{index_fault, entries, all_runs, index_bytes}
use Rattle.index.specs.Exact.{exact, NothingIgnored}
use Rattle.index.specs.Calls.{Read}
use Rattle.index.specs.declared.IndexRead.{IndexRead}
use Rattle.index.proofs.IndexTrip.{written-again}
use Rattle.index.proofs.Exactly.{exact-written, exact-whole}
use Rattle.index.proofs.Sizes.{read-accepted, read-entries, read-runs, counts-written}
use Rattle.index_write.specs.Calls.{Encoded}

-- the result does not matter to a call that is refused
other_result : (F : ℕ) (ws vs before out : List ℕ) (r : Answer) → (F ≡ 0 → ⊥) → Gives F ws 0 before r out → Gives F vs 0 before r out
unfolding after
other_result F ws vs before out r z g =
    record {
      refusal = g.refusal;
      len = g.len ∙ accepted-some F (length ws) 0 z ∙ sym (accepted-some F (length vs) 0 z);
      output = g.output ∙ accepted-some F _ before z ∙ sym (accepted-some F _ before z);
    }

module _ (s : List ℕ) (all : Bytes s) (before out : List ℕ) (r : Answer) (g : Encoded s before r out) where
  -- the contract of `encode` with the exact input as its result, for any index, refused or not
  pub encode-exact : Gives (index_fault s then short (length (exact s)) (length before)) (exact s) 0 before r out
  encode-exact =
      ⊎_elim
      (λ k. rw (exact-written s all k.1) at g)
      (λ k. rw (then_some (index_fault s) (short (length (exact s)) (length before)) k.1)
      (other_result (index_fault s) (index_bytes (entries s)) (exact s) before out r k.1
      (rw (then_some (index_fault s) (short (length (index_bytes (entries s))) (length before)) k.1) at g)))
      (split-eq (index_fault s) 0)

  module _ (e : index_fault s ≡ 0) where
    pub encode-writes : Writes (exact s) before r out
    encode-writes =
        let none : (index_fault s then short (length (exact s)) (length before)) ≡ short (length (exact s)) (length before) = then-none _ _ e in
        rw none at encode-exact

    -- an index with nothing to ignore is written as it is
    pub encode_same : NothingIgnored s → Writes s before r out
    encode_same x = rw (exact-whole s all e x) at encode-writes

  -- ---- encode, then decode

  module _ (z : r.refusal ≡ 0) where
    read_right : index_fault s ≡ 0
    read_right = front-none _ _ (sym g.refusal ∙ z)

    left : take r.len out ≡ index_bytes (entries s)
    left = gives-result _ (index_bytes (entries s)) 0 before r out g z

    pub encode-index : index_fault (take r.len out) ≡ 0
    encode-index = rw left (written-again s all read_right).0

    pub encode-entries : entries (take r.len out) ≡ entries s
    encode-entries = rw left (written-again s all read_right).1

    pub encode-decode : (d : IndexRead) → Read (take r.len out) d → (d.refusal ≡ 0) × (d.entries ≡ length (entries s)) × (d.runs ≡ all_runs (entries s))
    encode-decode d k =
        let t = take r.len out in (
          k.refusal ∙ encode-index,
          k.count ∙ accepted-none (index_fault t) (length (entries t)) 0 encode-index ∙ rw encode-entries,
          k.total ∙ accepted-none (index_fault t) (all_runs (entries t)) 0 encode-index ∙ rw encode-entries,
        )

  -- ---- decode, then encode

  -- the counts that were read are enough to know the room
  pub decode-encode : (d : IndexRead) → Read s d → d.refusal ≡ 0
      → (r.refusal ≡ short (4 + 16 * d.entries + 16 * d.runs) (length before)) × (r.refusal ≡ 0 → take r.len out ≡ exact s)
  decode-encode d k z =
      let e = read-accepted s d k z in
      let l : 4 + 16 * d.entries + 16 * d.runs ≡ length (index_bytes (entries s)) =
      omega (arith, counts-written s e d.entries d.runs (read-entries s d k z) (read-runs s d k z)) in
      (g.refusal ∙ then-none _ _ e ∙ rw l, gives-result _ (exact s) 0 before r out (encode-writes e))
