-- `select`, one law for each way through the code: b are the bits once they are judged, end is len, cut.
use mathlib.Core.Path.{◌≡◌}
use mathlib.Core.List.{List, map}
use Prim.Native.Nat.{ℕ}
use Rattle.fields.specs.Refusal.{refusal_number}
use Rattle.fields.specs.Answers.{Writes}
use Rattle.fields.specs.Directory.{other_directory}
use Rattle.fields.specs.Limits.{too_long, max_bits}
use Rattle.fields.specs.declared.outcome.Refusal.{Refusal}
use Rattle.fields.specs.declared.outcome.Answer.{Answer}
use Rattle.packed.specs.Bits.{cut_to}
use Rattle.bit_rank.specs.BitRanks.{bit_directory}
use Rattle.bit_rank.proofs.BitCalls.{keys-refused, keys-other, keys-done}
use Rattle.bit_select.specs.BitSelects.{bit_select, Selects}

module _ (bits : List ℕ) (len : ℕ) (directory ks out : List ℕ) where
  pub select-refused : (e : Refusal) → refusal_number e ≡ too_long max_bits bits → Selects bits len directory ks out (record { refusal = refusal_number e; len = 0 }) out
  select-refused = keys-refused bits len directory (bit_select bits (cut_to bits len)) ks out

  module _ (z : 0 ≡ too_long max_bits bits) (b : List ℕ) (eb : b ≡ bits) (end : ℕ) (ee : end ≡ cut_to bits len) where
    pub select-other : (e : Refusal) → refusal_number e ≡ other_directory directory (bit_directory 512 b end) → Selects bits len directory ks out (record { refusal = refusal_number e; len = 0 }) out
    select-other = keys-other bits len directory z b eb end ee (bit_select bits (cut_to bits len)) ks out

    pub select-done : 0 ≡ other_directory directory (bit_directory 512 b end) → (b' : List ℕ) → b' ≡ b → (end' : ℕ) → end' ≡ end → (r : Answer) (out' : List ℕ)
        → Writes (map (bit_select b' end') ks) out r out' → Selects bits len directory ks out r out'
    select-done d b' eb' end' ee' r out' w = keys-done bits len directory z b eb end ee (bit_select bits (cut_to bits len)) ks out d r out' (rw (eb', eb, ee', ee) at w)
