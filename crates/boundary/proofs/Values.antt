-- One boundary of a merge, on values: one law for each way through the code.
use mathlib.Core.Path.{◌≡◌, refl, fun_ext}
use mathlib.Core.Bool.{Bool, true, false}
use Prim.Native.Nat.{ℕ, zero, suc, ◌+◌, ◌*◌, ◌/◌, ◌%◌, ◌^◌, ◌<◌}
use native.Mathlib.Omega.{arith}
use lib.Dec.{eqb}
use Rattle.fields.specs.Counting.{bit}
use Rattle.boundary.specs.Merge.{op_of, either, both, left_only}
use Rattle.boundary.specs.Values.{odd_at}

-- ---- the state between boundaries

bit-odd : (n : ℕ) → bit (odd_at n) ≡ n % 2
bit-odd n = go (n % 2) (omega arith)
  where
    go : (x : ℕ) → x < 2 → bit (eqb x 1) ≡ x
    go zero h = refl
    go (suc zero) h = refl
    go (suc (suc x)) h = absurd (omega arith)

pub state-is : (table i j : ℕ) → eqb (table / 2 ^ (i % 2 * 2 + j % 2) % 2) 1 ≡ op_of table (odd_at i) (odd_at j)
unfolding op_of
state-is table i j = rw (bit-odd i, bit-odd j)

-- ---- operations by their truth tables

pub by-table : (f g : Bool → Bool → Bool) → f true true ≡ g true true → f true false ≡ g true false → f false true ≡ g false true → f false false ≡ g false false → f ≡ g
by-table f g a b c d = fun_ext (λ p. fun_ext (λ q. go p q))
  where
    go : (p q : Bool) → f p q ≡ g p q
    go true true = a
    go true false = b
    go false true = c
    go false false = d

pub op-either : op_of 14 ≡ either
unfolding op_of
op-either = by-table (op_of 14) either refl refl refl refl

pub op-both : op_of 8 ≡ both
unfolding op_of
op-both = by-table (op_of 8) both refl refl refl refl

pub op-left_only : op_of 4 ≡ left_only
unfolding op_of
op-left_only = by-table (op_of 4) left_only refl refl refl refl
