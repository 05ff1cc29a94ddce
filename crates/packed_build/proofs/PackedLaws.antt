-- The list of the rows at which a test says yes: that each set of rows has one valid list; and that of packed bits, as `from_packed_bits` writes it.
use mathlib.Core.Path.{◌≡◌, refl, sym, ap, ◌∙◌}
use mathlib.Core.Bool.{Bool, true, false}
use mathlib.Core.Logic.{⊎_elim}
use mathlib.Core.List.{List, [], ◌∷◌}
use Prim.Native.Nat.{ℕ, zero, suc, ◌+◌, ◌*◌, ◌/◌, ◌%◌, ◌^◌, ◌≤◌, ◌<◌}
use native.Mathlib.Nat.{le_refl, zero-div}
use native.Mathlib.Omega.{arith}
use borrow.Author.Tests.{le-leb}
use lib.ListN.{length, take, get_or}
use Rattle.fields.specs.Answers.{none}
use Rattle.fields.specs.Counting.{bit}
use Rattle.fields.specs.Limits.{max_words}
use Rattle.fields.specs.declared.outcome.Answer.{Answer}
use Rattle.fields.proofs.Answers.{gives-result}
use Rattle.fields.proofs.Limits.{room_within}
use Rattle.fields.proofs.Refusals.{rest-none}
use Rattle.fields.proofs.Tests.{split-le}
use Rattle.packed.specs.Bits.{bit_at}
use Rattle.run_list.specs.Runs.{has, Valid, fault}
use Rattle.run_list.specs.Rising.{From, All, inside, ends}
use Rattle.boundary.specs.Merge.{emit}
use Rattle.run_list.proofs.Boundaries.{from-valid, has-inside, inside-below, unique}
use Rattle.run_list.proofs.Validity.{accepted-fault}
use Rattle.boundary.proofs.Combining.{emit-inside, emit-ends, emit-from, emit-length}
use Rattle.packed_build.specs.Packed.{changes, list_of, Packed}

-- ---- the rows at which a test changes

changes-from : (f : ℕ → Bool) (b : Bool) (r n : ℕ) → From r (changes f b r n)
changes-from f b r zero = emit-from b false r [] (le_refl r) tt
changes-from f b r (suc n) = emit-from b (f r) r (changes f (f r) (suc r) n) (le_refl r) (changes-from f (f r) (suc r) n)

changes-ends : (f : ℕ → Bool) (b : Bool) (r n : ℕ) → ends b (changes f b r n) ≡ false
changes-ends f b r zero = emit-ends b false r []
changes-ends f b r (suc n) = emit-ends b (f r) r (changes f (f r) (suc r) n) ∙ changes-ends f (f r) (suc r) n

-- at each of the n rows the state is f
changes-in : (f : ℕ → Bool) (b : Bool) (r n x : ℕ) → r ≤ x → x < r + n → inside b (changes f b r n) x ≡ f x
changes-in f b r zero x h k = absurd (omega arith)
changes-in f b r (suc n) x h k =
    emit-inside b (f r) r (changes f (f r) (suc r) n) x (changes-from f (f r) (suc r) n)
    ∙ (rw (le-leb r x h) (⊎_elim
    (λ e. changes-in f (f r) (suc r) n x e.1 (omega arith))
    (λ e. inside-below (f r) (changes f (f r) (suc r) n) (suc r) x (changes-from f (f r) (suc r) n) e.1 ∙ ap f (omega (arith, e.1)))
    (split-le (suc r) x)))

-- past them it is outside
changes-out : (f : ℕ → Bool) (b : Bool) (r n x : ℕ) → r + n ≤ x → inside b (changes f b r n) x ≡ false
changes-out f b r zero x h = emit-inside b false r [] x tt ∙ rw (le-leb r x (omega arith))
changes-out f b r (suc n) x h =
    emit-inside b (f r) r (changes f (f r) (suc r) n) x (changes-from f (f r) (suc r) n)
    ∙ (rw (le-leb r x (omega arith)) (changes-out f (f r) (suc r) n x (omega arith)))

module _ (f : ℕ → Bool) (n : ℕ) where
  changes-valid : Valid (changes f false 0 n)
  changes-valid = from-valid (changes f false 0 n) 0 (changes-from f false 0 n) (changes-ends f false 0 n)

  changes-has : ((r : ℕ) → n ≤ r → f r ≡ false) → (r : ℕ) → has (changes f false 0 n) r ≡ f r
  changes-has past r =
      has-inside (changes f false 0 n) 0 r changes-valid
      ∙ ⊎_elim
      (λ e. changes-in f false 0 n r (omega arith) (omega (arith, e.1)))
      (λ e. let h : n ≤ r = omega (arith, e.1) in
      changes-out f false 0 n r (omega arith) ∙ sym (past r h))
      (split-le (suc r) n)

emit-all : (P : ℕ → Type 0) (u v : Bool) (x : ℕ) (ws : List ℕ) → P x → All P ws → All P (emit u v x ws)
emit-all P true true x ws p a = a
emit-all P true false x ws p a = (p, a)
emit-all P false true x ws p a = (p, a)
emit-all P false false x ws p a = a

changes-within : (m : ℕ) (f : ℕ → Bool) (b : Bool) (r n : ℕ) → r + n < m → All (λ w. w < m) (changes f b r n)
changes-within m f b r zero h = emit-all (λ w. w < m) b false r [] (omega arith) tt
changes-within m f b r (suc n) h =
    emit-all (λ w. w < m) b (f r) r (changes f (f r) (suc r) n) (omega arith) (changes-within m f (f r) (suc r) n (omega arith))

-- ---- "Each set of rows has one valid list"

-- a list, and no other, has the rows of a set: the numbers to which the test says yes
pub record OneList (set : ℕ → Bool) : Type 0 where
  pub list : List ℕ
  pub valid : Valid list
  pub words : All (λ w. w < 2 ^ 64) list
  pub rows : (r : ℕ) → has list r ≡ set r
  pub only : (ws : List ℕ) → Valid ws → ((r : ℕ) → has ws r ≡ set r) → ws ≡ list

-- "A row is a number from 0 to 2^64 - 2"
pub one_list : (set : ℕ → Bool) → ((r : ℕ) → none ≤ r → set r ≡ false) → OneList set
one_list set past =
    record {
      list = changes set false 0 none;
      valid = changes-valid set none;
      words = changes-within (2 ^ 64) set false 0 none (omega arith);
      rows = changes-has set none past;
      only = λ ws v h. unique ws (changes set false 0 none) v (changes-valid set none) (λ r. h r ∙ sym (changes-has set none past r));
    }

-- ---- packed bits

pub bit_at-past : (bits : List ℕ) (r : ℕ) → length bits * 8 ≤ r → bit_at bits r ≡ false
unfolding bit_at
bit_at-past bits r h = rw (past bits (r / 8) (omega arith), zero-div (2 ^ (r % 8)))
  where
    past : (l : List ℕ) (n : ℕ) → length l ≤ n → get_or l n 0 ≡ 0
    past [] n h = refl
    past (x ∷ l) zero h = absurd (omega arith)
    past (x ∷ l) (suc n) h = past l n (omega arith)

pub list_of-valid : (bits : List ℕ) → Valid (list_of bits)
unfolding list_of
list_of-valid bits = changes-valid (bit_at bits) (length bits * 8)

pub list_of-within : (bits : List ℕ) → All (λ w. w < length bits * 8 + 1) (list_of bits)
unfolding list_of
list_of-within bits = changes-within (length bits * 8 + 1) (bit_at bits) false 0 (length bits * 8) (omega arith)

pub list_of-has : (bits : List ℕ) (r : ℕ) → has (list_of bits) r ≡ bit_at bits r
unfolding list_of
list_of-has bits r = changes-has (bit_at bits) (length bits * 8) (bit_at-past bits) r

-- ---- how many boundaries there are

emit-odd : (u v : Bool) (x : ℕ) (ws : List ℕ) → length ws % 2 ≡ bit v → length (emit u v x ws) % 2 ≡ bit u
emit-odd true true x ws e = e
emit-odd true false x ws e = omega arith
emit-odd false true x ws e = omega arith
emit-odd false false x ws e = e

changes-odd : (f : ℕ → Bool) (b : Bool) (r n : ℕ) → length (changes f b r n) % 2 ≡ bit b
changes-odd f b r zero = emit-odd b false r [] refl
changes-odd f b r (suc n) = emit-odd b (f r) r (changes f (f r) (suc r) n) (changes-odd f (f r) (suc r) n)

changes-length : (f : ℕ → Bool) (b : Bool) (r n : ℕ) → length (changes f b r n) ≤ suc n
changes-length f b r zero = emit-length b false r []
changes-length f b r (suc n) =
    omega (arith, emit-length b (f r) r (changes f (f r) (suc r) n), changes-length f (f r) (suc r) n)

-- at most one for each bit: one more would make their number odd
pub list_of-length : (bits : List ℕ) → length (list_of bits) ≤ length bits * 8
unfolding list_of
list_of-length bits =
    omega (arith, changes-length (bit_at bits) false 0 (length bits * 8), changes-odd (bit_at bits) false 0 (length bits * 8))

-- ---- what an accepted call wrote, up to its returned length: a run list that lists the rows whose bits are set

module _ (bits before : List ℕ) (r : Answer) (out : List ℕ) (b : Packed bits before r out) (z : r.refusal ≡ 0) where
  packed-result : take r.len out ≡ list_of bits
  packed-result = gives-result _ (list_of bits) 0 before r out b z

  pub packed-accepted : fault (take r.len out) ≡ 0
  packed-accepted =
      let fits = room_within max_words (length (list_of bits)) (length before) (rest-none _ _ (sym b.refusal ∙ z)) in
      rw packed-result (accepted-fault (list_of bits) (record { limit = fits; valid = list_of-valid bits }))

  pub packed-built : (x : ℕ) → has (take r.len out) x ≡ bit_at bits x
  packed-built x = rw packed-result (list_of-has bits x)
