-- Presence: what positions mean, and one law for each way through the code.
use mathlib.Core.Path.{◌≡◌, refl, sym, ap, ◌∙◌}
use mathlib.Core.Bool.{Bool, true, false}
use mathlib.Core.List.{List, map}
use Prim.Native.Nat.{ℕ, ◌+◌, ◌-◌, ◌*◌, ◌/◌, ◌≤◌, ◌<◌, min}
use native.Mathlib.Nat.{min-eq_left}
use lib.ListN.{length, length-map}
use lib.Seq.{sets}
use Rattle.std.specs.Prelude.{Option, Some, None, Result, Ok, Err, unwrap_or}
use Rattle.fields.specs.Counting.{count_below}
use Rattle.fields.specs.Refusal.{refusal_number}
use Rattle.fields.specs.Directory.{same, other_directory}
use Rattle.fields.specs.Answers.{none, word_of, word_number_of, Writes, Says}
use Rattle.fields.specs.Limits.{too_long, max_bits}
use Rattle.fields.specs.declared.outcome.Refusal.{Refusal}
use Rattle.fields.specs.declared.outcome.Answer.{Answer}
use Rattle.fields.proofs.Refusals.{refusal_some, found_first, found-next}
use Rattle.fields.proofs.Answers.{unwrapped-word, accepted-none, accepted-some, gives-refused, call-full, call-done, judged-refused, judged-writes, says-refused, says-accepted}
use Rattle.fields.proofs.Directories.{other-found, other_none}
use Rattle.packed.specs.Bits.{bit_at, set_below, cut_to, counts}
use Rattle.packed.proofs.Counts.{set-cut}
use Rattle.packed.proofs.Entries.{length-counts}
use Rattle.packed.proofs.Directories.{from-none}
use Rattle.presence.specs.Present.{position, position_of, presence_directory, position_fault, SetBits, PresentPosition, Position, Directory, Positions}

-- ---- what the numbers mean

-- a set row's position is the number of set bits before it
pub position-set : (bits : List ℕ) (row : ℕ) → bit_at bits row ≡ true → position_of bits row ≡ count_below (bit_at bits) row
unfolding position_of set_below
position-set bits row h = rw h

-- a clear row has none
pub position-clear : (bits : List ℕ) (row : ℕ) → bit_at bits row ≡ false → position_of bits row ≡ none
unfolding position_of
position-clear bits row h = rw h

-- a position as a word
pub position-word : (bits : List ℕ) (row : ℕ) → word_of (position bits row) ≡ position_of bits row
unfolding position_of
position-word bits row = refl

-- ---- counted from the start

pub count_cut : (bits : List ℕ) (place r : ℕ) → r ≡ set_below bits place - set_below bits (0 * 64) → r ≡ set_below bits (cut_to bits place)
count_cut bits place r e = from-none bits place r e ∙ sym (set-cut bits place)

-- ---- a position

module _ (bits : List ℕ) (place : ℕ) (t : Bool) (d : t ≡ bit_at bits place) where
  pub position-some : t ≡ true → (r : ℕ) → r ≡ set_below bits place → Some r ≡ position bits place
  unfolding position
  position-some h r e = rw (← d, h, e)

  pub position-none : t ≡ false → None ≡ position bits place
  unfolding position
  position-none h = rw (← d, h)

pub position-number : (bits : List ℕ) (row : ℕ) (o : Option ℕ) → o ≡ position bits row → unwrap_or o none ≡ position_of bits row
position-number bits row o e = unwrapped-word o ∙ ap word_of e ∙ position-word bits row

-- ---- the directory

module _ (bits : List ℕ) (n : ℕ) (en : n ≡ (length bits + 7) / 8) (directory : List ℕ) where
  pub right-found : true ≡ same directory (counts 64 bits 0 n) → 0 ≡ other_directory directory (presence_directory bits)
  unfolding presence_directory
  right-found e = other_none directory _ true (rw en at e) refl

  pub other-seen : false ≡ same directory (counts 64 bits 0 n) → 9 ≡ other_directory directory (presence_directory bits)
  unfolding presence_directory
  other-seen e = other-found directory _ false (rw en at e) refl

-- ---- the calls: b are the bits once they are judged

pub says-long : {A : Type 0} (bits : List ℕ) (v missing : A) (e : Refusal) → refusal_number e ≡ too_long max_bits bits → Says (too_long max_bits bits) v missing (refusal_number e) missing
says-long bits v missing e d = says-refused _ v missing (refusal_number e) d (refusal_some e)

module _ (bits : List ℕ) (z : 0 ≡ too_long max_bits bits) (b : List ℕ) (eb : b ≡ bits) where
  pub set-counted : (len r : ℕ) → r ≡ set_below b len - set_below b (0 * 64) → SetBits bits len (record { refusal = 0; number = r })
  set-counted len r e = says-accepted _ _ 0 0 z refl r (count_cut bits len r (rw eb at e))

  pub position-said : (row : ℕ) (o : Option ℕ) → o ≡ position b row → PresentPosition bits row (Ok o)
  position-said row o e = says-accepted _ _ None 0 z refl o (rw eb at e)

module _ (bits out : List ℕ) where
  pub new-refused : (e : Refusal) → refusal_number e ≡ too_long max_bits bits → Directory bits out (record { refusal = refusal_number e; len = 0 }) out
  new-refused e d = judged-refused _ _ out e d

  module _ (z : 0 ≡ too_long max_bits bits) (b : List ℕ) (eb : b ≡ bits) (n : ℕ) (en : n ≡ (length b + 7) / 8) where
    entries : n ≡ length (presence_directory bits)
    unfolding presence_directory
    entries = en ∙ rw eb (sym (length-counts 64 bits 0 ((length bits + 7) / 8)))

    pub new-full : length out < n → Directory bits out (record { refusal = 10; len = 0 }) out
    new-full h = call-full _ _ _ out 0 z refl n entries h

    pub new-done : n ≤ length out → (out' : List ℕ) → out' ≡ sets out 0 (counts 64 b 0 (min n (length out))) → Directory bits out (record { refusal = 0; len = n }) out'
    unfolding presence_directory
    new-done h out' w = call-done _ _ _ out 0 z refl n entries h entries out' (w ∙ rw (min-eq_left h, en, eb))

module _ (bits directory rows out : List ℕ) where
  pub positions-refused : (e : Refusal) → refusal_number e ≡ too_long max_bits bits → Positions bits directory rows out (record { refusal = refusal_number e; len = 0 }) out
  unfolding position_fault
  positions-refused e d = gives-refused _ _ 0 out (refusal_number e) (found_first _ _ _ (found_first _ _ _ d (refusal_some e)) (refusal_some e)) (refusal_some e)

  module _ (z : 0 ≡ too_long max_bits bits) (b : List ℕ) (eb : b ≡ bits) where
    fault-is : (g : ℕ) → g ≡ other_directory directory (presence_directory b) → g ≡ position_fault bits directory
    unfolding position_fault
    fault-is g d = found-next _ _ 0 g z refl (rw eb at d)

    pub positions-other : (e : Refusal) → refusal_number e ≡ other_directory directory (presence_directory b) → Positions bits directory rows out (record { refusal = refusal_number e; len = 0 }) out
    positions-other e d = gives-refused _ _ 0 out (refusal_number e) (found_first _ _ _ (fault-is (refusal_number e) d) (refusal_some e)) (refusal_some e)

    pub positions-done : 0 ≡ other_directory directory (presence_directory b) → (b' : List ℕ) → b' ≡ b → (r : Answer) (out' : List ℕ) → Writes (map (position_of b') rows) out r out'
        → Positions bits directory rows out r out'
    positions-done d b' eb' r out' w =
        let same : map (position_of b') rows ≡ map (position_of bits) rows = rw (eb', eb) in
        let all : length (map (position_of bits) rows) ≡ length rows = length-map rows (position_of bits) in
        rw all at (judged-writes _ _ out (sym (fault-is 0 d)) r out' (rw same at w))

-- ---- its length

pub length-directory : (bits : List ℕ) → (length bits + 7) / 8 ≡ length (presence_directory bits)
unfolding presence_directory
length-directory bits = sym (length-counts 64 bits 0 ((length bits + 7) / 8))

-- ---- `present_position`, its answer as one word

pub present-word : (bits : List ℕ) (row : ℕ) (r : Result (Option ℕ) Refusal) → PresentPosition bits row r → Position bits row (word_number_of r)
present-word bits row (Ok o) s =
    let z : too_long max_bits bits ≡ 0 = sym s.number in
    let e : o ≡ position bits row = s.says ∙ accepted-none (too_long max_bits bits) (position bits row) None z in
    record { number = s.number; says = ap word_of e ∙ position-word bits row ∙ sym (accepted-none (too_long max_bits bits) (position_of bits row) 0 z) }
present-word bits row (Err e) s = record { number = s.number; says = sym (accepted-some (too_long max_bits bits) (position_of bits row) 0 (λ z. refusal_some e (s.number ∙ z))) }
