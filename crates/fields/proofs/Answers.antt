use mathlib.Core.Path.{◌≡◌, refl, sym, ap, ◌∙◌}
use mathlib.Core.Bool.{Bool, true, false, cond}
use mathlib.Core.List.{List, ◌++◌, append-nil}
use Prim.Native.Nat.{ℕ, zero, suc, ◌-◌, ◌≤◌, ◌<◌}
use native.Mathlib.Nat.{zero-add}
use native.Mathlib.Omega.{arith}
use borrow.Author.Tests.{lt-ltb, le-ltb, ne_eqb, eqb-true}
use lib.Dec.{ltb, eqb}
use Rattle.std.specs.Prelude.{Option, Some, None, Result, Ok, Err, unwrap_or}
use Rattle.std.specs.Result.{result_unwrap_or}
use lib.ListN.{length, take, drop, replicate, length-append, length-replicate}
use lib.Seq.{sets, sets-eq, take-append-le, take_at}
use Rattle.fields.specs.Refusal.{◌then◌, refusal_number, refusal_of}
use Rattle.fields.specs.Answers.{none, word_of, option_of, word_number_of, accepted, padded, over, after, short, Gives, Writes, Says}
use Rattle.fields.proofs.Refusals.{refusal_some, then-none, when_true, when_false, found_first, found-next}
use Rattle.fields.specs.declared.outcome.Refusal.{Refusal}
use Rattle.fields.specs.declared.outcome.Answer.{Answer}

-- Laws of answers, one for each way that a call ends. f is the refusal that the definitions give, g the one that the code found.

pub accepted-some {ℓ} : {A : Type ℓ} (f : ℕ) (a b : A) → (f ≡ 0 → ⊥) → accepted f a b ≡ b
unfolding accepted
accepted-some zero a b z = absurd (z refl)
accepted-some (suc f) a b z = refl

pub accepted-none {ℓ} : {A : Type ℓ} (f : ℕ) (a b : A) → f ≡ 0 → accepted f a b ≡ a
unfolding accepted
accepted-none f a b e = rw e

-- nothing to clear
pub padded-none : (n : ℕ) (ws : List ℕ) → n ≤ length ws → padded n ws ≡ ws
unfolding padded
padded-none n ws h = let e : n - length ws ≡ 0 = omega arith in rw (e, append-nil ws)

-- stores from the front of an output that has room
pub over-sets : (ws out : List ℕ) → length ws ≤ length out → sets out 0 ws ≡ over ws out
unfolding over
over-sets ws out h = sets-eq ws out 0 (omega arith) ∙ rw (zero-add (length ws))

module _ (f : ℕ) (ws : List ℕ) (n : ℕ) (out : List ℕ) where
  pub gives-refused : (g : ℕ) → g ≡ f → (g ≡ 0 → ⊥) → Gives f ws n out (record { refusal = g; len = 0 }) out
  unfolding after
  gives-refused g e z =
      let s : f ≡ 0 → ⊥ = λ k. z (e ∙ k) in
      record { refusal = e; len = sym (accepted-some f (length ws) 0 s); output = sym (accepted-some f _ out s) }

  pub gives-accepted : f ≡ 0 → n ≤ length ws → length ws ≤ length out → (k : ℕ) (out' : List ℕ) → k ≡ length ws → out' ≡ sets out 0 ws
      → Gives f ws n out (record { refusal = 0; len = k }) out'
  unfolding after
  gives-accepted z h room k out' e w =
      record {
        refusal = sym z;
        len = e ∙ sym (accepted-none f (length ws) 0 z);
        output = w ∙ over-sets ws out room ∙ sym (accepted-none f _ out z ∙ rw (padded-none n ws h));
      }

  -- what stands in the output up to the returned length is the result
  pub gives-result : (r : Answer) (out' : List ℕ) → Gives f ws n out r out' → r.refusal ≡ 0 → take r.len out' ≡ ws
  unfolding after over padded
  gives-result r out' g z =
      let e : f ≡ 0 = sym g.refusal ∙ z in
      rw (g.output, g.len, accepted-none f (length ws) 0 e, accepted-none f (over (padded n ws) out) out e) (front ws (replicate (n - length ws) 0) (drop (length (padded n ws)) out))
    where
      front : (a b c : List ℕ) → take (length a) ((a ++ b) ++ c) ≡ a
      front a b c =
          let l = length-append a b in
          take-append-le (length a) (a ++ b) c (omega arith) ∙ take_at a b (length a) refl

-- a result and then zeros up to a place
module _ (ws : List ℕ) (n : ℕ) (h : length ws ≤ n) where
  padded-length : length (padded n ws) ≡ n
  unfolding padded
  padded-length = simp (length-append, length-replicate) (omega arith)

  -- only the words after the place that is cleared up to are kept
  pub after-onward : (a b : List ℕ) → drop n a ≡ drop n b → after 0 ws n a ≡ after 0 ws n b
  unfolding after accepted over
  after-onward a b e = rw (padded-length, e)

  pub after-cleared : (f : ℕ) (out : List ℕ) → f ≡ 0 → after f ws n out ≡ (ws ++ replicate (n - length ws) 0) ++ drop n out
  unfolding after padded over
  after-cleared f out z = accepted-none f (over (padded n ws) out) out z ∙ rw padded-length

  pub gives-cleared : (f : ℕ) (out : List ℕ) → f ≡ 0 → (k : ℕ) (out' : List ℕ) → k ≡ length ws → out' ≡ (ws ++ replicate (n - k) 0) ++ drop n out
      → Gives f ws n out (record { refusal = 0; len = k }) out'
  gives-cleared f out z k out' e w =
      record { refusal = sym z; len = e ∙ sym (accepted-none f (length ws) 0 z); output = w ∙ rw e (sym (after-cleared f out z)) }

-- a call that judges its input, then its room, and then writes: F is the input's refusal, need the room
module _ (F need : ℕ) (ws out : List ℕ) (f : ℕ) (e : f ≡ F) where
  pub call-refused : (f ≡ 0 → ⊥) → Gives (F then short need (length out)) ws 0 out (record { refusal = f; len = 0 }) out
  call-refused z = gives-refused _ ws 0 out f (found_first F _ f e z) z

  module _ (z : f ≡ 0) (n : ℕ) (en : n ≡ need) where
    pub call-full : length out < n → Gives (F then short need (length out)) ws 0 out (record { refusal = 10; len = 0 }) out
    unfolding short
    call-full h = gives-refused _ ws 0 out 10 (found-next F _ f 10 e z (sym (when_true (ltb (length out) need) 10 (lt-ltb (length out) need (omega arith))))) (λ k. absurd (omega arith))

    pub call-done : n ≤ length out → n ≡ length ws → (out' : List ℕ) → out' ≡ sets out 0 ws → Gives (F then short need (length out)) ws 0 out (record { refusal = 0; len = n }) out'
    unfolding short
    call-done h k out' w =
        gives-accepted _ ws 0 out (sym (found-next F _ f 0 e z (sym (when_false (ltb (length out) need) 10 (le-ltb (length out) need (omega arith))))))
        (omega arith)
        (omega arith)
        n
        out'
        k
        w

-- a call whose only refusal is for its room
module _ (ws out : List ℕ) (n : ℕ) (e : n ≡ length ws) where
  pub writes-full : length out < n → Writes ws out (record { refusal = 10; len = 0 }) out
  unfolding short
  writes-full h = gives-refused _ ws 0 out 10 (sym (when_true (ltb (length out) (length ws)) 10 (lt-ltb (length out) (length ws) (omega arith)))) (λ k. absurd (omega arith))

  pub writes-done : n ≤ length out → (out' : List ℕ) → out' ≡ sets out 0 ws → Writes ws out (record { refusal = 0; len = n }) out'
  unfolding short
  writes-done h out' w =
      gives-accepted _ ws 0 out (when_false (ltb (length out) (length ws)) 10 (le-ltb (length out) (length ws) (omega arith))) (omega arith) (omega arith) n out' e w

-- a call that judges its input and then writes: F is the input's refusal
module _ (F : ℕ) (ws out : List ℕ) where
  pub judged-refused : (e : Refusal) → refusal_number e ≡ F → Gives (F then short (length ws) (length out)) ws 0 out (record { refusal = refusal_number e; len = 0 }) out
  judged-refused e d = gives-refused _ ws 0 out (refusal_number e) (found_first F _ (refusal_number e) d (refusal_some e)) (refusal_some e)

  pub judged-writes : F ≡ 0 → (r : Answer) (out' : List ℕ) → Writes ws out r out' → Gives (F then short (length ws) (length out)) ws 0 out r out'
  judged-writes z r out' w = rw (then-none F (short (length ws) (length out)) z) w

-- a call that writes nothing
module _ {A : Type 0} (f : ℕ) (v none : A) (g : ℕ) where
  pub says-refused : g ≡ f → (g ≡ 0 → ⊥) → Says f v none g none
  says-refused e z = record { number = e; says = sym (accepted-some f v none (λ k. z (e ∙ k))) }

  pub says-accepted : g ≡ f → g ≡ 0 → (w : A) → w ≡ v → Says f v none 0 w
  says-accepted e z w h = record { number = sym z ∙ e; says = h ∙ sym (accepted-none f v none (sym e ∙ z)) }

-- ---- numbers that may be missing

pub option-some : (n m : ℕ) → n ≡ m → (n ≡ none → ⊥) → Some n ≡ option_of m
option-some n m e z = rw (← e, ne_eqb n none z)

pub option-none : (m : ℕ) → none ≡ m → None ≡ option_of m
option-none m e = rw (← e)

pub word-option : (m : ℕ) → word_of (option_of m) ≡ m
word-option m = either (eqb m none) refl
  where
    either : (t : Bool) → eqb m none ≡ t → word_of (cond t None (Some m)) ≡ m
    either true e = sym (eqb-true m none e)
    either false e = refl

-- a call that gives a number, or none, gives it as a word
pub unwrapped-word : (o : Option ℕ) → unwrap_or o none ≡ word_of o
unwrapped-word None = refl
unwrapped-word (Some n) = refl

pub says-word : (f m : ℕ) (r : Result (Option ℕ) Refusal) → Says f (option_of m) None (refusal_of r) (result_unwrap_or r None) → Says f m 0 (word_number_of r).refusal (word_number_of r).number
says-word f m (Ok o) s =
    let z : f ≡ 0 = sym s.number in
    let e : o ≡ option_of m = s.says ∙ accepted-none f (option_of m) None z in
    record { number = s.number; says = ap word_of e ∙ word-option m ∙ sym (accepted-none f m 0 z) }
says-word f m (Err e) s = record { number = s.number; says = sym (accepted-some f m 0 (λ z. refusal_some e (s.number ∙ z))) }
