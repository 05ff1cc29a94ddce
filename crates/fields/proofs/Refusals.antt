-- Laws of refusals: the front of an order counts where it is one, and the rest where it is none.
use mathlib.Core.Path.{◌≡◌, refl, sym, ◌∙◌}
use mathlib.Core.Bool.{Bool, true, false, true≢false}
use Prim.Native.Nat.{ℕ, zero, suc}
use native.Mathlib.Omega.{arith}
use Rattle.std.specs.Prelude.{Result, Ok, Err}
use Rattle.std.specs.Result.{is_ok}
use Rattle.fields.specs.Refusal.{when, ◌then◌, refusal_number, refusal_of}
use Rattle.fields.specs.declared.outcome.Refusal.{Refusal}
use Rattle.fields.specs.declared.outcome.Refusal.TheVariants.{TooLong, CutShort, EmptyRun, RunOrder, ValueOrder, OddWords, NoRow, StepKind, OtherDirectory, NoRoom, MissingValue}

-- a refusal is not 0
pub refusal_some : (e : Refusal) → refusal_number e ≡ 0 → ⊥
refusal_some TooLong z = omega arith
refusal_some CutShort z = omega arith
refusal_some EmptyRun z = omega arith
refusal_some RunOrder z = omega arith
refusal_some ValueOrder z = omega arith
refusal_some OddWords z = omega arith
refusal_some NoRow z = omega arith
refusal_some StepKind z = omega arith
refusal_some OtherDirectory z = omega arith
refusal_some NoRoom z = omega arith
refusal_some MissingValue z = omega arith

pub then-none : (f g : ℕ) → f ≡ 0 → (f then g) ≡ g
unfolding ◌then◌
then-none f g e = rw e

pub then_some : (f g : ℕ) → (f ≡ 0 → ⊥) → (f then g) ≡ f
unfolding ◌then◌
then_some zero g z = absurd (z refl)
then_some (suc f) g z = refl

pub then-assoc : (f g h : ℕ) → ((f then g) then h) ≡ (f then g then h)
unfolding ◌then◌
then-assoc zero g h = refl
then-assoc (suc f) g h = refl

-- no refusal: neither the front nor the rest is one
pub front-none : (f g : ℕ) → (f then g) ≡ 0 → f ≡ 0
unfolding ◌then◌
front-none zero g e = refl
front-none (suc f) g e = e

pub rest-none : (f g : ℕ) → (f then g) ≡ 0 → g ≡ 0
unfolding ◌then◌
rest-none zero g e = e
rest-none (suc f) g e = absurd (omega arith)

pub when_true : (t : Bool) (f : ℕ) → t ≡ true → when t f ≡ f
unfolding when
when_true t f e = rw e

pub when_false : (t : Bool) (f : ℕ) → t ≡ false → when t f ≡ 0
unfolding when
when_false t f e = rw e

pub when-none : (t : Bool) (f : ℕ) → when t (suc f) ≡ 0 → t ≡ false
unfolding when
when-none true f e = absurd (omega arith)
when-none false f e = refl

-- what the code found, g, is what an order says: at its front, or further back
pub found_first : (f h g : ℕ) → g ≡ f → (g ≡ 0 → ⊥) → g ≡ (f then h)
found_first f h g e z = e ∙ sym (then_some f h (λ k. z (e ∙ k)))

pub found-next : (f h e g : ℕ) → e ≡ f → e ≡ 0 → g ≡ h → g ≡ (f then h)
found-next f h e g d z k = k ∙ sym (then-none f h (sym d ∙ z))

-- ---- a test of an outcome

pub ok-number : {A : Type 0} (k : Result A Refusal) → is_ok k ≡ true → refusal_of k ≡ 0
ok-number (Ok a) z = refl
ok-number (Err e) z = absurd (true≢false (sym z))

pub err-number : {A : Type 0} (k : Result A Refusal) → is_ok k ≡ false → refusal_of k ≡ 0 → ⊥
err-number (Ok a) z = absurd (true≢false z)
err-number (Err e) z = refusal_some e
