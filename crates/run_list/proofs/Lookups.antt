-- Answering keys from the places that searches found, one law for each way through the code.
use mathlib.Core.Path.{◌≡◌, sym, ap, ◌∙◌}
use mathlib.Core.List.{List, ◌++◌, map}
use Prim.Native.Nat.{ℕ, ◌+◌, ◌≤◌, ◌<◌}
use native.Mathlib.Omega.{arith}
use lib.ListN.{length, drop, get_or, set, length-map}
use lib.Seq.{sets, length-sets}
use Rattle.std.proofs.lemmas.Slice.{drop-append-drop}
use Rattle.std.proofs.lemmas.List.{get_or-set_other, get_or-map, get_or_append_left}
use Rattle.fields.specs.Answers.{over}
use Rattle.fields.proofs.Answers.{over-sets}
use Rattle.fields.proofs.Storing.{Storing, map-length, map_next, storing-end}

-- the output holds the numbers f of the keys before i, and the places of the others
pub record Answering (place f : ℕ → ℕ) (keys before : List ℕ) (i : ℕ) (out : List ℕ) : Type 0 where
  pub storing : Storing (map f keys) (length keys) before i out
  pub places : (j : ℕ) → i ≤ j → j < length keys → get_or out j 0 ≡ place (get_or keys j 0)

-- stores from the front over as many others
sets-again : (v w l : List ℕ) → length v ≡ length w → length w ≤ length l → sets (sets l 0 v) 0 w ≡ sets l 0 w
unfolding over
sets-again v w l e h =
    let n : length w ≤ length (sets l 0 v) = omega (arith, length-sets l 0 v) in
    over-sets w (sets l 0 v) n ∙ rw (over-sets v l (omega arith), e) (ap (λ (r : List ℕ). w ++ r) (drop-append-drop (length w) l v (length w) (omega arith) e) ∙ sym (over-sets w l h))

module _ (place f : ℕ → ℕ) (keys before : List ℕ) where
  pub answering-start : length keys ≤ length before → (out : List ℕ) → out ≡ sets before 0 (map place keys) → Answering place f keys before 0 out
  unfolding over
  answering-start h out e =
      let p = length-map keys place in
      record {
        storing =
            record {
              size = map-length f keys;
              within = omega arith;
              room = h;
              same = rw e (length-sets before 0 (map place keys));
              rest = rw e (sets-again (map place keys) (map f keys) before (p ∙ map-length f keys) (omega (arith, map-length f keys)));
            };
        places = λ j z l.
            rw (e, over-sets (map place keys) before (omega (arith, p)))
            (get_or_append_left (map place keys) (drop (length (map place keys)) before) 0 j (omega (arith, p)) ∙ get_or-map place keys j 0 0 l);
      }

  module _ (i : ℕ) (out : List ℕ) (m : Answering place f keys before i out) where
    pub answering-next : i < length keys → (w : ℕ) → w ≡ f (get_or keys i 0) → Answering place f keys before (i + 1) (set out i w)
    answering-next h w e =
        record {
          storing = map_next f keys before i out m.storing h w e;
          places = λ j z l. get_or-set_other out i j w 0 (λ k. absurd (omega arith)) ∙ m.places j (omega arith) l;
        }

    pub answering-end : length keys ≤ i → out ≡ sets before 0 (map f keys)
    answering-end h = storing-end (map f keys) (length keys) before i out m.storing h
