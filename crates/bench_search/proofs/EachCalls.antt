-- The search for many rows, one law for each way through the code.
use mathlib.Core.Path.{◌≡◌, refl, ap}
use mathlib.Core.List.{List, map}
use Prim.Native.Nat.{ℕ, ◌+◌, ◌*◌, ◌≤◌, ◌<◌}
use native.Mathlib.Omega.{arith}
use lib.ListN.{length}
use lib.Seq.{sets}
use Rattle.fields.specs.Counting.{bit}
use Rattle.fields.specs.Limits.{max_words}
use Rattle.fields.specs.Refusal.{refusal_number}
use Rattle.fields.specs.declared.outcome.Refusal.{Refusal}
use Rattle.fields.proofs.Refusals.{refusal_some}
use Rattle.fields.proofs.Answers.{call-refused, call-full, call-done}
use Rattle.fields.proofs.Counting.{bit-small}
use Rattle.fields.proofs.Storing.{Storing, storing-start, map-length, storing-end}
use Rattle.run_list.specs.Runs.{fault}
use Rattle.run_list.specs.Places.{place}
use Rattle.run_list.specs.declared.place.Place.{Place}
use Rattle.run_list.proofs.Validity.{fault-accepted}
use Rattle.run_list.proofs.PlaceLaws.{begun-all}
use Rattle.bench_search.specs.BenchSearch.{place_word, SearchesEach}

module _ (ws rows out : List ℕ) where
  pub each-start : length rows ≤ length out → Storing (map (place_word ws) rows) (length rows) out 0 out
  each-start h = storing-start (map (place_word ws) rows) (length rows) out (map-length (place_word ws) rows) (omega (arith, map-length (place_word ws) rows, h))

  module _ (r : ℕ) (p : Place) (e : p ≡ place ws r) where
    pub each-fits : fault ws ≡ 0 → 2 * p.begun + bit p.listed ≤ max_words + 1
    each-fits a =
        omega (arith, ap (λ (q : Place). q.begun) e, begun-all ws r (fault-accepted ws a).valid, (fault-accepted ws a).limit, bit-small p.listed)

    pub each-word : 2 * p.begun + bit p.listed ≡ place_word ws r
    each-word = ap (λ (q : Place). 2 * q.begun + bit q.listed) e

  pub each-end : (i : ℕ) (out' : List ℕ) → Storing (map (place_word ws) rows) (length rows) out i out' → length rows ≤ i → out' ≡ sets out 0 (map (place_word ws) rows)
  each-end i out' m h = storing-end (map (place_word ws) rows) (length rows) out i out' m h

  pub each-refused : (e : Refusal) → refusal_number e ≡ fault ws → SearchesEach ws rows out (record { refusal = refusal_number e; len = 0 }) out
  each-refused e d = call-refused (fault ws) (length rows) (map (place_word ws) rows) out (refusal_number e) d (refusal_some e)

  module _ (z : 0 ≡ fault ws) where
    pub each-full : length out < length rows → SearchesEach ws rows out (record { refusal = 10; len = 0 }) out
    each-full h = call-full (fault ws) (length rows) (map (place_word ws) rows) out 0 z refl (length rows) refl h

    pub each-done : length rows ≤ length out → (l : List ℕ) → l ≡ ws → (out' : List ℕ) → out' ≡ sets out 0 (map (place_word l) rows)
        → SearchesEach ws rows out (record { refusal = 0; len = length rows }) out'
    each-done h l el out' w =
        call-done (fault ws) (length rows) (map (place_word ws) rows) out 0 z refl (length rows) refl h (map-length (place_word ws) rows) out' (rw el at w)
