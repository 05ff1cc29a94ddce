-- Laws of filters: what a filter leaves, row by row, and how much space it takes.
use mathlib.Core.Path.{◌≡◌, refl, ap, ◌∙◌}
use mathlib.Core.Bool.{Bool, true, false, not, cond, ◌&&◌, ◌||◌, false≢true, or-true}
use mathlib.Core.List.Memᴰ
use mathlib.Core.List.{List, [], ◌∷◌, ◌++◌, Memᴰ}
use mathlib.Core.Logic.{⊎_elim}
use Prim.Native.Nat.{ℕ, suc, ◌+◌, ◌*◌, ◌^◌, ◌≤◌, ◌<◌}
use native.Mathlib.Omega.{arith}
use borrow.Author.Tests.{eq-eqb}
use lib.Dec.{eqb}
use lib.ListN.{length, length-append}
use Rattle.run_list.specs.Rising.{All, elem}
use Rattle.fields.specs.Bytes.{Bytes}
use Rattle.fields.specs.Limits.{max_words}
use Rattle.run_list.specs.Runs.{has, Valid, fault}
use Rattle.boundary.specs.Merge.{combine}
use Rattle.run_list.proofs.Boundaries.{valid-from}
use Rattle.boundary.proofs.Combining.{combine-valid, combine-has, combine-all}
use Rattle.run_list.proofs.Space.{rising-count}
use Rattle.run_list.proofs.Validity.{valid-even, accepted-fault}
use Rattle.index.specs.Index.{Entry, index_fault, entries, all_runs, words_of}
use Rattle.bitmap_index.specs.Filter.{step, keep_from, keep, says_from, says, named, need}
use Rattle.index.proofs.Entries.{open-index}
use Rattle.index.proofs.Sizes.{length-written, written-within}
use Rattle.index.proofs.IndexTrip.{Sounds, entries-sound}

-- ---- one step

-- document 01's kinds. `keep` and `says` share `step`, so no other law would notice a wrong one
pub step-kinds : (k v : Bool) → (step 1 k v ≡ v) × (step 2 k v ≡ (k && v)) × (step 3 k v ≡ (k || v)) × (step 4 k v ≡ (k && not v))
unfolding step
step-kinds k v = (refl, refl, refl, refl)

-- a row in neither list is not kept, whatever the kind
pub step-none : (kind : ℕ) → step kind false false ≡ false
unfolding step
step-none kind = by (eqb kind 1) (eqb kind 2) (eqb kind 3)
  where
    by : (p q r : Bool) → cond p false (cond q false (cond r false false)) ≡ false
    by true q r = refl
    by false true r = refl
    by false false true = refl
    by false false false = refl

-- ---- the words of the entries

pub words-valid : (es : List Entry) (lo : ℕ) → Sounds lo es → (v : ℕ) → Valid (words_of es v)
unfolding words_of
words-valid [] lo s v = tt
words-valid (e ∷ es) lo s v = by (eqb e.value v) (words-valid es (suc e.value) s.1 v)
  where
    by : (b : Bool) → Valid (words_of es v) → Valid (cond b e.words (words_of es v))
    by true r = s.0.valid
    by false r = r

-- all words of the entries, one list after the other
unfoldable pub all_words : List Entry → List ℕ
all_words [] = []
all_words (e ∷ es) = e.words ++ all_words es

-- valid lists have pairs, so that 2R counts every word
pub length-all_words : (es : List Entry) (lo : ℕ) → Sounds lo es → length (all_words es) ≡ need es
unfolding all_words need all_runs
length-all_words [] lo s = refl
length-all_words (e ∷ es) lo s =
    omega (arith, length-append e.words (all_words es), valid-even e.words 0 s.0.valid, length-all_words es (suc e.value) s.1)

-- ---- facts of every word

pub all-weaken : (P Q : ℕ → Type 0) → ((w : ℕ) → P w → Q w) → (ws : List ℕ) → All P ws → All Q ws
all-weaken P Q f [] h = tt
all-weaken P Q f (w ∷ ws) h = (f w h.0, all-weaken P Q f ws h.1)

pub all_append : (P : ℕ → Type 0) (a b : List ℕ) → All P a → All P b → All P (a ++ b)
all_append P [] b f g = g
all_append P (x ∷ a) b f g = (f.0, all_append P a b f.1 g)

-- each word of the entries fits
pub all_words-small : (es : List Entry) (lo : ℕ) → Sounds lo es → All (λ w. w < 2 ^ 64) (all_words es)
unfolding all_words
all_words-small [] lo s = tt
all_words-small (e ∷ es) lo s = all_append (λ w. w < 2 ^ 64) e.words (all_words es) s.0.words (all_words-small es (suc e.value) s.1)

-- every word of a list is in it
all-self : (ws : List ℕ) → All (λ w. Memᴰ w ws) ws
all-self [] = tt
all-self (x ∷ ws) =
    (Memᴰ.head refl, all-weaken (λ w. Memᴰ w ws) (λ w. Memᴰ w (x ∷ ws)) (λ w m. Memᴰ.tail m) ws (all-self ws))

-- a word of a list has what every word of it has
mem-all : (P : ℕ → Type 0) (l : List ℕ) (w : ℕ) → All P l → Memᴰ w l → P w
mem-all P [] w a m = absurd (Memᴰ.not-nil m)
mem-all P (x ∷ l) w a m = ⊎_elim (λ e. rw e a.0) (λ k. mem-all P l w a.1 k) (Memᴰ.cases_cons m)

-- the words of a value are words of the entries
words-in : (es : List Entry) (v : ℕ) → All (λ w. Memᴰ w (all_words es)) (words_of es v)
unfolding words_of all_words
words-in [] v = tt
words-in (e ∷ es) v = by (eqb e.value v) (words-in es v)
  where
    by : (b : Bool) → All (λ w. Memᴰ w (all_words es)) (words_of es v) → All (λ w. Memᴰ w (e.words ++ all_words es)) (cond b e.words (words_of es v))
    by true r =
        all-weaken (λ w. Memᴰ w e.words) (λ w. Memᴰ w (e.words ++ all_words es)) (λ w m. Memᴰ.append_left (all_words es) m) e.words (all-self e.words)
    by false r =
        all-weaken (λ w. Memᴰ w (all_words es)) (λ w. Memᴰ w (e.words ++ all_words es)) (λ w m. Memᴰ.append_right e.words m) (words_of es v) r

-- ---- a list on the way: it is valid, and its words are words of the entries

pub record Within (es : List Entry) (ks : List ℕ) : Type 0 where
  pub valid : Valid ks
  pub words : All (λ w. Memᴰ w (all_words es)) ks

pub within-start : (es : List Entry) → Within es []
within-start es = record { valid = tt; words = tt }

module _ (es : List Entry) (s : Sounds 0 es) where
  pub within_step : (kind v : ℕ) (ks : List ℕ) → Within es ks → Within es (combine (step kind) ks (words_of es v))
  within_step kind v ks w =
      record {
        valid = combine-valid (step kind) (step-none kind) ks (words_of es v) w.valid (words-valid es 0 s v);
        words = combine-all (step kind) (λ x. Memᴰ x (all_words es)) ks (words_of es v) w.words (words-in es v);
      }

  -- a rising list of words of the entries is no longer than all of them
  pub within-fits : (ks : List ℕ) → Within es ks → length ks ≤ need es
  within-fits ks w = omega (arith, rising-count ks (all_words es) (valid-from ks 0 w.valid) w.words, length-all_words es 0 s)

  keep_from-within : (steps ks : List ℕ) → Within es ks → Within es (keep_from es ks steps)
  unfolding keep_from
  keep_from-within [] ks w = w
  keep_from-within (kind ∷ []) ks w = w
  keep_from-within (kind ∷ v ∷ steps) ks w = keep_from-within steps (combine (step kind) ks (words_of es v)) (within_step kind v ks w)

  pub keep-within : (steps : List ℕ) → Within es (keep es steps)
  unfolding keep
  keep-within steps = keep_from-within steps [] (within-start es)

  -- ---- rows

  keep_from-has : (steps ks : List ℕ) → Within es ks → (r : ℕ) → has (keep_from es ks steps) r ≡ says_from (has ks r) steps (λ v. has (words_of es v) r)
  unfolding keep_from says_from
  keep_from-has [] ks w r = refl
  keep_from-has (kind ∷ []) ks w r = refl
  keep_from-has (kind ∷ v ∷ steps) ks w r =
      keep_from-has steps (combine (step kind) ks (words_of es v)) (within_step kind v ks w) r
      ∙ ap (λ (b : Bool). says_from b steps (λ u. has (words_of es u) r))
      (combine-has (step kind) (step-none kind) ks (words_of es v) w.valid (words-valid es 0 s v) r)

  -- a filter leaves a row exactly when it says yes to the set of values that list that row
  pub keep-has : (steps : List ℕ) (r : ℕ) → has (keep es steps) r ≡ says steps (λ v. has (words_of es v) r)
  unfolding keep says
  keep-has steps r = keep_from-has steps [] (within-start es) r

-- ---- the values that steps name: one a step

-- nothing else of a set counts
says_from-same : (S T : ℕ → Bool) (steps : List ℕ) → All (λ v. S v ≡ T v) (named steps) → (b : Bool) → says_from b steps S ≡ says_from b steps T
unfolding says_from named
says_from-same S T [] a b = refl
says_from-same S T (kind ∷ []) a b = refl
says_from-same S T (kind ∷ v ∷ steps) a b = rw a.0 (says_from-same S T steps a.1 (step kind b (T v)))

pub says_same : (S T : ℕ → Bool) (steps : List ℕ) → All (λ v. S v ≡ T v) (named steps) → says steps S ≡ says steps T
unfolding says
says_same S T steps a = says_from-same S T steps a false

pub elem-all : (vs : List ℕ) → All (λ u. elem u vs ≡ true) vs
elem-all [] = tt
elem-all (v ∷ vs) =
    (rw (eq-eqb v v refl), all-weaken (λ u. elem u vs ≡ true) (λ u. elem u (v ∷ vs) ≡ true) (λ u p. rw p (or-true (eqb v u))) vs (elem-all vs))

pub elem-left : (vs ws : List ℕ) (u : ℕ) → elem u vs ≡ true → elem u (vs ++ ws) ≡ true
elem-left [] ws u p = absurd (false≢true p)
elem-left (v ∷ vs) ws u p = by (eqb v u) p (elem-left vs ws u)
  where
    by : (b : Bool) → (b || elem u vs) ≡ true → (elem u vs ≡ true → elem u (vs ++ ws) ≡ true) → (b || elem u (vs ++ ws)) ≡ true
    by true q f = refl
    by false q f = f q

pub elem-right : (vs ws : List ℕ) (u : ℕ) → elem u ws ≡ true → elem u (vs ++ ws) ≡ true
elem-right [] ws u p = p
elem-right (v ∷ vs) ws u p = rw (elem-right vs ws u p) (or-true (eqb v u))

-- ---- what is left

-- what holds of each word of the entries holds of each word that a filter leaves
pub keep_all : (P : ℕ → Type 0) (es : List Entry) → Sounds 0 es → All P (all_words es) → (steps : List ℕ) → All P (keep es steps)
keep_all P es s a steps = all-weaken (λ w. Memᴰ w (all_words es)) P (λ w m. mem-all P (all_words es) w a m) (keep es steps) (keep-within es s steps).words

-- ---- over an accepted index

module _ (s : List ℕ) (all : Bytes s) (e : index_fault s ≡ 0) where
  -- R runs take 16R bytes and more
  pub need-within : 4 + 8 * need (entries s) ≤ length s
  unfolding need
  need-within = omega (arith, length-written s, written-within s e)

  -- what a filter leaves is a run list within its limit
  module _ (steps : List ℕ) where
    pub keep-few : length (keep (entries s) steps) ≤ need (entries s)
    keep-few = let o = entries-sound s all e in within-fits (entries s) o (keep (entries s) steps) (keep-within (entries s) o steps)

    -- the need is even
    pub keep-limit : length (keep (entries s) steps) ≤ max_words
    unfolding need
    keep-limit = omega (arith, keep-few, need-within, (open-index s e).short)

    pub keep-accepted : fault (keep (entries s) steps) ≡ 0
    keep-accepted = accepted-fault (keep (entries s) steps) (record { limit = keep-limit; valid = (keep-within (entries s) (entries-sound s all e) steps).valid })
