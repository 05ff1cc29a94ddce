-- Reading in sequence and the definitions by places: the first fault is the refusal, and where there is none the contents are what reading gives.
use mathlib.Core.Path.{◌≡◌, refl, sym, ◌∙◌}
use mathlib.Core.Bool.{Bool, true, false, not}
use mathlib.Core.List.{List, ◌∷◌}
use mathlib.Core.Logic.{◌⊎◌, inl, inr}
use Prim.Native.Nat.{ℕ, zero, suc, ◌+◌, ◌-◌, ◌*◌, ◌≤◌, ◌<◌}
use native.Mathlib.Nat.{add_assoc}
use native.Mathlib.Omega.{arith}
use borrow.Author.Tests.{le-leb, lt-leb, lt-ltb, le-ltb, ltb-false}
use lib.Dec.{leb, ltb}
use lib.ListN.{length, take, drop, length-drop}
use lib.Seq.{drop-drop}
use Rattle.fields.specs.Refusal.{when, ◌then◌}
use Rattle.fields.specs.Bytes.{from_le, number_at}
use Rattle.fields.specs.Sums.{bytes_sum}
use Rattle.fields.proofs.Sums.{number-sum}
use Rattle.fields.proofs.Refusals.{then-assoc, when-none}
use Rattle.fields.proofs.Tests.{split-le}
use Rattle.run_list.specs.Runs.{run_fault}
use Rattle.run_list.specs.Blocks.{run_count, read_fault, block_fault, words_at, block_words}
use Rattle.run_list.proofs.BlockWords.{block_fault-none}
use Rattle.index.specs.Index.{Entry, entry, block_at, next_at, head_fault, entries_fault, entry_list, entry_count, bytes_fault, entries}
use Rattle.demands.specs.Reading.{Reading, refused, gives, ◌>>=◌, ◌>>◌, unless, part, field, read_runs, read_block, read_entries, read_index}

-- a refusal, 0 for none, and contents as what a reading says
unfoldable pub answer : {A : Type 0} → ℕ → A → Reading A
answer zero a = gives a
answer (suc f) a = refused (suc f)

-- ---- a sequence of readings is an order of refusals

answer-same : {A : Type 0} (f : ℕ) (a b : A) → (f ≡ 0 → a ≡ b) → answer f a ≡ answer f b
unfolding answer
answer-same zero a b e = rw (e refl)
answer-same (suc f) a b e = refl

read_next : {A B : Type 0} (f g : ℕ) (a : A) (k : A → Reading B) (c : B) → (f ≡ 0 → k a ≡ answer g c) → (answer f a >>= k) ≡ answer (f then g) c
unfolding answer ◌then◌
read_next zero g a k c e = e refl
read_next (suc f) g a k c e = refl

test-next : {B : Type 0} (t : Bool) (f g : ℕ) (m : Reading B) (c : B) → m ≡ answer g c → (unless (not t) (suc f) >> m) ≡ answer (when t (suc f) then g) c
unfolding answer when ◌then◌
test-next true f g m c e = refl
test-next false f g m c e = e

read-last : {A B : Type 0} (m : Reading A) (f : ℕ) (a : A) (g : A → B) → m ≡ answer f a → (m >>= λ x. gives (g x)) ≡ answer f (g a)
unfolding answer
read-last m zero a g e = rw e
read-last m (suc f) a g e = rw e

-- a test for reading on is the opposite of the test for the fault
opposite : (x y u v : ℕ) → (x ≤ y → v < u) → (y < x → u ≤ v) → leb x y ≡ not (leb u v)
opposite x y u v f g = by (split-le x y)
  where
    by : ((leb x y ≡ true) × (x ≤ y)) ⊎ ((leb x y ≡ false) × (y < x)) → leb x y ≡ not (leb u v)
    by (inl (e, h)) = rw (e, lt-leb u v (f h))
    by (inr (e, h)) = rw (e, le-leb u v (g h))

leb-not : (x y : ℕ) → leb x y ≡ not (ltb y x)
leb-not x y = opposite x y (suc y) x (λ h. omega arith) (λ h. omega arith)

ltb-not : (x y : ℕ) → ltb x y ≡ not (leb y x)
ltb-not x y = opposite (suc x) y y x (λ h. omega arith) (λ h. omega arith)

-- ---- parts and fields

-- a part that starts at a place: it has a byte, or its place is within the bytes
part-is : (n : ℕ) (s : List ℕ) (at : ℕ) → 0 < n + (suc (length s) - at) → part n (drop at s) ≡ answer (when (ltb (length s) (at + n)) 2) (take n (drop at s))
unfolding part
part-is n s at h =
    rw (opposite n (length (drop at s)) (suc (length s)) (at + n) (λ k. omega (arith, length-drop at s)) (λ k. omega (arith, length-drop at s)))
    (by (ltb (length s) (at + n)))
  where
    by : (t : Bool) → (unless (not t) 2 >> gives (take n (drop at s))) ≡ answer (when t 2) (take n (drop at s))
    by true = unfold answer when in refl
    by false = unfold answer when in refl

field_is : (n : ℕ) (s : List ℕ) (at : ℕ) → 0 < n → field n (drop at s) ≡ answer (when (ltb (length s) (at + n)) 2) (number_at n s at)
unfolding field number_at
field_is n s at h = read-last (part n (drop at s)) (when (ltb (length s) (at + n)) 2) (take n (drop at s)) from_le (part-is n s at (omega arith))

-- request 3: "A block or index field cut short is still 2", and one that is whole is the sum of its bytes
pub field-cut : (n : ℕ) (s : List ℕ) (at : ℕ) → 0 < n → length s < at + n → field n (drop at s) ≡ refused 2
unfolding answer when
field-cut n s at h k = field_is n s at h ∙ rw (lt-ltb (length s) (at + n) k)

pub field-sum : (n : ℕ) (s : List ℕ) (at : ℕ) → 0 < n → at + n ≤ length s → field n (drop at s) ≡ gives (bytes_sum n s at)
unfolding answer when
field-sum n s at h k = field_is n s at h ∙ rw (le-ltb (length s) (at + n) k, number-sum n s at)

-- ---- blocks

runs-is : (n : ℕ) (b : List ℕ) (at lo : ℕ) → read_runs n lo (drop at b) ≡ answer (read_fault n b at lo) (words_at (2 * n) b at)
unfolding read_runs read_fault words_at run_fault
runs-is zero b at lo = unfold answer in refl
runs-is (suc n) b at lo =
    let s = number_at 8 b at in
    let e = number_at 8 b (at + 8) in
    let two : 2 * suc n ≡ suc (suc (2 * n)) = omega arith in
    rw (two, drop-drop 8 at b, drop-drop 16 at b, field_is 8 b at (omega arith), field_is 8 b (at + 8) (omega arith), add_assoc at 8 8)
    (simp then-assoc
    (read_next (when (ltb (length b) (at + 8)) 2) _ s _ _ (λ _.
    read_next (when (ltb (length b) (at + 16)) 2) _ e _ _ (λ _.
    rw (ltb-not s e, leb-not lo s)
    (test-next (leb e s) 2 _ _ _
    (test-next (ltb s lo) 3 _ _ _
    (read-last (read_runs n (suc e) (drop (at + 16) b)) (read_fault n b (at + 16) (suc e)) (words_at (2 * n) b (at + 16)) (λ ws. s ∷ e ∷ ws)
    (runs-is n b (at + 16) (suc e)))))))))

pub block-is : (b : List ℕ) → read_block b ≡ answer (block_fault b) (block_words b)
block-is b = counted ∙ answer-same (block_fault b) _ _ all
  where
    counted : read_block b ≡ answer (block_fault b) (words_at (2 * run_count b) b 4)
    counted =
        unfold read_block block_fault in
        rw (field_is 4 b 0 (omega arith)) (read_next (when (ltb (length b) 4) 2) _ (run_count b) _ _ (λ _. runs-is (run_count b) b 4 0))

    all : block_fault b ≡ 0 → words_at (2 * run_count b) b 4 ≡ block_words b
    all e = unfold block_words in rw (block_fault-none b e).all

-- ---- indexes

entries-is : (n : ℕ) (s : List ℕ) (at lo : ℕ) → read_entries n lo (drop at s) ≡ answer (entries_fault n s at lo) (entry_list n s at)
unfolding read_entries entries_fault entry_list head_fault block_at
entries-is zero s at lo = unfold answer in refl
entries-is (suc n) s at lo =
    let v = number_at 8 s at in
    let len = number_at 4 s (at + 8) in
    let block = take len (drop (at + 12) s) in
    rw (drop-drop 8 at s, drop-drop 12 at s, field_is 8 s at (omega arith), field_is 4 s (at + 8) (omega arith), add_assoc at 8 4)
    (simp then-assoc
    (read_next (when (ltb (length s) (at + 8)) 2) _ v _ _ (λ _.
    rw (leb-not lo v)
    (test-next (ltb v lo) 4 _ _ _
    (read_next (when (ltb (length s) (at + 12)) 2) _ len _ _ (λ z.
    let within = ltb-false (length s) (at + 12) (when-none (ltb (length s) (at + 12)) 1 z) in
    rw (part-is len s (at + 12) (omega arith), drop-drop len (at + 12) s)
    (read_next (when (ltb (length s) (at + 12 + len)) 2) _ block _ _ (λ _.
    rw (block-is block)
    (read_next (block_fault block) _ (block_words block) _ _ (λ _.
    read-last (read_entries n (suc v) (drop (at + 12 + len) s)) (entries_fault n s (next_at s at) (suc v)) (entry_list n s (next_at s at)) (λ es. entry v (block_words block) ∷ es)
    (entries-is n s (next_at s at) (suc v))))))))))))

-- reading an index in sequence is reading it by places
pub reading-is : (s : List ℕ) → read_index s ≡ answer (bytes_fault s) (entries s)
unfolding read_index entries
reading-is s =
    rw (field_is 4 s 0 (omega arith)) (read_next (when (ltb (length s) 4) 2) _ (entry_count s) _ _ (λ _. entries-is (entry_count s) s 4 0))

-- so an index is read exactly where it has no fault, with these entries
pub accepted-reads : (s : List ℕ) → bytes_fault s ≡ 0 → read_index s ≡ gives (entries s)
unfolding answer
accepted-reads s e = reading-is s ∙ rw e

pub reads-accepted : (s : List ℕ) (es : List Entry) → read_index s ≡ gives es → (bytes_fault s ≡ 0) × (entries s ≡ es)
unfolding answer
reads-accepted s es e = by (bytes_fault s) (sym (reading-is s) ∙ e)
  where
    by : (f : ℕ) → answer f (entries s) ≡ gives es → (f ≡ 0) × (entries s ≡ es)
    by zero q = (refl, cc)
    by (suc f) q = absurd (let z : ◌≡◌ {A = ℕ} 0 1 = cc in omega arith)
