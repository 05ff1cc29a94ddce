-- A read into the part of a buffer that is not yet filled.
use Rattle.std.proofs.Common.{◌≡◌, ℕ, ◌+◌, ◌≤◌, List, ◌++◌, Option, length, take, sym, ap, ◌∙◌, subst, length-take-le}
use Rattle.std.proofs.lemmas.List.{take-append-le}
use Rattle.std.proofs.Math.Seq.{take-append-add}
use Rattle.std.specs.Io.KnownBytes.{Consumes}
use Rattle.std.proofs.KnownBytes.{Consumes-trans}
use borrow.Rule.Slice.PartMut.{put_mid, post_of}

-- n bytes more are read into it
pub read-more : (a b c : Option (List ℕ)) (xs ys : List ℕ) (at k m : ℕ) → at ≤ length xs → Consumes a b (take at xs) → (n : ℕ) → m ≡ at + n → n ≤ length ys
    → Consumes b c (take n ys) → Consumes a c (take m (put_mid at k xs ys))
read-more a b c xs ys at k m within before n e fits read =
    let part = take-append-add (take at xs) (ys ++ post_of at k xs) n ∙ ap (λ l. take at xs ++ l) (take-append-le n ys (post_of at k xs) fits) in
    let place = e ∙ ap (λ i. i + n) (sym (length-take-le at xs within)) in
    subst (Consumes a c) (sym (ap (λ i. take i (put_mid at k xs ys)) place ∙ part)) (Consumes-trans a b c _ _ before read)
