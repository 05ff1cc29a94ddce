-- Lengths and their limits: what a test in the code says of `too_long` and `no_room`, and the other way round.
use mathlib.Core.Path.{◌≡◌, sym}
use mathlib.Core.List.{List}
use Prim.Native.Nat.{ℕ, ◌≤◌, ◌<◌}
use borrow.Author.Tests.{lt-ltb, le-ltb, ltb-false}
use lib.Dec.{ltb}
use lib.ListN.{length}
use Rattle.fields.specs.Refusal.{when, ◌then◌}
use Rattle.fields.specs.Answers.{short}
use Rattle.fields.specs.Limits.{too_long, no_room}
use Rattle.fields.proofs.Refusals.{when_true, when_false, when-none, front-none, rest-none}

module _ (limit : ℕ) (l : List ℕ) where
  pub long-found : limit < length l → 1 ≡ too_long limit l
  unfolding too_long
  long-found h = sym (when_true _ 1 (lt-ltb limit (length l) h))

  pub long-none : length l ≤ limit → 0 ≡ too_long limit l
  unfolding too_long
  long-none h = sym (when_false _ 1 (le-ltb limit (length l) h))

  pub none-long : too_long limit l ≡ 0 → length l ≤ limit
  unfolding too_long
  none-long e = ltb-false limit (length l) (when-none (ltb limit (length l)) 0 e)

module _ (limit n room : ℕ) where
  pub room-short : room < n → 10 ≡ no_room limit n room
  unfolding no_room short when ◌then◌
  room-short h = rw (lt-ltb room n h)

  pub room-limit : n ≤ room → limit < n → 10 ≡ no_room limit n room
  unfolding no_room short when ◌then◌
  room-limit h k = rw (le-ltb room n h, lt-ltb limit n k)

  pub room_fits : n ≤ room → n ≤ limit → 0 ≡ no_room limit n room
  unfolding no_room short when ◌then◌
  room_fits h k = rw (le-ltb room n h, le-ltb limit n k)

  pub room-none : no_room limit n room ≡ 0 → n ≤ room
  unfolding no_room short
  room-none e = ltb-false room n (when-none (ltb room n) 9 (front-none _ _ e))

  pub room_within : no_room limit n room ≡ 0 → n ≤ limit
  unfolding no_room
  room_within e = ltb-false limit n (when-none (ltb limit n) 9 (rest-none _ _ e))
