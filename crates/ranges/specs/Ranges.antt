-- Run lists as records (document 01, "Building lists"): "`contains`, `count`: also as thin doors that take a lent list of `RowRange` records, as the Rust's
-- `ranges()` gives. They refuse 1, 3 and 4 likewise." The contracts of these calls are those of the calls on words, at `words` of the records.
use Rattle.std.specs.Prelude.{List, [], ◌∷◌, ℕ}
use Rattle.ranges.specs.declared.range.RowRange.{RowRange}

-- the word list of the records: start and end of each
abbrev pub words : List RowRange → List ℕ
words [] = []
words (x ∷ xs) = x.start ∷ x.end ∷ words xs
