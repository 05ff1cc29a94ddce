-- What the program does with a filter that it reads and with what it writes to, where their bytes are known.
use Rattle.std.specs.Prelude.{◌≤◌, ℕ, List, length, Option}
use Rattle.std.specs.Io.KnownBytes.{Appends, Consumes}
use Rattle.report.specs.Report.{report}

-- the filter loses some bytes, at most 8,193, and the text for the index and these bytes is written
abbrev pub Answers : List ℕ → Option (List ℕ) → Option (List ℕ) → Option (List ℕ) → Option (List ℕ) → Type 0
Answers index filter filter' written written' = (text : List ℕ) × (length text ≤ 8193) × Consumes filter filter' text × Appends written written' (report index text)
