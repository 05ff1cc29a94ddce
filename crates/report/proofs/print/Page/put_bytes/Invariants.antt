use Rattle.std.proofs.Common.{◌≡◌}
use Rattle.report.proofs.PrintLaws.{Putting}
use Rattle.report.proofs.print.Page.put_bytes.Given as goal

abbrev pub invariant-loop-byte : goal.invariant-loop-byte
invariant-loop-byte l = (l.self.bytes.ghost_name ≡ l.initial.self.bytes.ghost_name) × Putting l.bytes l.initial.self.bytes.now l.initial.self.len l.byte-index l.self.len l.self.bytes.now
