-- The text fits the buffer that is lent for it, and all of it is written.
use Rattle.std.proofs.Common.{◌≡◌, ◌∙◌, sym, ap, subst, List, Option, Result, Ok, Err, OnOk, refl, ℕ, ◌≤◌, length, take, get_or, arith, length-take, w8, Fits}
use Rattle.std.specs.Io.KnownBytes.{Appends}
use Rattle.std.specs.Result.{result_unwrap_or}
use Rattle.fields.specs.Answers.{answer_of}
use Rattle.fields.specs.declared.outcome.Answer.{Answer}
use Rattle.fields.specs.declared.outcome.Refusal.{Refusal}
use Rattle.fields.proofs.Answers.{accepted-none, gives-result}
use Rattle.report.specs.Report.{report, Reported}
use Rattle.report.proofs.ProgramLaws.{report-accepted}

-- a length that a call gives, 0 where it is refused
answer-len : (k : Result ℕ Refusal) → result_unwrap_or k 0 ≡ (answer_of k).len
answer-len (Ok n) = refl
answer-len (Err e) = refl

module _ (index text before : List ℕ) (k : Result ℕ Refusal) (out : List ℕ) (t : Reported index text before (answer_of k) out)
    (all : (j : ℕ) → Fits w8 (get_or index j 0)) (room : 32768 ≤ length before) (n : ℕ) (is : n ≡ result_unwrap_or k 0) where
  abbrev r : Answer
  r = answer_of k

  number : n ≡ r.len
  number = is ∙ answer-len k

  -- what is printed is the whole text
  pub text-printed : take n out ≡ report index text
  text-printed = rw number (gives-result _ (report index text) 0 before r out t (report-accepted index text all before room r out t))

  pub text-part : n ≡ length (take n out)
  text-part =
      number
      ∙ t.len
      ∙ accepted-none _ (length (report index text)) 0 (sym t.refusal ∙ report-accepted index text all before room r out t)
      ∙ sym (ap length text-printed)

  pub text-within : n ≤ length out
  text-within = omega (arith, text-part, length-take n out)

  -- so a write of what is printed is one of the whole text
  pub text-written : {T E : Type 0} (a b : Option (List ℕ)) (w : Result T E) → OnOk w (Appends a b (take n out)) → OnOk w (Appends a b (report index text))
  text-written a b w = subst (λ ws. OnOk w (Appends a b ws)) text-printed
