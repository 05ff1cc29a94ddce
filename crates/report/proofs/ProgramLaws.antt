-- The text of the program, one law for each way through the code.
use mathlib.Core.Path.{◌≡◌, sym, ◌∙◌, subst}
use mathlib.Core.Logic.{⊎_elim}
use mathlib.Core.List.{List, [], ◌∷◌}
use Prim.Native.Nat.{ℕ, zero, suc, ◌^◌, ◌≤◌, ◌<◌}
use native.Mathlib.Omega.{arith}
use borrow.Author.Tests.{lt-ltb, le-ltb, ltb-false}
use lib.ListN.{length, take, get_or}
use lib.Seq.{take_at}
use mir.Syntax.{w8}
use mir.Val.{Fits}
use Rattle.std.proofs.Common.{Result, Ok, Err, MatchResult}
use Rattle.fields.specs.Bytes.{Bytes}
use Rattle.fields.specs.Refusal.{when, ◌then◌, refusal_number}
use Rattle.fields.specs.declared.outcome.Refusal.{Refusal}
use Rattle.fields.specs.declared.outcome.Refusal.TheVariants.{TooLong, StepKind}
use Rattle.fields.specs.Answers.{over, short, short2, Writes}
use Rattle.fields.specs.declared.outcome.Answer.{Answer}
use Rattle.fields.proofs.Refusals.{then-none, then_some, front-none, rest-none, when_false, when-none, refusal_some}
use Rattle.fields.proofs.Answers.{accepted-some, accepted-none, gives-result, over-sets}
use Rattle.fields.proofs.Tests.{split-eq}
use Rattle.run_list.specs.Rising.{All}
use Rattle.run_list.specs.Runs.{fault}
use Rattle.run_list.specs.declared.list.RunList.{RunList}
use Rattle.index.specs.Index.{index_fault, entries}
use Rattle.index.proofs.IndexTrip.{entries-sound}
use Rattle.bitmap_index.specs.Filter.{keep, need, filter_fault, Filtered}
use Rattle.bitmap_index.proofs.FilterLaws.{all_words-small, keep_all, need-within, keep-few, keep-accepted}
use Rattle.report.specs.Lines.{text_fault, text_steps}
use Rattle.report.specs.Report.{refused_word, number_line, kept_text, outcome, report_fault, report, Reported}
use Rattle.report.specs.declared.print.Page.{Page}
use Rattle.report.specs.Inner.{Puts, StepsRead, Kept, Refused, outcome_text}
use Rattle.report.proofs.PrintRead.{kept-length, refused-length}

-- ---- a text, all of it or nothing

module _ (r : Result RunList Refusal) (before : Page) (after : Page) where
  pub outcome-refused : (refusal : Refusal) → r ≡ Err refusal → (x : ℕ) → x ≡ refusal_number refusal → Puts (number_line refused_word x) before after → Puts (outcome_text r) before after
  unfolding outcome_text
  outcome-refused refusal e x is t = rw (e, ← is) t

  pub outcome-kept : (runs : RunList) → r ≡ Ok runs → Puts (kept_text runs.words.now) before after → Puts (outcome_text r) before after
  unfolding outcome_text
  outcome-kept runs e t = rw e t

-- ---- what an accepted filter keeps of an index of at most 8,192 bytes

word-small : (ws : List ℕ) → All (λ w. w < 2 ^ 64) ws → (i : ℕ) → get_or ws i 0 < 2 ^ 64
word-small [] h i = omega arith
word-small (w ∷ ws) h zero = h.0
word-small (w ∷ ws) h (suc i) = word-small ws h.1 i

module _ (s steps : List ℕ) (few : length s ≤ 8192) (all : (j : ℕ) → Fits w8 (get_or s j 0)) (z : filter_fault s steps ≡ 0) where
  bytes : Bytes s
  bytes j = omega (arith, all j)

  read : index_fault s ≡ 0
  unfolding filter_fault index_fault
  read = then-none _ _ (front-none _ _ z) ∙ front-none _ _ (rest-none _ _ (rest-none _ _ z))

  room-enough : (n : ℕ) → n ≡ 1024 → short (need (entries s)) n ≡ 0
  unfolding short
  room-enough n h = when_false _ 10 (le-ltb n (need (entries s)) (omega (arith, need-within s bytes read)))

  keep-short : length (keep (entries s) steps) ≤ 1024
  keep-short = omega (arith, keep-few s bytes read steps, need-within s bytes read)

  keep-valid : fault (keep (entries s) steps) ≡ 0
  keep-valid = keep-accepted s bytes read steps

  keep-small : (i : ℕ) → get_or (keep (entries s) steps) i 0 < 2 ^ 64
  keep-small =
      let sound = entries-sound s bytes read in
      word-small _ (keep_all (λ w. w < 2 ^ 64) (entries s) sound (all_words-small (entries s) 0 sound) steps)

-- ---- the refusal of an index and a filter, or what is kept

module _ (index text : List ℕ) where
  pub judged-index : 8192 < length index → Refused index text TooLong
  unfolding report_fault when ◌then◌
  judged-index h = record { is = rw (lt-ltb 8192 (length index) h) }

  module _ (h : length index ≤ 8192) where
    pub judged-text : 8192 < length text → Refused index text TooLong
    unfolding report_fault when ◌then◌
    judged-text k = record { is = rw (le-ltb 8192 (length index) h, lt-ltb 8192 (length text) k) }

    module _ (k : length text ≤ 8192) where
      onward : report_fault index text ≡ (text_fault text then filter_fault index (text_steps text))
      unfolding report_fault when ◌then◌
      onward = rw (le-ltb 8192 (length index) h, le-ltb 8192 (length text) k)

      pub judged-lines : text_fault text ≡ 8 → Refused index text StepKind
      judged-lines z =
          record {
            is = sym z ∙ sym (onward ∙ then_some _ _ (λ q. absurd (omega (arith, sym z ∙ q))));
          }

      module _ (list : List ℕ) (len : ℕ) (steps : List ℕ) (m : StepsRead text list len steps) (space : length list ≡ 8192) where
        steps-are : take len steps ≡ text_steps text
        unfolding over
        steps-are =
            let l = m.number in
            rw (m.written, over-sets (text_steps text) list (omega (arith, l, m.few))) (take_at (text_steps text) _ len (sym l))

        last : report_fault index text ≡ filter_fault index (text_steps text)
        last = onward ∙ then-none (text_fault text) (filter_fault index (text_steps text)) m.fault

        module _ (all : (j : ℕ) → Fits w8 (get_or index j 0)) (before scratch : List ℕ) (a : Answer) (kept scratch' : List ℕ)
            (call : Filtered index (take len steps) before scratch a kept scratch') (room : length before ≡ 1024) (room₂ : length scratch ≡ 1024) where
          own : Filtered index (text_steps text) before scratch a kept scratch'
          own = rw steps-are at call

          -- the lists have room, so that the refusal is not for theirs
          refusal : a.refusal ≡ filter_fault index (text_steps text)
          unfolding short2
          refusal =
              own.first.refusal
              ∙ ⊎_elim
              (λ e. let enough = room-enough index (text_steps text) h all e.1 in then-none _ _ e.1 ∙ then-none _ _ (enough (length before) room) ∙ enough (length scratch) room₂ ∙ sym e.1)
              (λ e. then_some _ _ e.1) (split-eq (filter_fault index (text_steps text)) 0)

          pub judged-filter : (e : Refusal) → refusal_number e ≡ a.refusal → Refused index text e
          judged-filter e r = record { is = r ∙ refusal ∙ sym last }

          module _ (z : a.refusal ≡ 0) where
            accepted : filter_fault index (text_steps text) ≡ 0
            accepted = sym refusal ∙ z

            runs : take a.len kept ≡ keep (entries index) (text_steps text)
            runs = gives-result _ (keep (entries index) (text_steps text)) (need (entries index)) before a kept own.first z

            pub kept-few : a.len ≤ 1024
            kept-few =
                let n = own.first.len ∙ accepted-none _ (length (keep (entries index) (text_steps text))) 0 (sym own.first.refusal ∙ z) in
                omega (arith, n, keep-short index (text_steps text) h all accepted)

            pub kept-accepted : fault (take a.len kept) ≡ 0
            kept-accepted = rw runs (keep-valid index (text_steps text) h all accepted)

            pub kept-small : (i : ℕ) → get_or (take a.len kept) i 0 < 2 ^ 64
            kept-small = rw runs (keep-small index (text_steps text) h all accepted)

            pub judged-kept : Kept index text (take a.len kept)
            judged-kept = record { accepted = last ∙ accepted; are = runs }

module _ (index text : List ℕ) where
  pub reported : (r : Result RunList Refusal) → MatchResult r (λ runs. Kept index text runs.words.now) (λ refusal. Refused index text refusal) → outcome_text r ≡ report index text
  unfolding report outcome outcome_text
  reported (Ok runs) m =
      sym (accepted-none (report_fault index text) _ _ m.accepted ∙ rw m.are)
  reported (Err refusal) m =
      sym (accepted-some (report_fault index text) _ _ (λ q. refusal_some refusal (m.is ∙ q)) ∙ rw m.is)

  pub report-written : (j : Result RunList Refusal) → MatchResult j (λ runs. Kept index text runs.words.now) (λ refusal. Refused index text refusal)
      → (before : List ℕ) (r : Answer) (out : List ℕ) → Writes (outcome_text j) before r out → Reported index text before r out
  report-written j m before r out w = subst (λ (ws : List ℕ). Writes ws before r out) (reported j m) w

-- ---- the text fits what the program lends

module _ (index text : List ℕ) (z : report_fault index text ≡ 0) where
  index_short : length index ≤ 8192
  unfolding report_fault
  index_short = ltb-false 8192 (length index) (when-none _ 0 (front-none _ _ z))

  filter_none : filter_fault index (text_steps text) ≡ 0
  unfolding report_fault
  filter_none = rest-none _ _ (rest-none _ _ (rest-none _ _ z))

pub report-fits : (index text : List ℕ) → ((j : ℕ) → Fits w8 (get_or index j 0)) → length (report index text) ≤ 32768
unfolding report outcome
report-fits index text all =
    ⊎_elim
    (λ k. rw (accepted-none (report_fault index text) (kept_text (keep (entries index) (text_steps text))) (number_line refused_word (report_fault index text)) k.1)
    (omega (arith, kept-length (keep (entries index) (text_steps text)), kept k.1)))
    (λ k. rw (accepted-some (report_fault index text) (kept_text (keep (entries index) (text_steps text))) (number_line refused_word (report_fault index text)) k.1)
    (omega (arith, refused-length (report_fault index text)))) (split-eq (report_fault index text) 0)
  where
    kept : report_fault index text ≡ 0 → length (keep (entries index) (text_steps text)) ≤ 1024
    kept z = keep-short index (text_steps text) (index_short index text z) all (filter_none index text z)

-- the program lends 32,768 bytes, so that its call is not refused
pub report-accepted : (index text : List ℕ) → ((j : ℕ) → Fits w8 (get_or index j 0)) → (before : List ℕ) → 32768 ≤ length before → (r : Answer) (out : List ℕ)
    → Reported index text before r out → r.refusal ≡ 0
unfolding short
report-accepted index text all before room r out call =
    call.refusal ∙ when_false _ 10 (le-ltb (length before) (length (report index text)) (omega (arith, report-fits index text all)))
