-- The clauses of the top call, by how it ended.
use Rattle.std.proofs.Common.{◌≡◌, ◌≤◌, ℕ, List, Result, Ok, Err, refl, sym, subst, inl, inr, arith}
use Rattle.std.specs.Prelude.{◌⊎◌, IfSome}
use Rattle.std.specs.Borrow.{Bor}
use Rattle.clap.specs.Walk.{Text}
use Rattle.insar_ports.proofs.CallLemmas.{at_told, if_told}
use Rattle.insar_words.specs.Asked.{IsCheck, IsCheckWhole, IsCommand, IsRefused, IsWatch, IsWhole, Options}
use Rattle.insar_words.specs.Requests.{AskSomething, HasWordsCause, IsRequest, options_of}
use Rattle.insar_words.specs.declared.fault.WordsFault.{WordsFault}
use Rattle.insar_words.specs.declared.fault.WordsFault.TheVariants as words_faults
use Rattle.insar_words.specs.declared.request.Request.{Request}
use Rattle.insar_words.specs.declared.request.Request.TheVariants.{Unwrap, Check, Whole, CheckWhole, Watch}
use Rattle.report_check.specs.declared.verdict.CheckVerdict.{CheckVerdict}
use Rattle.report_check.specs.declared.verdict.CheckVerdict.TheVariants as verdicts
use Rattle.whole_check.specs.declared.verdict.WholeVerdict.{WholeVerdict}
use Rattle.whole_check.specs.declared.verdict.WholeVerdict.TheVariants as whole_verdicts
use Rattle.answer_lines.specs.VerdictLines.{verdict_line}
use Rattle.answer_lines.specs.WholeLines.{whole_verdict_line}
use Rattle.answer_lines.specs.declared.refusal.Refusal.{Refusal}
use Rattle.answer_lines.specs.declared.refusal.Refusal.TheVariants as refusals
use Rattle.insar_commands.specs.Answers.{HasAnswered, HasCutShort, IsDoneStatus, IsInputTo, IsWithinInput, input_of}
use Rattle.insar_commands.specs.Causes.{BreaksInput, HasRefusalCause}
use Rattle.insar_commands.specs.Check.{IsJudged, IsVerdictTold}
use Rattle.insar_commands.specs.CheckWhole.{IsWholeJudged, IsWholeVerdictTold}
use Rattle.insar_commands.specs.Ends.{EndsBy, IsLineAt, IsProgramEnd, IsRequestEnd, end_status, line_of_end}
use Rattle.insar_commands.specs.Ends.IsProgramEnd.{not_read, done}
use Rattle.answer_lines.specs.Refusals.{status_of, words_refusal}
use Rattle.insar_commands.specs.Run.{HasKept, IsUnread, Run, SinkFailed, SourceFailed}
use Rattle.insar_commands.specs.Unwrap.{IsDone}
use Rattle.insar_commands.specs.Watch.{IsWatchDone}
use Rattle.insar_commands.specs.Whole.{IsLeastDone}
use Rattle.insar_commands.proofs.AnswerLemmas.{answer_input, small_status, unread_within}
use Rattle.insar_top.proofs.BrokenLemmas.{broken_bytes_are_no_input}
use Rattle.insar_commands.proofs.BothLemmas.{verdict_told}
use Rattle.insar_top.proofs.CheckLemmas.{bytes_have_one_verdict}
use Rattle.insar_commands.proofs.WholeLemmas.{bytes_have_one_whole_verdict}
use Rattle.insar_words.proofs.RequestLemmas.{check_is_request, check_whole_is_request, one_request, refused_or_asking, unwrap_is_request, watch_is_request, whole_is_request}

-- ---- refusals by their statuses

refused_status : (x : Refusal) → (2 ≤ status_of x) × (status_of x ≤ 6)
refused_status x = grind arith

-- what the status of a refusal says
record IsTold (asked : Request) (r : Run) (status : ℕ) : Type 0 where
  two : status ≡ 2 → ⊥
  five : status ≡ 5 → SourceFailed r
  six : status ≡ 6 → SinkFailed r × HasCutShort asked r
  kept : status ≤ 5 → HasKept r

told_by : (asked : Request) (r : Run) (x : Refusal) → HasRefusalCause asked r x → IsTold asked r (status_of x)
told_by asked r refusals.Words e = absurd e.0
told_by asked r refusals.Memory e = record { two = λ q. omega (arith, q); five = λ q. absurd (omega (arith, q)); six = λ q. absurd (omega (arith, q)); kept = λ q. e.1 }
told_by asked r refusals.ReadFault e = record { two = λ q. omega (arith, q); five = λ q. e.0; six = λ q. absurd (omega (arith, q)); kept = λ q. e.1 }
told_by asked r refusals.WriteFault e = record { two = λ q. omega (arith, q); five = λ q. absurd (omega (arith, q)); six = λ q. e; kept = λ q. absurd (omega (arith, q)) }
told_by asked r x e = record { two = λ q. omega (arith, q); five = λ q. absurd (omega (arith, q)); six = λ q. absurd (omega (arith, q)); kept = λ q. e.1 }

-- ---- how a request ended

module _ (asked : Request) (r : Run) where
  abbrev Ends : Result ℕ Refusal → Type 0
  Ends = EndsBy (HasAnswered asked r) (HasRefusalCause asked r)

  done_at : (d : Result ℕ Refusal) → Ends d → end_status d ≤ 1 → HasAnswered asked r (end_status d)
  done_at (Ok n) e small = e
  done_at (Err x) e small = let two = (refused_status x).0 in absurd (omega (arith, small, two))

  -- P: what holds where the line of a refusal was put
  refused_at : (d : Result ℕ Refusal) → Ends d → (P : Result ℕ Refusal → Type 0) → P d → 2 ≤ end_status d → (x : Refusal) × ((end_status d ≡ status_of x) × (HasRefusalCause asked r x × P (Err x)))
  refused_at (Ok n) e P p more = let small = small_status asked n e.0 in absurd (omega (arith, small, more))
  refused_at (Err x) e P p more = (x, (refl, (e, p)))

  cut_at : (d : Result ℕ Refusal) → Ends d → end_status d ≡ 6 → HasCutShort asked r
  cut_at (Ok n) e six = let small = small_status asked n e.0 in absurd (omega (arith, small, six))
  cut_at (Err x) e six = ((told_by asked r x e).six six).1

  taken_at : (d : Result ℕ Refusal) → Ends d → IfSome (input_of asked r) (λ bytes. (IsInputTo asked bytes → ⊥) → (end_status d ≡ 3) ⊎ ((end_status d ≡ 4) ⊎ (end_status d ≡ 5)))
  taken_at (Ok n) e = if_told (input_of asked r) _ (λ bytes t none. let k = at_told (input_of asked r) _ bytes t e.1 in absurd (none (answer_input asked bytes n k.0 k.1.0)))
  taken_at (Err refusals.Words) e = absurd e.0
  taken_at (Err refusals.Memory) e = if_told (input_of asked r) _ (λ bytes t none. inr (inl refl))
  taken_at (Err refusals.ReadFault) e = if_told (input_of asked r) _ (λ bytes t none. inr (inr refl))
  taken_at (Err refusals.WriteFault) e = if_told (input_of asked r) _ (λ bytes t none. let k = at_told (input_of asked r) _ bytes t e.1 in absurd (none (answer_input asked bytes k.0 k.1 k.2.0)))
  taken_at (Err x) e = if_told (input_of asked r) _ (λ bytes t none. inl refl)

  complete_at : (d : Result ℕ Refusal) → Ends d → IfSome (input_of asked r) (λ bytes. IsInputTo asked bytes → (SourceFailed r → ⊥) → (SinkFailed r → ⊥) → IsDoneStatus asked (end_status d) ⊎ (end_status d ≡ 4))
  complete_at (Ok n) e = if_told (input_of asked r) _ (λ bytes t input no_source no_sink. inl e.0)
  complete_at (Err refusals.Words) e = absurd e.0
  complete_at (Err refusals.Memory) e = if_told (input_of asked r) _ (λ bytes t input no_source no_sink. inr refl)
  complete_at (Err refusals.ReadFault) e = if_told (input_of asked r) _ (λ bytes t input no_source no_sink. absurd (no_source e.0))
  complete_at (Err refusals.WriteFault) e = if_told (input_of asked r) _ (λ bytes t input no_source no_sink. absurd (no_sink e.0))
  complete_at (Err x) e = if_told (input_of asked r) _ (λ bytes t input no_source no_sink. absurd (broken_bytes_are_no_input asked bytes x (at_told (input_of asked r) (λ bytes. BreaksInput asked bytes x) bytes t e.0) input))

-- ---- how the program ended

refused_words : (words : List (Bor Text)) (fault : WordsFault) → HasWordsCause words fault → status_of (words_refusal fault) ≡ 2 → IsRefused words
refused_words words words_faults.Refused cause two = cause
refused_words words words_faults.Memory cause two = absurd (omega (arith, two))

two_or_four : (fault : WordsFault) → (status_of (words_refusal fault) ≡ 2) ⊎ (status_of (words_refusal fault) ≡ 4)
two_or_four fault = grind arith

not_above : (fault : WordsFault) → 5 ≤ status_of (words_refusal fault) → ⊥
not_above fault five = grind arith

asks_something : (words : List (Bor Text)) (q : Request) → IsRequest words q → AskSomething words
asks_something words q is = (q, is)

module _ {words : List (Bor Text)} {r : Run} {d : Result ℕ Refusal} (ended : IsProgramEnd words r d) where
  -- by cases of the end
  by_end : (P : Result ℕ Refusal → Type 0) → ((fault : WordsFault) → HasWordsCause words fault → IsUnread r → HasKept r → P (Err (words_refusal fault)))
      → ((q : Request) → IsRequest words q → (n : ℕ) → n ≤ 1 → P (Ok n)) → ((q : Request) → IsRequest words q → (x : Refusal) → HasRefusalCause q r x → P (Err x)) → P d
  by_end P unread fine refused = go ended
    where
      request : (q : Request) → IsRequest words q → (o : Result ℕ Refusal) → EndsBy (HasAnswered q r) (HasRefusalCause q r) o → P o
      request q is (Ok n) e = fine q is n (small_status q n e.0)
      request q is (Err x) e = refused q is x e

      go : IsProgramEnd words r d → P d
      go (not_read fault cause none kept is) = subst P (sym is) (unread fault cause none kept)
      go (done q is e) = request q is d e.1

  module _ (asked : Request) (asks : IsRequest words asked) where
    for_memory : (fault : WordsFault) → HasWordsCause words fault → IsUnread r → HasKept r → IsRequestEnd asked r (Err (words_refusal fault))
    for_memory words_faults.Refused cause none kept = absurd ((refused_or_asking words).1 cause (asks_something words asked asks))
    for_memory words_faults.Memory cause none kept = (unread_within asked r none, (tt, kept))

    end_of : IsRequestEnd asked r d
    end_of = go ended
      where
        go : IsProgramEnd words r d → IsRequestEnd asked r d
        go (not_read fault cause none kept is) = subst (IsRequestEnd asked r) (sym is) (for_memory fault cause none kept)
        go (done q is e) = subst (λ (q : Request). IsRequestEnd q r d) (one_request words q asked is asks) e

    pub done_clause : end_status d ≤ 1 → HasAnswered asked r (end_status d)
    done_clause = done_at asked r d end_of.1

    pub refused_clause : (P : Result ℕ Refusal → Type 0) → P d → 2 ≤ end_status d → (x : Refusal) × ((end_status d ≡ status_of x) × (HasRefusalCause asked r x × P (Err x)))
    refused_clause = refused_at asked r d end_of.1

    pub cut_clause : end_status d ≡ 6 → HasCutShort asked r
    cut_clause = cut_at asked r d end_of.1

    pub taken_clause : IfSome (input_of asked r) (λ bytes. (IsInputTo asked bytes → ⊥) → (end_status d ≡ 3) ⊎ ((end_status d ≡ 4) ⊎ (end_status d ≡ 5)))
    taken_clause = taken_at asked r d end_of.1

    pub complete_clause : IfSome (input_of asked r) (λ bytes. IsInputTo asked bytes → (SourceFailed r → ⊥) → (SinkFailed r → ⊥) → IsDoneStatus asked (end_status d) ⊎ (end_status d ≡ 4))
    complete_clause = complete_at asked r d end_of.1

    pub alone_clause : IsWithinInput asked r
    alone_clause = end_of.0

  pub headline_clause : (options : Options) → IsCommand words options → end_status d ≡ 0 → IsDone options r
  headline_clause options c zero =
      let q = (unwrap_is_request words).0 options c in
      let answer = done_clause (Unwrap q.0) q.2 (omega (arith, zero)) in
      subst (λ (o : Options). IsDone o r) q.1 (if_told r.told _ (λ bytes t. let k = at_told r.told _ bytes t answer.1 in (k.0, (k.1.0.1, k.1.1))))

  pub judged_clause : (options : Options) → IsCheck words options → IfSome r.told (λ bytes. (verdict : CheckVerdict) → IsJudged options bytes verdict → IsVerdictTold (end_status d) r verdict)
  judged_clause options c =
      let q = (check_is_request words).0 options c in
      subst (λ (o : Options). IfSome r.told (λ bytes. (verdict : CheckVerdict) → IsJudged o bytes verdict → IsVerdictTold (end_status d) r verdict)) q.1 (verdict_told verdicts.Accepted verdict_line (IsJudged (options_of q.0)) (bytes_have_one_verdict (options_of q.0)) r (end_status d) (λ small. (done_clause (Check q.0) q.2 small).1))

  pub judged_whole_clause : (options : Options) → IsCheckWhole words options → IfSome r.told (λ bytes. (verdict : WholeVerdict) → IsWholeJudged options bytes verdict → IsWholeVerdictTold (end_status d) r verdict)
  judged_whole_clause options c =
      let q = (check_whole_is_request words).0 options c in
      subst (λ (o : Options). IfSome r.told (λ bytes. (verdict : WholeVerdict) → IsWholeJudged o bytes verdict → IsWholeVerdictTold (end_status d) r verdict)) q.1 (verdict_told whole_verdicts.Accepted whole_verdict_line (IsWholeJudged (options_of q.0)) (bytes_have_one_whole_verdict (options_of q.0)) r (end_status d) (λ small. (done_clause (CheckWhole q.0) q.2 small).1))

  pub least_clause : (options : Options) → IsWhole words options → end_status d ≡ 0 → IsLeastDone options r
  least_clause options c zero =
      let q = (whole_is_request words).0 options c in
      let answer = done_clause (Whole q.0) q.2 (omega (arith, zero)) in
      subst (λ (o : Options). IsLeastDone o r) q.1 (if_told r.told _ (λ bytes t. let k = at_told r.told _ bytes t answer.1 in (k.0, (k.1.0.1, k.1.1))))

  pub watched_clause : (options : Options) → IsWatch words options → end_status d ≡ 0 → IsWatchDone options r
  watched_clause options c zero =
      let q = (watch_is_request words).0 options c in
      let answer = done_clause (Watch q.0) q.2 (omega (arith, zero)) in
      subst (λ (o : Options). IsWatchDone o r) q.1 (if_told r.told _ (λ bytes t. let k = at_told r.told _ bytes t answer.1 in (q.0.readers, k.0, (k.1.0.1, k.1.1))))

  pub status : end_status d ≤ 6
  status = by_end (λ d. end_status d ≤ 6) (λ fault c u k. (refused_status (words_refusal fault)).1) (λ q is n small. omega (arith, small)) (λ q is x h. (refused_status x).1)

  pub words_refused : end_status d ≡ 2 → IsRefused words
  words_refused = by_end (λ d. end_status d ≡ 2 → IsRefused words) (λ fault c u k two. refused_words words fault c two) (λ q is n small two. absurd (omega (arith, small, two))) (λ q is x h two. absurd ((told_by q r x h).two two))

  pub unread : end_status d ≡ 2 → IsUnread r
  unread = by_end (λ d. end_status d ≡ 2 → IsUnread r) (λ fault c u k two. u) (λ q is n small two. absurd (omega (arith, small, two))) (λ q is x h two. absurd ((told_by q r x h).two two))

  pub words_taken : IsRefused words → (end_status d ≡ 2) ⊎ (end_status d ≡ 4)
  words_taken refused =
      by_end (λ d. (end_status d ≡ 2) ⊎ (end_status d ≡ 4)) (λ fault c u k. two_or_four fault) (λ q is n small. absurd ((refused_or_asking words).1 refused (asks_something words q is)))
      (λ q is x h. absurd ((refused_or_asking words).1 refused (asks_something words q is)))

  pub refused_unread : IsRefused words → IsUnread r
  refused_unread refused =
      by_end (λ d. IsUnread r) (λ fault c u k. u) (λ q is n small. absurd ((refused_or_asking words).1 refused (asks_something words q is)))
      (λ q is x h. absurd ((refused_or_asking words).1 refused (asks_something words q is)))

  pub named : (end_status d ≡ 2 → ⊥) → (end_status d ≡ 4 → ⊥) → AskSomething words
  named = by_end (λ d. (end_status d ≡ 2 → ⊥) → (end_status d ≡ 4 → ⊥) → AskSomething words) (λ fault c u k two four. elim (two_or_four fault) [ inl e ↦ absurd (two e) | inr e ↦ absurd (four e) ])
      (λ q is n small two four. asks_something words q is) (λ q is x h two four. asks_something words q is)

  pub read_fault : end_status d ≡ 5 → SourceFailed r
  read_fault = by_end (λ d. end_status d ≡ 5 → SourceFailed r) (λ fault c u k five. absurd (not_above fault (omega (arith, five)))) (λ q is n small five. absurd (omega (arith, small, five))) (λ q is x h five. (told_by q r x h).five five)

  pub write_fault : end_status d ≡ 6 → SinkFailed r
  write_fault = by_end (λ d. end_status d ≡ 6 → SinkFailed r) (λ fault c u k six. absurd (not_above fault (omega (arith, six)))) (λ q is n small six. absurd (omega (arith, small, six))) (λ q is x h six. ((told_by q r x h).six six).0)

  pub untouched : 2 ≤ end_status d → end_status d ≤ 5 → HasKept r
  untouched = by_end (λ d. 2 ≤ end_status d → end_status d ≤ 5 → HasKept r) (λ fault c u k two five. k) (λ q is n small two five. absurd (omega (arith, small, two))) (λ q is x h two five. (told_by q r x h).kept five)

  pub line : IsLineAt (end_status d) (line_of_end d)
  line = by_end (λ d. IsLineAt (end_status d) (line_of_end d)) (λ fault c u k. inr (words_refusal fault, (refl, refl))) (λ q is n small. inl (small, refl)) (λ q is x h. inr (x, (refl, refl)))
