-- A session and then a text: what was read of them, why they were not, and that a verdict is told.
use Rattle.std.proofs.Common.{◌≡◌, ℕ, ◌+◌, ◌≤◌, ◌<◌, List, [], ◌++◌, length, take, Option, Some, inl, inr, ◌⊎◌, refl, sym, ap, subst, ◌∙◌, arith, ◌≢◌}
use Rattle.std.specs.Prelude.{IfSome}
use Rattle.std.proofs.lemmas.List.{append-nil, length-append, take_all, take-append-le}
use Rattle.insar_ports.specs.Bytes.{HasMore, with_end, with_front}
use Rattle.insar_ports.specs.Calls.{Call, Takes}
use Rattle.insar_ports.proofs.CallLemmas.{at_told, if_told, risen_before}
use Rattle.raster_model.specs.declared.session.Session.{Session}
use Rattle.edge_weights.specs.declared.settings.SceneSettings.{SceneSettings}
use Rattle.edge_weights.specs.Sessions.{HasSettings}
use Rattle.edge_weights.specs.declared.whole.WholeSession.{WholeSession}
use Rattle.insar_words.specs.Asked.{Options}
use Rattle.insar_words.specs.Requests.{options_of}
use Rattle.insar_words.specs.declared.settings.Settings.{Settings}
use Rattle.session_script.specs.declared.session_use.SessionUse.TheVariants.{BeforeReport}
use Rattle.session_script.specs.Layouts.{Layout, as_whole, in_tiles}
use Rattle.session_script.specs.Reaching.{Reaches}
use Rattle.session_script.specs.Sessions.{IsSameSession, IsSessionIn, IsSessionLaid, IsWholeSessionIn, SessionOf, session_of, whole_session_of}
use Rattle.session_script.proofs.AskSession.{no_fault_of_laid}
use Rattle.session_script.proofs.SessionAgain.{one_laid}
use Rattle.text_lines.specs.Forms.{Begins, EndsIn, Form}
use Rattle.text_lines.specs.declared.fault.LineFault.{LineFault}
use Rattle.text_lines.specs.declared.fault.LineFault.TheVariants as line_faults
use Rattle.text_parts.specs.Reading.{BreaksTextAt, EndsTextIn, HasBrokenTextLine, HasTextCause}
use Rattle.pgm_planes.specs.Planes.{PlaneOf, plane_of}
use Rattle.raster_model.specs.declared.plane.Plane.{Plane}
use Rattle.report_check.specs.Same.{IsSameInput, IsSamePlane}
use Rattle.answer_lines.specs.Refusals.{report_refusal}
use Rattle.answer_lines.specs.declared.refusal.Refusal.{Refusal}
use Rattle.answer_lines.specs.declared.refusal.Refusal.TheVariants as refusals
use Rattle.insar_commands.specs.Both.{AfterLaid, AreRead, BreaksBothBy, IsBoth, IsBothBy, IsCheckableBy, IsFirstRead, IsJudgedBy, IsStatusBy, IsToldBy, IsTooLong, IsVerdictBy, most_of_text}
use Rattle.insar_commands.specs.Causes.{HasReadCause}
use Rattle.insar_commands.specs.Options.{HasOptions, HasWholeOptions}
use Rattle.insar_commands.specs.Run.{ReadsAll, Run}
use Rattle.insar_commands.proofs.SessionLemmas.{nothing_left, on_options, same_terms}

-- ---- the session

-- it was read from the front, and is on the options of the settings
pub first_read : (settings : Settings) (scene : SceneSettings) (s : Session) → (scene.side ≡ settings.side) × ((scene.rule ≡ settings.rule) × (scene.terms ≡ settings.terms)) → HasSettings scene s.scene → (c : Call) → Reaches c (λ bytes rest. IsSessionIn BeforeReport scene.side bytes (session_of s) rest) → IsFirstRead (in_tiles settings.side) session_of (HasOptions (options_of settings)) c.told c.left s
first_read settings scene s is has c reaches = if_told c.told _ (λ bytes t.
    let h = at_told c.told _ bytes t reaches in
    (h.0, (h.1.0, (subst (λ (side : ℕ). IsSessionIn BeforeReport side bytes (session_of s) h.0) is.0 h.1.1.1, on_options settings scene s is has))))

pub first_whole : (settings : Settings) (s : WholeSession) → HasWholeOptions (options_of settings) s → (c : Call) → Reaches c (λ bytes rest. IsWholeSessionIn BeforeReport bytes (whole_session_of s) rest) → IsFirstRead as_whole whole_session_of (HasWholeOptions (options_of settings)) c.told c.left s
first_whole settings s on c reaches = if_told c.told _ (λ bytes t.
    let h = at_told c.told _ bytes t reaches in
    (h.0, (h.1.0, (h.1.1.1, on))))

-- two sessions that bytes spell on the same options tell the same
same_plane : (p q : Plane) → plane_of p ≡ plane_of q → IsSamePlane p q
same_plane p q e = record {
  width = ap (λ (o : PlaneOf). o.width) e;
  height = ap (λ (o : PlaneOf). o.height) e;
  maxval = ap (λ (o : PlaneOf). o.maxval) e;
  samples = ap (λ (o : PlaneOf). o.samples) e;
}

same_input : (options : Options) (s t : Session) → IsSameSession (session_of s) (session_of t) → HasOptions options s → HasOptions options t → IsSameInput s t
same_input options s t same one other =
    let phase = same_plane s.scene.phase t.scene.phase same.phase in
    record {
      phase = phase;
      weights = same_plane s.scene.weights t.scene.weights same.weights;
      rule = one.rule ∙ sym other.rule;
      side = one.side ∙ sym other.side;
      terms = same_terms options s t one other;
      commands = same.scripts;
      unmasked = λ x y across along. same.mask.clear_at x y (rw (← phase.width) across) (rw (← phase.height) along);
    }

-- and the texts after them are one
pub same_both : (options : Options) (bytes : List ℕ) (s t : Session) (text other : List ℕ) → IsBoth options bytes s text → IsBoth options bytes t other → IsSameInput s t × (text ≡ other)
same_both options bytes s t text other a b =
    let same = one_laid BeforeReport (in_tiles options.side) bytes (session_of s) (session_of t) text other a.spelled b.spelled in
    (same_input options s t same.0 a.options_are b.options_are, same.1)

-- ---- the text was read

pub both_read : {X : Type 0} (layout : Layout) (view : X → SessionOf) (IsOn : X → Type 0) (s : X) (whole : List ℕ) (told : Option (List ℕ)) (c : Call) (pending : List ℕ) (source : Option (List ℕ)) → c.left ≡ with_front pending source → c.limit ≡ c.at + most_of_text layout → c.end ≤ c.limit → IsFirstRead layout view IsOn told c.told s → Takes c (λ text rest. (text ≡ whole) × (rest ≡ []))
    → AreRead (IsBothBy layout view IsOn) told source s whole
both_read layout view IsOn s whole told c pending source l room within first takes = if_told told _ (λ bytes t.
    let h = at_told told _ bytes t first in
    let u = at_told c.told _ h.0 h.1.0 takes in
    let text : h.0 ≡ whole = u.2.0 ∙ ap (λ (l : List ℕ). u.0 ++ l) u.2.1.1.1.1 ∙ append-nil u.0 ∙ u.2.1.1.1.0 in
    let both : IsBothBy layout view IsOn bytes s whole = record { spelled = subst (λ (r : List ℕ). IsSessionLaid BeforeReport layout bytes (view s) r) text h.1.1.0; options_are = h.1.1.1; within = subst (λ (t : List ℕ). length t ≤ most_of_text layout) u.2.1.1.1.0 (omega (arith, room, within, u.2.1.1.0)) } in
    (both, nothing_left pending source (sym l ∙ u.2.1.0 ∙ ap Some u.2.1.1.1.1)))

-- ---- the text was not read, with its room

module _ (F : Form) (most : ℕ) (rest : List ℕ) (left : Option (List ℕ)) (at end limit : ℕ) (room : limit ≡ at + most) (within : end ≤ limit) where
  line_broken : (n : ℕ) (text more : List ℕ) → rest ≡ text ++ more → end ≡ at + length text → BreaksTextAt F n text ⊎ (EndsTextIn F n text × (more ≡ [])) → HasBrokenTextLine F most n rest
  line_broken n text more e p (inl b) = inl (text, more, (e, (omega (arith, room, within, p), b)))
  line_broken n text more e p (inr b) =
      let whole : text ≡ rest = sym (e ∙ ap (λ (l : List ℕ). text ++ l) b.1 ∙ append-nil text) in
      inr (let size = ap length whole in omega (arith, room, within, p, size), subst (EndsTextIn F n) whole b.0)

  too_long : (text more : List ℕ) → rest ≡ text ++ more → left ≡ Some more → end ≡ at + length text → end ≡ limit → HasMore left → (n : ℕ) × EndsIn (Begins F) n text → IsTooLong F most rest
  too_long text more e l p f m b =
      let some : 0 < length more = subst HasMore l m in
      let size = ap length e in
      let whole : length text ≡ most = omega (arith, room, p, f) in
      let cut : take most rest ≡ text = ap (take most) e ∙ take-append-le most text more (omega (arith, whole)) ∙ take_all most text (omega (arith, whole)) in
      (omega (arith, size, whole, some, length-append text more), (b.0, subst (EndsIn (Begins F) b.0) (sym cut) b.1))

pub text_cause : {X : Type 0} (F : Form) (layout : Layout) (view : X → SessionOf) (IsOn : X → Type 0) (s : X) (told : Option (List ℕ)) (before : ℕ) (c : Call) → c.limit ≡ c.at + most_of_text layout → c.end ≤ c.limit → before ≤ c.before → IsFirstRead layout view IsOn told c.told s → (fault : LineFault) → HasTextCause F c fault
    → HasReadCause (BreaksBothBy F layout) told before c.after (report_refusal fault)
text_cause F layout view IsOn s told before c room within grows first (line_faults.Line n) h = if_told told _ (λ bytes t.
    let f = at_told told _ bytes t first in
    let u = at_told c.told _ f.0 f.1.0 h in
    (view s, f.0, (f.1.1.0, line_broken F (most_of_text layout) f.0 c.left c.at c.end c.limit room within n u.0 u.1 u.2.0 u.2.1.1.0 u.2.1.1.1)))
text_cause F layout view IsOn s told before c room within grows first line_faults.TooLong h = if_told told _ (λ bytes t.
    let f = at_told told _ bytes t first in
    let u = at_told c.told _ f.0 f.1.0 h.1.1 in
    (view s, f.0, (f.1.1.0, too_long F (most_of_text layout) f.0 c.left c.at c.end c.limit room within u.0 u.1 u.2.0 u.2.1.0 u.2.1.1.0 h.0 h.1.0 u.2.1.1.1)))
text_cause F layout view IsOn s told before c room within grows first line_faults.ReadFault h = risen_before before c.before c.after grows h
text_cause F layout view IsOn s told before c room within grows first line_faults.Memory h = tt

-- ---- bytes with a break are no session with a text

module _ (F : Form) (layout : Layout) (bytes : List ℕ) (checkable : IsCheckableBy F layout bytes) where
  same_rest : (P : List ℕ → Type 0) → AfterLaid layout bytes P → P checkable.1
  same_rest P a = subst P (sym (one_laid BeforeReport layout bytes checkable.0 a.0 checkable.1 a.1 checkable.2.0 a.2.0).1) a.2.1

  unbroken : (n : ℕ) → HasBrokenTextLine F (most_of_text layout) n checkable.1 → ⊥
  unbroken n (inl (front, rest, (e, (le, b)))) = b.2.1.1 (rest, subst F e checkable.2.1.0)
  unbroken n (inr (le, b)) = b.1 checkable.2.1.0

  not_long : IsTooLong F (most_of_text layout) checkable.1 → ⊥
  not_long h = let le = checkable.2.1.1 in let lt = h.0 in omega (arith, le, lt)

  pub not_checkable : (refusal : Refusal) → BreaksBothBy F layout bytes refusal → ⊥
  not_checkable (refusals.Input fault) h = no_fault_of_laid BeforeReport layout bytes checkable.0 checkable.1 fault checkable.2.0 h
  not_checkable (refusals.ReportLine n) h = unbroken n (same_rest (HasBrokenTextLine F (most_of_text layout) n) h)
  not_checkable refusals.ReportLong h = not_long (same_rest (IsTooLong F (most_of_text layout)) h)
  not_checkable refusal h = h

-- ---- a verdict

-- a text that answers, after its session and not too long, is judged
pub judged_after : {X T V : Type 0} {text_of : T → List ℕ} {InRange : T → Type 0} {IsVerdict : X → T → V → Type 0} {verdict : V} (layout : Layout) (view : X → SessionOf) (IsOn : X → Type 0) (bytes : List ℕ) (s : X) (told : T) (text : List ℕ) → text ≡ text_of told → IsSessionLaid BeforeReport layout bytes (view s) text → IsOn s → length text ≤ most_of_text layout → InRange told → IsVerdict s told verdict → IsJudgedBy (IsBothBy layout view IsOn) text_of InRange IsVerdict bytes verdict
judged_after {text_of = text_of} layout view IsOn bytes s told text e spelled on short ranges is = record {
  session = s;
  told = told;
  both = record { spelled = subst (λ (t : List ℕ). IsSessionLaid BeforeReport layout bytes (view s) t) e spelled; options_are = on; within = subst (λ (t : List ℕ). length t ≤ most_of_text layout) e short };
  in_range = ranges;
  verdict_is = is;
}

module _ {V : Type 0} (good : V) (line_of : V → List ℕ) where
  pub small_verdict : (verdict : V) (status : ℕ) → IsStatusBy good verdict status → status ≤ 1
  small_verdict verdict status (inl e) = omega (arith, e.1)
  small_verdict verdict status (inr e) = omega (arith, e.1)

  module _ (Judged : List ℕ → V → Type 0) where
    -- the verdict on the bytes is what answers
    pub verdict_ready : (told left : Option (List ℕ)) (verdict : V) (status : ℕ) → IsStatusBy good verdict status → ReadsAll told left (λ bytes. Judged bytes verdict) → IfSome told (λ bytes. IsVerdictBy good line_of (Judged bytes) status (line_of verdict) × (left ≡ Some []))
    verdict_ready told left verdict status is read = if_told told _ (λ bytes t. let k = at_told told _ bytes t read in ((verdict, (k.0, (is, refl))), k.1))

    -- where bytes have one verdict, it is told
    module _ (one : (bytes : List ℕ) (a b : V) → Judged bytes a → Judged bytes b → a ≡ b) (r : Run) (status : ℕ) (done : status ≤ 1 → IfSome r.told (λ bytes. (text : List ℕ) × (IsVerdictBy good line_of (Judged bytes) status text × ((r.left ≡ Some []) × (r.held_now ≡ with_end r.held text))))) where
      module _ (bytes : List ℕ) (told : r.told ≡ Some bytes) (verdict : V) (judged : Judged bytes verdict) where
        -- the verdict is the one that was answered, and the sink gained its line
        its : status ≤ 1 → IsStatusBy good verdict status × (r.held_now ≡ with_end r.held (line_of verdict))
        its small =
            let k = at_told r.told _ bytes told (done small) in
            let answer = k.1.0 in
            let same : answer.0 ≡ verdict = one bytes answer.0 verdict answer.1.0 judged in (
              subst (λ (v : V). IsStatusBy good v status) same answer.1.1.0,
              k.1.1.1 ∙ ap (with_end r.held) (answer.1.1.1 ∙ ap line_of same),
            )

        at_zero : status ≡ 0 → IsStatusBy good verdict status → verdict ≡ good
        at_zero zero (inl e) = e.0
        at_zero zero (inr e) = let one = e.1 in absurd (omega (arith, zero, one))

        at_one : status ≡ 1 → IsStatusBy good verdict status → verdict ≢ good
        at_one one (inl e) = let zero = e.1 in absurd (omega (arith, zero, one))
        at_one one (inr e) = e.0

      pub verdict_told : IfSome r.told (λ bytes. (verdict : V) → Judged bytes verdict → IsToldBy good line_of status r verdict)
      verdict_told = if_told r.told _ (λ bytes told verdict judged. (
        (λ zero. at_zero bytes told verdict judged zero (its bytes told verdict judged (omega (arith, zero))).0),
        ((λ one. at_one bytes told verdict judged one (its bytes told verdict judged (omega (arith, one))).0), (λ small. (its bytes told verdict judged small).1)),
      ))
