-- What a reader of whole texts promises of all bytes, from what it took and why it refused.
use Rattle.std.proofs.Common.{◌≡◌, ℕ, ◌+◌, ◌-◌, ◌≤◌, ◌<◌, List, [], ◌∷◌, ◌++◌, length, Option, Some, None, Result, Ok, Err, inl, inr, refl, sym, ap, subst, ◌∙◌, arith}
use Rattle.std.specs.Prelude.{IfSome, IsErrAnd}
use Rattle.std.proofs.lemmas.List.{append-nil, length-append}
use Rattle.insar_ports.specs.Bytes.{HasMore}
use Rattle.insar_ports.specs.Calls.{Call, Takes}
use Rattle.insar_ports.proofs.CallLemmas.{Takes-then, call}
use Rattle.text_lines.specs.LineWords.{TakesLines}
use Rattle.text_lines.proofs.StepLemmas.{joined, second}
use Rattle.text_lines.specs.Forms.{Form, Begins, lines_in}
use Rattle.text_lines.specs.Reading.{room_of}
use Rattle.text_lines.proofs.FormLemmas.{fronts}
use Rattle.text_lines.proofs.FirstLemmas.{one_break, not_both, one_end}
use Rattle.text_lines.specs.declared.fault.LineFault.{LineFault}
use Rattle.text_lines.specs.declared.fault.LineFault.TheVariants as faults
use Rattle.text_parts.specs.Reading.{BrokenTextLineIsOne, EndsTextIn, HasBrokenTextLine, HasTextCause, IsReaderOf, IsTextRead, IsTextReader, IsTextRefusedAt}
use Rattle.text_parts.specs.Steps.{TextOf}

empty : (m : List ℕ) → length m ≡ 0 → m ≡ []
empty [] e = refl
empty (b ∷ m) e = absurd (omega (arith, e))

whole_text : (bytes text rest : List ℕ) → bytes ≡ text ++ rest → rest ≡ [] → text ≡ bytes
whole_text bytes text rest e f = sym (e ∙ ap (λ (l : List ℕ). text ++ l) f ∙ append-nil text)

-- a shorter front is one of a longer
pub front_of : (front rest text left_over : List ℕ) → front ++ rest ≡ text ++ left_over → length front ≤ length text → (s : List ℕ) × (front ++ s ≡ text)
front_of front rest text left_over e le = elim (fronts front text rest left_over e) [
  | inl f ↦ (f.0, sym f.1.0)
  | inr f ↦
      let size = ap length f.1.0 in
      let short : length f.0 ≡ 0 = omega (arith, size, length-append text f.0, le) in
      ([], append-nil front ∙ f.1.0 ∙ ap (λ (l : List ℕ). text ++ l) (empty f.0 short) ∙ append-nil text)
]

module _ (F : Form) where
  weak : (bytes : List ℕ) → Begins F bytes → Begins F bytes
  weak bytes b = b

  -- a first broken line is one, and a text of the form has none
  one_line : (bytes : List ℕ) (room more m n : ℕ) → HasBrokenTextLine F room m bytes → HasBrokenTextLine F more n bytes → m ≡ n
  one_line bytes room more m n (inl (f, r, (e, (le, b)))) (inl (g, s, (h, (lt, d)))) = one_break F (Begins F) weak m n f g r s (sym e ∙ h) b d
  one_line bytes room more m n (inl (f, r, (e, (le, b)))) (inr (lt, d)) = absurd (not_both F (Begins F) weak m n f r bytes (sym e) b d.0)
  one_line bytes room more m n (inr (le, b)) (inl (g, s, (h, (lt, d)))) = absurd (not_both F (Begins F) weak n m g s bytes (sym h) d b.0)
  one_line bytes room more m n (inr (le, b)) (inr (lt, d)) = one_end F (Begins F) weak m n bytes b.0 d.0

  no_line : (bytes : List ℕ) (room n : ℕ) → HasBrokenTextLine F room n bytes → F bytes → ⊥
  no_line bytes room n (inl (f, r, (e, (le, b)))) t = b.2.1.1 (r, subst F e t)
  no_line bytes room n (inr (le, b)) t = b.1 t

  pub broken_line_is_one : BrokenTextLineIsOne F
  broken_line_is_one bytes room more m n b d = (one_line bytes room more m n b d, no_line bytes room m b)

module _ {R A : Type 0} (told_of : R → A) (P : A → Type 0) (f : A → List ℕ) where
  abbrev F : Form
  F = TextOf P f

  module _ (bytes : List ℕ) (at : ℕ) (left : Option (List ℕ)) (end limit before after : ℕ) where
    abbrev c : Call
    c = call (Some bytes) at left end limit before after

    is_text : (text rest : List ℕ) (r : R) → P (told_of r) → bytes ≡ text ++ rest → text ≡ f (told_of r) → rest ≡ [] → F bytes
    is_text text rest r i e h g = (told_of r, (i, e ∙ ap (λ (l : List ℕ). text ++ l) g ∙ append-nil text ∙ h))

    -- more is left than the limit lets out
    too_long : (text rest : List ℕ) → bytes ≡ text ++ rest → left ≡ Some rest → end ≡ at + length text → end ≡ limit → HasMore left → length bytes ≤ limit - at → ⊥
    too_long text rest e l p q m le =
        let more : 0 < length rest = subst (λ (o : Option (List ℕ)). HasMore o) l m in
        let size = ap length e in
        omega (arith, size, length-append text rest, p, q, more, le)

    -- a line that is told is a first broken one
    broken : (n : ℕ) → HasTextCause F c (faults.Line n) → (room : ℕ) × HasBrokenTextLine F room n bytes
    broken n (t, r, (e, (l, (p, inl b)))) = (length t, inl (t, r, (e, (omega arith, b))))
    broken n (t, r, (e, (l, (p, inr b)))) = (length bytes, inr (omega arith, subst (EndsTextIn F n) (whole_text bytes t r e b.1) b.0))

    -- bytes that the limit cuts have none
    not_cut : (n : ℕ) → HasTextCause F c faults.TooLong → HasBrokenTextLine F (room_of c) n bytes → ⊥
    not_cut n (full, (more, (t, r, (e, (l, (p, d)))))) (inl (x, s, (g, (le, b)))) = let m = front_of x s t r (sym g ∙ e) (omega (arith, le, p, full)) in not_both F (Begins F) (weak F) n d.0 x m.0 t m.1 b d.1
    not_cut n (full, (more, (t, r, (e, (l, (p, d)))))) (inr (le, b)) = too_long t r e l p full more le

    accepted : (result : Result R LineFault) → IsTextReader told_of P f c result → F bytes → length bytes ≤ room_of c → IsTextRead told_of f c bytes result
    accepted (Ok r) h s le =
        let t = h.0 in
        (sym t.2.1.1.1.0 ∙ whole_text bytes t.0 t.1 t.2.0 t.2.1.1.1.1, t.2.1.0 ∙ ap Some t.2.1.1.1.1)
    accepted (Err (faults.Line n)) h s le = let b = broken n h.1.1 in no_line F bytes b.0 n b.1 s
    accepted (Err faults.TooLong) h s le = let t = h.1.1.1.1 in too_long t.0 t.1 t.2.0 t.2.1.0 t.2.1.1.0 h.1.1.0 h.1.1.1.0 le
    accepted (Err faults.ReadFault) h s le = h.1.1
    accepted (Err faults.Memory) h s le = tt

    exact : (result : Result R LineFault) → IsTextReader told_of P f c result → (n : ℕ) → HasBrokenTextLine F (room_of c) n bytes → IsTextRefusedAt c n result
    exact (Ok r) h n b = let t = h.0 in no_line F bytes (room_of c) n b (is_text t.0 t.1 r h.1.0 t.2.0 t.2.1.1.1.0 t.2.1.1.1.1)
    exact (Err (faults.Line m)) h n b = let d = broken m h.1.1 in one_line F bytes d.0 (room_of c) m n d.1 b
    exact (Err faults.TooLong) h n b = not_cut n h.1.1 b
    exact (Err faults.ReadFault) h n b = h.1.1
    exact (Err faults.Memory) h n b = tt

  -- the same, whether the bytes are told or not
  accepts_by : (told : Option (List ℕ)) (at : ℕ) (left : Option (List ℕ)) (end limit before after : ℕ) (result : Result R LineFault) → IsTextReader told_of P f (call told at left end limit before after) result → IfSome told (λ bytes. F bytes → length bytes ≤ room_of (call told at left end limit before after) → IsTextRead told_of f (call told at left end limit before after) bytes result)
  accepts_by None at left end limit before after result h = tt
  accepts_by (Some bytes) at left end limit before after result h = accepted bytes at left end limit before after result h

  refuses_by : (told : Option (List ℕ)) (at : ℕ) (left : Option (List ℕ)) (end limit before after : ℕ) (result : Result R LineFault) → IsTextReader told_of P f (call told at left end limit before after) result → IfSome told (λ bytes. (n : ℕ) → HasBrokenTextLine F (room_of (call told at left end limit before after)) n bytes → IsTextRefusedAt (call told at left end limit before after) n result)
  refuses_by None at left end limit before after result h = tt
  refuses_by (Some bytes) at left end limit before after result h = exact bytes at left end limit before after result h

  module _ (c : Call) where
    pub accepts : (result : Result R LineFault) → IsTextReader told_of P f c result → IfSome c.told (λ bytes. F bytes → length bytes ≤ room_of c → IsTextRead told_of f c bytes result)
    accepts result h = accepts_by c.told c.at c.left c.end c.limit c.before c.after result h

    pub refuses : (result : Result R LineFault) → IsTextReader told_of P f c result → IfSome c.told (λ bytes. (n : ℕ) → HasBrokenTextLine F (room_of c) n bytes → IsTextRefusedAt c n result)
    refuses result h = refuses_by c.told c.at c.left c.end c.limit c.before c.after result h

module _ {R : Type 0} (F : Form) (P : R → Type 0) (f : R → List ℕ) where
  pub reader_failed : (c : Call) (result : Result R LineFault) (fault : LineFault) → IsErrAnd result (λ y. y ≡ fault) → HasTextCause F c fault → IsReaderOf F P f c result
  reader_failed c (Ok r) fault i h = absurd i
  reader_failed c (Err other) fault i h = (tt, (tt, subst (HasTextCause F c) (sym i) h))

  -- the lines of a text were taken, and then the input ended
  module _ (a b : Call) where
    pub reader_done : (r : R) (done now : ℕ) → P r → TakesLines (λ text. text ≡ f r) done now a → Takes (second a b) (λ text rest. (text ≡ []) × (rest ≡ [])) → IsReaderOf F P f (joined a b) (Ok r)
    reader_done r done now i t e = (
      Takes-then a.told a.at a.left a.end b.left b.end a.limit b.limit a.before a.after b.after (λ text rest. (text ≡ f r) × (now ≡ done + lines_in text)) (λ text rest. (text ≡ []) × (rest ≡ [])) (λ text rest. (text ≡ f r) × (rest ≡ []))
          (λ p m q z x g y. (ap (λ (l : List ℕ). p ++ l) y.0 ∙ append-nil p ∙ x.0, y.1)) t e,
      (i, tt),
    )
