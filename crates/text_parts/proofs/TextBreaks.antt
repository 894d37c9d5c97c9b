-- Bytes that are to be a whole text of a form are one, or have a first broken line, or the limit cuts a line of theirs.
use Rattle.std.proofs.Common.{◌≡◌, ℕ, ◌+◌, ◌≤◌, List, [], ◌∷◌, ◌++◌, length, take, drop, inl, inr, ◌⊎◌, refl, sym, ap, subst, ◌∙◌, append_assoc, arith}
use Rattle.std.proofs.lemmas.Bool.{cases_lt}
use Rattle.std.proofs.lemmas.List.{append-nil, length-append, length-take, take_all, take-append-drop}
use Rattle.text_lines.specs.Forms.{Begins, EndsIn, Form, lines_in}
use Rattle.text_lines.proofs.BreakLemmas.{Found, IsDecided, find_first, first_line}
use Rattle.text_lines.proofs.FirstLemmas.{not_both}
use Rattle.text_lines.proofs.FormLemmas.{InLine, in_line_all, not_nil}
use Rattle.text_lines.proofs.SeqLemmas.{IsCode}
use Rattle.text_parts.specs.Reading.{CutTextHasNoBreak, EndsTextIn, HasBrokenTextLine, IsTextCutIn, TextOrBrokenLine}
use Rattle.text_parts.proofs.TextAnswers.{front_of}
use Rattle.text_parts.proofs.TextForms.{Caused, caused, in_next, more_caused}

module _ (F : Form) (code : IsCode F) (room : ℕ) (bytes : List ℕ) where
  abbrev Outcome : Type 0
  Outcome = ((length bytes ≤ room) × F bytes) ⊎ (((n : ℕ) × HasBrokenTextLine F room n bytes) ⊎ IsTextCutIn F room bytes)

  abbrev shown : List ℕ
  shown = take room bytes

  -- what is let out ends in a line that is cut, missing or one too many
  ended : (n : ℕ) → EndsIn (Begins F) n shown → (F shown → ⊥) → Outcome
  ended n d none = elim (cases_lt room (length bytes)) [
    | inl lt ↦ inr (inr (lt, (n, d)))
    | inr le ↦ inr (inl (n, inr (le, subst (EndsTextIn F n) (take_all room bytes le) (d, none))))
  ]

  -- a line of it is broken, or it ends so
  line_is : (n : ℕ) (text rest : List ℕ) → shown ≡ text ++ rest → Caused F code n text rest → Outcome
  line_is n text rest e (inl b) =
      let size = ap length e in
      let whole : bytes ≡ text ++ (rest ++ drop room bytes) = sym (take-append-drop room bytes) ∙ ap (λ (l : List ℕ). l ++ drop room bytes) e ∙ append_assoc text rest (drop room bytes) in
      inr (inl (n, inl (text, rest ++ drop room bytes, (whole, (omega (arith, size, length-append text rest, length-take room bytes), b)))))
  line_is n text rest e (inr c) =
      let same : text ≡ shown = sym (e ∙ ap (λ (l : List ℕ). text ++ l) c.1 ∙ append-nil text) in
      let d = subst (EndsTextIn F n) same c.0 in
      ended n d.0 d.1

  -- a text stands in front, and then the bytes `rest`
  text_then : (text rest : List ℕ) → F text → shown ≡ text ++ rest → InLine rest ⊎ ((line : List ℕ) × (more : List ℕ) × (InLine line × (rest ≡ line ++ 10 ∷ more))) → Outcome
  text_then text [] f e l =
      let same : shown ≡ text = e ∙ append-nil text in
      elim (cases_lt room (length bytes)) [
        | inl lt ↦ inr (inr (lt, (lines_in text + 1, (text, [], (in_next F code (lines_in text + 1) (lines_in text) text [] [] refl (f, omega arith) (in_line_all [] tt), e)))))
        | inr le ↦ inl (le, subst F (sym same ∙ take_all room bytes le) f)
      ]
  text_then text (b ∷ rest) f e (inl i) =
      line_is (lines_in text + 1) (text ++ b ∷ rest) [] (e ∙ sym (append-nil (text ++ b ∷ rest)))
      (more_caused F code (lines_in text) (lines_in text + 1) text (b ∷ rest) (b ∷ rest) [] refl (f, omega arith) (inr (in_line_all (b ∷ rest) i, ((λ n. not_nil b rest (sym n)), refl))))
  text_then text (b ∷ rest) f e (inr l) =
      let line = l.0 ++ 10 ∷ [] in
      let same : shown ≡ (text ++ line) ++ l.1 = e ∙ ap (λ (x : List ℕ). text ++ x) (l.2.1 ∙ sym (append_assoc l.0 (10 ∷ []) l.1)) ∙ sym (append_assoc text line l.1) in
      line_is (lines_in text + 1) (text ++ line) l.1 same (more_caused F code (lines_in text) (lines_in text + 1) text (b ∷ rest) line l.1 refl (f, omega arith) (inl (l.0, (in_line_all l.0 l.2.0, refl))))

  found : Found F shown → Outcome
  found (inl (text, rest, (f, e))) = text_then text rest f e (first_line rest)
  found (inr (inl (n, text, rest, (b, e)))) = line_is n text rest e (caused F code n text rest (n, (omega arith, inl b)))
  found (inr (inr (n, d))) = line_is n shown [] (sym (append-nil shown)) (caused F code n shown [] (n, (omega arith, inr (d, refl))))

pub text_or_broken_line : (F : Form) → IsCode F → IsDecided F → Begins F [] → TextOrBrokenLine F
text_or_broken_line F code d b room bytes = found F code room bytes (find_first F d b (take room bytes))

weak : (F : Form) (bytes : List ℕ) → Begins F bytes → Begins F bytes
weak F bytes b = b

pub cut_text_has_no_break : (F : Form) → CutTextHasNoBreak F
cut_text_has_no_break F room n bytes (inr (le, b)) (lt, d) = omega (arith, le, lt)
cut_text_has_no_break F room n bytes (inl (front, rest, (e, (le, b)))) (lt, (k, d)) =
    let m = front_of front rest (take room bytes) (drop room bytes) (sym e ∙ sym (take-append-drop room bytes)) (omega (arith, le, lt, length-take room bytes)) in
    not_both F (Begins F) (weak F) n k front m.0 (take room bytes) m.1 b d
