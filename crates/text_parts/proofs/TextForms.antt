-- Why a text that is read to the end of the input was not read: the causes of its lines, and of what follows them.
use Rattle.std.proofs.Common.{◌≡◌, ℕ, ◌+◌, ◌≤◌, List, [], ◌∷◌, ◌++◌, length, All, inl, inr, ◌⊎◌, refl, sym, ap, subst, ◌∙◌, append_assoc, arith}
use Rattle.std.specs.Prelude.{◌≢◌}
use Rattle.std.proofs.lemmas.List.{append-nil, length-append}
use Rattle.insar_ports.specs.Calls.{Call}
use Rattle.insar_ports.specs.Lines.{IsInLine}
use Rattle.insar_ports.proofs.CallLemmas.{risen_before, Takes-then, Takes-weaker}
use Rattle.text_lines.specs.declared.fault.LineFault.{LineFault}
use Rattle.text_lines.specs.declared.fault.LineFault.TheVariants as line_faults
use Rattle.text_lines.specs.Forms.{Form, Begins, NeedsMore, BreaksAt, EndsIn, IsInLineOf, lines_in}
use Rattle.text_lines.specs.LineWords.{TakesLines}
use Rattle.text_lines.specs.Reading.{HasLineCause}
use Rattle.text_lines.proofs.FirstLemmas.{text_not_cut}
use Rattle.text_lines.proofs.SeqLemmas.{IsCode}
use Rattle.text_lines.proofs.StepLemmas.{joined, second}
use Rattle.text_parts.specs.Parts.{HasMoreCause, IsLineMore}
use Rattle.text_parts.specs.Reading.{BreaksTextAt, EndsTextIn, HasTextCause}

longer : (q more line : List ℕ) → q ≡ line ++ 10 ∷ [] → q ++ more ≢ []
longer q more line h e = let size = ap length e in let most = ap length h in omega (arith, size, most, length-append q more, length-append line (10 ∷ []))

module _ (F : Form) (code : IsCode F) where
  in_again : (n : ℕ) (before line : List ℕ) → IsInLineOf (NeedsMore F) n before line → IsInLineOf (Begins F) n before line
  in_again n before line h = let g = h.holds in record { whole = h.whole; holds = (g.0, g.1.1); inside = h.inside; number = h.number }

  abbrev pub Caused : ℕ → List ℕ → List ℕ → Type 0
  Caused n text rest = BreaksTextAt F n text ⊎ (EndsTextIn F n text × (rest ≡ []))

  abbrev pub Broken : ℕ → List ℕ → List ℕ → Type 0
  Broken n text rest = (k : ℕ) × ((n ≡ 0 + k) × (BreaksAt (NeedsMore F) F k text ⊎ (EndsIn (NeedsMore F) k text × (rest ≡ []))))

  ends_again : (n : ℕ) (text : List ℕ) → EndsIn (NeedsMore F) n text → EndsTextIn F n text
  ends_again n text h = ((h.0, h.1, (in_again n h.0 h.1 h.2.0, h.2.1)), λ f. text_not_cut F code.whole code.free n text [] text f (append-nil text) h)

  pub caused : (n : ℕ) (text rest : List ℕ) → Broken n text rest → Caused n text rest
  caused n text rest (k, (e, inl b)) = inl (subst (λ (x : ℕ). BreaksTextAt F x text) (let q : k ≡ n = omega (arith, e) in q) (b.0, b.1, (in_again k b.0 b.1 b.2.0, b.2.1)))
  caused n text rest (k, (e, inr b)) = inr (subst (λ (x : ℕ). EndsTextIn F x text) (let q : k ≡ n = omega (arith, e) in q) (ends_again k text b.0), b.1)

  pub cause_of_lines : (c : Call) (fault : LineFault) → HasLineCause F 0 c fault → HasTextCause F c fault
  cause_of_lines c (line_faults.Line n) h = Takes-weaker c.told c.at c.left c.end c.limit c.before c.after (Broken n) (Caused n) (caused n) h
  cause_of_lines c line_faults.TooLong h = (h.0, (h.1.0, Takes-weaker c.told c.at c.left c.end c.limit c.before c.after (λ text rest. (k : ℕ) × EndsIn (NeedsMore F) k text) (λ text rest. (k : ℕ) × EndsIn (Begins F) k text) (λ text rest b. let q = ends_again b.0 text b.1 in (b.0, q.0)) h.1.1))
  cause_of_lines c line_faults.ReadFault h = h
  cause_of_lines c line_faults.Memory h = tt

  abbrev pub IsRead : ℕ → List ℕ → List ℕ → Type 0
  IsRead now text rest = F text × (now ≡ 0 + lines_in text)

  -- a line after a text is none of it
  pub in_next : (n now : ℕ) (p line rest : List ℕ) → n ≡ now + 1 → IsRead now p rest → All IsInLine line → IsInLineOf (Begins F) n p line
  in_next n now p line rest e f a = record { whole = code.whole p f.0; holds = ([], subst F (sym (append-nil p)) f.0); inside = a; number = omega (arith, e, f.1) }

  pub more_caused : (now n : ℕ) (p m q r : List ℕ) → n ≡ now + 1 → IsRead now p m → IsLineMore q r → Caused n (p ++ q) r
  more_caused now n p m q r e f (inl (line, (a, h))) = inl (p, line, (in_next n now p line m e f a, (ap (λ (l : List ℕ). p ++ l) h, λ b. longer q b.0 line h (code.free p (q ++ b.0) f.0 (subst F (append_assoc p q b.0) b.1)))))
  more_caused now n p m q r e f (inr (a, (some, none))) = inr (((p, q, (in_next n now p q m e f a, refl)), λ b. some (code.free p q f.0 b)), none)

  module _ (a b : Call) (now : ℕ) where
    pub cause_of_more : (fault : LineFault) → b.limit ≡ a.limit → a.before ≤ a.after → TakesLines F 0 now a → HasMoreCause now (second a b) fault → HasTextCause F (joined a b) fault
    cause_of_more (line_faults.Line n) l g t h = Takes-then a.told a.at a.left a.end b.left b.end a.limit b.limit a.before a.after b.after (IsRead now) IsLineMore (Caused n) (λ p m q r x e y. more_caused now n p m q r h.0 x y) t h.1
    cause_of_more line_faults.TooLong l g t h = (h.0 ∙ l, (h.1.0, Takes-then a.told a.at a.left a.end b.left b.end a.limit b.limit a.before a.after b.after (IsRead now) (λ text rest. All IsInLine text) (λ text rest. (k : ℕ) × EndsIn (Begins F) k text) (λ p m q r x e y. (now + 1, (p, q, (in_next (now + 1) now p q m refl x y, refl)))) t h.1.1))
    cause_of_more line_faults.ReadFault l g t h = risen_before a.before a.after b.after g h
    cause_of_more line_faults.Memory l g t h = tt

-- the lines of a text of the form were taken
pub lines_of_text : {R : Type 0} (F : Form) (f : R → List ℕ) (c : Call) (r : R) (done now : ℕ) → done ≡ 0 → F (f r) → TakesLines (λ text. text ≡ f r) done now c → TakesLines F 0 now c
lines_of_text F f c r done now e i h = Takes-weaker c.told c.at c.left c.end c.limit c.before c.after (λ text rest. (text ≡ f r) × (now ≡ done + lines_in text)) (λ text rest. F text × (now ≡ 0 + lines_in text)) (λ text rest a. (subst F (sym a.0) i, a.1 ∙ ap (λ (n : ℕ). n + lines_in text) e)) h
