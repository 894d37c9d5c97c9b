-- Lines as they are taken, and what comes after a part that is known.
use Rattle.std.proofs.Common.{◌≡◌, ℕ, List, [], ◌∷◌, ◌++◌, length, Option, Some, None, refl, sym, ap, subst, ◌∙◌, arith}
use Rattle.std.specs.Prelude.{◌≢◌}
use Rattle.std.proofs.lemmas.List.{append-nil, append_cancel_left, length-append}
use Rattle.insar_ports.proofs.CallLemmas.{call}
use Rattle.text_lines.specs.Forms.{Form, AreWholeLines, IsLine, IsText}
use Rattle.text_lines.specs.LineWords.{TakesLines}
use Rattle.text_lines.proofs.FormLemmas.{BeginsWithLine, ComesAfter, ComesFirst, InLine, whole_line}

ends_not_nil : (line : List ℕ) → line ++ 10 ∷ [] ≢ []
ends_not_nil line e = let q = ap length e in omega (arith, q, length-append line (10 ∷ []))

pub begins_line : (text : List ℕ) → InLine text → BeginsWithLine (λ line. line ≡ text) (IsLine text)
begins_line text a = record { some = (text ++ 10 ∷ [], (ends_not_nil text, refl)); splits = λ t e. (text, [], (refl, (a, e))) }

-- ---- after a part that is known

pub after_known : (p0 : List ℕ) (F : Form) → AreWholeLines p0 → (p : List ℕ) → IsText p0 p → ComesAfter p (λ (t : List ℕ). F (p0 ++ t)) F
after_known p0 F w p e = record {
  whole = subst AreWholeLines (sym e) w;
  to = λ t h. subst F (ap (λ (l : List ℕ). l ++ t) (sym e)) h;
  «from» = λ t h. subst F (ap (λ (l : List ℕ). l ++ t) e) h;
}

pub takes_nothing : (told : Option (List ℕ)) (at limit before after : ℕ) (text : List ℕ) (done : ℕ) → text ≡ [] → TakesLines (IsText text) done done (call told at told at limit before after)
takes_nothing None at limit before after text done e = tt
takes_nothing (Some bytes) at limit before after text done e = ([], bytes, (refl, (refl, (omega arith, (sym e, omega arith)))))

-- a line of a text that is known
pub known_first : (p0 line r whole : List ℕ) → whole ≡ p0 ++ ((line ++ 10 ∷ []) ++ r) → ComesFirst (IsLine line) (λ (t : List ℕ). IsText whole (p0 ++ t))
known_first p0 line r whole w = record {
  splits = λ t e. (line ++ 10 ∷ [], r, (refl, append_cancel_left p0 t ((line ++ 10 ∷ []) ++ r) (e ∙ w)));
  extends = λ p e. (r, ap (λ (l : List ℕ). p0 ++ (l ++ r)) e ∙ sym w);
  whole = λ p e. subst AreWholeLines (sym e) (whole_line line);
  free = λ p m e f. append_cancel_left p m [] (f ∙ sym e ∙ sym (append-nil p));
}
