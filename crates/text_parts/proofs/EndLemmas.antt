-- The end of the input is looked for.
use Rattle.std.proofs.Common.{◌≡◌, ℕ, ◌≤◌, ◌<◌, List, [], ◌∷◌, ◌++◌, drop, length, Option, Some, None, All, inl, inr, refl, sym, ap₂, ◌∙◌}
use Rattle.std.specs.Prelude.{IfSome}
use Rattle.insar_ports.specs.Bytes.{BeginsWith}
use Rattle.insar_ports.specs.Calls.{Call, Takes}
use Rattle.insar_ports.specs.Lines.{IsInLine}
use Rattle.insar_ports.proofs.CallLemmas.{call, risen_before, some_is, Takes-weaker}
use Rattle.text_lines.specs.declared.fault.LineFault.{LineFault}
use Rattle.text_lines.specs.declared.lines.LineEnd.{LineEnd}
use Rattle.text_lines.specs.declared.lines.LineEnd.TheVariants.{Whole, Long, Cut}
use Rattle.text_lines.specs.LineWords.{HasNextCause, IsLineRead}
use Rattle.text_lines.proofs.FormLemmas.{not_nil}
use Rattle.text_parts.specs.Parts.{HasMoreCause, IsLineMore}
use Rattle.text_lines.specs.declared.fault.LineFault.TheVariants as faults

-- what is said of a call is said of an equal one
pub same_call : {told told_2 : Option (List ℕ)} {at at_2 : ℕ} {left : Option (List ℕ)} {end limit limit_2 before after : ℕ} → told_2 ≡ told → at_2 ≡ at → limit_2 ≡ limit → (P : Call → Type 0) → P (call told_2 at_2 left end limit_2 before after) → P (call told at left end limit before after)
same_call e f g P h = rw (← e, ← f, ← g) h

-- a look at the next byte, which leaves it there, and then a line
module _ (told : Option (List ℕ)) (at : ℕ) (left : Option (List ℕ)) (end limit before middle after : ℕ) where
  pub more_next : (done : ℕ) (fault : LineFault) → before ≤ middle → HasNextCause (call told at left end limit middle after) fault → HasMoreCause done (call told at left end limit before after) fault
  more_next done (faults.Line n) g h = absurd h
  more_next done faults.TooLong g h = h
  more_next done faults.ReadFault g h = risen_before before middle after g h
  more_next done faults.Memory g h = tt

  pub more_line : (got : Option ℕ) → IfSome got (λ byte. BeginsWith byte told) → (got ≡ None → ⊥) → (most : ℕ) (kept : List ℕ) (line_end : LineEnd) → IsLineRead most kept (call told at left end limit middle after) line_end → Takes (call told at left end limit before after) IsLineMore
  more_line None b n most kept line_end h = absurd (n refl)
  more_line (Some byte) b n most kept Whole h = Takes-weaker told at left end limit before after (λ text rest. (text ≡ kept ++ 10 ∷ []) × All IsInLine kept) IsLineMore (λ text rest a. inl (kept, (a.1, a.0))) h
  more_line (Some byte) b n most kept Long h = Takes-weaker told at left end limit before after (λ text rest. (line : List ℕ) × ((text ≡ line ++ 10 ∷ []) × (All IsInLine line × (most < length line)))) IsLineMore (λ text rest a. inl (a.0, (a.1.1.0, a.1.0))) h
  more_line (Some byte) b n most kept Cut h = cut told b h
    where
      cut : (o : Option (List ℕ)) → BeginsWith byte o → Takes (call o at left end limit before after) (λ text rest. All IsInLine text × (rest ≡ [])) → Takes (call o at left end limit before after) IsLineMore
      cut None b h = tt
      cut (Some bytes) b (t, r, (e, (l, (p, (inside, none))))) = (t, r, (e, (l, (p, inr (inside, ((λ f. not_nil byte (drop 1 bytes) (sym (ap₂ (λ (x y : List ℕ). x ++ y) f none) ∙ sym e ∙ some_is bytes (byte ∷ drop 1 bytes) b)), none))))))
