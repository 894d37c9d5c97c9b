-- Why a line is not read: why a text is not read that begins with a line of its kind.
use Rattle.std.proofs.Common.{◌≡◌, ℕ, ◌+◌, ◌≤◌, List, [], ◌∷◌, ◌++◌, length, Option, inl, inr, ◌⊎◌, refl, ap, subst, ◌∙◌, arith}
use Rattle.std.proofs.lemmas.List.{length-append}
use Rattle.insar_ports.specs.Calls.{Call, Takes}
use Rattle.insar_ports.proofs.CallLemmas.{call, Takes-sized, Takes-weaker}
use Rattle.text_lines.specs.declared.fault.LineFault.{LineFault}
use Rattle.text_lines.specs.declared.fault.LineFault.TheVariants as faults
use Rattle.text_lines.specs.declared.lines.LineEnd.{LineEnd}
use Rattle.text_lines.specs.declared.lines.LineEnd.TheVariants.{Whole, Long, Cut}
use Rattle.text_lines.specs.Forms.{Form, IsLine, lines_in}
use Rattle.text_lines.specs.LineWords.{HasNextCause, IsLineRead, TakesLines}
use Rattle.text_lines.specs.Reading.{BreaksFormAt, EndsFormIn, HasLineCause}
use Rattle.text_lines.proofs.FormLemmas.{BeginsWithLine, breaks_in_line, ends_in_line, in_line, lines_append, lines_none}

-- what was taken, seen otherwise
pub takes_as : (c : Call) (P Q : List ℕ → List ℕ → Type 0) → ((p r : List ℕ) → P p r → Q p r) → Takes c P → Takes c Q
takes_as c P Q f t = Takes-weaker c.told c.at c.left c.end c.limit c.before c.after P Q f t

abbrev pub Breaks : Form → ℕ → ℕ → List ℕ → List ℕ → Type 0
Breaks F done n text rest = (k : ℕ) × ((n ≡ done + k) × (BreaksFormAt F k text ⊎ (EndsFormIn F k text × (rest ≡ []))))

abbrev pub Ends : Form → List ℕ → List ℕ → Type 0
Ends F text rest = (k : ℕ) × EndsFormIn F k text

module _ (D : List ℕ → Type 0) (F : Form) (f : BeginsWithLine D F) (done : ℕ) where
  module _ (c : Call) where
    -- the reader of a line refused
    pub cause_unread : (fault : LineFault) → HasNextCause c fault → HasLineCause F done c fault
    cause_unread (faults.Line n) h = absurd h
    cause_unread faults.TooLong h = (h.0, (h.1.0, takes_as c _ (Ends F) (λ text rest a. (1, ends_in_line D F f text a)) h.1.1))
    cause_unread faults.ReadFault h = h
    cause_unread faults.Memory h = tt

    -- a line was read, and it is none with which the form begins
    pub broken_line : (line_end : LineEnd) (most : ℕ) (kept : List ℕ) (n : ℕ) → n ≡ done + 1 → IsLineRead most kept c line_end → (line_end ≡ Whole → D kept → ⊥) → ((line : List ℕ) → D line → length line ≤ most) → HasLineCause F done c (faults.Line n)
    broken_line Whole most kept n e h none short = takes_as c _ (Breaks F done n) (λ text rest a. (1, (e, inl (breaks_in_line D F f text kept a.0 a.1 (none refl))))) h
    broken_line Long most kept n e h none short = takes_as c _ (Breaks F done n) (λ text rest (line, (t, (inside, lt))). (1, (e, inl (breaks_in_line D F f text line t inside (λ d. let le = short line d in omega (arith, le, lt)))))) h
    broken_line Cut most kept n e h none short = takes_as c _ (Breaks F done n) (λ text rest a. (1, (e, inr (ends_in_line D F f text a.0, a.1)))) h

    -- a line of any length, where no more bytes than `most` are ever handed out
    pub broken_list : (line_end : LineEnd) (most : ℕ) (kept : List ℕ) (n : ℕ) → c.end ≤ most → n ≡ done + 1 → IsLineRead most kept c line_end → (line_end ≡ Whole → D kept → ⊥) → HasLineCause F done c (faults.Line n)
    broken_list Whole most kept n few e h none = takes_as c _ (Breaks F done n) (λ text rest a. (1, (e, inl (breaks_in_line D F f text kept a.0 a.1 (none refl))))) h
    broken_list Long most kept n few e h none = Takes-sized c.told c.at c.left c.end c.limit c.before c.after _ (Breaks F done n) (λ text rest size (line, (t, (inside, lt))). let long = ap length t in absurd (omega (arith, few, size, lt, long, length-append line (10 ∷ [])))) h
    broken_list Cut most kept n few e h none = takes_as c _ (Breaks F done n) (λ text rest a. (1, (e, inr (ends_in_line D F f text a.0, a.1)))) h

  pub cause_next : (told : Option (List ℕ)) (at : ℕ) (left : Option (List ℕ)) (end limit before after : ℕ) (fault : LineFault) → HasNextCause (call told at left end limit before after) fault → HasLineCause F done (call told at left end limit before after) fault
  cause_next told at left end limit before after = cause_unread (call told at left end limit before after)

-- a whole line was read, and it is this one
pub taken_line : (c : Call) (most now done : ℕ) (kept line : List ℕ) (line_end : LineEnd) → now ≡ done + 1 → kept ≡ line → line_end ≡ Whole → IsLineRead most kept c line_end → TakesLines (IsLine line) done now c
taken_line c most now done kept line line_end e f w h = takes_as c _ (λ text rest. IsLine line text × (now ≡ done + lines_in text))
    (λ text rest (t, inside).
    let count : lines_in text ≡ 1 = ap lines_in t ∙ lines_append kept (10 ∷ []) ∙ ap (λ (n : ℕ). n + 1) (lines_none kept (in_line kept inside)) in
    (t ∙ ap (λ (l : List ℕ). l ++ 10 ∷ []) f, omega (arith, e, count)))
    (subst (IsLineRead most kept c) w h)

pub not_whole : (line_end : LineEnd) → (line_end ≡ Long) ⊎ (line_end ≡ Cut) → line_end ≡ Whole → ⊥
not_whole line_end (inl e) f = cc
not_whole line_end (inr e) f = cc
