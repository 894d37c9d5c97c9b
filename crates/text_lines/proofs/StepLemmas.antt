-- Parts of a text that are read one after another: what they took together, and why the second was not read.
use Rattle.std.proofs.Common.{◌≡◌, ℕ, ◌+◌, List, Option, [], ◌∷◌, ◌++◌, ◌≤◌, length, inl, inr, ◌⊎◌, refl, ap, subst, ◌∙◌, arith}
use Rattle.insar_ports.specs.Calls.{Call, Moves, Takes}
use Rattle.insar_ports.proofs.CallLemmas.{call, Moves-then, Takes-sized, Takes-then, risen_before, stays}
use Rattle.text_lines.specs.declared.fault.LineFault.{LineFault}
use Rattle.text_lines.specs.declared.fault.LineFault.TheVariants as faults
use Rattle.text_lines.specs.Forms.{AreWholeLines, Form, IsLine, IsText, lines_in}
use Rattle.text_lines.specs.LineWords.{TakesLines}
use Rattle.text_lines.specs.Reading.{BreaksFormAt, EndsFormIn, HasLineCause}
use Rattle.text_lines.proofs.FormLemmas.{ComesFirst, ComesAfter, breaks_after, breaks_first, ends_after, ends_first, lines_append}
use Rattle.text_lines.proofs.CauseLemmas.{Breaks, Ends, takes_as}
use Rattle.text_lines.proofs.LineLemmas.{after_known, known_first, takes_nothing}
use Rattle.text_lines.proofs.SeqLemmas.{SameForms, same_after}

-- the second of two calls, and both as one
abbrev pub second : Call → Call → Call
second a b = call a.left a.end b.left b.end b.limit a.after b.after

abbrev pub joined : Call → Call → Call
joined a b = call a.told a.at b.left b.end a.limit a.before b.after

pub moves_join : (a b : Call) → Moves a → Moves (second a b) → Moves (joined a b)
moves_join a b p q = Moves-then a.told a.at a.left a.end b.left b.end a.limit b.limit a.before a.after b.after p q

-- the same, found by what is known of the two
pub moves_on : {told mid left : Option (List ℕ)} {at at_mid end limit limit_2 before middle after : ℕ} → Moves (call told at mid at_mid limit before middle) → Moves (call mid at_mid left end limit_2 middle after) → Moves (call told at left end limit before after)
moves_on {told} {mid} {left} {at} {at_mid} {end} {limit} {limit_2} {before} {middle} {after} p q = Moves-then told at mid at_mid left end limit limit_2 before middle after p q

-- a call that took nothing, the same way
pub moves_not : {told left : Option (List ℕ)} {at end limit before after : ℕ} → left ≡ told → end ≡ at → before ≤ after → Moves (call told at left end limit before after)
moves_not {told} {left} {at} {end} {limit} {before} {after} l e g = stays told left at end limit before after l e g

-- what the bytes that were taken are, of two calls and otherwise
pub takes_join : (a b : Call) (P Q R : List ℕ → List ℕ → Type 0) → ((p m q r : List ℕ) → P p m → m ≡ q ++ r → Q q r → R (p ++ q) r) → Takes a P → Takes (second a b) Q → Takes (joined a b) R
takes_join a b P Q R f t u = Takes-then a.told a.at a.left a.end b.left b.end a.limit b.limit a.before a.after b.after P Q R f t u

pub takes_sized : (c : Call) (P Q : List ℕ → List ℕ → Type 0) → ((p r : List ℕ) → c.end ≡ c.at + length p → P p r → Q p r) → Takes c P → Takes c Q
takes_sized c P Q f t = Takes-sized c.told c.at c.left c.end c.limit c.before c.after P Q f t

abbrev Taken : Form → ℕ → ℕ → List ℕ → List ℕ → Type 0
Taken F done now text rest = F text × (now ≡ done + lines_in text)

both_texts : (x y : List ℕ) (done mid now : ℕ) (p m q r : List ℕ) → Taken (IsText x) done mid p m → m ≡ q ++ r → Taken (IsText y) mid now q r → Taken (IsText (x ++ y)) done now (p ++ q) r
both_texts x y done mid now p m q r a e b =
    let c = a.1 in
    let d = b.1 in
    (ap (λ (l : List ℕ). l ++ q) a.0 ∙ ap (λ (l : List ℕ). x ++ l) b.0, omega (arith, c, d, lines_append p q))

pub texts_join : (a b : Call) (x y : List ℕ) (done mid now : ℕ) → TakesLines (IsText x) done mid a → TakesLines (IsText y) mid now (second a b) → TakesLines (IsText (x ++ y)) done now (joined a b)
texts_join a b x y done mid now t u = Takes-then a.told a.at a.left a.end b.left b.end a.limit b.limit a.before a.after b.after (Taken (IsText x) done mid) (Taken (IsText y) mid now) (Taken (IsText (x ++ y)) done now) (both_texts x y done mid now) t u

pub texts_are : (c : Call) (x y : List ℕ) (done now : ℕ) → x ≡ y → TakesLines (IsText x) done now c → TakesLines (IsText y) done now c
texts_are c x y done now e t = subst (λ (l : List ℕ). TakesLines (IsText l) done now c) e t

-- a part that comes after lines that were taken was not read
pub cause_join : (x : List ℕ) (F2 F : Form) → ComesAfter x F2 F → (a b : Call) (done now : ℕ) (fault : LineFault) → b.limit ≡ a.limit → Moves a → TakesLines (IsText x) done now a → HasLineCause F2 now (second a b) fault → HasLineCause F done (joined a b) fault
cause_join x F2 F f a b done now (faults.Line n) l m t h = takes_join a b (Taken (IsText x) done now) (Breaks F2 now n) (Breaks F done n) broken t h
  where
    broken : (p m q r : List ℕ) → Taken (IsText x) done now p m → m ≡ q ++ r → Breaks F2 now n q r → Breaks F done n (p ++ q) r
    broken p m q r (s, c) e (k, (g, d)) = rw s (lines_in x + k, (let c = rw s at c in omega (arith, g, c), either d))
      where
        either : BreaksFormAt F2 k q ⊎ (EndsFormIn F2 k q × (r ≡ [])) → BreaksFormAt F (lines_in x + k) (x ++ q) ⊎ (EndsFormIn F (lines_in x + k) (x ++ q) × (r ≡ []))
        either (inl b) = inl (breaks_after x F2 F f k q b)
        either (inr b) = inr (ends_after x F2 F f k q b.0, b.1)
cause_join x F2 F f a b done now faults.TooLong l m t h = (h.0 ∙ l, (h.1.0, takes_join a b (Taken (IsText x) done now) (Ends F2) (Ends F) (λ p m q r (s, c) e d. rw s (lines_in x + d.0, ends_after x F2 F f d.0 q d.1)) t h.1.1))
cause_join x F2 F f a b done now faults.ReadFault l m t h = risen_before a.before a.after b.after m.grows h
cause_join x F2 F f a b done now faults.Memory l m t h = tt

-- a part that comes first was not read
pub cause_begin : (F1 F : Form) → ComesFirst F1 F → (c : Call) (done : ℕ) (fault : LineFault) → HasLineCause F1 done c fault → HasLineCause F done c fault
cause_begin F1 F f c done (faults.Line n) h = takes_as c (Breaks F1 done n) (Breaks F done n) broken h
  where
    broken : (text rest : List ℕ) → Breaks F1 done n text rest → Breaks F done n text rest
    broken text rest (k, (e, inl b)) = (k, (e, inl (breaks_first F1 F f k text b)))
    broken text rest (k, (e, inr b)) = (k, (e, inr (ends_first F1 F f k text b.0, b.1)))
cause_begin F1 F f c done faults.TooLong h = (h.0, (h.1.0, takes_as c (Ends F1) (Ends F) (λ text rest b. (b.0, ends_first F1 F f b.0 text b.1)) h.1.1))
cause_begin F1 F f c done faults.ReadFault h = h
cause_begin F1 F f c done faults.Memory h = tt

-- what comes next after a known part was not read
pub fails_next : (F F1 : Form) (p : List ℕ) → AreWholeLines p → ComesFirst F1 (λ (t : List ℕ). F (p ++ t)) → (a b : Call) (done now : ℕ) (fault : LineFault) → b.limit ≡ a.limit → Moves a → TakesLines (IsText p) done now a → HasLineCause F1 now (second a b) fault → HasLineCause F done (joined a b) fault
fails_next F F1 p w f a b done now fault l m t h = cause_join p (λ (t : List ℕ). F (p ++ t)) F (after_known p F w p refl) a b done now fault l m t (cause_begin F1 (λ (t : List ℕ). F (p ++ t)) f (second a b) now fault h)

-- the same, for a line of a text that is known
pub line_fails : (p line r whole : List ℕ) → AreWholeLines p → whole ≡ p ++ ((line ++ 10 ∷ []) ++ r) → (a b : Call) (done now : ℕ) (fault : LineFault) → b.limit ≡ a.limit → Moves a → TakesLines (IsText p) done now a → HasLineCause (IsLine line) now (second a b) fault → HasLineCause (IsText whole) done (joined a b) fault
line_fails p line r whole w e = fails_next (IsText whole) (IsLine line) p w (known_first p line r whole e)

-- forms with the same texts have the same causes
pub cause_same : (F G : Form) → SameForms F G → (c : Call) (done : ℕ) (fault : LineFault) → HasLineCause F done c fault → HasLineCause G done c fault
cause_same F G s c done fault h =
    cause_join [] F G (same_after F G s) (call c.told c.at c.told c.at c.limit c.before c.before) c done done fault refl (stays c.told c.told c.at c.at c.limit c.before c.before refl refl (omega arith))
    (takes_nothing c.told c.at c.limit c.before c.before [] done refl) h
