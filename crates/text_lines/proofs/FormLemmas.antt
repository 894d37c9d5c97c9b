-- Texts made of lines: how a break of a part is a break of the whole, and that there is one first break.
use Rattle.std.proofs.Common.{◌≡◌, ℕ, ◌+◌, cond, List, [], ◌∷◌, ◌++◌, length, drop, get_or, All, inl, inr, ◌⊎◌, refl, sym, ap, subst, ◌∙◌, append_assoc, arith}
use Rattle.std.specs.Prelude.{◌≢◌}
use Rattle.std.specs.List.{AllByRecursion}
use Rattle.std.proofs.lemmas.List.{length-append, append-nil}
use Rattle.std.proofs.lemmas.List.Elements.{recursion_from_All, All-from_recursion}
use Rattle.std.proofs.lemmas.List.Sums.{sum_by-append}
use Rattle.insar_ports.specs.Lines.{IsInLine}
use Rattle.text_lines.specs.Forms.{Form, Begins, NeedsMore, AreWholeLines, IsInLineOf, lines_in, is_line_feed}
use Rattle.text_lines.specs.Reading.{BreaksFormAt, EndsFormIn}

-- ---- lists

abbrev pub bytes_of : List ℕ → List ℕ
bytes_of l = l

pub cons_head : (a b : ℕ) (x y : List ℕ) → bytes_of (a ∷ x) ≡ b ∷ y → a ≡ b
cons_head a b x y e = ap (λ (l : List ℕ). get_or l 0 0) e

pub cons_tail : (a b : ℕ) (x y : List ℕ) → bytes_of (a ∷ x) ≡ b ∷ y → x ≡ y
cons_tail a b x y e = ap (λ (l : List ℕ). drop 1 l) e

pub cons_same : (a b : ℕ) (x y : List ℕ) → a ≡ b → x ≡ y → bytes_of (a ∷ x) ≡ b ∷ y
cons_same a b x y e f = ap (λ (c : ℕ). c ∷ x) e ∙ ap (λ (l : List ℕ). b ∷ l) f

pub not_nil : (b : ℕ) (y : List ℕ) → bytes_of [] ≡ b ∷ y → ⊥
not_nil b y e = let q = ap length e in omega (arith, q)

-- no LF stands in the bytes
abbrev pub InLine : List ℕ → Type 0
InLine bytes = AllByRecursion IsInLine bytes

pub in_line : (bytes : List ℕ) → All IsInLine bytes → InLine bytes
in_line bytes a = recursion_from_All IsInLine bytes a

pub in_line_all : (bytes : List ℕ) → InLine bytes → All IsInLine bytes
in_line_all bytes a = All-from_recursion IsInLine bytes a

-- a byte does not stand among the bytes; they are empty or begin with it
abbrev pub Without : ℕ → List ℕ → Type 0
Without byte bytes = AllByRecursion (λ (b : ℕ). b ≢ byte) bytes

abbrev pub EndsBy : ℕ → List ℕ → Type 0
EndsBy byte bytes = (bytes ≡ []) ⊎ ((more : List ℕ) × (bytes ≡ byte ∷ more))

-- what stands in front of a byte, and what follows, are known by the bytes
pub front_unique : (byte : ℕ) (a b r s : List ℕ) → Without byte a → Without byte b → EndsBy byte r → EndsBy byte s → a ++ r ≡ b ++ s → (a ≡ b) × (r ≡ s)
front_unique byte [] [] r s p q f g e = (refl, e)
front_unique byte [] (y ∷ b) r s p q (inl f) g e = absurd (not_nil y (b ++ s) (sym f ∙ e))
front_unique byte [] (y ∷ b) r s p q (inr f) g e = absurd (q.0 (sym (cons_head byte y f.0 (b ++ s) (sym f.1 ∙ e))))
front_unique byte (x ∷ a) [] r s p q f (inl g) e = absurd (not_nil x (a ++ r) (sym (e ∙ g)))
front_unique byte (x ∷ a) [] r s p q f (inr g) e = absurd (p.0 (cons_head x byte (a ++ r) g.0 (e ∙ g.1)))
front_unique byte (x ∷ a) (y ∷ b) r s p q f g e =
    let t = front_unique byte a b r s p.1 q.1 f g (cons_tail x y (a ++ r) (b ++ s) e) in
    (cons_same x y a b (cons_head x y (a ++ r) (b ++ s) e) t.0, t.1)

pub cut_unique : (x y r s : List ℕ) → InLine x → InLine y → x ++ 10 ∷ r ≡ y ++ 10 ∷ s → (x ≡ y) × (r ≡ s)
cut_unique x y r s p q e = let t = front_unique 10 x y (10 ∷ r) (10 ∷ s) p q (inr (r, refl)) (inr (s, refl)) e in (t.0, cons_tail 10 10 r s t.1)

-- of two fronts of the same bytes one is a front of the other
abbrev pub IsFront : List ℕ → List ℕ → List ℕ → List ℕ → Type 0
IsFront p r q s = (m : List ℕ) × ((q ≡ p ++ m) × (r ≡ m ++ s))

pub fronts : (p q r s : List ℕ) → p ++ r ≡ q ++ s → IsFront p r q s ⊎ IsFront q s p r
fronts [] q r s e = inl (q, (refl, e))
fronts (a ∷ p) [] r s e = inr (a ∷ p, (refl, sym e))
fronts (a ∷ p) (b ∷ q) r s e =
    let h = cons_head a b (p ++ r) (q ++ s) e in
    elim (fronts p q r s (cons_tail a b (p ++ r) (q ++ s) e)) [
      | inl f ↦ inl (f.0, (cons_same b a q (p ++ f.0) (sym h) f.1.0, f.1.1))
      | inr f ↦ inr (f.0, (cons_same a b p (q ++ f.0) h f.1.0, f.1.1))
    ]

-- ---- whole lines

pub whole_append : (p q : List ℕ) → AreWholeLines p → AreWholeLines q → AreWholeLines (p ++ q)
whole_append p q a (inl e) = subst AreWholeLines (sym (append-nil p) ∙ ap (λ (l : List ℕ). p ++ l) (sym e)) a
whole_append p q a (inr f) = inr (p ++ f.0, ap (λ (l : List ℕ). p ++ l) f.1 ∙ sym (append_assoc p f.0 (10 ∷ [])))

pub whole_line : (line : List ℕ) → AreWholeLines (line ++ 10 ∷ [])
whole_line line = inr (line, refl)

pub lines_append : (p q : List ℕ) → lines_in (p ++ q) ≡ lines_in p + lines_in q
lines_append p q = sum_by-append (λ b. cond (is_line_feed b) 1 0) p q

pub lines_none : (line : List ℕ) → InLine line → lines_in line ≡ 0
lines_none [] a = refl
lines_none (b ∷ line) a = let rest = lines_none line a.1 in let h = a.0 in grind (arith, rest, h)

-- what ends bytes that end with LF
pub ends_with : (p m front : List ℕ) (b : ℕ) → p ++ b ∷ m ≡ front ++ 10 ∷ [] → (n : List ℕ) × (bytes_of (b ∷ m) ≡ n ++ 10 ∷ [])
ends_with [] m front b e = (front, e)
ends_with (a ∷ p) m [] b e = absurd (let q = ap length e in omega (arith, q, length-append p (b ∷ m)))
ends_with (a ∷ p) m (c ∷ front) b e = ends_with p m front b (cons_tail a c (p ++ b ∷ m) (front ++ 10 ∷ []) e)

-- n begins with a line that is known, where LF follows it
line_within : (line s n r : List ℕ) → InLine line → EndsBy 10 s → line ++ s ≡ n ++ 10 ∷ r → (k : List ℕ) × (n ++ 10 ∷ [] ≡ line ++ 10 ∷ k)
line_within [] s [] r a z e = ([], refl)
line_within [] s (c ∷ n) r a (inl f) e = absurd (not_nil c (n ++ 10 ∷ r) (sym f ∙ e))
line_within [] s (c ∷ n) r a (inr f) e = (n ++ 10 ∷ [], cons_same c 10 (n ++ 10 ∷ []) (n ++ 10 ∷ []) (cons_head c 10 (n ++ 10 ∷ r) f.0 (sym e ∙ f.1)) refl)
line_within (b ∷ line) s [] r a z e = absurd (a.0 (cons_head b 10 (line ++ s) r e))
line_within (b ∷ line) s (c ∷ n) r a z e =
    let t = line_within line s n r a.1 z (cons_tail b c (line ++ s) (n ++ 10 ∷ r) e) in
    (t.0, cons_same c b (n ++ 10 ∷ []) (line ++ 10 ∷ t.0) (sym (cons_head b c (line ++ s) (n ++ 10 ∷ r) e)) t.1)

-- whole lines in front of bytes end before a line of these bytes, or not before its LF
abbrev pub EndsBeforeOrAfter : List ℕ → List ℕ → List ℕ → Type 0
EndsBeforeOrAfter w before line = ((m : List ℕ) × (before ≡ w ++ m)) ⊎ ((m : List ℕ) × (w ≡ before ++ (line ++ 10 ∷ m)))

longer : (w before line r s m : List ℕ) → InLine line → EndsBy 10 s → AreWholeLines w → w ≡ before ++ m → line ++ s ≡ m ++ r → EndsBeforeOrAfter w before line
longer w before line r s [] a z f e g = inl ([], sym (append-nil before) ∙ sym e ∙ sym (append-nil w))
longer w before line r s (b ∷ m) a z (inl f) e g = absurd (let q = ap length (sym e ∙ f) in omega (arith, q, length-append before (b ∷ m)))
longer w before line r s (b ∷ m) a z (inr f) e g =
    let n = ends_with before m f.0 b (sym e ∙ f.1) in
    let k = line_within line s n.0 r a z (g ∙ ap (λ (l : List ℕ). l ++ r) n.1 ∙ append_assoc n.0 (10 ∷ []) r) in
    inr (k.0, e ∙ ap (λ (l : List ℕ). before ++ l) (n.1 ∙ k.1))

pub beside_line : (w r before line s : List ℕ) → AreWholeLines w → InLine line → EndsBy 10 s → w ++ r ≡ before ++ (line ++ s) → EndsBeforeOrAfter w before line
beside_line w r before line s f a z e = elim (fronts w before r (line ++ s) e) [
  | inl h ↦ inl (h.0, h.1.0)
  | inr h ↦ longer w before line r s h.0 a z f h.1.0 h.1.1
]

-- ---- a part that comes first

pub record ComesFirst (F1 F : Form) : Type 0 where
  pub splits : (t : List ℕ) → F t → (p : List ℕ) × (r : List ℕ) × (F1 p × (t ≡ p ++ r))
  pub extends : (p : List ℕ) → F1 p → Begins F p
  pub whole : (p : List ℕ) → F1 p → AreWholeLines p
  pub free : (p m : List ℕ) → F1 p → F1 (p ++ m) → m ≡ []

pub no_more : (m more : List ℕ) → m ++ more ≡ [] → more ≡ []
no_more [] more e = e
no_more (b ∷ m) more e = absurd (not_nil b (m ++ more) (sym e))

more_still : (more r : List ℕ) → more ≢ [] → more ++ r ≢ []
more_still [] r n e = n refl
more_still (b ∷ more) r n e = not_nil b (more ++ r) (sym e)

module _ (F1 F : Form) (f : ComesFirst F1 F) where
  pub goes_on_first : (bytes : List ℕ) → NeedsMore F1 bytes → NeedsMore F bytes
  goes_on_first bytes g =
      let more = f.extends (bytes ++ g.0) g.1.1 in
      (g.0 ++ more.0, (more_still g.0 more.0 g.1.0, subst F (append_assoc bytes g.0 more.0) more.1))

  in_first : (n : ℕ) (before line : List ℕ) → IsInLineOf (NeedsMore F1) n before line → IsInLineOf (NeedsMore F) n before line
  in_first n before line h = record { whole = h.whole; holds = goes_on_first before h.holds; inside = h.inside; number = h.number }

  pub ends_first : (n : ℕ) (text : List ℕ) → EndsFormIn F1 n text → EndsFormIn F n text
  ends_first n text h = (h.0, h.1, (in_first n h.0 h.1 h.2.0, h.2.1))

  not_first : (n : ℕ) (text before line m : List ℕ) → IsInLineOf (NeedsMore F1) n before line → text ≡ before ++ (line ++ 10 ∷ []) → (Begins F1 text → ⊥) → F (text ++ m) → ⊥
  not_first n text before line m h e none t =
      let p = f.splits (text ++ m) t in
      let long : text ++ m ≡ before ++ (line ++ 10 ∷ m) = ap (λ (l : List ℕ). l ++ m) e ∙ append_assoc before (line ++ 10 ∷ []) m ∙ ap (λ (l : List ℕ). before ++ l) (append_assoc line (10 ∷ []) m) in
      let inside = in_line line h.inside in
      elim (beside_line p.0 p.1 before line (10 ∷ m) (f.whole p.0 p.2.0) inside (inr (m, refl)) (sym p.2.1 ∙ long)) [
        | inl q ↦ h.holds.1.0 (no_more q.0 h.holds.0 (f.free p.0 (q.0 ++ h.holds.0) p.2.0 (subst F1 (ap (λ (l : List ℕ). l ++ h.holds.0) q.1 ∙ append_assoc p.0 q.0 h.holds.0) h.holds.1.1)))
        | inr q ↦ none (q.0, subst F1 (q.1 ∙ ap (λ (l : List ℕ). before ++ l) (sym (append_assoc line (10 ∷ []) q.0)) ∙ sym (append_assoc before (line ++ 10 ∷ []) q.0) ∙ ap (λ (l : List ℕ). l ++ q.0) (sym e)) p.2.0)
      ]

  pub breaks_first : (n : ℕ) (text : List ℕ) → BreaksFormAt F1 n text → BreaksFormAt F n text
  breaks_first n text h = (h.0, h.1, (in_first n h.0 h.1 h.2.0, (h.2.1.0, λ b. not_first n text h.0 h.1 b.0 h.2.0 h.2.1.0 h.2.1.1 b.1)))

-- ---- a part that comes after whole lines

pub record ComesAfter (p : List ℕ) (F2 F : Form) : Type 0 where
  pub whole : AreWholeLines p
  pub to : (t : List ℕ) → F2 t → F (p ++ t)
  pub «from» : (t : List ℕ) → F (p ++ t) → F2 t

module _ (p : List ℕ) (F2 F : Form) (f : ComesAfter p F2 F) where
  pub goes_on_after : (bytes : List ℕ) → NeedsMore F2 bytes → NeedsMore F (p ++ bytes)
  goes_on_after bytes g = (g.0, (g.1.0, subst F (sym (append_assoc p bytes g.0)) (f.to (bytes ++ g.0) g.1.1)))

  in_after : (n : ℕ) (before line : List ℕ) → IsInLineOf (NeedsMore F2) n before line → IsInLineOf (NeedsMore F) (lines_in p + n) (p ++ before) line
  in_after n before line h = record {
    whole = whole_append p before f.whole h.whole;
    holds = goes_on_after before h.holds;
    inside = h.inside;
    number = let e = h.number in omega (arith, e, lines_append p before);
  }

  pub ends_after : (n : ℕ) (text : List ℕ) → EndsFormIn F2 n text → EndsFormIn F (lines_in p + n) (p ++ text)
  ends_after n text h = (p ++ h.0, h.1, (in_after n h.0 h.1 h.2.0, ap (λ (l : List ℕ). p ++ l) h.2.1 ∙ sym (append_assoc p h.0 h.1)))

  pub breaks_after : (n : ℕ) (text : List ℕ) → BreaksFormAt F2 n text → BreaksFormAt F (lines_in p + n) (p ++ text)
  breaks_after n text h = (
    p ++ h.0,
    h.1,
    (
      in_after n h.0 h.1 h.2.0,
      (
        ap (λ (l : List ℕ). p ++ l) h.2.1.0 ∙ sym (append_assoc p h.0 (h.1 ++ 10 ∷ [])),
        λ b. h.2.1.1 (b.0, f.«from» (text ++ b.0) (subst F (append_assoc p text b.0) b.1)),
      ),
    ),
  )

-- ---- a line that is none of those with which the form begins

pub record BeginsWithLine (D : List ℕ → Type 0) (F : Form) : Type 0 where
  pub some : NeedsMore F []
  pub splits : (t : List ℕ) → F t → (line : List ℕ) × (r : List ℕ) × (D line × (InLine line × (t ≡ line ++ 10 ∷ r)))

module _ (D : List ℕ → Type 0) (F : Form) (f : BeginsWithLine D F) where
  pub ends_in_line : (text : List ℕ) → All IsInLine text → EndsFormIn F 1 text
  ends_in_line text a = ([], text, (record { whole = inl refl; holds = f.some; inside = a; number = refl }, refl))

  pub breaks_in_line : (text line : List ℕ) → text ≡ line ++ 10 ∷ [] → All IsInLine line → (D line → ⊥) → BreaksFormAt F 1 text
  breaks_in_line text line e a none = (
    [],
    line,
    (
      record { whole = inl refl; holds = f.some; inside = a; number = refl },
      (
        e,
        λ b.
            let p = f.splits (text ++ b.0) b.1 in
            let same : line ++ 10 ∷ b.0 ≡ p.0 ++ 10 ∷ p.1 = sym (append_assoc line (10 ∷ []) b.0) ∙ ap (λ (l : List ℕ). l ++ b.0) (sym e) ∙ p.2.1.1 in
            none (subst D (sym (cut_unique line p.0 b.0 p.1 (in_line line a) p.2.1.0 same).0) p.2.0),
      ),
    ),
  )
