-- Bytes in front of which no text of a form stands have a first broken line, where it can be told of whole lines what they are.
use Rattle.std.proofs.Common.{◌≡◌, ℕ, ◌+◌, ◌≤◌, List, [], ◌∷◌, ◌++◌, length, take, drop, inl, inr, ◌⊎◌, refl, sym, ap, subst, ◌∙◌, append_assoc, arith}
use Rattle.std.proofs.lemmas.Bool.{cases_eq, cases_lt}
use Rattle.std.proofs.lemmas.List.{append-nil, length-append, length-take, take_all, take_at, take-append-drop}
use Rattle.text_lines.specs.Forms.{Form, Begins, NeedsMore, AreWholeLines, IsInLineOf, IsText, LineOf, lines_in}
use Rattle.text_lines.specs.Reading.{BreaksFormAt, EndsFormIn, HasBrokenLine, IsCutIn, OneBrokenLine, StandsInFront, TextOrBreak}
use Rattle.text_lines.proofs.FirstLemmas.{StopsIn, line_then, no_end_within, one_stop, stops_broken, stops_cut}
use Rattle.text_lines.proofs.FormLemmas.{ComesAfter, ComesFirst, InLine, breaks_first, cut_unique, ends_with, goes_on_first, in_line, in_line_all, not_nil, whole_append, whole_line}
use Rattle.text_lines.proofs.SeqLemmas.{SameForms, line_begins}
use Rattle.text_lines.proofs.TellLemmas.{bytes_told}
use Rattle.text_lines.proofs.TextLemmas.{in_append}

-- what bytes are for a form: a text of it, the front of a longer one, or the front of none
abbrev pub Decided : Form → List ℕ → Type 0
Decided F text = F text ⊎ (NeedsMore F text ⊎ (Begins F text → ⊥))

abbrev pub IsDecided : Form → Type 0
IsDecided F = (text : List ℕ) → AreWholeLines text → Decided F text

-- a text of the form stands in front, or lines up to the first broken one, or the bytes end in a line that the form needs
abbrev pub Found : Form → List ℕ → Type 0
Found F bytes = ((text : List ℕ) × (rest : List ℕ) × (F text × (bytes ≡ text ++ rest))) ⊎ (((n : ℕ) × (front : List ℕ) × (rest : List ℕ) × (BreaksFormAt F n front × (bytes ≡ front ++ rest))) ⊎ ((n : ℕ) × EndsFormIn F n bytes))

-- ---- line by line

module _ (F : Form) (before line rest : List ℕ) (w : AreWholeLines before) (m : NeedsMore F before) (i : InLine line) where
  abbrev here : List ℕ
  here = before ++ (line ++ 10 ∷ [])

  in_next : IsInLineOf (NeedsMore F) (lines_in before + 1) before line
  in_next = record { whole = w; holds = m; inside = in_line_all line i; number = refl }

  next_line : (bytes : List ℕ) → bytes ≡ here ++ rest → (NeedsMore F here → Found F (here ++ rest)) → Decided F here → Found F bytes
  next_line bytes e next (inl t) = inl (here, rest, (t, e))
  next_line bytes e next (inr (inl g)) = subst (Found F) (sym e) (next g)
  next_line bytes e next (inr (inr none)) = inr (inl (lines_in before + 1, here, rest, ((before, line, (in_next, (refl, none))), e)))

look : (F : Form) → IsDecided F → (before line rest : List ℕ) → AreWholeLines before → NeedsMore F before → InLine line → Found F (before ++ (line ++ rest))
look F d before line [] w m i = inr (inr (lines_in before + 1, (before, line, (in_next F before line [] w m i, ap (λ (l : List ℕ). before ++ l) (append-nil line)))))
look F d before line (b ∷ rest) w m i = elim (cases_eq b 10) [
  | inl e ↦
      let text = before ++ (line ++ 10 ∷ []) in
      let whole = whole_append before (line ++ 10 ∷ []) w (whole_line line) in
      next_line F before line rest w m i (before ++ (line ++ b ∷ rest)) (ap (λ (c : ℕ). before ++ (line ++ c ∷ rest)) e ∙ sym (line_then before line rest)) (λ g. look F d text [] rest whole g tt) (d text whole)
  | inr n ↦ subst (λ (l : List ℕ). Found F (before ++ l)) (append_assoc line (b ∷ []) rest) (look F d before (line ++ b ∷ []) rest w m (in_append line (b ∷ []) i (n, tt)))
]

pub find_break : (F : Form) → IsDecided F → NeedsMore F [] → (bytes : List ℕ) → Found F bytes
find_break F d m bytes = look F d [] [] bytes (inl refl) m tt

-- the same where a text of the form may be empty
pub find_first : (F : Form) → IsDecided F → Begins F [] → (bytes : List ℕ) → Found F bytes
find_first F d b bytes = elim (d [] (inl refl)) [
  | inl f ↦ inl ([], bytes, (f, refl))
  | inr s ↦ elim s [ inl m ↦ find_break F d m bytes | inr none ↦ absurd (none b) ]
]

module _ (F : Form) (room : ℕ) (bytes : List ℕ) where
  whole_of : (p r : List ℕ) → take room bytes ≡ p ++ r → bytes ≡ p ++ (r ++ drop room bytes)
  whole_of p r e = sym (take-append-drop room bytes) ∙ ap (λ (l : List ℕ). l ++ drop room bytes) e ∙ append_assoc p r (drop room bytes)

  short_of : (p r : List ℕ) → take room bytes ≡ p ++ r → length p ≤ room
  short_of p r e = let l = ap length e in omega (arith, l, length-append p r, length-take room bytes)

  let_out : Found F (take room bytes) → StandsInFront F room bytes ⊎ (((n : ℕ) × HasBrokenLine F room n bytes) ⊎ IsCutIn F room bytes)
  let_out (inl (t, r, (f, e))) = inl (t, r ++ drop room bytes, (f, (short_of t r e, whole_of t r e)))
  let_out (inr (inl (n, f, r, (b, e)))) = inr (inl (n, inl (f, r ++ drop room bytes, (whole_of f r e, (short_of f r e, b)))))
  let_out (inr (inr (n, h))) = elim (cases_lt room (length bytes)) [
    | inl lt ↦ inr (inr (lt, (n, h)))
    | inr le ↦ inr (inl (n, inr (le, subst (EndsFormIn F n) (take_all room bytes le) h)))
  ]

pub text_or_break : (F : Form) → IsDecided F → NeedsMore F [] → TextOrBreak F
text_or_break F d m room bytes = let_out F room bytes (find_break F d m (take room bytes))

pub begins_if_needs : (F : Form) (bytes : List ℕ) → NeedsMore F bytes → Begins F bytes
begins_if_needs F bytes g = (g.0, g.1.1)

pub stop_of : (F : Form) (room n : ℕ) (bytes : List ℕ) → HasBrokenLine F room n bytes → StopsIn (NeedsMore F) F n bytes
stop_of F room n bytes (inl (f, r, (e, (le, b)))) = stops_broken (NeedsMore F) F n bytes f r e b
stop_of F room n bytes (inr (le, d)) = stops_cut (NeedsMore F) F n bytes d

-- the line for which a text was refused
pub cause_stop : (F : Form) (n : ℕ) (bytes text rest : List ℕ) → bytes ≡ text ++ rest → BreaksFormAt F n text ⊎ (EndsFormIn F n text × (rest ≡ [])) → StopsIn (NeedsMore F) F n bytes
cause_stop F n bytes text rest e (inl b) = stops_broken (NeedsMore F) F n bytes text rest e b
cause_stop F n bytes text rest e (inr (d, none)) = subst (StopsIn (NeedsMore F) F n) (sym (e ∙ ap (λ (l : List ℕ). text ++ l) none ∙ append-nil text)) (stops_cut (NeedsMore F) F n text d)

pub one_broken_line : (F : Form) → OneBrokenLine F
one_broken_line F room m n bytes b d = one_stop F (NeedsMore F) (begins_if_needs F) m n bytes (stop_of F room m bytes b) (stop_of F room n bytes d)

-- ---- forms that are made of forms

whole_rest : (p r : List ℕ) → AreWholeLines (p ++ r) → AreWholeLines r
whole_rest p [] w = inl refl
whole_rest p (b ∷ r) (inl e) = absurd (let q = ap length e in omega (arith, q, length-append p (b ∷ r)))
whole_rest p (b ∷ r) (inr f) = inr (ends_with p r f.0 b f.1)

after_part : (F : Form) (p r : List ℕ) → Decided (λ (t : List ℕ). F (p ++ t)) r → Decided F (p ++ r)
after_part F p r (inl t) = inl t
after_part F p r (inr (inl g)) = inr (inl (g.0, (g.1.0, subst F (sym (append_assoc p r g.0)) g.1.1)))
after_part F p r (inr (inr none)) = inr (inr (λ b. none (b.0, subst F (append_assoc p r b.0) b.1)))

-- forms with the same texts
pub decided_same : (F G : Form) → SameForms F G → (t : List ℕ) → Decided F t → Decided G t
decided_same F G s t (inl f) = inl (s.to t f)
decided_same F G s t (inr (inl g)) = inr (inl (g.0, (g.1.0, s.to (t ++ g.0) g.1.1)))
decided_same F G s t (inr (inr none)) = inr (inr (λ b. none (b.0, s.«from» (t ++ b.0) b.1)))

-- the same texts after other bytes
pub decided_at : (F : Form) (f g : List ℕ → List ℕ) → ((t : List ℕ) → f t ≡ g t) → IsDecided (λ (t : List ℕ). F (f t)) → IsDecided (λ (t : List ℕ). F (g t))
decided_at F f g e d t w = decided_same (λ (t : List ℕ). F (f t)) (λ (t : List ℕ). F (g t)) (record { to = λ t a. subst F (e t) a; «from» = λ t a. subst F (sym (e t)) a }) t (d t w)

pub decided_behind : (p : List ℕ) (F2 F : Form) → ComesAfter p F2 F → (t : List ℕ) → Decided F2 t → Decided (λ (x : List ℕ). F (p ++ x)) t
decided_behind p F2 F f t d = decided_same F2 (λ (x : List ℕ). F (p ++ x)) (record { to = f.to; «from» = f.«from» }) t d

pub decided_after : (p : List ℕ) (F2 F : Form) → ComesAfter p F2 F → IsDecided F2 → IsDecided (λ (t : List ℕ). F (p ++ t))
decided_after p F2 F f d t w = decided_behind p F2 F f t (d t w)

-- a part that comes first, and what comes after each such part
module _ (F1 F : Form) (f : ComesFirst F1 F) where
  found_decided : (t : List ℕ) → AreWholeLines t → ((p r : List ℕ) → F1 p → t ≡ p ++ r → AreWholeLines r → Decided (λ (x : List ℕ). F (p ++ x)) r) → Found F1 t → Decided F t
  found_decided t w next (inl (p, r, (a, e))) = subst (Decided F) (sym e) (after_part F p r (next p r a e (whole_rest p r (subst AreWholeLines e w))))
  found_decided t w next (inr (inl (n, p, r, (b, e)))) = inr (inr (λ g. (breaks_first F1 F f n p b).2.1.1 (r ++ g.0, subst F (ap (λ (l : List ℕ). l ++ g.0) e ∙ append_assoc p r g.0) g.1)))
  found_decided t w next (inr (inr (n, (before, line, (h, e))))) =
      let none = no_end_within t before line line [] w e (in_line line h.inside) (sym (append-nil line)) in
      let same : t ≡ before = e ∙ ap (λ (l : List ℕ). before ++ l) none ∙ append-nil before in
      inr (inl (goes_on_first F1 F f t (subst (NeedsMore F1) (sym same) h.holds)))

  pub first_decided : IsDecided F1 → Begins F1 [] → (t : List ℕ) → AreWholeLines t → ((p r : List ℕ) → F1 p → t ≡ p ++ r → AreWholeLines r → Decided (λ (x : List ℕ). F (p ++ x)) r) → Decided F t
  first_decided d b t w next = found_decided t w next (find_first F1 d b t)

  pub parts_decided : ((p : List ℕ) → F1 p → IsDecided (λ (t : List ℕ). F (p ++ t))) → IsDecided F1 → Begins F1 [] → IsDecided F
  parts_decided next d b t w = first_decided d b t w (λ p r a e v. next p a r v)

-- the first line of some bytes
pub first_line : (t : List ℕ) → InLine t ⊎ ((line : List ℕ) × (rest : List ℕ) × (InLine line × (t ≡ line ++ 10 ∷ rest)))
first_line [] = inl tt
first_line (b ∷ t) = elim (cases_eq b 10) [
  | inl e ↦ inr ([], t, (tt, ap (λ (c : ℕ). c ∷ t) e))
  | inr n ↦ elim (first_line t) [ inl i ↦ inl (n, i) | inr l ↦ inr (b ∷ l.0, l.1, ((n, l.2.0), ap (λ (m : List ℕ). b ∷ m) l.2.1)) ]
]

-- a line of a kind that can be told
module _ (D : List ℕ → Type 0) (inside : (line : List ℕ) → D line → InLine line) (tell : (line : List ℕ) → D line ⊎ (D line → ⊥)) (some : (line : List ℕ) × D line) where
  pub needs_line : NeedsMore (LineOf D) []
  needs_line = (line_begins D inside some.0 some.1).some

  same_cut : (t line rest : List ℕ) → InLine line → t ≡ line ++ 10 ∷ rest → (b : Begins (LineOf D) t) → (line ≡ b.1.0) × (rest ++ b.0 ≡ [])
  same_cut t line rest i e b = cut_unique line b.1.0 (rest ++ b.0) [] i (inside b.1.0 b.1.1.0) (sym (append_assoc line (10 ∷ rest) b.0) ∙ ap (λ (l : List ℕ). l ++ b.0) (sym e) ∙ b.1.1.1)

  line_is : (t line rest : List ℕ) → InLine line → t ≡ line ++ 10 ∷ rest → Decided (LineOf D) t
  line_is t line [] i e = elim (tell line) [
    | inl d ↦ inl (line, (d, e))
    | inr n ↦ inr (inr (λ b. n (subst D (sym (same_cut t line [] i e b).0) b.1.1.0)))
  ]
  line_is t line (c ∷ rest) i e = inr (inr (λ b. not_nil c (rest ++ b.0) (sym (same_cut t line (c ∷ rest) i e b).1)))

  pub line_decided : IsDecided (LineOf D)
  line_decided t w = elim (first_line t) [
    | inl i ↦ let none = no_end_within t [] t t [] w refl i (sym (append-nil t)) in inr (inl (subst (NeedsMore (LineOf D)) (sym none) needs_line))
    | inr l ↦ line_is t l.0 l.1 l.2.0 l.2.1
  ]

  -- such a line comes first
  pub after_line_decided : (F : Form) → ComesFirst (LineOf D) F → ((line : List ℕ) → D line → IsDecided (λ (t : List ℕ). F ((line ++ 10 ∷ []) ++ t))) → IsDecided F
  after_line_decided F f next = parts_decided (LineOf D) F f (λ p (line, (d, e)). subst (λ (l : List ℕ). IsDecided (λ (t : List ℕ). F (l ++ t))) (sym e) (next line d)) line_decided (begins_if_needs (LineOf D) [] needs_line)

-- a text that is known
pub text_decided : (x t : List ℕ) → Decided (IsText x) t
text_decided x t = elim (bytes_told t (take (length t) x)) [
  | inl e ↦ rest (drop (length t) x) (ap (λ (l : List ℕ). l ++ drop (length t) x) e ∙ take-append-drop (length t) x)
  | inr n ↦ inr (inr (λ g. n (sym (take_at t g.0 (length t) refl) ∙ ap (take (length t)) g.1)))
]
  where
    rest : (more : List ℕ) → t ++ more ≡ x → Decided (IsText x) t
    rest [] e = inl (sym (append-nil t) ∙ e)
    rest (b ∷ more) e = inr (inl (b ∷ more, (λ f. not_nil b more (sym f), e)))
