-- There is one first broken line, and none where a text of the form stands in front.
use Rattle.std.proofs.Common.{◌≡◌, ℕ, ◌+◌, List, [], ◌∷◌, ◌++◌, length, inl, inr, refl, sym, ap, subst, ◌∙◌, append_assoc, arith}
use Rattle.std.proofs.lemmas.List.{length-append, append-nil, append_cancel_left}
use Rattle.text_lines.specs.Forms.{Form, Begins, NeedsMore, AreWholeLines, IsInLineOf, EndsIn, BreaksAt, lines_in}
use Rattle.text_lines.proofs.FormLemmas.{EndsBy, InLine, in_line, beside_line, ends_with, front_unique, no_more, not_nil}
use Rattle.sums_and_lists.proofs.Lists.{no_length}

-- a line with its LF, and then more, after some bytes
pub line_then : (before line rest : List ℕ) → (before ++ (line ++ 10 ∷ [])) ++ rest ≡ before ++ (line ++ 10 ∷ rest)
line_then before line rest = append_assoc before (line ++ 10 ∷ []) rest ∙ ap (λ (l : List ℕ). before ++ l) (append_assoc line (10 ∷ []) rest)

has_no_feed : (n r : List ℕ) → InLine (n ++ 10 ∷ r) → ⊥
has_no_feed [] r a = a.0 refl
has_no_feed (b ∷ n) r a = has_no_feed n r a.1

-- whole lines do not end within a line
pub no_end_within : (w before m line r : List ℕ) → AreWholeLines w → w ≡ before ++ m → InLine line → line ≡ m ++ r → m ≡ []
no_end_within w before [] line r f g a e = refl
no_end_within w before (b ∷ m) line r (inl f) g a e = absurd (let q = ap length (sym g ∙ f) in omega (arith, q, length-append before (b ∷ m)))
no_end_within w before (b ∷ m) line r (inr f) g a e =
    let n = ends_with before m f.0 b (sym g ∙ f.1) in
    absurd (has_no_feed n.0 r (subst InLine (e ∙ ap (λ (l : List ℕ). l ++ r) n.1 ∙ append_assoc n.0 (10 ∷ []) r) a))

-- line n of some bytes, and no text of the form goes past it: it is broken, or the bytes end in it
pub record StopsIn (P : List ℕ → Type 0) (F : Form) (n : ℕ) (bytes : List ℕ) : Type 0 where
  pub before : List ℕ
  pub line : List ℕ
  pub rest : List ℕ
  pub is : IsInLineOf P n before line
  pub parts : bytes ≡ before ++ (line ++ rest)
  pub ends : EndsBy 10 rest
  pub last : (m r : List ℕ) → bytes ≡ (before ++ (line ++ 10 ∷ m)) ++ r → Begins F (before ++ (line ++ 10 ∷ m)) → ⊥

module _ (P : List ℕ → Type 0) (F : Form) (n : ℕ) (bytes : List ℕ) where
  pub stops_broken : (f r : List ℕ) → bytes ≡ f ++ r → BreaksAt P F n f → StopsIn P F n bytes
  stops_broken f r e (b, l, (h, (i, none))) = record {
    before = b;
    line = l;
    rest = 10 ∷ r;
    is = h;
    parts = e ∙ ap (λ (x : List ℕ). x ++ r) i ∙ line_then b l r;
    ends = inr (r, refl);
    last = λ m s g c. none (m ++ c.0, subst F (ap (λ (x : List ℕ). x ++ c.0) (sym (line_then b l m) ∙ ap (λ (x : List ℕ). x ++ m) (sym i)) ∙ append_assoc f m c.0) c.1);
  }

  pub stops_cut : EndsIn P n bytes → StopsIn P F n bytes
  stops_cut (b, l, (h, i)) = record {
    before = b;
    line = l;
    rest = [];
    is = h;
    parts = i ∙ ap (λ (x : List ℕ). b ++ x) (sym (append-nil l));
    ends = inl refl;
    last = λ m s g c. let q : length (b ++ l) ≡ length ((b ++ (l ++ 10 ∷ m)) ++ s) = ap length (sym i ∙ g) in omega (arith, simp length-append at q);
  }

module _ (F : Form) (P : List ℕ → Type 0) (weak : (bytes : List ℕ) → P bytes → Begins F bytes) where
  not_past : (n k : ℕ) (bytes : List ℕ) (x : StopsIn P F n bytes) (y : StopsIn P F k bytes) → (q : List ℕ) × (y.before ≡ x.before ++ q)
  not_past n k bytes x y =
      elim (beside_line x.before (x.line ++ x.rest) y.before y.line y.rest x.is.whole (in_line y.line y.is.inside) y.ends (sym x.parts ∙ y.parts)) [
        | inl q ↦ q
        | inr q ↦ absurd (y.last q.0 (x.line ++ x.rest) (x.parts ∙ ap (λ (l : List ℕ). l ++ (x.line ++ x.rest)) q.1) (subst (Begins F) q.1 (weak x.before x.is.holds)))
      ]

  same_front : (n k : ℕ) (bytes : List ℕ) (x : StopsIn P F n bytes) (y : StopsIn P F k bytes) → x.before ≡ y.before
  same_front n k bytes x y =
      let p = not_past n k bytes x y in
      let q = not_past k n bytes y x in
      let lp = ap length p.1 in
      let lq = ap length q.1 in
      let none = no_length p.0 (omega (arith, lp, lq, length-append x.before p.0, length-append y.before q.0)) in
      sym (p.1 ∙ ap (λ (l : List ℕ). x.before ++ l) none ∙ append-nil x.before)

  -- there is one such line, and one that is broken does not end the bytes
  pub one_stop : (n k : ℕ) (bytes : List ℕ) → StopsIn P F n bytes → StopsIn P F k bytes → n ≡ k
  one_stop n k bytes x y = x.is.number ∙ ap (λ (l : List ℕ). lines_in l + 1) (same_front n k bytes x y) ∙ sym y.is.number

  same_rest : (n k : ℕ) (bytes : List ℕ) (x : StopsIn P F n bytes) (y : StopsIn P F k bytes) → x.rest ≡ y.rest
  same_rest n k bytes x y =
      let parts = ap (λ (l : List ℕ). l ++ (x.line ++ x.rest)) (sym (same_front n k bytes x y)) ∙ sym x.parts ∙ y.parts in
      (front_unique 10 x.line y.line x.rest y.rest (in_line x.line x.is.inside) (in_line y.line y.is.inside) x.ends y.ends (append_cancel_left y.before (x.line ++ x.rest) (y.line ++ y.rest) parts)).1

  pub one_break : (n k : ℕ) (f g r s : List ℕ) → f ++ r ≡ g ++ s → BreaksAt P F n f → BreaksAt P F k g → n ≡ k
  one_break n k f g r s e b d = one_stop n k (f ++ r) (stops_broken P F n (f ++ r) f r refl b) (stops_broken P F k (f ++ r) g s e d)

  pub not_both : (n k : ℕ) (f r bytes : List ℕ) → f ++ r ≡ bytes → BreaksAt P F n f → EndsIn P k bytes → ⊥
  unfolding stops_cut stops_broken
  not_both n k f r bytes e b d = not_nil 10 r (sym (same_rest n k bytes (stops_broken P F n bytes f r (sym e) b) (stops_cut P F k bytes d)))

  pub one_end : (n k : ℕ) (bytes : List ℕ) → EndsIn P n bytes → EndsIn P k bytes → n ≡ k
  one_end n k bytes b d = one_stop n k bytes (stops_cut P F n bytes b) (stops_cut P F k bytes d)

-- ---- a text of the form stands in front

module _ (F : Form) (whole : (t : List ℕ) → F t → AreWholeLines t) (free : (t m : List ℕ) → F t → F (t ++ m) → m ≡ []) where
  goes_past : (t m : List ℕ) → F t → NeedsMore F (t ++ m) → ⊥
  goes_past t m f g =
      let none = free t (m ++ g.0) f (subst F (append_assoc t m g.0) g.1.1) in
      g.1.0 (no_more m g.0 none)

  -- no line breaks, and the bytes do not end in one that it needs
  pub text_past : (n : ℕ) (t r bytes : List ℕ) → F t → bytes ≡ t ++ r → StopsIn (NeedsMore F) F n bytes → ⊥
  text_past n t r bytes a e x =
      elim (beside_line t r x.before x.line x.rest (whole t a) (in_line x.line x.is.inside) x.ends (sym e ∙ x.parts)) [
        | inl q ↦ goes_past t q.0 a (subst (NeedsMore F) q.1 x.is.holds)
        | inr q ↦ x.last q.0 r (e ∙ ap (λ (l : List ℕ). l ++ r) q.1) ([], subst F (q.1 ∙ sym (append-nil (x.before ++ (x.line ++ 10 ∷ q.0)))) a)
      ]

  pub text_not_cut : (n : ℕ) (t r bytes : List ℕ) → F t → t ++ r ≡ bytes → EndsIn (NeedsMore F) n bytes → ⊥
  text_not_cut n t r bytes a e d = text_past n t r bytes a (sym e) (stops_cut (NeedsMore F) F n bytes d)
