-- Forms whose texts are known by their first bytes, and texts of two such forms one after the other.
use Rattle.std.proofs.Common.{◌≡◌, ℕ, zero, suc, ◌+◌, List, [], ◌∷◌, ◌++◌, length, inl, inr, refl, sym, ap, subst, ◌∙◌, append_assoc, arith}
use Rattle.std.proofs.lemmas.List.{length-append, append-nil}
use Rattle.text_lines.specs.Forms.{Form, LineOf, AreWholeLines}
use Rattle.text_lines.specs.Text.{texts_below}
use Rattle.text_lines.proofs.FormLemmas.{InLine, ComesFirst, ComesAfter, BeginsWithLine, cut_unique, fronts, whole_append, whole_line, no_more}

-- texts of whole lines, of which none begins with another
pub record IsCode (F : Form) : Type 0 where
  pub whole : (p : List ℕ) → F p → AreWholeLines p
  pub free : (p m : List ℕ) → F p → F (p ++ m) → m ≡ []

-- the text in front of some bytes is one
pub code_unique : (F : Form) → IsCode F → (p r q s : List ℕ) → F p → F q → p ++ r ≡ q ++ s → (p ≡ q) × (r ≡ s)
code_unique F c p r q s a b e = elim (fronts p q r s e) [
  | inl f ↦
      let none : f.0 ≡ [] = c.free p f.0 a (subst F f.1.0 b) in
      (sym (f.1.0 ∙ ap (λ (m : List ℕ). p ++ m) none ∙ append-nil p), f.1.1 ∙ ap (λ (m : List ℕ). m ++ s) none)
  | inr f ↦
      let none : f.0 ≡ [] = c.free q f.0 b (subst F f.1.0 a) in
      (f.1.0 ∙ ap (λ (m : List ℕ). q ++ m) none ∙ append-nil q, sym (f.1.1 ∙ ap (λ (m : List ℕ). m ++ r) none))
]

-- a text of the one form and then one of the other
abbrev pub Seq : Form → Form → Form
Seq F G text = (p : List ℕ) × (r : List ℕ) × (F p × (G r × (text ≡ p ++ r)))

module _ (F G : Form) (c : IsCode F) where
  pub seq_first : (r : List ℕ) → G r → ComesFirst F (Seq F G)
  seq_first r g = record {
    splits = λ t s. (s.0, s.1, (s.2.0, s.2.1.1));
    extends = λ p a. (r, (p, r, (a, (g, refl))));
    whole = c.whole;
    free = c.free;
  }

  pub seq_after : (p : List ℕ) → F p → ComesAfter p G (Seq F G)
  seq_after p a = record {
    whole = c.whole p a;
    to = λ t g. (p, t, (a, (g, refl)));
    «from» = λ t s. subst G (sym (code_unique F c p t s.0 s.1 a s.2.0 s.2.1.1).1) s.2.1.0;
  }

  pub seq_code : IsCode G → IsCode (Seq F G)
  seq_code d = record {
    whole = λ t s. subst AreWholeLines (sym s.2.1.1) (whole_append s.0 s.1 (c.whole s.0 s.2.0) (d.whole s.1 s.2.1.0));
    free = λ t m s u.
        let same = code_unique F c s.0 (s.1 ++ m) u.0 u.1 s.2.0 u.2.0 (sym (append_assoc s.0 s.1 m) ∙ ap (λ (l : List ℕ). l ++ m) (sym s.2.1.1) ∙ u.2.1.1) in
        d.free s.1 m s.2.1.0 (subst G (sym same.1) u.2.1.0);
  }

-- ---- one line of a kind

module _ (D : List ℕ → Type 0) (inside : (line : List ℕ) → D line → InLine line) where
  pub line_code : IsCode (LineOf D)
  line_code = record {
    whole = λ p a. subst AreWholeLines (sym a.1.1) (whole_line a.0);
    free = λ p m a b.
        let same = cut_unique a.0 b.0 m [] (inside a.0 a.1.0) (inside b.0 b.1.0) (sym (append_assoc a.0 (10 ∷ []) m) ∙ ap (λ (l : List ℕ). l ++ m) (sym a.1.1) ∙ b.1.1) in
        same.1;
  }

  pub line_begins : (line : List ℕ) → D line → BeginsWithLine D (LineOf D)
  line_begins line d = record {
    some = (line ++ 10 ∷ [], (λ e. let q = ap length e in omega (arith, q, length-append line (10 ∷ [])), (line, (d, refl))));
    splits = λ t a. (a.0, [], (a.1.0, (inside a.0 a.1.0, a.1.1)));
  }

-- ---- forms that have the same texts

pub record SameForms (F G : Form) : Type 0 where
  pub to : (t : List ℕ) → F t → G t
  pub «from» : (t : List ℕ) → G t → F t

pub same_after : (F G : Form) → SameForms F G → ComesAfter [] F G
same_after F G s = record { whole = inl refl; to = s.to; «from» = s.«from» }

pub same_code : (F G : Form) → SameForms F G → IsCode F → IsCode G
same_code F G s c = record {
  whole = λ p a. c.whole p (s.«from» p a);
  free = λ p m a b. c.free p m (s.«from» p a) (s.«from» (p ++ m) b);
}

pub first_same : (F1 F G : Form) → SameForms F G → ComesFirst F1 F → ComesFirst F1 G
first_same F1 F G s f = record {
  splits = λ t a. f.splits t (s.«from» t a);
  extends = λ p a. let b = f.extends p a in (b.0, s.to (p ++ b.0) b.1);
  whole = f.whole;
  free = f.free;
}

-- ---- one part after another

pub after_then : (p q : List ℕ) (F3 F2 F : Form) → ComesAfter p F2 F → ComesAfter q F3 F2 → ComesAfter (p ++ q) F3 F
after_then p q F3 F2 F f g = record {
  whole = whole_append p q f.whole g.whole;
  to = λ t a. subst F (sym (append_assoc p q t)) (f.to (q ++ t) (g.to t a));
  «from» = λ t a. g.«from» t (f.«from» (q ++ t) (subst F (append_assoc p q t) a));
}

pub after_none : (F : Form) → ComesAfter [] F F
after_none F = record { whole = inl refl; to = λ t a. a; «from» = λ t a. a }

-- the parts L k, L (k + 1), .. : so many of them
abbrev pub Rest : (ℕ → Form) → ℕ → ℕ → Form
Rest L zero k text = text ≡ []
Rest L (suc m) k text = Seq (L k) (Rest L m (suc k)) text

module _ (L : ℕ → Form) (c : (k : ℕ) → IsCode (L k)) where
  pub rest_code : (m k : ℕ) → IsCode (Rest L m k)
  rest_code zero k = record {
    whole = λ p a. inl a;
    free = λ p n a b. no_more p n b;
  }
  rest_code (suc m) k = seq_code (L k) (Rest L m (suc k)) (c k) (rest_code m (suc k))

-- the texts f k, f (k + 1), .. : so many of them, and all below one number in two parts
abbrev pub texts_from : (ℕ → List ℕ) → ℕ → ℕ → List ℕ
texts_from f zero k = []
texts_from f (suc m) k = f k ++ texts_from f m (suc k)

pub texts_in_two : (f : ℕ → List ℕ) (m k : ℕ) → texts_below k f ++ texts_from f m k ≡ texts_below (k + m) f
unfolding texts_below
texts_in_two f zero k = let e : k + 0 ≡ k = omega arith in rw e (append-nil (texts_below k f))
texts_in_two f (suc m) k = let e : k + suc m ≡ suc k + m = omega arith in rw e (sym (append_assoc (texts_below k f) (f k) (texts_from f m (suc k))) ∙ texts_in_two f m (suc k))
