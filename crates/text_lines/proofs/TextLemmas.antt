-- Texts one after the other, and texts that are single lines.
use Rattle.std.proofs.Common.{◌≡◌, ℕ, zero, suc, ◌+◌, ◌<◌, Bool, true, false, cond, List, [], ◌∷◌, ◌++◌, eqb, inl, inr, refl, sym, ap, ◌∙◌, append_assoc, arith}
use Rattle.std.proofs.lemmas.Bool.{cases_lt, false≢true}
use Rattle.std.proofs.lemmas.Bool.Decides.{Decides-eqb}
use Rattle.std.proofs.lemmas.List.{append-nil}
use Rattle.text_lines.specs.Text.{texts_below}
use Rattle.text_lines.proofs.FormLemmas.{InLine, cut_unique}

pub texts_more : (n : ℕ) (f : ℕ → List ℕ) → texts_below (n + 1) f ≡ texts_below n f ++ f n
unfolding texts_below
texts_more n f = let e : n + 1 ≡ suc n = omega arith in rw e refl

pub texts_none : (f : ℕ → List ℕ) → texts_below 0 f ≡ []
unfolding texts_below
texts_none f = refl

-- what comes after the first x + 1 texts
pub texts_tail : (n x : ℕ) (f : ℕ → List ℕ) → x < n → (tail : List ℕ) × (texts_below n f ≡ (texts_below x f ++ f x) ++ tail)
unfolding texts_below
texts_tail zero x f lt = absurd (omega arith)
texts_tail (suc n) x f lt =
    elim (cases_lt x n) [
      | inl below ↦
          let t = texts_tail n x f below in
          (t.0 ++ f n, ap (λ (s : List ℕ). s ++ f n) t.1 ∙ append_assoc (texts_below x f ++ f x) t.0 (f n))
      | inr above ↦
          let same : n ≡ x = omega arith in
          ([], rw same (sym (append-nil (texts_below x f ++ f x))))
    ]

-- one line and its LF
abbrev pub IsOneLine : List ℕ → Type 0
IsOneLine text = (line : List ℕ) × (InLine line × (text ≡ line ++ 10 ∷ []))

pub line_cancel : (a b r s : List ℕ) → IsOneLine a → IsOneLine b → a ++ r ≡ b ++ s → (a ≡ b) × (r ≡ s)
line_cancel a b r s p q e =
    let long : p.0 ++ 10 ∷ r ≡ q.0 ++ 10 ∷ s =
    sym (append_assoc p.0 (10 ∷ []) r) ∙ ap (λ (l : List ℕ). l ++ r) (sym p.1.1) ∙ e ∙ ap (λ (l : List ℕ). l ++ s) q.1.1 ∙ append_assoc q.0 (10 ∷ []) s in
    let t = cut_unique p.0 q.0 r s p.1.0 q.1.0 long in
    (p.1.1 ∙ ap (λ (l : List ℕ). l ++ 10 ∷ []) t.0 ∙ sym q.1.1, t.1)

pub texts_cancel : (n : ℕ) (f g : ℕ → List ℕ) (r s : List ℕ) → ((k : ℕ) → k < n → IsOneLine (f k)) → ((k : ℕ) → k < n → IsOneLine (g k)) → texts_below n f ++ r ≡ texts_below n g ++ s → ((k : ℕ) → k < n → f k ≡ g k) × (r ≡ s)
unfolding texts_below
texts_cancel zero f g r s p q e = (λ k lt. absurd (omega arith), e)
texts_cancel (suc n) f g r s p q e =
    let long : texts_below n f ++ (f n ++ r) ≡ texts_below n g ++ (g n ++ s) = sym (append_assoc (texts_below n f) (f n) r) ∙ e ∙ append_assoc (texts_below n g) (g n) s in
    let t = texts_cancel n f g (f n ++ r) (g n ++ s) (λ k lt. p k (omega arith)) (λ k lt. q k (omega arith)) long in
    let u = line_cancel (f n) (g n) r s (p n (omega arith)) (q n (omega arith)) t.1 in (
      λ k lt. elim (cases_lt k n) [
        | inl below ↦ t.0 k below
        | inr above ↦ let same : k ≡ n = omega arith in rw same u.0
      ],
      u.1,
    )

pub texts_same : (n : ℕ) (f g : ℕ → List ℕ) → ((k : ℕ) → k < n → f k ≡ g k) → texts_below n f ≡ texts_below n g
unfolding texts_below
texts_same zero f g e = refl
texts_same (suc n) f g e = ap (λ (l : List ℕ). l ++ f n) (texts_same n f g (λ k lt. e k (omega arith))) ∙ ap (λ (l : List ℕ). texts_below n g ++ l) (e n (omega arith))

pub in_append : (a b : List ℕ) → InLine a → InLine b → InLine (a ++ b)
in_append [] b p q = q
in_append (x ∷ a) b p q = (p.0, in_append a b p.1 q)

-- bytes without LF, tried one by one
unfoldable pub is_line : List ℕ → Bool
is_line [] = true
is_line (b ∷ bytes) = cond (eqb b 10) false (is_line bytes)

line_step : (b : ℕ) (bytes : List ℕ) → (is_line bytes ≡ true → InLine bytes) → (r : Bool) → eqb b 10 ≡ r → cond r false (is_line bytes) ≡ true → InLine (b ∷ bytes)
line_step b bytes rest true q e = absurd (false≢true e)
line_step b bytes rest false q e = (λ g. false≢true (sym q ∙ (Decides-eqb b 10).1 g), rest e)

pub line_by : (bytes : List ℕ) → is_line bytes ≡ true → InLine bytes
unfolding is_line
line_by [] e = tt
line_by (b ∷ bytes) e = line_step b bytes (λ f. line_by bytes f) (eqb b 10) refl e
