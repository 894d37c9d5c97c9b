-- Readers of parts, one after the other: what they took together, and why one of them refused.
use Rattle.std.proofs.Common.{◌≡◌, ℕ, ◌+◌, ◌≤◌, List, [], ◌∷◌, ◌++◌, length, Option, Some, None, Result, Ok, Err, inl, inr, ◌⊎◌, refl, sym, ap, ap₂, subst, ◌∙◌, append_assoc, arith}
use Rattle.std.specs.Prelude.{IsErrAnd, MatchOption, OnOk}
use Rattle.std.proofs.lemmas.List.{append_cancel_right, length-append}
use Rattle.insar_ports.specs.Calls.{Moves}
use Rattle.insar_ports.proofs.CallLemmas.{stays}
use Rattle.text_lines.specs.declared.fault.LineFault.{LineFault}
use Rattle.text_lines.specs.declared.fault.LineFault.TheVariants as faults
use Rattle.text_lines.specs.declared.lines.LineEnd.{LineEnd}
use Rattle.text_lines.specs.declared.lines.LineEnd.TheVariants.{Whole, Long, Cut}
use Rattle.text_lines.specs.Forms.{Form, AreWholeLines, IsLine}
use Rattle.text_lines.specs.LineWords.{HasNextCause, IsLineRead, TakesLines}
use Rattle.text_lines.specs.Reading.{HasLineCause}
use Rattle.text_lines.proofs.CauseLemmas.{broken_line, broken_list, cause_unread as line_refused, not_whole, taken_line}
use Rattle.text_lines.proofs.FormLemmas.{InLine, ComesFirst, ComesAfter, BeginsWithLine, whole_append, whole_line}
use Rattle.text_lines.proofs.LineLemmas.{takes_nothing}
use Rattle.text_lines.proofs.SeqLemmas.{IsCode, Seq, SameForms, code_unique, first_same, line_code, same_code, seq_after, seq_code, seq_first}
use Rattle.text_lines.proofs.StepLemmas.{cause_begin, cause_join, moves_join, texts_join}
use Rattle.text_parts.specs.Steps.{Advances, HasNoLineCause, LinePlace, ReadsPart, ReadsLine, TextOf, Took, between, both, in_turn, parsed_at}
use Rattle.text_parts.specs.Text.{ended_line}
use Rattle.text_parts.proofs.LineLemmas.{Fits}

-- ---- what was taken

pub advances_stay : (v : LinePlace) → Advances v v
advances_stay v = record { source = refl; limit = refl; moves = stays v.left v.left v.handed v.handed v.limit v.faults v.faults refl refl (omega arith) }

pub advances_then : {v m w : LinePlace} → Advances v m → Advances m w → Advances v w
advances_then {v} {m} {w} p q = record { source = q.source ∙ p.source; limit = q.limit ∙ p.limit; moves = moves_join (between v m) (between m w) p.moves q.moves }

pub took_none : (v : LinePlace) → Took [] v v
took_none v = record { advance = advances_stay v; taken = takes_nothing v.left v.handed v.limit v.faults v.faults [] v.number refl }

pub took_then : {x y : List ℕ} {v m w : LinePlace} → Took x v m → Took y m w → Took (x ++ y) v w
took_then {x} {y} {v} {m} {w} p q = record { advance = advances_then p.advance q.advance; taken = texts_join (between v m) (between m w) x y v.number m.number w.number p.taken q.taken }

pub took_is : {x y : List ℕ} {v w : LinePlace} → Took x v w → x ≡ y → Took y v w
took_is {x} {y} {v} {w} p e = subst (λ (t : List ℕ). Took t v w) e p

pub took : {R A : Type 0} {view : R → A} {P : A → Type 0} {f : A → List ℕ} {v w : LinePlace} {a : R} → ReadsPart view P f v w (Ok a) → Took (f (view a)) v w
took r = record { advance = r.advance; taken = r.read.1 }

-- a line that is known was taken
pub line_took : {v w : LinePlace} (line : List ℕ) → w.source ≡ v.source → w.limit ≡ v.limit → Moves (between v w) → TakesLines (IsLine line) v.number w.number (between v w) → Took (line ++ 10 ∷ []) v w
line_took line s l m t = record { advance = record { source = s; limit = l; moves = m }; taken = t }

-- ---- what a reader of two parts says

module _ {R A : Type 0} {view : R → A} {P : A → Type 0} {f : A → List ℕ} {v w : LinePlace} where
  pub reads_ok : {a : R} {x : List ℕ} → Took x v w → P (view a) → x ≡ f (view a) → ReadsPart view P f v w (Ok a)
  reads_ok {a} t p e = let u : Took (f (view a)) v w = took_is t e in record { advance = u.advance; read = (p, u.taken); refused = tt }

  pub reads_err : (r : Result R LineFault) (e : LineFault) → IsErrAnd r (λ y. y ≡ e) → Advances v w → HasLineCause (TextOf P f) v.number (between v w) e → ReadsPart view P f v w r
  reads_err (Ok a) e i p h = absurd i
  reads_err (Err y) e i p h = record { advance = p; read = tt; refused = subst (HasLineCause (TextOf P f) v.number (between v w)) (sym i) h }

  -- the first part of what comes after was not read
  pub reads_part : (r : Result R LineFault) (e : LineFault) → IsErrAnd r (λ y. y ≡ e) → {F1 F2 : Form} {x : List ℕ} {m : LinePlace} → ComesAfter x F2 (TextOf P f) → ComesFirst F1 F2 → Took x v m → Advances m w → HasLineCause F1 m.number (between m w) e → ReadsPart view P f v w r
  reads_part r e i {F1} {F2} {x} {m} c d t q h =
      let p = t.advance in
      reads_err r e i (advances_then p q) (cause_join x F2 (TextOf P f) c (between v m) (between m w) v.number m.number e p.limit p.moves t.taken (cause_begin F1 F2 d (between m w) m.number e h))

  module _ {R2 A2 : Type 0} {view2 : R2 → A2} {Q : A2 → Type 0} {g : A2 → List ℕ} (r : Result R LineFault) {e : LineFault} (i : IsErrAnd r (λ y. y ≡ e)) where
    pub reads_first : ComesFirst (TextOf Q g) (TextOf P f) → ReadsPart view2 Q g v w (Err e) → ReadsPart view P f v w r
    reads_first c a = reads_err r e i a.advance (cause_begin (TextOf Q g) (TextOf P f) c (between v w) v.number e a.refused)

    pub reads_second : {x : List ℕ} {m : LinePlace} → ComesAfter x (TextOf Q g) (TextOf P f) → Took x v m → ReadsPart view2 Q g m w (Err e) → ReadsPart view P f v w r
    reads_second {x} {m} c t a =
        let p = t.advance in
        let q = a.advance in
        reads_err r e i (advances_then p q) (cause_join x (TextOf Q g) (TextOf P f) c (between v m) (between m w) v.number m.number e p.limit p.moves t.taken a.refused)

    pub reads_within : {F2 : Form} {x : List ℕ} {m : LinePlace} → ComesAfter x F2 (TextOf P f) → ComesFirst (TextOf Q g) F2 → Took x v m → ReadsPart view2 Q g m w (Err e) → ReadsPart view P f v w r
    reads_within c d t a = reads_part r e i c d t a.advance a.refused

  pub reads_starved : (r : Result R LineFault) → IsErrAnd r (λ y. y ≡ faults.Memory) → Advances v w → ReadsPart view P f v w r
  reads_starved r i a = reads_err r faults.Memory i a tt

-- ---- parts: texts of values, of which there is one, and none begins another

pub record IsPart {A : Type 0} (P : A → Type 0) (f : A → List ℕ) : Type 0 where
  pub some : (a : A) × P a
  pub code : IsCode (TextOf P f)

-- no two of the values have one text
abbrev pub One : {A : Type 0} → (A → Type 0) → (A → List ℕ) → Type 0
One {A} P f = (a b : A) → P a → P b → f a ≡ f b → a ≡ b

pub after_same : {F2 F G : Form} {x : List ℕ} → SameForms F G → ComesAfter x F2 F → ComesAfter x F2 G
after_same {F2} {F} {G} {x} s c = record { whole = c.whole; to = λ t a. s.to (x ++ t) (c.to t a); «from» = λ t a. c.«from» t (s.«from» (x ++ t) a) }

-- texts of two values, one after the other
turn_same : {A B : Type 0} (P : A → Type 0) (f : A → List ℕ) (Q : B → Type 0) (g : B → List ℕ) → SameForms (Seq (TextOf P f) (TextOf Q g)) (TextOf (both P Q) (in_turn f g))
turn_same P f Q g = record {
  to = λ t s. ((s.2.0.0, s.2.1.0.0), ((s.2.0.1.0, s.2.1.0.1.0), s.2.1.1 ∙ ap (λ (l : List ℕ). l ++ s.1) s.2.0.1.1 ∙ ap (λ (l : List ℕ). f s.2.0.0 ++ l) s.2.1.0.1.1));
  «from» = λ t a. (f a.0.0, g a.0.1, ((a.0.0, (a.1.0.0, refl)), ((a.0.1, (a.1.0.1, refl)), a.1.1)));
}

module _ {A B : Type 0} {P : A → Type 0} {f : A → List ℕ} {Q : B → Type 0} {g : B → List ℕ} (c : IsPart P f) (d : IsPart Q g) where
  pub turn_part : IsPart (both P Q) (in_turn f g)
  turn_part = record {
    some = ((c.some.0, d.some.0), (c.some.1, d.some.1));
    code = same_code (Seq (TextOf P f) (TextOf Q g)) (TextOf (both P Q) (in_turn f g)) (turn_same P f Q g) (seq_code (TextOf P f) (TextOf Q g) c.code d.code);
  }

  pub turn_first : ComesFirst (TextOf P f) (TextOf (both P Q) (in_turn f g))
  turn_first = first_same (TextOf P f) (Seq (TextOf P f) (TextOf Q g)) (TextOf (both P Q) (in_turn f g)) (turn_same P f Q g) (seq_first (TextOf P f) (TextOf Q g) c.code (g d.some.0) (d.some.0, (d.some.1, refl)))

  pub turn_after : (a : A) → P a → ComesAfter (f a) (TextOf Q g) (TextOf (both P Q) (in_turn f g))
  turn_after a p = after_same (turn_same P f Q g) (seq_after (TextOf P f) (TextOf Q g) c.code (f a) (a, (p, refl)))

  pub turn_one : One P f → One Q g → One (both P Q) (in_turn f g)
  turn_one one other a b p q e =
      let t = code_unique (TextOf P f) c.code (f a.0) (g a.1) (f b.0) (g b.1) (a.0, (p.0, refl)) (b.0, (q.0, refl)) e in
      ap₂ (λ (x : A) (y : B). (x, y)) (one a.0 b.0 p.0 q.0 t.0) (other a.1 b.1 p.1 q.1 t.1)

-- the text of a value, and then one of a form that depends on the value
abbrev pub Then : {A : Type 0} → (A → Type 0) → (A → List ℕ) → (A → Form) → Form
Then {A} P f G text = (a : A) × (P a × ((r : List ℕ) × (G a r × (text ≡ f a ++ r))))

module _ {A : Type 0} {P : A → Type 0} {f : A → List ℕ} (c : IsPart P f) (one : One P f) where
  pub then_apart : (a b : A) (r s : List ℕ) → P a → P b → f a ++ r ≡ f b ++ s → (a ≡ b) × (r ≡ s)
  then_apart a b r s p q e = let t = code_unique (TextOf P f) c.code (f a) r (f b) s (a, (p, refl)) (b, (q, refl)) e in (one a b p q t.0, t.1)

  module _ (G : A → Form) where
    pub then_first : ((a : A) → P a → (r : List ℕ) × G a r) → ComesFirst (TextOf P f) (Then P f G)
    then_first g =
        let code = c.code in record {
          splits = λ t s. (f s.0, s.1.1.0, ((s.0, (s.1.0, refl)), s.1.1.1.1));
          extends = λ p a. let r = g a.0 a.1.0 in (r.0, (a.0, (a.1.0, (r.0, (r.1, ap (λ (l : List ℕ). l ++ r.0) a.1.1)))));
          whole = code.whole;
          free = code.free;
        }

    pub then_after : (a : A) → P a → ComesAfter (f a) (G a) (Then P f G)
    then_after a p =
        let code = c.code in record {
          whole = code.whole (f a) (a, (p, refl));
          to = λ t g. (a, (p, (t, (g, refl))));
          «from» = λ t s. let u = then_apart s.0 a s.1.1.0 t s.1.0 p (sym s.1.1.1.1) in subst (λ (r : List ℕ). G a r) u.1 (subst (λ (b : A). G b s.1.1.0) u.0 s.1.1.1.0);
        }

    pub then_code : ((a : A) → P a → IsCode (G a)) → IsCode (Then P f G)
    then_code d = record {
      whole = λ t s. let last = d s.0 s.1.0 in subst AreWholeLines (sym s.1.1.1.1) (whole_append (f s.0) s.1.1.0 (then_after s.0 s.1.0).whole (last.whole s.1.1.0 s.1.1.1.0));
      free = λ t m s u.
          let last = d s.0 s.1.0 in
          last.free s.1.1.0 m s.1.1.1.0 ((then_after s.0 s.1.0).«from» (s.1.1.0 ++ m) (subst (Then P f G) (ap (λ (l : List ℕ). l ++ m) s.1.1.1.1 ∙ append_assoc (f s.0) s.1.1.0 m) u));
    }

-- ---- one line of a kind

-- lines that tell a value: one is there, none has a line feed in it, and none has more than `most` bytes, or that is as many as are ever handed out
pub record IsLineKind {A : Type 0} (P : A → Type 0) (f : A → List ℕ) (most : ℕ) : Type 0 where
  pub some : (a : A) × P a
  pub inside : (a : A) → P a → InLine (f a)
  pub short : ((a : A) → P a → length (f a) ≤ most) ⊎ (18446744073709551615 ≤ most)

pub short_kind : {A : Type 0} {P : A → Type 0} {f : A → List ℕ} → (a : A) × P a → ((a : A) → P a → Fits 128 (f a)) → IsLineKind P f 128
short_kind some fits = record { some = some; inside = λ a p. (fits a p).inside; short = inl (λ a p. (fits a p).short) }

pub long_kind : {A : Type 0} {P : A → Type 0} {f : A → List ℕ} → (a : A) × P a → ((a : A) → P a → InLine (f a)) → IsLineKind P f 18446744073709551615
long_kind some inside = record { some = some; inside = inside; short = inr (omega arith) }

pub line_part : {A : Type 0} {P : A → Type 0} {f : A → List ℕ} {most : ℕ} → IsLineKind P f most → IsPart P (ended_line f)
line_part {A} {P} {f} kind =
    let c = line_code (TextOf P f) (λ line d. subst InLine (sym d.1.1) (kind.inside d.0 d.1.0)) in record {
      some = kind.some;
      code = record {
        whole = λ t a. subst AreWholeLines (sym a.1.1) (whole_line (f a.0));
        free = λ t m a b. c.free t m (f a.0, ((a.0, (a.1.0, refl)), a.1.1)) (f b.0, ((b.0, (b.1.0, refl)), b.1.1));
      };
    }

pub line_one : {A : Type 0} {P : A → Type 0} {f : A → List ℕ} → One P f → One P (ended_line f)
line_one {A} {P} {f} one a b p q e = one a b p q (append_cancel_right (f a) (f b) (10 ∷ []) e)

module _ {A : Type 0} {P : A → Type 0} {f : A → List ℕ} {most : ℕ} (kind : IsLineKind P f most) where
  abbrev D : List ℕ → Type 0
  D line = TextOf P f line

  abbrev F : Form
  F = TextOf P (ended_line f)

  pub line_kind_begins : BeginsWithLine D F
  line_kind_begins = record {
    some = let a = kind.some in (ended_line f a.0, ((λ e. let q = ap length e in omega (arith, q, length-append (f a.0) (10 ∷ []))), (a.0, (a.1, refl))));
    splits = λ t a. (f a.0, [], ((a.0, (a.1.0, refl)), (kind.inside a.0 a.1.0, a.1.1)));
  }

  module _ (v w : LinePlace) where
    -- a line that was read, and that is none of the kind
    cause_other : (kept : List ℕ) (line_end : LineEnd) (n : ℕ) → w.handed ≤ 18446744073709551615 → n ≡ v.number + 1 → IsLineRead most kept (between v w) line_end → (line_end ≡ Whole → D kept → ⊥) → HasLineCause F v.number (between v w) (faults.Line n)
    cause_other kept line_end n few e h none = elim kind.short [
      | inl short ↦ broken_line D F line_kind_begins v.number (between v w) line_end most kept n e h none (λ line d. subst (λ (l : List ℕ). length l ≤ most) (sym d.1.1) (short d.0 d.1.0))
      | inr long ↦ broken_list D F line_kind_begins v.number (between v w) line_end most kept n (omega (arith, few, long)) e h none
    ]

    cause_unread : (fault : LineFault) → w.handed ≤ 18446744073709551615 → HasNoLineCause most v.number (between v w) fault → HasLineCause F v.number (between v w) fault
    cause_unread fault few (inl h) = line_refused D F line_kind_begins v.number (between v w) fault h
    cause_unread fault few (inr (kept, line_end, (n, (e, h)))) = subst (HasLineCause F v.number (between v w)) (sym e) (cause_other kept line_end (v.number + 1) few refl h (λ q. absurd (n q)))

  module _ {R : Type 0} {view : R → A} {v w : LinePlace} {kept : List ℕ} where
    pub reads_unread : (r : Result R LineFault) {e : LineFault} → IsErrAnd r (λ y. y ≡ e) → ReadsLine most kept v w (Err e) → ReadsPart view P (ended_line f) v w r
    reads_unread r {e} i l = reads_err r e i l.advance (cause_unread v w e l.few l.refused)

    pub reads_parsed : (found : Option R) {line : List ℕ} {n : ℕ} (r : Result R LineFault) {u : Unit {0}} → ReadsLine most kept v w (Ok u) → line ≡ kept → MatchOption found ((a : A) → P a → line ≡ f a → ⊥) (λ a. P (view a) × (line ≡ f (view a))) → n ≡ w.number → r ≡ parsed_at n found → ReadsPart view P (ended_line f) v w r
    reads_parsed (Some a) r l k h n e =
        rw e (reads_ok (record { advance = l.advance; taken = taken_line (between v w) most w.number v.number kept (f (view a)) Whole l.number (sym k ∙ h.1) refl l.line }) h.0 refl)
    reads_parsed None {line} {n} r l k h c e =
        rw e (record { advance = l.advance; read = tt; refused = cause_other v w kept Whole n l.few (c ∙ l.number) l.line (λ q d. h d.0 d.1.0 (k ∙ d.1.1)) })

-- ---- the reader of a line

pub on_ok_if : {A : Type 0} (r : Result A LineFault) {P : Type 0} → P → OnOk r P
on_ok_if (Ok a) p = p
on_ok_if (Err e) p = tt

pub line_unread : {most : ℕ} {kept : List ℕ} {v w : LinePlace} (r : Result (Unit {0}) LineFault) (e : LineFault) → IsErrAnd r (λ y. y ≡ e) → Advances v w → w.handed ≤ 18446744073709551615 → HasNextCause (between v w) e → ReadsLine most kept v w r
line_unread (Ok u) e i a few h = absurd i
line_unread {most} {kept} {v} {w} (Err y) e i a few h = record { advance = a; number = tt; few = few; line = tt; further = tt; refused = inl (subst (HasNextCause (between v w)) (sym i) h) }

pub line_ended : {most n : ℕ} {kept : List ℕ} {v w : LinePlace} (bytes : List ℕ) (end : LineEnd) → (end ≡ Long) ⊎ (end ≡ Cut) → n ≡ v.number + 1 → Advances v w → w.handed ≤ 18446744073709551615 → IsLineRead most bytes (between v w) end → ReadsLine most kept v w (Err (faults.Line n))
line_ended bytes end i n a few h = record { advance = a; number = tt; few = few; line = tt; further = tt; refused = inr (bytes, end, (not_whole end i, (ap faults.Line n, h))) }
