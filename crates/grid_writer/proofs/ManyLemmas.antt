-- Grids one after another: which stand in front of some bytes, and that the bytes have one first break.
use Rattle.std.proofs.Common.{◌≡◌, ℕ, ◌+◌, ◌-◌, ◌<◌, ◌≤◌, List, [], ◌∷◌, ◌++◌, length, take, inl, inr, refl, sym, ap, subst, ◌∙◌, append_assoc, arith}
use Rattle.std.specs.Prelude.{All}
use Rattle.std.proofs.lemmas.Bool.{cases_order}
use Rattle.std.proofs.lemmas.List.{append-nil, length-append}
use Rattle.std.proofs.lemmas.List.Elements.{All-head, All-tail}
use Rattle.std.proofs.Math.Seq.{take-append-add}
use Rattle.sums_and_lists.proofs.Lists.{no_length}
use Rattle.text_lines.specs.Forms.{NeedsMore}
use Rattle.text_lines.specs.Reading.{HasBrokenLine, IsCutIn, StandsInFront}
use Rattle.text_lines.proofs.BreakLemmas.{begins_if_needs, one_broken_line, stop_of}
use Rattle.text_lines.proofs.FirstLemmas.{not_both, text_not_cut, text_past}
use Rattle.text_lines.proofs.SeqLemmas.{code_unique}
use Rattle.grid_writer.specs.declared.fault.GridsFault.{GridsFault}
use Rattle.grid_writer.specs.declared.fault.GridsFault.TheVariants.{Line, Long, Sizes, After, ReadFault, Memory}
use Rattle.grid_writer.specs.Grids.{GridOf, IsGrid, IsGridText, text_of_grid}
use Rattle.grid_writer.specs.ManyGrids.{BeginsWithGrids, BreaksNext, GridTextsDoNotBreak, HasSize, IsOtherGridText, OneGridsBreak, text_of_grids}
use Rattle.grid_writer.proofs.GridReads.{grid_code, grid_free, grid_whole, grids_cancel}

-- ---- two lists of grids in front of the same bytes

-- what the longer of two lists has after the shorter one
pub record Meets (gs hs : List GridOf) (r s : List ℕ) : Type 0 where
  pub more : List GridOf
  pub count : length hs ≡ length gs + length more
  pub text : r ≡ text_of_grids more ++ s
  pub whole : text_of_grids hs ≡ text_of_grids gs ++ text_of_grids more
  pub fit : All IsGrid more
  pub sizes : (w h : ℕ) → All (HasSize w h) hs → All (HasSize w h) more

split : (g h : GridOf) (gs hs : List GridOf) (r s : List ℕ) → text_of_grids (g ∷ gs) ++ r ≡ text_of_grids (h ∷ hs) ++ s → text_of_grid g ++ (text_of_grids gs ++ r) ≡ text_of_grid h ++ (text_of_grids hs ++ s)
split g h gs hs r s e = sym (append_assoc (text_of_grid g) (text_of_grids gs) r) ∙ e ∙ append_assoc (text_of_grid h) (text_of_grids hs) s

meets : (gs hs : List GridOf) (r s : List ℕ) → All IsGrid gs → All IsGrid hs → text_of_grids gs ++ r ≡ text_of_grids hs ++ s → length gs ≤ length hs → Meets gs hs r s
meets [] hs r s p q e le = record { more = hs; count = omega arith; text = e; whole = refl; fit = q; sizes = λ w h a. a }
meets (g ∷ gs) [] r s p q e le = absurd (omega arith)
meets (g ∷ gs) (h ∷ hs) r s p q e le =
    let same = code_unique IsGridText grid_code (text_of_grid g) (text_of_grids gs ++ r) (text_of_grid h) (text_of_grids hs ++ s) (g, (All-head IsGrid g gs p, refl)) (h, (All-head IsGrid h hs q, refl)) (split g h gs hs r s e) in
    let m = meets gs hs r s (All-tail IsGrid g gs p) (All-tail IsGrid h hs q) same.1 (omega (arith, le)) in
    record {
      more = m.more;
      count = let c = m.count in omega (arith, c);
      text = m.text;
      whole = ap (λ (t : List ℕ). t ++ text_of_grids hs) (sym same.0) ∙ ap (λ (t : List ℕ). text_of_grid g ++ t) m.whole ∙ sym (append_assoc (text_of_grid g) (text_of_grids gs) (text_of_grids m.more));
      fit = m.fit;
      sizes = λ w v a. m.sizes w v (All-tail (HasSize w v) h hs a);
    }

-- two lists that are not empty have grids of one size
sizes_met : (w h v u : ℕ) (gs hs : List GridOf) (r s : List ℕ) → All IsGrid gs → All IsGrid hs → All (HasSize w h) gs → All (HasSize v u) hs → text_of_grids gs ++ r ≡ text_of_grids hs ++ s → 0 < length gs → 0 < length hs → (v ≡ w) × (u ≡ h)
sizes_met w h v u [] hs r s p q a b e l m = absurd (omega arith)
sizes_met w h v u (g ∷ gs) [] r s p q a b e l m = absurd (omega arith)
sizes_met w h v u (g ∷ gs) (k ∷ hs) r s p q a b e l m =
    let same = (grids_cancel g k (text_of_grids gs ++ r) (text_of_grids hs ++ s) (All-head IsGrid g gs p) (All-head IsGrid k hs q) (split g k gs hs r s e)).0 in
    let x = All-head (HasSize w h) g gs a in
    let y = All-head (HasSize v u) k hs b in
    (sym y.0 ∙ sym same.width ∙ x.0, sym y.1 ∙ sym same.height ∙ x.1)

-- ---- what breaks next

-- the front of bytes that begin with a text, as far as they are let out
take_text : (room : ℕ) (t r : List ℕ) → length t ≤ room → t ++ take (room - length t) r ≡ take room (t ++ r)
take_text room t r le =
    let e : length t + (room - length t) ≡ room = omega arith in
    sym (take-append-add t r (room - length t)) ∙ ap (λ (n : ℕ). take n (t ++ r)) e

module _ (room : ℕ) (rest : List ℕ) where
  text_broken : (line : ℕ) (t r : List ℕ) → IsGridText t → rest ≡ t ++ r → HasBrokenLine IsGridText room line rest → ⊥
  text_broken line t r g e b = text_past IsGridText grid_whole grid_free line t r rest g e (stop_of IsGridText room line rest b)

  text_cut : (t r : List ℕ) → IsGridText t → length t ≤ room → rest ≡ t ++ r → IsCutIn IsGridText room rest → ⊥
  text_cut t r g le e (more, (n, d)) = text_not_cut IsGridText grid_whole grid_free n t (take (room - length t) r) (take room rest) g (take_text room t r le ∙ ap (λ (l : List ℕ). take room l) (sym e)) d

  broken_cut : (line : ℕ) → HasBrokenLine IsGridText room line rest → IsCutIn IsGridText room rest → ⊥
  broken_cut line (inl (f, r, (e, (le, b)))) (more, (n, d)) = not_both IsGridText (NeedsMore IsGridText) (begins_if_needs IsGridText) line n f (take (room - length f) r) (take room rest) (take_text room f r le ∙ ap (λ (l : List ℕ). take room l) (sym e)) b d
  broken_cut line (inr (le, b)) (more, d) = omega (arith, le, more)

  other_text : (w h : ℕ) → StandsInFront (IsOtherGridText w h) room rest → (t : List ℕ) × (r : List ℕ) × (IsGridText t × ((length t ≤ room) × (rest ≡ t ++ r)))
  other_text w h (t, r, ((g, (p, (other, e))), (le, parts))) = (t, r, ((g, (p, e)), (le, parts)))

-- a grid of the same size stands there
no_next : (count k w h place room : ℕ) (rest more : List ℕ) (g : GridOf) (fault : GridsFault) → k < count → IsGrid g → (0 < k → HasSize w h g) → rest ≡ text_of_grid g ++ more → length (text_of_grid g) ≤ room → BreaksNext count k w h place room rest fault → ⊥
no_next count k w h place room rest more g (Line grid line) lt p s e le b = text_broken room rest line (text_of_grid g) more (g, (p, refl)) e b.1
no_next count k w h place room rest more g (Long grid) lt p s e le (inl b) = text_cut room rest (text_of_grid g) more (g, (p, refl)) le e b.1
no_next count k w h place room rest more g (Long grid) lt p s e le (inr b) = let same = b.0 in omega (arith, lt, same)
no_next count k w h place room rest more g (Sizes grid) lt p s e le (next, (some, (t, r, ((o, (q, (other, f))), (short, parts))))) =
    let same = (grids_cancel g o more r p q (sym e ∙ parts ∙ ap (λ (l : List ℕ). l ++ r) f)).0 in
    let size = s some in
    other (sym same.width ∙ size.0, sym same.height ∙ size.1)
no_next count k w h place room rest more g (After byte) lt p s e le b = let same = b.0 in omega (arith, lt, same)
no_next count k w h place room rest more g ReadFault lt p s e le b = b
no_next count k w h place room rest more g Memory lt p s e le b = b

next_within : (count k w h place room : ℕ) (rest : List ℕ) (fault : GridsFault) → BreaksNext count k w h place room rest fault → k ≤ count
next_within count k w h place room rest (Line grid line) b = let lt = b.0.0 in omega (arith, lt)
next_within count k w h place room rest (Long grid) (inl b) = let lt = b.0.0 in omega (arith, lt)
next_within count k w h place room rest (Long grid) (inr b) = let e = b.0 in omega (arith, e)
next_within count k w h place room rest (Sizes grid) b = let lt = b.0.0 in omega (arith, lt)
next_within count k w h place room rest (After byte) b = let e = b.0 in omega (arith, e)
next_within count k w h place room rest ReadFault b = absurd b
next_within count k w h place room rest Memory b = absurd b

module _ (count k place room : ℕ) (rest : List ℕ) where
  same_next : (w h v u : ℕ) (fault other : GridsFault) → BreaksNext count k w h place room rest fault → BreaksNext count k v u place room rest other → fault ≡ other
  same_next w h v u ReadFault other b d = absurd b
  same_next w h v u Memory other b d = absurd b
  same_next w h v u fault ReadFault b d = absurd d
  same_next w h v u fault Memory b d = absurd d
  same_next w h v u (Line grid line) (Line grid_2 line_2) b d =
      let e : grid ≡ grid_2 = omega (arith, b.0.1, d.0.1) in
      let f = one_broken_line IsGridText room line line_2 rest b.1 d.1 in
      cc
  same_next w h v u (Line grid line) (Long grid_2) b (inl d) = absurd (broken_cut room rest line b.1 d.1)
  same_next w h v u (Line grid line) (Long grid_2) b (inr d) = absurd (omega (arith, b.0.0, d.0))
  same_next w h v u (Line grid line) (Sizes grid_2) b d = let t = other_text room rest v u d.1.1 in absurd (text_broken room rest line t.0 t.1 t.2.0 t.2.1.1 b.1)
  same_next w h v u (Line grid line) (After byte) b d = absurd (omega (arith, b.0.0, d.0))
  same_next w h v u (Long grid) (Line grid_2 line_2) (inl b) d = absurd (broken_cut room rest line_2 d.1 b.1)
  same_next w h v u (Long grid) (Line grid_2 line_2) (inr b) d = absurd (omega (arith, b.0, d.0.0))
  same_next w h v u (Long grid) (Long grid_2) (inl b) (inl d) = ap (λ (n : ℕ). Long n) (omega (arith, b.0.1, d.0.1))
  same_next w h v u (Long grid) (Long grid_2) (inl b) (inr d) = absurd (omega (arith, b.0.0, d.0))
  same_next w h v u (Long grid) (Long grid_2) (inr b) (inl d) = absurd (omega (arith, b.0, d.0.0))
  same_next w h v u (Long grid) (Long grid_2) (inr b) (inr d) = ap (λ (n : ℕ). Long n) (omega (arith, b.1.0, d.1.0))
  same_next w h v u (Long grid) (Sizes grid_2) (inl b) d = let t = other_text room rest v u d.1.1 in absurd (text_cut room rest t.0 t.1 t.2.0 t.2.1.0 t.2.1.1 b.1)
  same_next w h v u (Long grid) (Sizes grid_2) (inr b) d = absurd (omega (arith, b.0, d.0.0))
  same_next w h v u (Long grid) (After byte) (inl b) d = absurd (omega (arith, b.0.0, d.0))
  same_next w h v u (Long grid) (After byte) (inr b) d = absurd (omega (arith, b.1.1.0, d.1.1.0))
  same_next w h v u (Sizes grid) (Line grid_2 line_2) b d = let t = other_text room rest w h b.1.1 in absurd (text_broken room rest line_2 t.0 t.1 t.2.0 t.2.1.1 d.1)
  same_next w h v u (Sizes grid) (Long grid_2) b (inl d) = let t = other_text room rest w h b.1.1 in absurd (text_cut room rest t.0 t.1 t.2.0 t.2.1.0 t.2.1.1 d.1)
  same_next w h v u (Sizes grid) (Long grid_2) b (inr d) = absurd (omega (arith, b.0.0, d.0))
  same_next w h v u (Sizes grid) (Sizes grid_2) b d = ap (λ (n : ℕ). Sizes n) (omega (arith, b.0.1, d.0.1))
  same_next w h v u (Sizes grid) (After byte) b d = absurd (omega (arith, b.0.0, d.0))
  same_next w h v u (After byte) (Line grid_2 line_2) b d = absurd (omega (arith, b.0, d.0.0))
  same_next w h v u (After byte) (Long grid_2) b (inl d) = absurd (omega (arith, b.0, d.0.0))
  same_next w h v u (After byte) (Long grid_2) b (inr d) = absurd (omega (arith, b.1.1.0, d.1.1.0))
  same_next w h v u (After byte) (Sizes grid_2) b d = absurd (omega (arith, b.0, d.0.0))
  same_next w h v u (After byte) (After byte_2) b d = ap (λ (n : ℕ). After n) (omega (arith, b.1.0, d.1.0))

-- ---- the first break of bytes

module _ (at room : ℕ) (bytes : List ℕ) where
  -- what breaks after the grids that stand in front
  abbrev Then : ℕ → BeginsWithGrids room bytes → GridsFault → Type 0
  Then count b fault = BreaksNext count b.count b.width b.height (at + length (text_of_grids b.grids)) (room - length (text_of_grids b.grids)) b.rest fault

  met : (b d : BeginsWithGrids room bytes) → b.count ≤ d.count → Meets b.grids d.grids b.rest d.rest
  met b d le = meets b.grids d.grids b.rest d.rest b.are.fit d.are.fit (sym b.parts ∙ d.parts) (omega (arith, le, b.are.count, d.are.count))

  -- more grids of one size stand in front than there are before a break
  no_more_grids : (count : ℕ) (fault : GridsFault) (b d : BeginsWithGrids room bytes) → b.count < d.count → d.count ≤ count → Then count b fault → ⊥
  no_more_grids count fault b d lt le p = at_more m.more (let c = m.count in omega (arith, c, lt, b.are.count, d.are.count)) m.text m.whole m.fit (m.sizes d.width d.height d.are.alike)
    where
      m : Meets b.grids d.grids b.rest d.rest
      m = met b d (omega (arith, lt))

      at_more : (more : List GridOf) → 0 < length more → b.rest ≡ text_of_grids more ++ d.rest → text_of_grids d.grids ≡ text_of_grids b.grids ++ text_of_grids more → All IsGrid more → All (HasSize d.width d.height) more → ⊥
      at_more [] some e whole fit sizes = omega arith
      at_more (g ∷ more) some e whole fit sizes =
          let size = All-head (HasSize d.width d.height) g more sizes in
          no_next count b.count b.width b.height (at + length (text_of_grids b.grids)) (room - length (text_of_grids b.grids)) b.rest (text_of_grids more ++ d.rest) g fault (omega (arith, lt, le)) (All-head IsGrid g more fit)
          (λ here. let same = sizes_met b.width b.height d.width d.height b.grids d.grids b.rest d.rest b.are.fit d.are.fit b.are.alike d.are.alike (sym b.parts ∙ d.parts) (omega (arith, here, b.are.count)) (omega (arith, here, lt, d.are.count)) in (size.0 ∙ same.0, size.1 ∙ same.1))
          (e ∙ append_assoc (text_of_grid g) (text_of_grids more) d.rest)
          (let n = ap length whole in omega (arith, n, d.inside, length-append (text_of_grids b.grids) (text_of_grid g ++ text_of_grids more), length-append (text_of_grid g) (text_of_grids more))) p

  -- as many stand in front
  rest_is : (b d : BeginsWithGrids room bytes) → b.count ≡ d.count → (b.rest ≡ d.rest) × (text_of_grids b.grids ≡ text_of_grids d.grids)
  rest_is b d e =
      let m = met b d (omega (arith, e)) in
      let none = no_length m.more (let c = m.count in omega (arith, c, e, b.are.count, d.are.count)) in
      (m.text ∙ ap (λ (l : List GridOf). text_of_grids l ++ d.rest) none, sym (m.whole ∙ ap (λ (l : List GridOf). text_of_grids b.grids ++ text_of_grids l) none ∙ append-nil (text_of_grids b.grids)))

  same_break : (count : ℕ) (fault other : GridsFault) (b d : BeginsWithGrids room bytes) → Then count b fault → Then count d other → fault ≡ other
  same_break count fault other b d p q = elim (cases_order b.count d.count) [
    | inl e ↦
        let same = rest_is b d e in
        let q_2 = subst (λ (k : ℕ). BreaksNext count k d.width d.height (at + length (text_of_grids d.grids)) (room - length (text_of_grids d.grids)) d.rest other) (sym e) q in
        let q_3 = subst (λ (l : List ℕ). BreaksNext count b.count d.width d.height (at + length l) (room - length l) d.rest other) (sym same.1) q_2 in
        let q_4 = subst (λ (l : List ℕ). BreaksNext count b.count d.width d.height (at + length (text_of_grids b.grids)) (room - length (text_of_grids b.grids)) l other) (sym same.0) q_3 in
        same_next count b.count (at + length (text_of_grids b.grids)) (room - length (text_of_grids b.grids)) b.rest b.width b.height d.width d.height fault other p q_4
    | inr (inl lt) ↦ absurd (no_more_grids count fault b d lt (next_within count d.count d.width d.height (at + length (text_of_grids d.grids)) (room - length (text_of_grids d.grids)) d.rest other q) p)
    | inr (inr lt) ↦ absurd (no_more_grids count other d b lt (next_within count b.count b.width b.height (at + length (text_of_grids b.grids)) (room - length (text_of_grids b.grids)) b.rest fault p) q)
  ]

pub one_break : OneGridsBreak
one_break count at room bytes fault other (b, p) (d, q) = same_break at room bytes count fault other b d p q

-- nothing breaks after the last grid at the end of the bytes
no_last : (count w h place room : ℕ) (rest : List ℕ) (fault : GridsFault) → rest ≡ [] → BreaksNext count count w h place room rest fault → ⊥
no_last count w h place room rest (Line grid line) e b = let lt = b.0.0 in omega (arith, lt)
no_last count w h place room rest (Long grid) e (inl b) = let lt = b.0.0 in omega (arith, lt)
no_last count w h place room rest (Long grid) e (inr b) = let n = ap length e in omega (arith, n, b.1.1.1)
no_last count w h place room rest (Sizes grid) e b = let lt = b.0.0 in omega (arith, lt)
no_last count w h place room rest (After byte) e b = let n = ap length e in omega (arith, n, b.1.1.1)
no_last count w h place room rest ReadFault e b = b
no_last count w h place room rest Memory e b = b

pub texts_do_not_break : GridTextsDoNotBreak
texts_do_not_break count at room bytes fault (w, h, grids, (are, e)) le (b, p) = elim (cases_order b.count count) [
  | inl same ↦ no_last count b.width b.height (at + length (text_of_grids b.grids)) (room - length (text_of_grids b.grids)) b.rest fault (rest_is at room bytes b all same).0 (subst (λ (k : ℕ). BreaksNext count k b.width b.height (at + length (text_of_grids b.grids)) (room - length (text_of_grids b.grids)) b.rest fault) same p)
  | inr (inl lt) ↦ no_more_grids at room bytes count fault b all lt (omega arith) p
  | inr (inr lt) ↦ let le = next_within count b.count b.width b.height (at + length (text_of_grids b.grids)) (room - length (text_of_grids b.grids)) b.rest fault p in omega (arith, lt, le)
]
  where
    all : BeginsWithGrids room bytes
    all = record { count = count; width = w; height = h; grids = grids; rest = []; are = are; parts = e ∙ sym (append-nil (text_of_grids grids)); inside = let n = ap length e in omega (arith, n, le) }
