-- No two lines of a report that tell different things have one text.
use Rattle.std.proofs.Common.{◌≡◌, ℕ, ◌+◌, ◌≤◌, List, ◌∷◌, ◌++◌, get_or, drop, decimal, Option, Some, None, inr, refl, sym, ap, ap₂, subst, arith}
use Rattle.std.specs.Prelude.{◌≢◌, codes}
use Rattle.std.specs.List.{AllByRecursion}
use Rattle.std.proofs.lemmas.List.{append_cancel_left}
use Rattle.text_lines.specs.Numbers.{BeginsField}
use Rattle.raster_model.specs.Limits.{IsTileSide}
use Rattle.raster_model.specs.declared.script.Edit.{Edit}
use Rattle.raster_model.specs.declared.script.Edit.TheVariants.{Mask, Unmask}
use Rattle.tile_board.specs.declared.entry.Entry.{Entry}
use Rattle.tile_board.specs.declared.entry.Entry.TheVariants.{Revised, Kept, Published, Settled, Shown}
use Rattle.report_text.specs.Contents.{IsEntryOfWords, MayBeWord}
use Rattle.report_text.specs.Parsing.{AreCosts}
use Rattle.report_text.specs.Parts.{MayStand}
use Rattle.report_text.specs.Terms.{IsVersion}
use Rattle.report_text.specs.Text.{costs_line, entry_text, history_line, revision_text, tile_line, version_line}
use Rattle.text_lines.specs.Parsing.{IsWord}
use Rattle.text_lines.specs.Text.{rect_text, field_text}
use Rattle.text_lines.proofs.FieldLemmas.{IsDigit, decimal_digits, field_unique, last_begins, last_unique, pair_unique, rect_unique, word_wide}
use Rattle.report_text.proofs.LineLemmas.{version_small}
use Rattle.text_parts.proofs.UniqueLemmas.{words_unique}

-- ---- the lines of the head and the costs

pub costs_unique : (p q : ℕ × ℕ) → AreCosts p → AreCosts q → costs_line p ≡ costs_line q → p ≡ q
costs_unique p q a b e = let s = pair_unique p.0 p.1 q.0 q.1 a.0 a.1 b.0 b.1 (append_cancel_left (codes "costs") _ _ e) in ap₂ (λ (m n : ℕ). (m, n)) s.0 s.1

pub side_unique : (m n : ℕ) → IsTileSide m → IsTileSide n → tile_line m ≡ tile_line n → m ≡ n
side_unique m n a b e = last_unique m n (omega (arith, a.1)) (omega (arith, b.1)) (append_cancel_left (codes "tile") (field_text m) (field_text n) e)

pub version_unique : (m n : ℕ) → IsVersion m → IsVersion n → version_line m ≡ version_line n → m ≡ n
version_unique m n a b e =
    let s = version_small m a in
    let t = version_small n b in
    last_unique m n (omega (arith, s)) (omega (arith, t)) (append_cancel_left (codes "insar-report") (field_text m) (field_text n) e)

-- ---- what an entry's words tell

-- a number is no word
no_number : (n : ℕ) → IsWord n → field_text n ≡ codes " none" → ⊥
unfolding field_text
no_number n w e =
    let same : decimal n ≡ codes "none" = ap (λ (t : List ℕ). drop 1 t) e in
    let digits = subst (λ (t : List ℕ). AllByRecursion IsDigit t) same (decimal_digits n (word_wide n w)) in
    let low : 110 ≤ 57 = digits.0.1 in
    omega (arith, low)

pub revision_begins : (o : Option ℕ) → BeginsField (revision_text o)
revision_begins (Some n) = last_begins n
revision_begins None = inr (codes "none", refl)

revision_unique : (o p : Option ℕ) → MayBeWord o → MayBeWord p → revision_text o ≡ revision_text p → o ≡ p
revision_unique (Some m) (Some n) a b e = ap (λ (k : ℕ). Some k) (last_unique m n (word_wide m a) (word_wide n b) e)
revision_unique (Some m) None a b e = absurd (no_number m a e)
revision_unique None (Some n) a b e = absurd (no_number n b (sym e))
revision_unique None None a b e = refl

-- the number of an analyst, and an edit's word with its box
edit_parts : (m n : ℕ) (r s : List ℕ) → IsWord m → IsWord n → codes "revised" ++ (field_text m ++ (32 ∷ r)) ≡ codes "revised" ++ (field_text n ++ (32 ∷ s)) → (m ≡ n) × (32 ∷ r ≡ 32 ∷ s)
edit_parts m n r s a b e =
    field_unique m n (32 ∷ r) (32 ∷ s) (word_wide m a) (word_wide n b) (inr (r, refl)) (inr (s, refl)) (append_cancel_left (codes "revised") (field_text m ++ (32 ∷ r)) (field_text n ++ (32 ∷ s)) e)

abbrev second : List ℕ → ℕ
second text = get_or text 1 0

-- the first two bytes tell the word
abbrev front_sum : List ℕ → ℕ
front_sum text = get_or text 0 0 + get_or text 1 0

revised_front : (n : ℕ) (edit : Edit) → front_sum (entry_text (Revised n edit)) ≡ 215
revised_front n (Mask rect) = refl
revised_front n (Unmask rect) = refl

entry_unique : (d e : Entry) → IsEntryOfWords d → IsEntryOfWords e → entry_text d ≡ entry_text e → d ≡ e
entry_unique (Revised m (Mask q)) (Revised n (Mask r)) v w t =
    let p = edit_parts m n (codes "mask" ++ rect_text q) (codes "mask" ++ rect_text r) v.0 w.0 t in
    rw (p.0, rect_unique q r v.1 w.1 (append_cancel_left (codes " mask") (rect_text q) (rect_text r) p.1)) refl
entry_unique (Revised m (Unmask q)) (Revised n (Unmask r)) v w t =
    let p = edit_parts m n (codes "unmask" ++ rect_text q) (codes "unmask" ++ rect_text r) v.0 w.0 t in
    rw (p.0, rect_unique q r v.1 w.1 (append_cancel_left (codes " unmask") (rect_text q) (rect_text r) p.1)) refl
entry_unique (Revised m (Mask q)) (Revised n (Unmask r)) v w t = absurd (let f = ap second (edit_parts m n (codes "mask" ++ rect_text q) (codes "unmask" ++ rect_text r) v.0 w.0 t).1 in omega (arith, f))
entry_unique (Revised m (Unmask q)) (Revised n (Mask r)) v w t = absurd (let f = ap second (edit_parts m n (codes "unmask" ++ rect_text q) (codes "mask" ++ rect_text r) v.0 w.0 t).1 in omega (arith, f))
entry_unique (Kept m n) (Kept k l) v w t = ap (λ (p : ℕ × ℕ). Kept p.0 p.1) (words_unique (codes "kept") (m, n) (k, l) v w t)
entry_unique (Published m n) (Published k l) v w t = ap (λ (p : ℕ × ℕ). Published p.0 p.1) (words_unique (codes "published") (m, n) (k, l) v w t)
entry_unique (Settled m n) (Settled k l) v w t = ap (λ (p : ℕ × ℕ). Settled p.0 p.1) (words_unique (codes "settled") (m, n) (k, l) v w t)
entry_unique (Shown m o) (Shown n p) v w t =
    let q = field_unique m n (revision_text o) (revision_text p) (word_wide m v.0) (word_wide n w.0) (revision_begins o) (revision_begins p) (append_cancel_left (codes "shown") (field_text m ++ revision_text o) (field_text n ++ revision_text p) t) in
    rw (q.0, revision_unique o p v.1 w.1 q.1) refl
entry_unique (Revised m c) e v w t = absurd (let f : front_sum (entry_text (Revised m c)) ≡ front_sum (entry_text e) = ap front_sum t in omega (arith, f, revised_front m c))
entry_unique d (Revised n c) v w t = absurd (let f : front_sum (entry_text d) ≡ front_sum (entry_text (Revised n c)) = ap front_sum t in omega (arith, f, revised_front n c))
entry_unique d e v w t = absurd (let f : front_sum (entry_text d) ≡ front_sum (entry_text e) = ap front_sum t in omega (arith, f))

-- an entry is not the last line of a report
entry_not_end : (e : Entry) → entry_text e ≢ codes "end"
entry_not_end (Revised analyst edit) t = let f : front_sum (entry_text (Revised analyst edit)) ≡ 211 = ap front_sum t in omega (arith, f, revised_front analyst edit)
entry_not_end e t = let f : front_sum (entry_text e) ≡ 211 = ap front_sum t in omega (arith, f)

pub history_unique : (o p : Option Entry) → MayStand o → MayStand p → history_line o ≡ history_line p → o ≡ p
history_unique (Some d) (Some e) a b t = ap (λ (x : Entry). Some x) (entry_unique d e a b t)
history_unique (Some d) None a b t = absurd (entry_not_end d t)
history_unique None (Some e) a b t = absurd (entry_not_end e (sym t))
history_unique None None a b t = refl
