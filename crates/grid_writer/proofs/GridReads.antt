-- Grids by their texts, and what the first broken line and the text say of the answer of a reader.
use Rattle.std.proofs.Common.{◌≡◌, ℕ, ◌+◌, ◌-◌, ◌<◌, ◌≤◌, List, [], ◌∷◌, ◌++◌, length, Option, Some, None, Result, Ok, Err, inl, inr, refl, sym, ap, subst, ◌∙◌, append_assoc, arith}
use Rattle.std.specs.Prelude.{IfErr, IfOk, IfSome, IsTrue, ℤ}
use Rattle.std.proofs.lemmas.List.{append_cancel_left, append-nil, length-append}
use Rattle.insar_ports.specs.Bytes.{HasMore}
use Rattle.insar_ports.specs.Calls.{Call, Takes}
use Rattle.insar_ports.proofs.CallLemmas.{call, Takes-weaker}
use Rattle.text_lines.specs.declared.fault.LineFault.{LineFault}
use Rattle.text_lines.specs.declared.fault.LineFault.TheVariants as faults
use Rattle.text_lines.specs.Forms.{AreWholeLines, IsText, NeedsMore, lines_in}
use Rattle.text_lines.specs.LineWords.{TakesLines}
use Rattle.text_lines.specs.Reading.{EndsFormIn, HasBrokenLine, HasLineCause}
use Rattle.text_lines.proofs.BreakLemmas.{begins_if_needs, cause_stop, stop_of}
use Rattle.text_lines.proofs.FirstLemmas.{StopsIn, not_both, one_stop, stops_cut, text_past}
use Rattle.text_lines.proofs.FormLemmas.{fronts, whole_append}
use Rattle.text_lines.proofs.SeqLemmas.{IsCode, code_unique}
use Rattle.text_lines.proofs.StepLemmas.{joined, second, texts_are, texts_join}
use Rattle.raster_model.specs.Limits.{is_raster_size}
use Rattle.raster_model.specs.Sums.{Field}
use Rattle.grid_writer.specs.declared.values.Grid.{Grid}
use Rattle.grid_writer.specs.Grid.{columns_line, frame_lines, grid_rows, grid_text, rows_line}
use Rattle.grid_writer.specs.Grids.{AreLong, GridOf, GridTextsAreUnique, IsGrid, IsGridText, IsGridTextOf, IsSameGrid, grid_of, text_of_grid}
use Rattle.grid_writer.specs.Reading.{IsGridRead, IsGridRefusedAt}
use Rattle.grid_writer.proofs.HeadLemmas.{frame_whole, size_whole, sizes_cancel}
use Rattle.grid_writer.proofs.RowsLemmas.{rows_cancel, rows_whole}
use Rattle.grid_writer.proofs.SizeLemmas.{WideSized, sized_parts, wide_parts, wide_sized}

-- ---- what a reader of a grid took

pub grid_read : (w h : ℕ) (values : Field ℤ) (a b : Call) (done here now : ℕ) → TakesLines (IsText (columns_line w ++ rows_line h)) done here a → TakesLines (IsText (frame_lines ++ grid_rows w h values)) here now (second a b) → TakesLines (IsText (grid_text w h values)) done now (joined a b)
grid_read w h values a b done here now taken rest =
    texts_are (joined a b) ((columns_line w ++ rows_line h) ++ (frame_lines ++ grid_rows w h values)) (grid_text w h values) done now (append_assoc (columns_line w) (rows_line h) (frame_lines ++ grid_rows w h values))
    (texts_join a b (columns_line w ++ rows_line h) (frame_lines ++ grid_rows w h values) done here now taken rest)

-- why no grid of any size was read, before any line
pub none_refused : (r : Result Grid LineFault) (done : ℕ) (c : Call) → done ≡ 0 → IfErr r (HasLineCause IsGridText done c) → IfErr r (HasLineCause IsGridText 0 c)
none_refused r done c e h = subst (λ (n : ℕ). IfErr r (HasLineCause IsGridText n c)) e h

-- ---- grids by their texts

split_more : (w h : ℕ) (f v r : List ℕ) → (columns_line w ++ (rows_line h ++ (f ++ v))) ++ r ≡ columns_line w ++ (rows_line h ++ (f ++ (v ++ r)))
split_more w h f v r =
    append_assoc (columns_line w) (rows_line h ++ (f ++ v)) r
    ∙ ap (λ (l : List ℕ). columns_line w ++ l) (append_assoc (rows_line h) (f ++ v) r)
    ∙ ap (λ (l : List ℕ). columns_line w ++ (rows_line h ++ l)) (append_assoc f v r)

pub wide_cancel : (g h : GridOf) (r s : List ℕ) → WideSized g.width g.height → WideSized h.width h.height → AreLong g.width g.height g.values → AreLong h.width h.height h.values → text_of_grid g ++ r ≡ text_of_grid h ++ s → IsSameGrid g h × (r ≡ s)
wide_cancel g h r s p q long others e =
    let same = sizes_cancel g.width g.height h.width h.height (frame_lines ++ (grid_rows g.width g.height g.values ++ r)) (frame_lines ++ (grid_rows h.width h.height h.values ++ s)) p q
    (sym (split_more g.width g.height frame_lines (grid_rows g.width g.height g.values) r) ∙ e ∙ split_more h.width h.height frame_lines (grid_rows h.width h.height h.values) s) in
    let body = append_cancel_left frame_lines (grid_rows g.width g.height g.values ++ r) (grid_rows h.width h.height h.values ++ s) same.rest in
    let here : grid_rows g.width g.height g.values ++ r ≡ grid_rows g.width g.height h.values ++ s =
    body ∙ ap (λ (n : ℕ). grid_rows n h.height h.values ++ s) (sym same.width) ∙ ap (λ (n : ℕ). grid_rows g.width n h.values ++ s) (sym same.height) in
    let w_is = same.width in
    let h_is = same.height in
    let t = rows_cancel g.width g.height g.values h.values r s long (λ x y lx ly. others x y (omega (arith, lx, w_is)) (omega (arith, ly, h_is))) here in
    (record { width = same.width; height = same.height; values = t.0 }, t.1)

pub grids_cancel : (g h : GridOf) (r s : List ℕ) → IsGrid g → IsGrid h → text_of_grid g ++ r ≡ text_of_grid h ++ s → IsSameGrid g h × (r ≡ s)
grids_cancel g h r s p q e = wide_cancel g h r s (wide_sized g.width g.height (sized_parts g.width g.height p.sized)) (wide_sized h.width h.height (sized_parts h.width h.height q.sized)) p.fits q.fits e

pub grids_unique : GridTextsAreUnique
grids_unique g h p q e = (grids_cancel g h [] [] p q (ap (λ (l : List ℕ). l ++ []) e)).0

pub values_whole : (w h : ℕ) (values : Field ℤ) → AreWholeLines (grid_text w h values)
values_whole w h values =
    subst AreWholeLines (append_assoc (columns_line w) (rows_line h) (frame_lines ++ grid_rows w h values))
    (whole_append (columns_line w ++ rows_line h) (frame_lines ++ grid_rows w h values) (size_whole w h) (whole_append frame_lines (grid_rows w h values) frame_whole (rows_whole w h values)))

pub grid_whole : (t : List ℕ) → IsGridText t → AreWholeLines t
grid_whole t (g, (p, e)) = subst AreWholeLines (sym e) (values_whole g.width g.height g.values)

pub grid_free : (t m : List ℕ) → IsGridText t → IsGridText (t ++ m) → m ≡ []
grid_free t m (g, (p, e)) (h, (q, f)) = (grids_cancel g h m [] p q (ap (λ (l : List ℕ). l ++ m) (sym e) ∙ f ∙ sym (append-nil (text_of_grid h)))).1

-- the values of a size that is known
pub known_code : (w h : ℕ) → IsTrue (is_raster_size w h) → IsCode (IsGridTextOf w h)
known_code w h z =
    let p = wide_parts w h z in
    record {
      whole = λ t (v, (long, e)). subst AreWholeLines (sym e) (values_whole w h v);
      free = λ t m (v, (long, e)) (u, (others, f)). (wide_cancel (record { width = w; height = h; values = v }) (record { width = w; height = h; values = u }) m [] p p long others (ap (λ (l : List ℕ). l ++ m) (sym e) ∙ f ∙ sym (append-nil (grid_text w h u)))).1;
    }

pub grid_code : IsCode IsGridText
grid_code = record { whole = grid_whole; free = grid_free }

-- ---- the answer of a reader

not_stopped : (n : ℕ) (t r bytes : List ℕ) → IsGridText t → bytes ≡ t ++ r → StopsIn (NeedsMore IsGridText) IsGridText n bytes → ⊥
not_stopped = text_past IsGridText grid_whole grid_free

-- a shorter front is a front
shorter : (p q r s : List ℕ) → p ++ r ≡ q ++ s → length p ≤ length q → (m : List ℕ) × (p ++ m ≡ q)
shorter p q r s e le = elim (fronts p q r s e) [
  | inl f ↦ (f.0, sym f.1.0)
  | inr f ↦ ([], append-nil p ∙ f.1.0 ∙ ap (λ (l : List ℕ). q ++ l) (none f.0 f.1.0) ∙ append-nil q)
]
  where
    none : (m : List ℕ) → p ≡ q ++ m → m ≡ []
    none [] g = refl
    none (b ∷ m) g = absurd (let n = ap length g in omega (arith, n, le, length-append q (b ∷ m)))

module _ (bytes : List ℕ) (at : ℕ) (left : Option (List ℕ)) (end limit before after : ℕ) where
  abbrev here : Call
  here = call (Some bytes) at left end limit before after

  accepts_ok : (grid : Grid) → Takes here (λ text rest. text ≡ text_of_grid (grid_of grid)) → IsGrid (grid_of grid) → (text rest : List ℕ) → bytes ≡ text ++ rest → IsGridText text → IsGridRead here text rest (Ok grid)
  accepts_ok grid (t, r, (e, (l, (p, s)))) fits text rest f g =
      let same = code_unique IsGridText grid_code t r text rest (grid_of grid, (fits, s)) g (sym e ∙ f) in
      (sym s ∙ same.0, l ∙ ap (λ (b : List ℕ). Some b) same.1)

  pub accepts : (result : Result Grid LineFault) → IfOk result (λ grid. Takes here (λ text rest. text ≡ text_of_grid (grid_of grid))) → IfOk result (λ grid. IsGrid (grid_of grid)) → IfErr result (HasLineCause IsGridText 0 here)
      → (text rest : List ℕ) → bytes ≡ text ++ rest → IsGridText text → length text ≤ limit - at → IsGridRead here text rest result
  accepts (Ok grid) read fits refused text rest f g le = accepts_ok grid read fits text rest f g
  accepts (Err (faults.Line n)) read fits (t, r, (e, (l, (p, (k, (m, d)))))) text rest f g le = not_stopped k text rest bytes g f (cause_stop IsGridText k bytes t r e d)
  accepts (Err faults.TooLong) read fits (full, (more, (t, r, (e, (l, (p, (k, b))))))) text rest f g le =
      let s = shorter text t rest r (sym f ∙ e) (omega (arith, le, full, p)) in
      not_stopped k text s.0 t g (sym s.1) (stops_cut (NeedsMore IsGridText) IsGridText k t b)
  accepts (Err faults.ReadFault) read fits refused text rest f g le = refused
  accepts (Err faults.Memory) read fits refused text rest f g le = tt

  not_cut_off : (n k room : ℕ) (t r : List ℕ) → bytes ≡ t ++ r → room ≤ length t → 0 < length r → EndsFormIn IsGridText k t → HasBrokenLine IsGridText room n bytes → ⊥
  not_cut_off n k room t r e all more b (inl (f, q, (i, (le, d)))) =
      let s = shorter f t q r (sym i ∙ e) (omega (arith, le, all)) in
      not_both IsGridText (NeedsMore IsGridText) (begins_if_needs IsGridText) n k f s.0 t s.1 d b
  not_cut_off n k room t r e all more b (inr (le, d)) = let len = ap length e in omega (arith, len, le, all, more, length-append t r)

  pub refuses : (result : Result Grid LineFault) → IfOk result (λ grid. Takes here (λ text rest. text ≡ text_of_grid (grid_of grid))) → IfOk result (λ grid. IsGrid (grid_of grid)) → IfErr result (HasLineCause IsGridText 0 here)
      → (n : ℕ) → HasBrokenLine IsGridText (limit - at) n bytes → IsGridRefusedAt here n result
  refuses (Ok grid) (t, r, (e, (l, (p, s)))) fits refused n b = not_stopped n t r bytes (grid_of grid, (fits, s)) e (stop_of IsGridText (limit - at) n bytes b)
  refuses (Err (faults.Line m)) read fits (t, r, (e, (l, (p, (k, (f, d)))))) n b =
      let same = one_stop IsGridText (NeedsMore IsGridText) (begins_if_needs IsGridText) k n bytes (cause_stop IsGridText k bytes t r e d) (stop_of IsGridText (limit - at) n bytes b) in
      omega (arith, f, same)
  refuses (Err faults.TooLong) read fits (full, (more, (t, r, (e, (l, (p, (k, d))))))) n b = not_cut_off n k (limit - at) t r e (omega (arith, full, p)) (subst HasMore l more) d b
  refuses (Err faults.ReadFault) read fits refused n b = refused
  refuses (Err faults.Memory) read fits refused n b = tt

-- told or not told
pub accepts_told : (told : Option (List ℕ)) (at : ℕ) (left : Option (List ℕ)) (end limit before after : ℕ) (result : Result Grid LineFault)
    → IfOk result (λ grid. Takes (call told at left end limit before after) (λ text rest. text ≡ text_of_grid (grid_of grid))) → IfOk result (λ grid. IsGrid (grid_of grid)) → IfErr result (HasLineCause IsGridText 0 (call told at left end limit before after))
    → IfSome told (λ bytes. (text rest : List ℕ) → bytes ≡ text ++ rest → IsGridText text → length text ≤ limit - at → IsGridRead (call told at left end limit before after) text rest result)
accepts_told None at left end limit before after result read fits refused = tt
accepts_told (Some bytes) at left end limit before after result read fits refused = accepts bytes at left end limit before after result read fits refused

pub refuses_told : (told : Option (List ℕ)) (at : ℕ) (left : Option (List ℕ)) (end limit before after : ℕ) (result : Result Grid LineFault)
    → IfOk result (λ grid. Takes (call told at left end limit before after) (λ text rest. text ≡ text_of_grid (grid_of grid))) → IfOk result (λ grid. IsGrid (grid_of grid)) → IfErr result (HasLineCause IsGridText 0 (call told at left end limit before after))
    → IfSome told (λ bytes. (n : ℕ) → HasBrokenLine IsGridText (limit - at) n bytes → IsGridRefusedAt (call told at left end limit before after) n result)
refuses_told None at left end limit before after result read fits refused = tt
refuses_told (Some bytes) at left end limit before after result read fits refused = refuses bytes at left end limit before after result read fits refused

pub grid_taken : (r : Result Grid LineFault) (done now : ℕ) (told : Option (List ℕ)) (at : ℕ) (left : Option (List ℕ)) (end limit before after : ℕ)
    → IfOk r (λ grid. TakesLines (IsText (text_of_grid (grid_of grid))) done now (call told at left end limit before after))
    → IfOk r (λ grid. Takes (call told at left end limit before after) (λ text rest. text ≡ text_of_grid (grid_of grid)))
grid_taken (Err fault) done now told at left end limit before after h = tt
grid_taken (Ok grid) done now told at left end limit before after h =
    Takes-weaker told at left end limit before after (λ text rest. IsText (text_of_grid (grid_of grid)) text × (now ≡ done + lines_in text)) (λ text rest. text ≡ text_of_grid (grid_of grid)) (λ text rest a. a.0) h
