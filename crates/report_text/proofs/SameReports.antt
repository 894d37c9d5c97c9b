-- No two reports have one text.
use Rattle.std.proofs.Common.{◌≡◌, ℕ, zero, suc, ℤ, IsTrue, List, [], ◌∷◌, ◌++◌, slice_get, Option, Some, None, refl, sym, ap, subst, ◌∙◌}
use Rattle.std.specs.Prelude.{codes, is_some}
use Rattle.std.proofs.lemmas.List.{append_cancel_left, append_cancel_right}
use Rattle.raster_model.specs.Limits.{is_tiled_size}
use Rattle.grid_writer.specs.Grid.{grid_text}
use Rattle.grid_writer.specs.Grids.{GridOf}
use Rattle.grid_writer.proofs.GridReads.{grids_cancel}
use Rattle.text_lines.specs.Numbers.{AreLongs, numbers_text}
use Rattle.text_lines.specs.Parsing.{IsWide}
use Rattle.text_lines.proofs.NumberLemmas.{numbers_unique}
use Rattle.text_lines.proofs.SeqLemmas.{code_unique}
use Rattle.report_text.specs.Contents.{IsSurfaceInRange, MayBeInRange}
use Rattle.report_text.specs.Parts.{AreItems, FrontOf, IsSurfaceText, IsTermsText, items_text}
use Rattle.report_text.specs.Reports.{ItemOf, SurfaceOf, is_published}
use Rattle.report_text.specs.Same.{AreSameItems, IsSameItem, IsSameSurface, MayBeSame, ReportTextsAreUnique}
use Rattle.report_text.specs.Terms.{AreTermsIn}
use Rattle.text_parts.specs.Terms.{TermsOf}
use Rattle.report_text.specs.Text.{after_text, all_faces_text, faces_front, flows_line, surface_block_text, terms_text, tiles_in}
use Rattle.text_parts.specs.Text.{ended_line, line_end}
use Rattle.report_text.proofs.EntryLemmas.{costs_unique}
use Rattle.report_text.proofs.ItemForms.{ended_entry, history_one, history_part, surface_code}
use Rattle.report_text.proofs.LineLemmas.{tiles_small}
use Rattle.report_text.proofs.PartForms.{costs_kind, faces_apart, front_one, front_part, surface_is, terms_code, terms_one}
use Rattle.text_parts.proofs.ReadsLemmas.{line_one, line_part, then_apart}
use Rattle.report_text.proofs.ReportForms.{front_of, report_is, tiles_for}

-- lists after a front
after_front : (front : List ℕ) (a b : List ℤ) → AreLongs a → AreLongs b → (front ++ numbers_text a) ++ line_end ≡ (front ++ numbers_text b) ++ line_end → a ≡ b
after_front front a b f g e = numbers_unique a b f g (append_cancel_left front (numbers_text a) (numbers_text b) (append_cancel_right (front ++ numbers_text a) (front ++ numbers_text b) line_end e))

module _ (width height tiles : ℕ) (z : IsTrue (is_tiled_size width height)) (small : IsWide tiles) where
  abbrev grid_by : SurfaceOf → GridOf
  grid_by k = record { width = width; height = height; values = k.values }

  surface_unique : (k l : SurfaceOf) → IsSurfaceInRange width height tiles k → IsSurfaceInRange width height tiles l → surface_block_text width height tiles k ≡ surface_block_text width height tiles l → IsSameSurface width height tiles k l
  surface_unique k l a b e =
      let faces_k : List ℕ = all_faces_text tiles k.faces ++ ended_line flows_line k.flows in
      let faces_l : List ℕ = all_faces_text tiles l.faces ++ ended_line flows_line l.flows in
      let costs = then_apart (line_part costs_kind) (line_one costs_unique) (k.tile_cost, k.seam_cost) (l.tile_cost, l.seam_cost) (grid_text width height k.values ++ faces_k) (grid_text width height l.values ++ faces_l) (a.tile_cost, a.seam_cost) (b.tile_cost, b.seam_cost) (sym (surface_is width height tiles k) ∙ e ∙ surface_is width height tiles l) in
      let grids = grids_cancel (grid_by k) (grid_by l) faces_k faces_l (record { sized = z; fits = a.values }) (record { sized = z; fits = b.values }) costs.1 in
      let faces = faces_apart tiles small k.faces l.faces (ended_line flows_line k.flows) (ended_line flows_line l.flows) a.faces b.faces grids.1 in
      let values = grids.0 in
      record {
        tile_cost = ap (λ (p : ℕ × ℕ). p.0) costs.0;
        seam_cost = ap (λ (p : ℕ × ℕ). p.1) costs.0;
        values = values.values;
        faces = λ t lt. after_front (faces_front t) (k.faces t) (l.faces t) (a.faces t lt) (b.faces t lt) (faces.0 t lt);
        flows = after_front (codes "flows") k.flows l.flows a.flows b.flows faces.1;
      }

  behind_same : (a b : Option SurfaceOf) (r s : List ℕ) → is_some a ≡ is_some b → MayBeInRange width height tiles a → MayBeInRange width height tiles b → after_text width height tiles a ++ r ≡ after_text width height tiles b ++ s → MayBeSame width height tiles a b × (r ≡ s)
  behind_same None None r s same x y e = (tt, e)
  behind_same (Some k) (Some l) r s same x y e =
      let t = code_unique (IsSurfaceText width height tiles) (surface_code width height tiles z small) (surface_block_text width height tiles k) r (surface_block_text width height tiles l) s (k, (x, refl)) (l, (y, refl)) e in
      (surface_unique k l x y t.0, t.1)
  behind_same a b r s same x y e = absurd (cc)

  -- ---- items

  same_first : (i j : ItemOf) (items others : List ItemOf) → IsSameItem width height tiles i j → AreSameItems width height tiles items others → AreSameItems width height tiles (i ∷ items) (j ∷ others)
  same_first i j items others first rest = (ap suc rest.0, each)
    where
      each : (k : ℕ) (m n : ItemOf) → slice_get (i ∷ items) k ≡ Some m → slice_get (j ∷ others) k ≡ Some n → IsSameItem width height tiles m n
      each zero m n p q =
          let e : i ≡ m = cc in
          let f : j ≡ n = cc in
          subst (λ (x : ItemOf). IsSameItem width height tiles x n) e (subst (λ (y : ItemOf). IsSameItem width height tiles i y) f first)
      each (suc k) m n p q = rest.1 k m n p q

  items_same : (items others : List ItemOf) → AreItems width height tiles items → AreItems width height tiles others → items_text width height tiles items ≡ items_text width height tiles others → AreSameItems width height tiles items others
  items_same [] [] a b e = (refl, λ k i j p q. absurd (cc))
  items_same [] (j ∷ others) a b e = (let y = b.0 in let t = then_apart history_part history_one None (Some j.entry) [] _ tt y.entry (e ∙ ended_entry width height tiles j others) in absurd (cc))
  items_same (i ∷ items) [] a b e = (let x = a.0 in let t = then_apart history_part history_one None (Some i.entry) [] _ tt x.entry (sym e ∙ ended_entry width height tiles i items) in absurd (cc))
  items_same (i ∷ items) (j ∷ others) a b e =
      let x = a.0 in
      let y = b.0 in
      let t = then_apart history_part history_one (Some i.entry) (Some j.entry) _ _ x.entry y.entry (sym (ended_entry width height tiles i items) ∙ e ∙ ended_entry width height tiles j others) in
      let entry : i.entry ≡ j.entry = cc in
      let s = behind_same i.surface j.surface (items_text width height tiles items) (items_text width height tiles others) (x.published ∙ ap is_published entry ∙ sym y.published) x.surface y.surface t.1 in
      same_first i j items others (record { entry = entry; surface = s.0 }) (items_same items others a.1 b.1 s.1)

-- ---- reports

-- terms and items behind a version and a frame
abbrev AreBehind : List ℕ → TermsOf → List ItemOf → FrontOf → Type 0
AreBehind rest terms items p = AreTermsIn p.0 terms × (AreItems p.1.0.0 p.1.0.1 (tiles_for p) items × (rest ≡ terms_text p.0 terms ++ items_text p.1.0.0 p.1.0.1 (tiles_for p) items))

pub reports_unique : ReportTextsAreUnique
reports_unique v w a b e =
    let items = items_text v.width v.height (tiles_in v) v.items in
    let rest = terms_text v.version v.terms ++ items in
    let t = then_apart front_part front_one (front_of v) (front_of w) rest (terms_text w.version w.terms ++ items_text w.width w.height (tiles_in w) w.items) (a.versioned, (a.sized, (a.sides, tt))) (b.versioned, (b.sized, (b.sides, tt))) (sym (report_is v) ∙ e ∙ report_is w) in
    let here = subst (AreBehind rest w.terms w.items) (sym t.0) (b.terms, (b.items, t.1)) in
    let s = code_unique (IsTermsText v.version) (terms_code v.version) (terms_text v.version v.terms) items (terms_text v.version w.terms) (items_text v.width v.height (tiles_in v) w.items) (v.terms, (a.terms, refl)) (w.terms, (here.0, refl)) here.1.1 in
    record {
      version = ap (λ (p : FrontOf). p.0) t.0;
      width = ap (λ (p : FrontOf). p.1.0.0) t.0;
      height = ap (λ (p : FrontOf). p.1.0.1) t.0;
      side = ap (λ (p : FrontOf). p.1.1.0) t.0;
      rule = ap (λ (p : FrontOf). p.1.1.1) t.0;
      terms = terms_one v.version v.terms w.terms a.terms here.0 s.0;
      items = items_same v.width v.height (tiles_in v) a.sized (tiles_small v.width v.height v.side a.sized a.sides) v.items w.items a.items here.1.0 s.1;
    }
