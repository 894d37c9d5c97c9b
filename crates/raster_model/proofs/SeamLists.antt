-- The places of seam edges are those in the list of edges.
use Rattle.std.proofs.Common.{◌≡◌, ℕ, zero, suc, ◌+◌, ◌-◌, ◌<◌, sym, ◌∙◌, ap, refl, arith, Bool, true, false, List, [], ◌∷◌, ◌++◌, append_assoc, append-nil, length, length-append}
use Rattle.std.specs.Prelude.{IsTrue, nat_lt, ◌&&◌, if◌then◌else◌, filter, slice_get, Some}
use Rattle.std.proofs.lemmas.List.Elements.{filter-append}
use Rattle.std.proofs.lemmas.Bool.Decides.{nat_tests}
use Rattle.raster_model.specs.declared.edge.Edge.{Edge}
use Rattle.raster_model.specs.Sums.{right_edge, down_edge}
use Rattle.raster_model.specs.Raster.{Raster, is_seam}
use Rattle.raster_model.specs.Flows.{is_seam_edge, seams_from, seams_in_row, seams_before, seam_count, seam_place}
use Rattle.raster_model.specs.EdgeList.{edges_at, edges_in_row, edges_in_rows}
use Rattle.raster_model.specs.Order.{seam_list, FlowsFollowEdgeOrder}
use Rattle.raster_model.proofs.FlowLemmas.{place-right, place-down}
use Rattle.sums_and_lists.specs.Sums.{one_if, count_below}
use Rattle.sums_and_lists.proofs.CountLemmas.{count_below-none}

-- an element between two lists
between : {A : Type 0} (xs : List A) (a : A) (ys : List A) (n : ℕ) → n ≡ length xs → slice_get (xs ++ (a ∷ ys)) n ≡ Some a
between [] a ys n e = rw e refl
between (x ∷ xs) a ys zero e = absurd (omega arith)
between (x ∷ xs) a ys (suc n) e = between xs a ys n (omega arith)

picks_one : (p : Edge → Bool) (e : Edge) (ys : List Edge) → p e ≡ true → filter p (e ∷ ys) ≡ e ∷ filter p ys
picks_one p e ys t = rw t refl

-- what a test picks of one edge, if it stands there at all
length-picked : (p : Edge → Bool) (t : Bool) (e : Edge) → (t ≡ false → p e ≡ false) → length (filter p (if t then e ∷ [] else [])) ≡ one_if (p e)
length-picked p false e h = rw (h refl) refl
length-picked p true e h = go (p e) refl
  where
    go : (b : Bool) → p e ≡ b → length (filter p (e ∷ [])) ≡ one_if (p e)
    go true t = rw t refl
    go false t = rw t refl

-- ---- the list before a pixel, the edges at it, and the rest
row_from : (w h y n d : ℕ) → (ys : List Edge) × (edges_in_row w h y (n + d) ≡ edges_in_row w h y n ++ ys)
unfolding edges_in_row
row_from w h y n zero = let e : n + 0 ≡ n = omega arith in ([], rw e (sym (append-nil (edges_in_row w h y n))))
row_from w h y n (suc d) =
    let e : n + suc d ≡ suc (n + d) = omega arith in
    let t = row_from w h y n d in
    (t.0 ++ edges_at w h (n + d) y, rw e (ap (λ (es : List Edge). es ++ edges_at w h (n + d) y) t.1 ∙ append_assoc (edges_in_row w h y n) t.0 (edges_at w h (n + d) y)))

rows_from : (w h n d : ℕ) → (ys : List Edge) × (edges_in_rows w h (n + d) ≡ edges_in_rows w h n ++ ys)
unfolding edges_in_rows
rows_from w h n zero = let e : n + 0 ≡ n = omega arith in ([], rw e (sym (append-nil (edges_in_rows w h n))))
rows_from w h n (suc d) =
    let e : n + suc d ≡ suc (n + d) = omega arith in
    let t = rows_from w h n d in
    (t.0 ++ edges_in_row w h (n + d) w, rw e (ap (λ (es : List Edge). es ++ edges_in_row w h (n + d) w) t.1 ∙ append_assoc (edges_in_rows w h n) t.0 (edges_in_row w h (n + d) w)))

row_at : (w h y x : ℕ) → x < w → (ys : List Edge) × (edges_in_row w h y w ≡ edges_in_row w h y x ++ (edges_at w h x y ++ ys))
unfolding edges_in_row
row_at w h y x l =
    let e : suc x + (w - suc x) ≡ w = omega arith in
    let t = row_from w h y (suc x) (w - suc x) in
    (t.0, ap (edges_in_row w h y) (sym e) ∙ t.1 ∙ append_assoc (edges_in_row w h y x) (edges_at w h x y) t.0)

rows_at : (w h y : ℕ) → y < h → (zs : List Edge) × (edges_in_rows w h h ≡ edges_in_rows w h y ++ (edges_in_row w h y w ++ zs))
unfolding edges_in_rows
rows_at w h y l =
    let e : suc y + (h - suc y) ≡ h = omega arith in
    let t = rows_from w h (suc y) (h - suc y) in
    (t.0, ap (edges_in_rows w h) (sym e) ∙ t.1 ∙ append_assoc (edges_in_rows w h y) (edges_in_row w h y w) t.0)

off_right : (a b c d s : Bool) → c ≡ false → (((a && b) && (c && d)) && s) ≡ false
off_right a b c d s e = grind arith

off_down : (a b c d s : Bool) → d ≡ false → (((a && b) && (c && d)) && s) ≡ false
off_down a b c d s e = grind arith

right_tells : (w h x y : ℕ) (s : Bool) → IsTrue (((nat_lt x w && nat_lt y h) && (nat_lt (x + 1) w && nat_lt y h)) && s) → (x < w) × (y < h) × (nat_lt (x + 1) w ≡ true)
right_tells w h x y s t = (grind (arith, nat_tests), grind (arith, nat_tests), grind (arith, nat_tests))

down_tells : (w h x y : ℕ) (s : Bool) → IsTrue (((nat_lt x w && nat_lt y h) && (nat_lt x w && nat_lt (y + 1) h)) && s) → (x < w) × (y < h) × (nat_lt (y + 1) h ≡ true)
down_tells w h x y s t = (grind (arith, nat_tests), grind (arith, nat_tests), grind (arith, nat_tests))

module _ (r : Raster) where
  seams_of : List Edge → List Edge
  seams_of es = filter (is_seam_edge r) es

  rights : ℕ → ℕ → List Edge
  rights x y = if nat_lt (x + 1) r.width then right_edge x y ∷ [] else []

  downs : ℕ → ℕ → List Edge
  downs x y = if nat_lt (y + 1) r.height then down_edge x y ∷ [] else []

  length-rights : (x y : ℕ) → length (seams_of (rights x y)) ≡ one_if (is_seam_edge r (right_edge x y))
  unfolding seams_of rights
  length-rights x y = length-picked (is_seam_edge r) (nat_lt (x + 1) r.width) (right_edge x y) (λ e. off_right (nat_lt x r.width) (nat_lt y r.height) (nat_lt (x + 1) r.width) (nat_lt y r.height) (is_seam r (right_edge x y)) e)

  length-downs : (x y : ℕ) → length (seams_of (downs x y)) ≡ one_if (is_seam_edge r (down_edge x y))
  unfolding seams_of downs
  length-downs x y = length-picked (is_seam_edge r) (nat_lt (y + 1) r.height) (down_edge x y) (λ e. off_down (nat_lt x r.width) (nat_lt y r.height) (nat_lt x r.width) (nat_lt (y + 1) r.height) (is_seam r (down_edge x y)) e)

  seams_of-append : (es fs : List Edge) → seams_of (es ++ fs) ≡ seams_of es ++ seams_of fs
  unfolding seams_of
  seams_of-append es fs = filter-append (is_seam_edge r) es fs

  seams_of-at : (x y : ℕ) → seams_of (edges_at r.width r.height x y) ≡ seams_of (rights x y) ++ seams_of (downs x y)
  unfolding rights downs
  seams_of-at x y = seams_of-append (rights x y) (downs x y)

  length-at : (x y : ℕ) → length (seams_of (edges_at r.width r.height x y)) ≡ seams_from r x y
  length-at x y = ap (λ (es : List Edge). length es) (seams_of-at x y) ∙ omega (arith, length-append (seams_of (rights x y)) (seams_of (downs x y)), length-rights x y, length-downs x y)

  length-row : (y x : ℕ) → length (seams_of (edges_in_row r.width r.height y x)) ≡ seams_in_row r x y
  unfolding seams_of edges_in_row count_below
  length-row y zero = refl
  length-row y (suc x) =
      ap (λ (es : List Edge). length es) (seams_of-append (edges_in_row r.width r.height y x) (edges_at r.width r.height x y))
      ∙ omega (arith, length-append (seams_of (edges_in_row r.width r.height y x)) (seams_of (edges_at r.width r.height x y)), length-row y x, length-at x y)

  length-rows : (y : ℕ) → length (seams_of (edges_in_rows r.width r.height y)) ≡ count_below y (seams_in_row r r.width)
  unfolding seams_of edges_in_rows count_below
  length-rows zero = refl
  length-rows (suc y) =
      ap (λ (es : List Edge). length es) (seams_of-append (edges_in_rows r.width r.height y) (edges_in_row r.width r.height y r.width))
      ∙ omega (arith, length-append (seams_of (edges_in_rows r.width r.height y)) (seams_of (edges_in_row r.width r.height y r.width)), length-rows y, length-row y r.width)

  -- the seam edges before a pixel, those at it, and the rest
  first : ℕ → ℕ → List Edge
  first x y = seams_of (edges_in_rows r.width r.height y) ++ seams_of (edges_in_row r.width r.height y x)

  length-first : (x y : ℕ) → length (first x y) ≡ seams_before r x y
  unfolding first
  length-first x y = omega (arith, length-append (seams_of (edges_in_rows r.width r.height y)) (seams_of (edges_in_row r.width r.height y x)), length-rows y, length-row y x)

  parts : (x y : ℕ) → x < r.width → y < r.height → (zs : List Edge) × (seam_list r ≡ first x y ++ (seams_of (rights x y) ++ (seams_of (downs x y) ++ zs)))
  unfolding first seams_of
  parts x y l m =
      let a = rows_at r.width r.height y m in
      let b = row_at r.width r.height y x l in
      let A = edges_in_rows r.width r.height y in
      let B = edges_in_row r.width r.height y x in
      let C = edges_at r.width r.height x y in (
        seams_of b.0 ++ seams_of a.0,
        ap seams_of a.1
            ∙ seams_of-append A (edges_in_row r.width r.height y r.width ++ a.0)
            ∙ ap (λ (es : List Edge). seams_of A ++ es) (seams_of-append (edges_in_row r.width r.height y r.width) a.0
            ∙ ap (λ (es : List Edge). seams_of es ++ seams_of a.0) b.1
            ∙ ap (λ (es : List Edge). es ++ seams_of a.0) (seams_of-append B (C ++ b.0) ∙ ap (λ (es : List Edge). seams_of B ++ es) (seams_of-append C b.0 ∙ ap (λ (es : List Edge). es ++ seams_of b.0) (seams_of-at x y))))
            ∙ regroup (seams_of A) (seams_of B) (seams_of (rights x y)) (seams_of (downs x y)) (seams_of b.0) (seams_of a.0),
      )
    where
      regroup : (u v p q s t : List Edge) → u ++ ((v ++ ((p ++ q) ++ s)) ++ t) ≡ (u ++ v) ++ (p ++ (q ++ (s ++ t)))
      regroup u v p q s t = simp append_assoc

  one_right : (x y : ℕ) → nat_lt (x + 1) r.width ≡ true → is_seam_edge r (right_edge x y) ≡ true → seams_of (rights x y) ≡ right_edge x y ∷ []
  unfolding seams_of rights
  one_right x y t i = rw t (picks_one (is_seam_edge r) (right_edge x y) [] i)

  right_listed : (x y : ℕ) → IsTrue (is_seam_edge r (right_edge x y)) → slice_get (seam_list r) (seam_place r (right_edge x y)) ≡ Some (right_edge x y)
  right_listed x y i =
      let t = right_tells r.width r.height x y (is_seam r (right_edge x y)) i in
      let p = parts x y t.0 t.1 in
      let one : seams_of (rights x y) ≡ right_edge x y ∷ [] = one_right x y t.2 i in
      rw (p.1, one) (between (first x y) (right_edge x y) (seams_of (downs x y) ++ p.0) (seam_place r (right_edge x y)) (place-right r x y ∙ sym (length-first x y)))

  one_down : (x y : ℕ) → nat_lt (y + 1) r.height ≡ true → is_seam_edge r (down_edge x y) ≡ true → seams_of (downs x y) ≡ down_edge x y ∷ []
  unfolding seams_of downs
  one_down x y t i = rw t (picks_one (is_seam_edge r) (down_edge x y) [] i)

  down_listed : (x y : ℕ) → IsTrue (is_seam_edge r (down_edge x y)) → slice_get (seam_list r) (seam_place r (down_edge x y)) ≡ Some (down_edge x y)
  down_listed x y i =
      let t = down_tells r.width r.height x y (is_seam r (down_edge x y)) i in
      let p = parts x y t.0 t.1 in
      let one : seams_of (downs x y) ≡ down_edge x y ∷ [] = one_down x y t.2 i in
      let place : seam_place r (down_edge x y) ≡ length (first x y ++ seams_of (rights x y)) =
      place-down r x y ∙ omega (arith, length-append (first x y) (seams_of (rights x y)), length-first x y, length-rights x y) in
      rw (p.1, one, ← append_assoc (first x y) (seams_of (rights x y)) ((down_edge x y ∷ []) ++ p.0)) (between (first x y ++ seams_of (rights x y)) (down_edge x y) p.0 (seam_place r (down_edge x y)) place)

  counted : length (seam_list r) ≡ seam_count r
  unfolding seam_count seams_of
  counted = omega (arith, length-rows r.height, count_below-none (λ i. seams_from r i r.height))

pub flows_follow_edge_order : FlowsFollowEdgeOrder
flows_follow_edge_order r = (counted r, λ e. go e.x e.y e.down)
  where
    go : (x y : ℕ) (d : Bool) → IsTrue (is_seam_edge r (record { x = x; y = y; down = d })) → slice_get (seam_list r) (seam_place r (record { x = x; y = y; down = d })) ≡ Some (record { x = x; y = y; down = d })
    go x y false i = right_listed r x y i
    go x y true i = down_listed r x y i
