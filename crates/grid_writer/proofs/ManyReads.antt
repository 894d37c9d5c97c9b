-- What the parts of `read_grids` took, as what it took.
use Rattle.std.specs.Prelude.{⊤}
use Rattle.std.proofs.Common.{◌≡◌, ℕ, ◌+◌, ◌-◌, ◌<◌, ◌≤◌, List, [], ◌∷◌, ◌++◌, length, take, Option, Some, inl, inr, ◌⊎◌, refl, sym, ap, subst, ◌∙◌, arith}
use Rattle.std.specs.Prelude.{All, IfErr, IfOk, IfSome, Result, Ok, Err}
use Rattle.std.specs.Global.{Vec}
use Rattle.std.proofs.lemmas.List.{append-nil, length-append, map-append}
use Rattle.std.proofs.lemmas.List.Elements.{All-cons, All-head, All-nil, All-push, All-tail}
use Rattle.std.proofs.lemmas.Grind.{flat_map-append}
use Rattle.std.proofs.Math.Seq.{take-append_seam}
use Rattle.insar_ports.specs.declared.feed.Buffer.{Ghosts}
use Rattle.insar_ports.specs.declared.feed.Feed.{Feed}
use Rattle.insar_ports.specs.Bytes.{HasMore, IsAtEnd}
use Rattle.insar_ports.specs.Calls.{Call, Moves, Takes}
use Rattle.insar_ports.specs.Feeding.{handed_of, limit_of}
use Rattle.insar_ports.proofs.CallLemmas.{at_told, call, if_told, risen_before}
use Rattle.text_lines.specs.declared.fault.LineFault.{LineFault}
use Rattle.text_lines.specs.declared.fault.LineFault.TheVariants as line_faults
use Rattle.text_lines.specs.Reading.{BreaksFormAt, EndsFormIn, HasBrokenLine, HasLineCause, IsCutIn, room_of}
use Rattle.grid_writer.specs.declared.fault.GridsFault.{GridsFault}
use Rattle.grid_writer.specs.declared.fault.GridsFault.TheVariants.{Line, Long, Sizes, After, ReadFault, Memory}
use Rattle.grid_writer.specs.declared.values.Grid.{Grid}
use Rattle.grid_writer.specs.Grids.{GridOf, IsGrid, IsGridText, grid_of, text_of_grid}
use Rattle.grid_writer.specs.ManyGrids.{AreGridTexts, AreGrids, AreRefusedBy, BeginsWithGrids, BreaksGrids, GridsAreRead, HasGridsCause, HasSize, IsOtherGridText, grids_of, text_of_grids}
use Rattle.grid_writer.proofs.ManyLemmas.{one_break, texts_do_not_break}
use Rattle.grid_writer.specs.ManyParts.{AreAlike, HasEndCause, HasNextGridCause, fault_in}

-- a feed hands out no more than its limit
pub handed_within : {S : Type 0} {size : Ghosts (Vec ℕ)} (feed : Feed S (Vec ℕ) size) → handed_of feed ≤ limit_of feed
handed_within feed = omega (arith, feed.ordered, feed.limited, feed.counted)

-- ---- a list of grids and one more

pub texts_push : (grids : List Grid) (grid : Grid) → text_of_grids (grids_of grids) ++ text_of_grid (grid_of grid) ≡ text_of_grids (grids_of (grids ++ grid ∷ []))
texts_push grids grid =
    sym (ap (λ (l : List GridOf). text_of_grids l) (map-append grid_of grids (grid ∷ [])) ∙ flat_map-append text_of_grid (grids_of grids) (grid_of grid ∷ []) ∙ ap (λ (l : List ℕ). text_of_grids (grids_of grids) ++ l) (append-nil (text_of_grid (grid_of grid))))

pub grids_none : AreGrids 0 0 0 []
grids_none = record { count = refl; fit = All-nil IsGrid; alike = All-nil (HasSize 0 0) }

length_grids : (grids : List Grid) → length (grids_of grids) ≡ length grids
length_grids [] = refl
length_grids (g ∷ grids) = let n = length_grids grids in omega (arith, n)

-- of what is told by grids, to the grids
of_each : (P : GridOf → Type 0) (grids : List Grid) → All P (grids_of grids) → All (λ g. P (grid_of g)) grids
of_each P [] a = All-nil (λ g. P (grid_of g))
of_each P (g ∷ grids) a = All-cons (λ h. P (grid_of h)) g grids (All-head P (grid_of g) (grids_of grids) a) (of_each P grids (All-tail P (grid_of g) (grids_of grids) a))

pub alike_of : (k w h : ℕ) (grids : List Grid) → AreGrids k w h (grids_of grids) → All (λ g. HasSize w h (grid_of g)) grids
alike_of k w h grids a = of_each (HasSize w h) grids a.alike

pub count_of : (k w h : ℕ) (grids : List Grid) → AreGrids k w h (grids_of grids) → length grids ≡ k
count_of k w h grids a = sym (length_grids grids) ∙ a.count

pub grids_push : (k w h : ℕ) (grids : List Grid) (grid : Grid) → AreGrids k w h (grids_of grids) → IsGrid (grid_of grid) → AreAlike grids grid → (v : ℕ) × (u : ℕ) × AreGrids (k + 1) v u (grids_of (grids ++ grid ∷ []))
grids_push k w h [] grid a p alike = (
  grid.width,
  grid.height,
  record {
    count = let n = a.count in omega (arith, n);
    fit = All-push IsGrid [] (grid_of grid) (All-nil IsGrid) p;
    alike = All-push (HasSize grid.width grid.height) [] (grid_of grid) (All-nil (HasSize grid.width grid.height)) (refl, refl);
  },
)
grids_push k w h (g ∷ grids) grid a p alike =
    let size = alike w h (alike_of k w h (g ∷ grids) a) (omega arith) in
    let e = map-append grid_of (g ∷ grids) (grid ∷ []) in (
      w,
      h,
      subst (AreGrids (k + 1) w h) (sym e) (record {
        count = let n = a.count in omega (arith, n, length-append (grids_of (g ∷ grids)) (grid_of grid ∷ []));
        fit = All-push IsGrid (grids_of (g ∷ grids)) (grid_of grid) a.fit p;
        alike = All-push (HasSize w h) (grids_of (g ∷ grids)) (grid_of grid) a.alike size;
      }),
    )

-- ---- why the next grid was not added

pub next_cause : (number : ℕ) (grids : List Grid) (c : Call) (fault : LineFault) → HasLineCause IsGridText 0 c fault → HasNextGridCause number grids c (fault_in number fault)
next_cause number grids c (line_faults.Line n) h = (refl, h)
next_cause number grids c line_faults.TooLong h = (refl, h)
next_cause number grids c line_faults.ReadFault h = h
next_cause number grids c line_faults.Memory h = h

-- ---- the break of all bytes

-- what a call took of these bytes
abbrev TakesFrom : List ℕ → Call → (List ℕ → List ℕ → Type 0) → Type 0
TakesFrom bytes c P = (text : List ℕ) × (rest : List ℕ) × ((bytes ≡ text ++ rest) × ((c.left ≡ Some rest) × ((c.end ≡ c.at + length text) × P text rest)))

taken_at : (c : Call) (P : List ℕ → List ℕ → Type 0) (bytes : List ℕ) → c.told ≡ Some bytes → Takes c P → TakesFrom bytes c P
taken_at c P bytes e t = at_told c.told (λ b. TakesFrom b c P) bytes e t

broken_in : (room n : ℕ) (t r m : List ℕ) → m ≡ t ++ r → length t ≤ room → BreaksFormAt IsGridText n t ⊎ (EndsFormIn IsGridText n t × (r ≡ [])) → HasBrokenLine IsGridText room n m
broken_in room n t r m e le (inl b) = inl (t, r, (e, (le, b)))
broken_in room n t r m e le (inr (b, none)) =
    let same : m ≡ t = e ∙ ap (λ (l : List ℕ). t ++ l) none ∙ append-nil t in
    inr (let l = ap length same in omega (arith, l, le), subst (EndsFormIn IsGridText n) (sym same) b)

cut_in : (room n : ℕ) (t r m : List ℕ) → m ≡ t ++ r → length t ≡ room → 0 < length r → EndsFormIn IsGridText n t → IsCutIn IsGridText room m
cut_in room n t r m e le more b =
    let front : t ≡ take room m = sym (take-append_seam t r) ∙ ap (λ (k : ℕ). take k (t ++ r)) le ∙ ap (λ (l : List ℕ). take room l) (sym e) in
    (let l = ap length e in omega (arith, l, le, more, length-append t r), (n, subst (EndsFormIn IsGridText n) front b))

module _ (count k w h : ℕ) (grids : List GridOf) (are : AreGrids k w h grids) (bytes : List ℕ) (at mid_at limit : ℕ) (m : List ℕ) (parts : bytes ≡ text_of_grids grids ++ m) (place : mid_at ≡ at + length (text_of_grids grids)) (inside : mid_at ≤ limit) where
  begins : BeginsWithGrids (limit - at) bytes
  begins = record { count = k; width = w; height = h; grids = grids; rest = m; are = are; parts = parts; inside = omega arith }

  line_breaks : (number line n : ℕ) (t r : List ℕ) → k < count → number ≡ k + 1 → m ≡ t ++ r → mid_at + length t ≤ limit → line ≡ 0 + n → BreaksFormAt IsGridText n t ⊎ (EndsFormIn IsGridText n t × (r ≡ [])) → BreaksGrids count at (limit - at) bytes (Line number line)
  unfolding begins
  line_breaks number line n t r lt next e le is b = (begins, ((lt, next), broken_in (limit - at - length (text_of_grids grids)) line t r m e (omega arith) (let same : n ≡ line = omega (arith, is) in subst (λ (j : ℕ). BreaksFormAt IsGridText j t ⊎ (EndsFormIn IsGridText j t × (r ≡ []))) same b)))

  long_breaks : (number n : ℕ) (t r : List ℕ) → k < count → number ≡ k + 1 → m ≡ t ++ r → mid_at + length t ≡ limit → 0 < length r → EndsFormIn IsGridText n t → BreaksGrids count at (limit - at) bytes (Long number)
  unfolding begins
  long_breaks number n t r lt next e full more b = (begins, inl ((lt, next), cut_in (limit - at - length (text_of_grids grids)) n t r m e (omega arith) more b))

  size_breaks : (number : ℕ) (t r : List ℕ) → k < count → number ≡ k + 1 → 0 < k → m ≡ t ++ r → mid_at + length t ≤ limit → IsOtherGridText w h t → BreaksGrids count at (limit - at) bytes (Sizes number)
  unfolding begins
  size_breaks number t r lt next some e le other = (begins, ((lt, next), (some, (t, r, (other, (omega arith, e))))))

  end_long : (number : ℕ) → k ≡ count → number ≡ count → mid_at ≡ limit → 0 < length m → BreaksGrids count at (limit - at) bytes (Long number)
  unfolding begins
  end_long number all next full more = (begins, inr (all, (next, (omega arith, more))))

  end_after : (byte : ℕ) → k ≡ count → byte ≡ mid_at → mid_at < limit → 0 < length m → BreaksGrids count at (limit - at) bytes (After byte)
  unfolding begins
  end_after byte all here room more = (begins, (all, (omega (arith, here, place), (omega arith, more))))

has_more : (left : Option (List ℕ)) (r : List ℕ) → left ≡ Some r → HasMore left → 0 < length r
has_more left r e h = at_told left (λ bytes. 0 < length bytes) r e h

abbrev AreTexts : List Grid → List ℕ → List ℕ → Type 0
AreTexts grids text rest = text ≡ text_of_grids (grids_of grids)

module _ (count k w h : ℕ) (grids : List Grid) (are : AreGrids k w h (grids_of grids)) (told : Option (List ℕ)) (at : ℕ) (mid : Option (List ℕ)) (at_mid : ℕ) (left : Option (List ℕ)) (end limit limit_2 before middle after : ℕ) (same : limit_2 ≡ limit) (inside : at_mid ≤ limit) (moves : Moves (call told at mid at_mid limit before middle)) (taken : Takes (call told at mid at_mid limit before middle) (AreTexts grids)) where
  abbrev Whole : Call
  Whole = call told at left end limit before after

  abbrev Front : Call
  Front = call told at mid at_mid limit before middle

  abbrev Next : Call
  Next = call mid at_mid left end limit_2 middle after

  abbrev BreaksIn : GridsFault → List ℕ → Type 0
  BreaksIn fault bytes = BreaksGrids count at (limit - at) bytes fault

  front : (bytes : List ℕ) → told ≡ Some bytes → (m : List ℕ) × ((bytes ≡ text_of_grids (grids_of grids) ++ m) × ((mid ≡ Some m) × (at_mid ≡ at + length (text_of_grids (grids_of grids)))))
  front bytes e =
      let a = taken_at Front (AreTexts grids) bytes e taken in
      (a.1, (a.2.0 ∙ ap (λ (l : List ℕ). l ++ a.1) a.2.1.1.1, (a.2.1.0, a.2.1.1.0 ∙ ap (λ (l : List ℕ). at + length l) a.2.1.1.1)))

  pub next_breaks : (number : ℕ) (fault : GridsFault) → k < count → number ≡ k + 1 → end ≤ limit → HasNextGridCause number grids Next fault → HasGridsCause count Whole fault
  next_breaks number (Line grid line) lt next le (is, cause) = if_told told (BreaksIn (Line grid line)) (λ bytes e.
      let a = front bytes e in
      let b = taken_at Next (λ text rest. (n : ℕ) × ((line ≡ 0 + n) × (BreaksFormAt IsGridText n text ⊎ (EndsFormIn IsGridText n text × (rest ≡ []))))) a.0 a.1.1.0 cause in
      line_breaks count k w h (grids_of grids) are bytes at at_mid limit a.0 a.1.0 a.1.1.1 inside grid line b.2.1.1.1.0 b.0 b.1 lt (is ∙ next) b.2.0 (let p = b.2.1.1.0 in omega (arith, p, le)) b.2.1.1.1.1.0 b.2.1.1.1.1.1)
  next_breaks number (Long grid) lt next le (is, (full, (more, cause))) = if_told told (BreaksIn (Long grid)) (λ bytes e.
      let a = front bytes e in
      let b = taken_at Next (λ text rest. (n : ℕ) × EndsFormIn IsGridText n text) a.0 a.1.1.0 cause in
      long_breaks count k w h (grids_of grids) are bytes at at_mid limit a.0 a.1.0 a.1.1.1 inside grid b.2.1.1.1.0 b.0 b.1 lt (is ∙ next) b.2.0 (let p = b.2.1.1.0 in omega (arith, p, full, same)) (has_more left b.1 b.2.1.0 more) b.2.1.1.1.1)
  next_breaks number (Sizes grid) lt next le (is, (some, cause)) = if_told told (BreaksIn (Sizes grid)) (λ bytes e.
      let a = front bytes e in
      let b = taken_at Next (λ text rest. IsOtherGridText w h text) a.0 a.1.1.0 (cause w h (alike_of k w h grids are)) in
      size_breaks count k w h (grids_of grids) are bytes at at_mid limit a.0 a.1.0 a.1.1.1 inside grid b.0 b.1 lt (is ∙ next) (let n = count_of k w h grids are in omega (arith, n, some)) b.2.0 (let p = b.2.1.1.0 in omega (arith, p, le)) b.2.1.1.1)
  next_breaks number (After byte) lt next le cause = absurd cause
  next_breaks number ReadFault lt next le cause = risen_before before middle after moves.grows cause
  next_breaks number Memory lt next le cause = tt

  pub end_breaks : (last : ℕ) (fault : GridsFault) → k ≡ count → last ≡ count → HasEndCause last Next fault → HasGridsCause count Whole fault
  end_breaks last (Line grid line) all is cause = absurd cause
  end_breaks last (Long grid) all is (number, (full, more)) = if_told told (BreaksIn (Long grid)) (λ bytes e.
      let a = front bytes e in
      end_long count k w h (grids_of grids) are bytes at at_mid limit a.0 a.1.0 a.1.1.1 inside grid all (number ∙ is) (full ∙ same) (has_more mid a.0 a.1.1.0 more))
  end_breaks last (Sizes grid) all is cause = absurd cause
  end_breaks last (After byte) all is (here, (room, more)) = if_told told (BreaksIn (After byte)) (λ bytes e.
      let a = front bytes e in
      end_after count k w h (grids_of grids) are bytes at at_mid limit a.0 a.1.0 a.1.1.1 inside byte all here (omega (arith, room, same)) (has_more mid a.0 a.1.1.0 more))
  end_breaks last ReadFault all is cause = risen_before before middle after moves.grows cause
  end_breaks last Memory all is cause = absurd cause

-- what was taken is all there is
pub takes_all : (told : Option (List ℕ)) (at : ℕ) (mid : Option (List ℕ)) (at_mid : ℕ) (left : Option (List ℕ)) (end limit before middle after : ℕ) (all : List ℕ) → Takes (call told at mid at_mid limit before middle) (λ text rest. text ≡ all) → left ≡ mid → end ≡ at_mid → IsAtEnd mid
    → Takes (call told at left end limit before after) (λ text rest. (text ≡ all) × (rest ≡ []))
takes_all told at mid at_mid left end limit before middle after all taken l h ended = if_told told (λ bytes. TakesFrom bytes (call told at left end limit before after) (λ text rest. (text ≡ all) × (rest ≡ []))) (λ bytes e.
    let a = taken_at (call told at mid at_mid limit before middle) (λ text rest. text ≡ all) bytes e taken in
    (a.0, a.1, (a.2.0, (l ∙ a.2.1.0, (h ∙ a.2.1.1.0, (a.2.1.1.1, at_told mid (λ b. b ≡ []) a.1 a.2.1.0 ended))))))

-- ---- what is read, and what is refused, by the bytes

module _ (count : ℕ) (c : Call) (inside : c.end ≤ c.limit) where
  abbrev Breaks : GridsFault → List ℕ → Type 0
  Breaks fault bytes = BreaksGrids count c.at (room_of c) bytes fault

  pub accepts_grids : (r : Result (Vec Grid) GridsFault) → IfErr r (HasGridsCause count c) → IfSome c.told (λ bytes. AreGridTexts count bytes → length bytes ≤ room_of c → GridsAreRead c r)
  accepts_grids (Ok grids) h = if_told c.told (λ bytes. AreGridTexts count bytes → length bytes ≤ room_of c → ⊤) (λ bytes e t le. tt)
  accepts_grids (Err (Line grid line)) h = if_told c.told (λ bytes. AreGridTexts count bytes → length bytes ≤ room_of c → ⊥) (λ bytes e t le. texts_do_not_break count c.at (room_of c) bytes (Line grid line) t le (at_told c.told (Breaks (Line grid line)) bytes e h))
  accepts_grids (Err (Long grid)) h = if_told c.told (λ bytes. AreGridTexts count bytes → length bytes ≤ room_of c → ⊥) (λ bytes e t le. texts_do_not_break count c.at (room_of c) bytes (Long grid) t le (at_told c.told (Breaks (Long grid)) bytes e h))
  accepts_grids (Err (Sizes grid)) h = if_told c.told (λ bytes. AreGridTexts count bytes → length bytes ≤ room_of c → ⊥) (λ bytes e t le. texts_do_not_break count c.at (room_of c) bytes (Sizes grid) t le (at_told c.told (Breaks (Sizes grid)) bytes e h))
  accepts_grids (Err (After byte)) h = if_told c.told (λ bytes. AreGridTexts count bytes → length bytes ≤ room_of c → ⊥) (λ bytes e t le. texts_do_not_break count c.at (room_of c) bytes (After byte) t le (at_told c.told (Breaks (After byte)) bytes e h))
  accepts_grids (Err ReadFault) h = if_told c.told (λ bytes. AreGridTexts count bytes → length bytes ≤ room_of c → GridsAreRead c (Err ReadFault)) (λ bytes e t le. h)
  accepts_grids (Err Memory) h = if_told c.told (λ bytes. AreGridTexts count bytes → length bytes ≤ room_of c → ⊤) (λ bytes e t le. tt)

  abbrev TakesGrids : Vec Grid → Type 0
  TakesGrids grids = Takes c (λ text rest. (text ≡ text_of_grids (grids_of grids.items)) × (rest ≡ []))

  abbrev AreSized : Vec Grid → Type 0
  AreSized grids = (width height : ℕ) × AreGrids count width height (grids_of grids.items)

  whole_texts : (grids : Vec Grid) → TakesGrids grids → AreSized grids → (bytes : List ℕ) → c.told ≡ Some bytes → AreGridTexts count bytes × (length bytes ≤ room_of c)
  whole_texts grids taken (w, h, are) bytes e =
      let a = taken_at c (λ text rest. (text ≡ text_of_grids (grids_of grids.items)) × (rest ≡ [])) bytes e taken in
      let all : bytes ≡ text_of_grids (grids_of grids.items) = a.2.0 ∙ ap (λ (l : List ℕ). a.0 ++ l) a.2.1.1.1.1 ∙ append-nil a.0 ∙ a.2.1.1.1.0 in
      let place = a.2.1.1.0 in
      let n = ap length all in
      let m = ap length a.2.1.1.1.0 in
      ((w, h, grids_of grids.items, (are, all)), omega (arith, place, n, m, inside))

  pub refuses_grids : (r : Result (Vec Grid) GridsFault) → IfOk r TakesGrids → IfOk r AreSized → IfErr r (HasGridsCause count c) → IfSome c.told (λ bytes. (fault : GridsFault) → BreaksGrids count c.at (room_of c) bytes fault → AreRefusedBy c fault r)
  refuses_grids (Ok grids) taken sized h = if_told c.told (λ bytes. (fault : GridsFault) → BreaksGrids count c.at (room_of c) bytes fault → ⊥) (λ bytes e fault b. let t = whole_texts grids taken sized bytes e in texts_do_not_break count c.at (room_of c) bytes fault t.0 t.1 b)
  refuses_grids (Err (Line grid line)) taken sized h = if_told c.told (λ bytes. (fault : GridsFault) → BreaksGrids count c.at (room_of c) bytes fault → fault ≡ Line grid line) (λ bytes e fault b. one_break count c.at (room_of c) bytes fault (Line grid line) b (at_told c.told (Breaks (Line grid line)) bytes e h))
  refuses_grids (Err (Long grid)) taken sized h = if_told c.told (λ bytes. (fault : GridsFault) → BreaksGrids count c.at (room_of c) bytes fault → fault ≡ Long grid) (λ bytes e fault b. one_break count c.at (room_of c) bytes fault (Long grid) b (at_told c.told (Breaks (Long grid)) bytes e h))
  refuses_grids (Err (Sizes grid)) taken sized h = if_told c.told (λ bytes. (fault : GridsFault) → BreaksGrids count c.at (room_of c) bytes fault → fault ≡ Sizes grid) (λ bytes e fault b. one_break count c.at (room_of c) bytes fault (Sizes grid) b (at_told c.told (Breaks (Sizes grid)) bytes e h))
  refuses_grids (Err (After byte)) taken sized h = if_told c.told (λ bytes. (fault : GridsFault) → BreaksGrids count c.at (room_of c) bytes fault → fault ≡ After byte) (λ bytes e fault b. one_break count c.at (room_of c) bytes fault (After byte) b (at_told c.told (Breaks (After byte)) bytes e h))
  refuses_grids (Err ReadFault) taken sized h = if_told c.told (λ bytes. (fault : GridsFault) → BreaksGrids count c.at (room_of c) bytes fault → AreRefusedBy c fault (Err ReadFault)) (λ bytes e fault b. h)
  refuses_grids (Err Memory) taken sized h = if_told c.told (λ bytes. (fault : GridsFault) → BreaksGrids count c.at (room_of c) bytes fault → ⊤) (λ bytes e fault b. tt)
