-- The parser of a session's planes gives what the relations say: the planes stand in one way or have one first break.
use Rattle.std.proofs.Common.{◌≡◌, ℕ, zero, suc, ◌+◌, ◌-◌, ◌<◌, ◌⊎◌, Bool, true, false, eqb, inl, inr, List, [], ◌∷◌, ◌++◌, length, take, Some, None, Ok, Err, refl, sym, ap, subst, ◌∙◌, arith}
use Rattle.std.specs.Prelude.{IsTrue}
use Rattle.std.proofs.Math.Seq.{take-append-add, take-append_seam}
use Rattle.std.proofs.lemmas.Bool.{and_parts, eqb-true, eq-eqb, cases_Bool, cases_lt}
use Rattle.std.proofs.lemmas.List.{length-append, length-take}
use Rattle.pgm_planes.specs.declared.extent.Extent.{Extent}
use Rattle.pgm_planes.specs.declared.fault.InputFault.{InputFault}
use Rattle.pgm_planes.specs.declared.fault.InputFault.TheVariants as faults
use Rattle.pgm_planes.specs.declared.fault.Role.{Role}
use Rattle.pgm_planes.specs.declared.fault.Role.TheVariants.{Phase, Weight, Mask}
use Rattle.pgm_planes.specs.declared.spelling.Spelling.{Spelling}
use Rattle.pgm_planes.specs.declared.spelling.Spelling.TheVariants.{Raw, Plain}
use Rattle.pgm_planes.specs.Asking.{SoughtAsks}
use Rattle.pgm_planes.specs.Gaps.{is_space, begins}
use Rattle.pgm_planes.specs.Planes.{PlaneOf, IsPlaneEnd, IsSoughtIn, Sought, sought_within}
use Rattle.pgm_planes.specs.Reading.{Reading, asks, sought_at}
use Rattle.pgm_planes.proofs.AskLemmas.{told_asks, asks_told, no_ask_behind}
use Rattle.pgm_planes.proofs.FarLemmas.{plane_far}
use Rattle.pgm_planes.proofs.FarLemmas.{further as plane_further}
use Rattle.pgm_planes.proofs.PlaneAgain.{break_told, plane_told, plane_or_break}
use Rattle.session_script.specs.Parsing.{Parse, Parser, parsed, and_then, chain, peek_parser, as_parse, plane_parser, has_size, where_sized, if_sized, is_begun, later_plane, later_parser, ThreePlanes, three, planes_parser}
use Rattle.session_script.specs.Sessions.{ones_of, HasPlaneSize, is_p, IsLaterSought, ArePlanes, PlaneBreak, LaterBreak, StandsBefore, PlanesBreak}
use Rattle.session_script.proofs.ParseLemmas.{broken, wants, fault_is, further, Far, Regular, needed_or_same, parsed_regular, refusing_regular, chain_regular, peek_regular, Told, Says, Means, parsed_means, chain_means, Then, BreaksThen, AsksThen, restated, found}

-- ---- a plane

-- the reader of a plane asks where its parser needs a byte
plane_asks : (role : Role) (r : Reading PlaneOf) → as_parse role r ≡ wants → r ≡ asks
plane_asks role (Ok x) e = absurd cc
plane_asks role (Err (Some fault)) e = absurd (let q = fault_is {A = PlaneOf} (faults.Plane role fault) faults.TooLong e in cc)
plane_asks role (Err None) e = refl

as_further : (role : Role) (r : Reading PlaneOf) (more : List ℕ) → as_parse role (plane_further r more) ≡ further (as_parse role r) more
as_further role (Ok x) more = refl
as_further role (Err (Some fault)) more = refl
as_further role (Err None) more = refl

plane_parser_far : (sought : Sought) → Far (plane_parser sought)
plane_parser_far sought at bytes more = elim (plane_far more sought at bytes) [
  | inl a ↦ inl (ap (as_parse sought.role) a)
  | inr h ↦ inr (ap (as_parse sought.role) h ∙ as_further sought.role (sought_at sought true at bytes) more)
]

module _ (sought : Sought) where
  in_told : (at : ℕ) (bytes : List ℕ) (p : PlaneOf) (rest : List ℕ) → IsSoughtIn sought bytes p rest → Told (plane_parser sought) at bytes p rest
  in_told at bytes p rest i = (at + length i.0, omega (arith, ap length i.1, length-append i.0 rest), ap (λ (t : List ℕ). as_parse sought.role (sought_at sought false at t)) i.1 ∙ ap (as_parse sought.role) (plane_told sought at i.0 p rest i.2))

  breaks_told : (at : ℕ) (bytes : List ℕ) (fault : InputFault) → PlaneBreak sought at bytes fault → plane_parser sought false at bytes ≡ broken fault
  breaks_told at bytes fault b = ap (as_parse sought.role) (break_told sought at bytes b.0 b.2) ∙ ap broken (sym b.1)

  asks_so : (at : ℕ) (bytes : List ℕ) → plane_parser sought true at bytes ≡ wants → SoughtAsks sought bytes
  asks_so at bytes w = asks_told sought at bytes (plane_asks sought.role (sought_at sought true at bytes) w)

  abbrev SaysPlane : Bool → ℕ → List ℕ → Parse PlaneOf → Type 0
  SaysPlane = Says (IsSoughtIn sought) (PlaneBreak sought) (SoughtAsks sought)

  judged_says : (at : ℕ) (bytes : List ℕ) → SaysPlane false at bytes (plane_parser sought false at bytes)
  judged_says at bytes = elim (plane_or_break sought at bytes) [
    | inl q ↦ let t = in_told at bytes q.0 q.1 q.2 in subst (SaysPlane false at bytes) (sym t.2) (t.1, q.2)
    | inr f ↦ let b : PlaneBreak sought at bytes (faults.Plane sought.role f.0) = (f.0, refl, f.1) in subst (SaysPlane false at bytes) (sym (breaks_told at bytes (faults.Plane sought.role f.0) b)) (λ _. b, λ m. absurd cc)
  ]

  true_says : (at : ℕ) (bytes : List ℕ) (r : Parse PlaneOf) → (r ≡ wants → SoughtAsks sought bytes) → SaysPlane false at bytes r → SaysPlane true at bytes r
  true_says at bytes (Ok x) w s = s
  true_says at bytes (Err e) w s = (λ m. absurd cc, λ _ t. w (ap broken t))

  plane_says : (more : Bool) (at : ℕ) (bytes : List ℕ) → SaysPlane more at bytes (plane_parser sought more at bytes)
  plane_says false at bytes = judged_says at bytes
  plane_says true at bytes = elim (needed_or_same (plane_parser sought) (plane_parser_far sought) at bytes) [
    | inl w ↦ subst (SaysPlane true at bytes) (sym w) (λ m. absurd cc, λ _ _. asks_so at bytes w)
    | inr same ↦ true_says at bytes (plane_parser sought true at bytes) (asks_so at bytes) (subst (SaysPlane false at bytes) same (judged_says at bytes))
  ]

  plane_means : Means (IsSoughtIn sought) (PlaneBreak sought) (SoughtAsks sought) (plane_parser sought)
  plane_means = record { told = in_told; breaks = breaks_told; asks = λ at bytes a. ap (as_parse sought.role) (told_asks sought at bytes a); says = plane_says }

none_less : (rest : List ℕ) (k : ℕ) → rest ≡ [] → take k rest ≡ []
none_less rest zero e = refl
none_less [] (suc k) e = refl
none_less (b ∷ rest) (suc k) e = absurd cc

begins_less : (test : ℕ → Bool) (rest : List ℕ) (k : ℕ) → begins test rest ≡ false → begins test (take k rest) ≡ false
begins_less test rest zero e = refl
begins_less test [] (suc k) e = refl
begins_less test (b ∷ rest) (suc k) e = e

end_less : (spelling : Spelling) (blank rest : List ℕ) (k : ℕ) → IsPlaneEnd spelling blank rest → IsPlaneEnd spelling blank (take k rest)
end_less Raw blank rest k e = e
end_less Plain blank rest k e = (e.0, begins_less is_space rest k e.1, λ n. none_less rest k (e.2 n))

-- a plane with bytes after it asks nothing
module _ (sought : Sought) (p : PlaneOf) (bytes : List ℕ) (a : SoughtAsks sought bytes) where
  none_behind : (rest : List ℕ) → IsSoughtIn sought bytes p rest → length rest ≡ 0
  none_behind [] i = refl
  none_behind (b ∷ rest) i = absurd (no_ask_behind sought bytes p b rest i a)

  needed_behind : (more rest : List ℕ) → IsSoughtIn sought (bytes ++ more) p rest → length more < length rest → ⊥
  needed_behind more rest i lt =
      let k : ℕ = length rest - length more in
      let size : length bytes ≡ length i.0 + k = omega (arith, lt, ap length i.1, length-append bytes more, length-append i.0 rest) in
      let parts : bytes ≡ i.0 ++ take k rest = sym (take-append_seam bytes more) ∙ ap (take (length bytes)) i.1 ∙ ap (λ (n : ℕ). take n (i.0 ++ rest)) size ∙ take-append-add i.0 rest k in
      let t = i.2.1 in
      let none = none_behind (take k rest) (i.0, parts, (i.2.0, record { samples = t.samples; end = t.end; header = t.header; raster = t.raster; ended = end_less i.2.0 t.end rest k t.ended; plane = t.plane })) in
      omega (arith, lt, none, length-take k rest)

pub plane_regular : (sought : Sought) → Regular 0 0 (plane_parser sought)
plane_regular sought = record {
  far = plane_parser_far sought;
  steps = λ at bytes p end rest e. let i = (found (plane_means sought) at bytes p end rest e).1 in omega (arith, ap length i.1, length-append i.0 rest);
  needs = λ at bytes more p end rest w e. elim (cases_lt (length more) (length rest)) [
    | inl lt ↦ absurd (needed_behind sought p bytes (asks_so sought at bytes w) more rest (found (plane_means sought) at (bytes ++ more) p end rest e).1 lt)
    | inr le ↦ omega (arith, le)
  ];
}

-- ---- a later plane

begins_more : (text rest behind : List ℕ) → text ≡ 80 ∷ behind → begins is_p (text ++ rest) ≡ true
begins_more text rest behind e = rw e refl

plane_begins : (sought : Sought) (bytes : List ℕ) (p : PlaneOf) (rest : List ℕ) → IsSoughtIn sought bytes p rest → begins is_p bytes ≡ true
plane_begins sought bytes p rest i = ap (begins is_p) i.1 ∙ begins_more i.0 rest _ i.2.1.header.whole

pub size_told : (p q : PlaneOf) → HasPlaneSize p q → has_size p q ≡ true
size_told p q h = rw (eq-eqb q.width p.width h.0, eq-eqb q.height p.height h.1) refl

size_is : (p q : PlaneOf) → has_size p q ≡ true → HasPlaneSize p q
size_is p q e = let b = and_parts (eqb q.width p.width) (eqb q.height p.height) e in (eqb-true q.width p.width b.0, eqb-true q.height p.height b.1)

pub other_size : (p q : PlaneOf) → (HasPlaneSize p q → ⊥) → has_size p q ≡ false
other_size p q n = elim (cases_Bool (has_size p q)) [ inl t ↦ absurd (n (size_is p q t)) | inr f ↦ f ]

later_begins : (sought : Sought) (phase : PlaneOf) (at : ℕ) (bytes : List ℕ) → later_parser sought phase false at bytes ≡ later_plane sought phase (begins is_p bytes) false at bytes
unfolding chain
later_begins sought phase at [] = refl
later_begins sought phase at (b ∷ bytes) = refl

module _ (sought : Sought) (phase : PlaneOf) where
  later_told : (at : ℕ) (bytes : List ℕ) (p : PlaneOf) (rest : List ℕ) → IsLaterSought sought phase bytes p rest → Told (later_parser sought phase) at bytes p rest
  unfolding chain
  later_told at bytes p rest (inl i) = let t = in_told sought at bytes p rest i.0 in (t.0, t.1, later_begins sought phase at bytes ∙ rw (plane_begins sought bytes p rest i.0, t.2, size_told phase p i.1) refl)
  later_told at bytes p rest (inr n) = (at, omega (arith, ap length n.2), later_begins sought phase at bytes ∙ rw (n.0, n.1, n.2) refl)

  later_breaks : (at : ℕ) (bytes : List ℕ) (fault : InputFault) → LaterBreak sought phase at bytes fault → later_parser sought phase false at bytes ≡ broken fault
  unfolding chain
  later_breaks at bytes fault b = later_begins sought phase at bytes ∙ elim b.1 [
    | inl k ↦ rw (b.0, breaks_told sought at bytes fault k) refl
    | inr k ↦ let t = in_told sought at bytes k.1.0 k.1.1 k.1.2 in rw (b.0, t.2, other_size phase k.1.0 k.1.3, k.0) refl
  ]

  -- the bytes end before it, or it begins and asks
  abbrev pub LaterAsks : List ℕ → Type 0
  LaterAsks bytes = (bytes ≡ []) ⊎ (IsTrue (begins is_p bytes) × SoughtAsks sought bytes)

  later_asks : (at : ℕ) (bytes : List ℕ) → LaterAsks bytes → later_parser sought phase true at bytes ≡ wants
  unfolding chain
  later_asks at [] a = refl
  later_asks at (b ∷ bytes) (inl n) = absurd cc
  later_asks at (b ∷ bytes) (inr a) = rw (a.0, (plane_means sought).asks at (b ∷ bytes) a.1) refl

  abbrev SaysLater : Bool → ℕ → List ℕ → Parse PlaneOf → Type 0
  SaysLater = Says (IsLaterSought sought phase) (LaterBreak sought phase) LaterAsks

  sized_says : (more : Bool) (at : ℕ) (bytes : List ℕ) (p : PlaneOf) (end : ℕ) (rest : List ℕ) → begins is_p bytes ≡ true → end + length rest ≡ at + length bytes → IsSoughtIn sought bytes p rest → (b : Bool) → has_size phase p ≡ b → SaysLater more at bytes (where_sized sought.role p b more end rest)
  sized_says more at bytes p end rest t e i true h = (e, inl (i, size_is phase p h))
  sized_says more at bytes p end rest t e i false h = (λ _. (t, inr (refl, (p, rest, i, λ k. let q = sym h ∙ size_told phase p k in cc))), λ _ l. absurd cc)

  begun_says : (more : Bool) (at : ℕ) (bytes : List ℕ) → begins is_p bytes ≡ true → (r : Parse PlaneOf) → SaysPlane sought more at bytes r → SaysLater more at bytes (and_then r (λ p. if_sized sought.role phase p more))
  begun_says more at bytes t (Ok x) s = sized_says more at bytes x.0 x.1 x.2 t s.0 s.1 (has_size phase x.0) refl
  begun_says more at bytes t (Err e) s = (λ m. (t, inl (s.0 m)), λ m l. inr (t, s.1 m l))

  later_says : (more : Bool) (at : ℕ) (bytes : List ℕ) → SaysLater more at bytes (later_parser sought phase more at bytes)
  unfolding chain
  later_says true at [] = (λ m. absurd cc, λ _ _. inl refl)
  later_says false at [] = (refl, inr (refl, refl, refl))
  later_says more at (b ∷ bytes) = elim (cases_Bool (is_p b)) [
    | inl t ↦ rw t (begun_says more at (b ∷ bytes) t (plane_parser sought more at (b ∷ bytes)) (plane_says sought more at (b ∷ bytes)))
    | inr f ↦ rw f (refl, inr (f, refl, refl))
  ]

  later_means : Means (IsLaterSought sought phase) (LaterBreak sought phase) LaterAsks (later_parser sought phase)
  later_means = record { told = later_told; breaks = later_breaks; asks = later_asks; says = later_says }

  sized_regular : (p : PlaneOf) (b : Bool) → Regular 0 0 (where_sized sought.role p b)
  sized_regular p true = parsed_regular 0 p
  sized_regular p false = refusing_regular 0 0 (λ _. faults.SizesDiffer sought.role) (λ at e. cc)

  behind_regular : (b : Bool) → Regular 0 0 (later_plane sought phase b)
  behind_regular true = chain_regular 0 0 0 0 (plane_parser sought) (if_sized sought.role phase) (omega arith) (plane_regular sought) (λ p. sized_regular p (has_size phase p))
  behind_regular false = parsed_regular 0 (ones_of phase)

  later_regular : Regular 0 0 (later_parser sought phase)
  later_regular = chain_regular 0 0 0 0 peek_parser (λ got. later_plane sought phase (is_begun got)) (omega arith) peek_regular (λ got. behind_regular (is_begun got))

-- ---- all planes

module _ (extent : Extent) where
  abbrev phase_sought : Sought
  phase_sought = sought_within extent Phase

  abbrev weight_sought : Sought
  weight_sought = sought_within extent Weight

  abbrev mask_sought : Sought
  mask_sought = sought_within extent Mask

  abbrev pub behind_weights : PlaneOf → PlaneOf → Parser ThreePlanes
  behind_weights p w = chain (later_parser mask_sought p) (λ m. parsed (three p w m))

  abbrev pub behind_phase : PlaneOf → Parser ThreePlanes
  behind_phase p = chain (later_parser weight_sought p) (behind_weights p)

  pub planes_regular : Regular 0 0 (planes_parser extent)
  planes_regular =
      chain_regular 0 0 0 0 (plane_parser phase_sought) behind_phase (omega arith) (plane_regular phase_sought)
      (λ p. chain_regular 0 0 0 0 (later_parser weight_sought p) (behind_weights p) (omega arith) (later_regular weight_sought p)
      (λ w. chain_regular 0 0 0 0 (later_parser mask_sought p) (λ m. parsed (three p w m)) (omega arith) (later_regular mask_sought p) (λ m. parsed_regular 0 (three p w m))))

  abbrev pub ThreeStand : List ℕ → ThreePlanes → List ℕ → Type 0
  ThreeStand bytes x rest = ArePlanes extent bytes x.phase x.weights x.mask rest

  -- a plane needs a byte: the phase plane, or a later one
  abbrev pub ThreeAsk : List ℕ → Type 0
  ThreeAsk bytes = SoughtAsks phase_sought bytes ⊎ ((role : Role) × (phase : PlaneOf) × (rest : List ℕ) × StandsBefore extent role bytes phase rest × LaterAsks (sought_within extent role) phase rest)

  -- the same, one plane after the other
  abbrev ThreeBreak : ℕ → List ℕ → InputFault → Type 0
  ThreeBreak = BreaksThen (IsSoughtIn phase_sought) (PlaneBreak phase_sought) (λ p. BreaksThen (IsLaterSought weight_sought p) (LaterBreak weight_sought p) (λ w. BreaksThen (IsLaterSought mask_sought p) (LaterBreak mask_sought p) (λ m at bytes e. ⊥)))

  abbrev ThreeWant : List ℕ → Type 0
  ThreeWant = AsksThen (IsSoughtIn phase_sought) (SoughtAsks phase_sought) (λ p. AsksThen (IsLaterSought weight_sought p) (LaterAsks weight_sought p) (λ w. AsksThen (IsLaterSought mask_sought p) (LaterAsks mask_sought p) (λ m bytes. ⊥)))

  stand_so : (bytes : List ℕ) (x : ThreePlanes) (rest : List ℕ) → Then (IsSoughtIn phase_sought) (λ p. Then (IsLaterSought weight_sought p) (λ w. Then (IsLaterSought mask_sought p) (λ m others y end. (y ≡ three p w m) × (end ≡ others)))) bytes x rest → ThreeStand bytes x rest
  stand_so bytes x rest (p, first, i, (w, second, j, (m, third, k, (e, r)))) = rw (e, r) (record { behind_phase = first; behind_weights = second; first = i; second = j; third = k })

  break_so : (at : ℕ) (bytes : List ℕ) (e : InputFault) → ThreeBreak at bytes e → PlanesBreak extent at bytes e
  break_so at bytes e (inl k) = inl k
  break_so at bytes e (inr (p, first, place, is, i, inl k)) = inr (record { role = Weight; phase = p; rest = first; place = place; before = i; place_is = is; broken = k })
  break_so at bytes e (inr (p, first, place, is, i, inr (w, second, later, was, j, inl k))) = inr (record { role = Mask; phase = p; rest = second; place = later; before = (w, first, i, j); place_is = omega (arith, is, was); broken = k })
  break_so at bytes e (inr (p, first, place, is, i, inr (w, second, later, was, j, inr k))) = absurd k.5

  break_at : (at : ℕ) (bytes : List ℕ) (e : InputFault) (role : Role) (phase : PlaneOf) (place : ℕ) (rest : List ℕ) → StandsBefore extent role bytes phase rest → place + length rest ≡ at + length bytes → LaterBreak (sought_within extent role) phase place rest e → ThreeBreak at bytes e
  break_at at bytes e Phase phase place rest s is k = absurd s
  break_at at bytes e Weight phase place rest s is k = inr (phase, rest, place, is, s, inl k)
  break_at at bytes e Mask phase place rest (w, between, i, j) is k = let t = in_told phase_sought at bytes phase between i in inr (phase, between, t.0, t.1, i, inr (w, rest, place, omega (arith, is, t.1), j, inl k))

  break_back : (at : ℕ) (bytes : List ℕ) (e : InputFault) → PlanesBreak extent at bytes e → ThreeBreak at bytes e
  break_back at bytes e (inl k) = inl k
  break_back at bytes e (inr l) = break_at at bytes e l.role l.phase l.place l.rest l.before l.place_is l.broken

  ask_so : (bytes : List ℕ) → ThreeWant bytes → ThreeAsk bytes
  ask_so bytes (inl a) = inl a
  ask_so bytes (inr (p, first, i, inl k)) = inr (Weight, p, first, i, k)
  ask_so bytes (inr (p, first, i, inr (w, second, j, inl k))) = inr (Mask, p, second, (w, first, i, j), k)
  ask_so bytes (inr (p, first, i, inr (w, second, j, inr k))) = absurd k.3

  ask_back : (bytes : List ℕ) → ThreeAsk bytes → ThreeWant bytes
  ask_back bytes (inl a) = inl a
  ask_back bytes (inr (Phase, p, rest, s, k)) = absurd s
  ask_back bytes (inr (Weight, p, rest, s, k)) = inr (p, rest, s, inl k)
  ask_back bytes (inr (Mask, p, rest, (w, between, i, j), k)) = inr (p, between, i, inr (w, rest, j, inl k))

  pub planes_means : Means ThreeStand (PlanesBreak extent) ThreeAsk (planes_parser extent)
  planes_means = restated (planes_parser extent)
      (chain_means (plane_parser phase_sought) behind_phase (plane_parser_far phase_sought) (plane_means phase_sought)
      (λ p. chain_means (later_parser weight_sought p) (behind_weights p) (later_regular weight_sought p).far (later_means weight_sought p)
      (λ w. chain_means (later_parser mask_sought p) (λ m. parsed (three p w m)) (later_regular mask_sought p).far (later_means mask_sought p) (λ m. parsed_means (three p w m)))))
      stand_so
      break_so
      ask_so
      (λ bytes x rest a. (x.phase, a.behind_phase, a.first, (x.weights, a.behind_weights, a.second, (x.mask, rest, a.third, (refl, refl)))))
      break_back
      ask_back
