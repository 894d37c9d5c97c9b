-- The reader of a plane asks for more bytes where they are judged at their end, and not elsewhere.
use Rattle.std.proofs.Common.{◌≡◌, ℕ, ◌+◌, ◌<◌, true, ◌⊎◌, List, [], ◌∷◌, length, Some, None, Ok, Err, refl, sym, ap, ◌∙◌, arith, inl, inr}
use Rattle.pgm_planes.proofs.Words.{Sought, Plain, PlaneOf, IsSoughtIn, SoughtAsks, Reading, asks, byte_at, octet_at, magic_at, sought_at}
use Rattle.std.proofs.lemmas.List.{append-nil}
use Rattle.pgm_planes.proofs.HeaderLemmas.{done_asks, break_asks}
use Rattle.pgm_planes.proofs.PlaneAgain.{header_tells, above_tells, short_tells, plane_again, plane_or_break, fault_reads, plane_reads}

-- ---- the reader asks there

short_asks : (sought : Sought) (at : ℕ) (bytes : List ℕ) → length bytes < 2 → sought_at sought true at bytes ≡ asks
unfolding sought_at magic_at octet_at byte_at
short_asks sought at [] lt = refl
short_asks sought at (a ∷ []) lt = refl
short_asks sought at (a ∷ b ∷ bytes) lt = absurd (omega arith)

pub told_asks : (sought : Sought) (at : ℕ) (bytes : List ℕ) → SoughtAsks sought bytes → sought_at sought true at bytes ≡ asks
told_asks sought at bytes (inl lt) = short_asks sought at bytes lt
told_asks sought at bytes (inr a) = elim a [
  | inl h ↦ header_tells true sought at bytes [] (at + length bytes) (omega arith) h
  | inr r ↦ elim r [
    | inl s ↦ short_tells true sought at bytes s.0 s.1
    | inr z ↦ elim z [
      | inl x ↦ above_tells true sought at bytes x.index x.value x.sample ∙ rw (x.plain, x.ended) refl
      | inr p ↦ ap (sought_at sought true at) (sym (append-nil bytes)) ∙ plane_again true sought Plain at bytes p.0 [] p.1
    ]
  ]
]

-- ---- and nowhere else

pub asks_told : (sought : Sought) (at : ℕ) (bytes : List ℕ) → sought_at sought true at bytes ≡ asks → SoughtAsks sought bytes
asks_told sought at bytes a = elim (plane_or_break sought at bytes) [
  | inr f ↦ elim (fault_reads true sought at bytes f.0 f.1) [ inl e ↦ absurd (break_asks {A = PlaneOf} f.0 (sym e ∙ a)) | inr k ↦ k.1 ]
  | inl i ↦
      let t = i.2 in
      elim (plane_reads true sought at t.0 i.0 i.1 t.2) [
        | inl e ↦ absurd (done_asks i.0 (at + length t.0) i.1 (sym e ∙ ap (sought_at sought true at) (sym t.1) ∙ a))
        | inr k ↦ rw t.1 k.2
      ]
]

-- ---- the laws

decided : {A : Type 0} (r : Reading A) → (r ≡ asks) ⊎ ((r ≡ asks) → ⊥)
decided (Ok x) = inr (λ e. cc)
decided (Err None) = inl refl
decided (Err (Some fault)) = inr (λ e. cc)

pub ask_or_not : (sought : Sought) (bytes : List ℕ) → SoughtAsks sought bytes ⊎ (SoughtAsks sought bytes → ⊥)
ask_or_not sought bytes = elim (decided (sought_at sought true 0 bytes)) [
  | inl a ↦ inl (asks_told sought 0 bytes a)
  | inr n ↦ inr (λ a. n (told_asks sought 0 bytes a))
]

pub no_ask_behind : (sought : Sought) (bytes : List ℕ) (p : PlaneOf) (b : ℕ) (rest : List ℕ) → IsSoughtIn sought bytes p (b ∷ rest) → SoughtAsks sought bytes → ⊥
no_ask_behind sought bytes p b rest i a = elim (plane_reads true sought 0 i.0 p (b ∷ rest) i.2) [
  | inl e ↦ done_asks p (0 + length i.0) (b ∷ rest) (sym e ∙ ap (sought_at sought true 0) (sym i.1) ∙ told_asks sought 0 bytes a)
  | inr k ↦ absurd (let x = k.1 in cc)
]
