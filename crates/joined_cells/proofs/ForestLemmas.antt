-- One parent of a forest changed.
use Rattle.std.proofs.Common.{◌≡◌, ◌≢◌, ℕ, ◌<◌, ◌≤◌, ◌⊎◌, inl, inr, sym, ◌∙◌, ap, refl, arith, min, max, List, length, length-set}
use Rattle.std.specs.Prelude.{◌==◌, if◌then◌else◌, slice_index, slice_set}
use Rattle.std.proofs.lemmas.Bool.{cases_eq}
use Rattle.std.proofs.lemmas.Bool.Decides.{nat_tests}
use Rattle.std.proofs.lemmas.List.{get_or-set_same, get_or-set_other}
use Rattle.joined_cells.specs.Forest.{IsForest, root_with}

-- what a forest asks of a number i with the parent p
abbrev Leads : (ℕ → ℕ) → ℕ → ℕ → Type 0
Leads root i p = (p ≤ i) × (root p ≡ root i) × (p ≡ i → root i ≡ i)

from_each : (ps : List ℕ) (root : ℕ → ℕ) → ((i : ℕ) → i < length ps → Leads root i (slice_index ps i)) → IsForest ps root
from_each ps root h = record {
  below = λ i l. (h i l).0;
  leads = λ i l. (h i l).1;
  ends = λ i l. (h i l).2;
}

set_one : (ps : List ℕ) (root : ℕ → ℕ) (k p : ℕ) → k < length ps → Leads root k p → ((i : ℕ) → i < length ps → i ≢ k → Leads root i (slice_index ps i)) → IsForest (slice_set ps k p) root
set_one ps root k p l here others =
    from_each (slice_set ps k p) root (λ i m. elim (cases_eq i k) [
      | inl e ↦ rw (e, get_or-set_same ps k p 0 l) here
      | inr n ↦ rw (get_or-set_other ps k i p 0 n) (others i (omega (arith, m, length-set ps k p)) n)
    ])

-- a number's parent's parent is no greater and has its root
pub above : (ps : List ℕ) (root : ℕ → ℕ) (k : ℕ) → k < length ps → IsForest ps root → (slice_index ps (slice_index ps k) ≤ k) × (root (slice_index ps (slice_index ps k)) ≡ root k)
above ps root k l is =
    let b : slice_index ps k ≤ k = is.below k l in
    let m : slice_index ps k < length ps = omega arith in
    let c : slice_index ps (slice_index ps k) ≤ slice_index ps k = is.below (slice_index ps k) m in
    (omega arith, is.leads (slice_index ps k) m ∙ is.leads k l)

-- it becomes its parent
pub halved : (ps : List ℕ) (root : ℕ → ℕ) (k : ℕ) → k < length ps → IsForest ps root → IsForest (slice_set ps k (slice_index ps (slice_index ps k))) root
halved ps root k l is =
    let a = above ps root k l is in
    let b : slice_index ps k ≤ k = is.below k l in
    let c : slice_index ps (slice_index ps k) ≤ slice_index ps k = is.below (slice_index ps k) (omega arith) in
    set_one ps root k (slice_index ps (slice_index ps k)) l
    (a.0, a.1, λ e. is.ends k l (omega arith))
    (λ i j n. (is.below i j, is.leads i j, is.ends i j))

-- the same root for the ends of a pair
pub root_with-ends : (root : ℕ → ℕ) (a b : ℕ) → root_with root a b a ≡ root_with root a b b
root_with-ends root a b = ends (root a) (root b)
  where
    ends : (u v : ℕ) → (if u == max u v then min u v else u) ≡ (if v == max u v then min u v else v)
    ends u v = grind (arith, nat_tests)

pub root_with-same : (root : ℕ → ℕ) (a b i j : ℕ) → root i ≡ root j → root_with root a b i ≡ root_with root a b j
root_with-same root a b i j e = ap (λ (n : ℕ). if n == max (root a) (root b) then min (root a) (root b) else n) e

-- what a number's new root is
choice : (r h l : ℕ) → ((r ≡ h) × ((if r == h then l else r) ≡ l)) ⊎ ((r ≢ h) × ((if r == h then l else r) ≡ r))
choice r h l = grind (arith, nat_tests)

new_high : (u v h l r : ℕ) → h ≡ max u v → l ≡ min u v → r ≡ h → (if r == max u v then min u v else r) ≡ l
new_high u v h l r e f g = grind (arith, nat_tests)

new_low : (u v l r : ℕ) → l ≡ min u v → r ≡ l → (if r == max u v then min u v else r) ≡ l
new_low u v l r f g = grind (arith, nat_tests)

sides : (u v : ℕ) → ((max u v ≡ u) × (min u v ≡ v)) ⊎ ((max u v ≡ v) × (min u v ≡ u))
sides u v = grind arith

stay_max : (root : ℕ → ℕ) (u v : ℕ) → root u ≡ u → root v ≡ v → root (max u v) ≡ max u v
stay_max root u v p q = elim (sides u v) [ inl e ↦ rw e.0 p | inr e ↦ rw e.0 q ]

stay_min : (root : ℕ → ℕ) (u v : ℕ) → root u ≡ u → root v ≡ v → root (min u v) ≡ min u v
stay_min root u v p q = elim (sides u v) [ inl e ↦ rw e.1 q | inr e ↦ rw e.1 p ]

-- the greater of two roots gets the lesser for its parent
pub joined : (ps : List ℕ) (root : ℕ → ℕ) (a b one other : ℕ) → one < length ps → other < length ps → one ≡ root a → other ≡ root b → root one ≡ one → root other ≡ other → IsForest ps root → IsForest (slice_set ps (max one other) (min one other)) (root_with root a b)
joined ps root a b one other l m ea eb ra rb is =
    let h = max one other in
    let eh : h ≡ max (root a) (root b) = omega (arith, ea, eb) in
    let el : min one other ≡ min (root a) (root b) = omega (arith, ea, eb) in
    let high : root_with root a b h ≡ min one other = new_high (root a) (root b) h (min one other) (root h) eh el (stay_max root one other ra rb) in
    let low : root_with root a b (min one other) ≡ min one other = new_low (root a) (root b) (min one other) (root (min one other)) el (stay_min root one other ra rb) in
    set_one ps (root_with root a b) h (min one other) (omega arith)
    (omega arith, low ∙ sym high, λ e. high ∙ e)
    (λ i j n. (
      is.below i j,
      root_with-same root a b (slice_index ps i) i (is.leads i j),
      λ e. (
          let r = is.ends i j e in
          elim (choice (root i) (max (root a) (root b)) (min (root a) (root b))) [
            | inl t ↦ absurd (n (sym r ∙ t.0 ∙ sym eh))
            | inr t ↦ t.1 ∙ r
          ]),
    ))

-- numbers with one root are in one tree already
same_root : (u v r : ℕ) → u ≡ v → (if r == max u v then min u v else r) ≡ r
same_root u v r e = grind (arith, nat_tests)

pub joined_already : (ps : List ℕ) (root : ℕ → ℕ) (a b : ℕ) → root a ≡ root b → IsForest ps root → IsForest ps (root_with root a b)
joined_already ps root a b e is = record {
  below = is.below;
  leads = λ i l. root_with-same root a b (slice_index ps i) i (is.leads i l);
  ends = λ i l f. same_root (root a) (root b) (root i) e ∙ is.ends i l f;
}

-- a root beyond the roots of two trees stays one
pub root_with-beyond : (root : ℕ → ℕ) (a b i : ℕ) → root a < i → root b < i → root i ≡ i → root_with root a b i ≡ i
root_with-beyond root a b i l m e = elim (choice (root i) (max (root a) (root b)) (min (root a) (root b))) [
  | inl t ↦ absurd (omega (arith, t.0, e, l, m))
  | inr t ↦ t.1 ∙ e
]

-- a number that is alone gets the parent of an earlier one
pub hung : (ps : List ℕ) (root : ℕ → ℕ) (a k : ℕ) → a < k → k < length ps → root k ≡ k → root a < k → IsForest ps root → IsForest (slice_set ps k (slice_index ps a)) (root_with root a k)
hung ps root a k l inside own less is =
    let b : slice_index ps a ≤ a = is.below a (omega arith) in
    set_one ps (root_with root a k) k (slice_index ps a) inside
    (omega arith, root_with-same root a k (slice_index ps a) a (is.leads a (omega arith)) ∙ root_with-ends root a k, λ e. absurd (omega (arith, b, e, l)))
    (λ i j n. (
      is.below i j,
      root_with-same root a k (slice_index ps i) i (is.leads i j),
      λ e. (
          let r = is.ends i j e in
          elim (choice (root i) (max (root a) (root k)) (min (root a) (root k))) [
            | inl t ↦ absurd (n (omega (arith, t.0, r, own, less)))
            | inr t ↦ t.1 ∙ r
          ]),
    ))

-- ---- what roots keep when two trees become one
with_least : (u v r i : ℕ) → r ≤ i → (if r == max u v then min u v else r) ≤ i
with_least u v r i l = grind (arith, nat_tests)

pub root_with-least : (root : ℕ → ℕ) (a b : ℕ) → ((i : ℕ) → root i ≤ i) → (i : ℕ) → root_with root a b i ≤ i
root_with-least root a b least i = with_least (root a) (root b) (root i) i (least i)

pub root_with-stays : (root : ℕ → ℕ) (a b : ℕ) → ((i : ℕ) → root (root i) ≡ root i) → (i : ℕ) → root_with root a b (root_with root a b i) ≡ root_with root a b i
root_with-stays root a b stays i =
    elim (choice (root i) (max (root a) (root b)) (min (root a) (root b))) [
      | inl t ↦ rw (t.1, low) refl
      | inr t ↦ rw t.1 (root_with-same root a b (root i) i (stays i) ∙ t.1)
    ]
  where
    low : root_with root a b (min (root a) (root b)) ≡ min (root a) (root b)
    low = new_low (root a) (root b) (min (root a) (root b)) (root (min (root a) (root b))) refl (stay_min root (root a) (root b) (stays a) (stays b))

module _ (R : ℕ → ℕ → Type 0) (R_sym : (i j : ℕ) → R i j → R j i) (R_trans : (i j k : ℕ) → R i j → R j k → R i k) where
  -- each number is related to its root
  pub root_with-related : (root : ℕ → ℕ) (a b : ℕ) → ((i : ℕ) → R i (root i)) → R a b → (i : ℕ) → R i (root_with root a b i)
  root_with-related root a b walks ab i =
      elim (choice (root i) (max (root a) (root b)) (min (root a) (root b))) [
        | inl t ↦ rw t.1 (R_trans i (root i) (min (root a) (root b)) (walks i) (rw t.0 to_low))
        | inr t ↦ rw t.1 (walks i)
      ]
    where
      roots : R (root a) (root b)
      roots = R_trans (root a) a (root b) (R_sym a (root a) (walks a)) (R_trans a b (root b) ab (walks b))

      to_low : R (max (root a) (root b)) (min (root a) (root b))
      to_low = elim (sides (root a) (root b)) [
        | inl e ↦ rw (e.0, e.1) roots
        | inr e ↦ rw (e.0, e.1) (R_sym (root a) (root b) roots)
      ]
