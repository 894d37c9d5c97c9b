-- Sizes and first places of trees after so many labels.
use Rattle.std.proofs.Common.{◌≡◌, ◌≢◌, ℕ, ◌+◌, ◌<◌, ◌≤◌, inl, inr, sym, ◌∙◌, ap, refl, arith, true, false, List, length, take, length-set}
use Rattle.std.specs.Prelude.{◌==◌, replicate, slice_index, slice_set}
use Rattle.std.specs.List.{count_by, position_or_len}
use Rattle.std.proofs.lemmas.Bool.{cases_eq, cases_lt}
use Rattle.std.proofs.lemmas.Bool.Decides.{nat_tests}
use Rattle.std.proofs.lemmas.List.{get_or-set_same, get_or-set_other, get_or-replicate, get_or_past, length-replicate}
use Rattle.std.proofs.lemmas.List.Sums.{count_by_more_no, count_by_more_yes, fails_before_first, passes_at_first}
use Rattle.sums_and_lists.proofs.Orders.{below_or_last, below_at_above}

-- a place has the label, and no earlier one
pub record IsFirstOf (labels : List ℕ) (n i : ℕ) : Type 0 where
  pub here : slice_index labels i ≡ n
  pub earlier : (j : ℕ) → j < i → slice_index labels j ≡ n → ⊥

-- what the first k labels say of sizes and first places
pub record AreMeasured (labels : List ℕ) (k : ℕ) (sizes firsts : List ℕ) : Type 0 where
  pub counts : (n : ℕ) → n < length sizes → slice_index sizes n ≡ count_by (λ label. label == n) (take k labels)
  pub small : (n : ℕ) → slice_index sizes n ≤ k
  pub none : (n : ℕ) → n < length sizes → slice_index sizes n ≡ 0 → (j : ℕ) → j < k → slice_index labels j ≡ n → ⊥
  pub places : (n : ℕ) → n < length sizes → 1 ≤ slice_index sizes n → (slice_index firsts n < k) × IsFirstOf labels n (slice_index firsts n)

is_label : (a n : ℕ) → a ≡ n → (a == n) ≡ true
is_label a n e = grind (arith, nat_tests)

no_label_of : (a n : ℕ) → (a ≡ n → ⊥) → (a == n) ≡ false
no_label_of a n h = grind (arith, nat_tests)

module _ (labels : List ℕ) (k : ℕ) (inside : k < length labels) where
  counts_more : (n : ℕ) → slice_index labels k ≡ n → count_by (λ label. label == n) (take (k + 1) labels) ≡ count_by (λ label. label == n) (take k labels) + 1
  counts_more n e = count_by_more_yes (λ label. label == n) labels k 0 inside (is_label (slice_index labels k) n e)

  counts_same : (n : ℕ) → (slice_index labels k ≡ n → ⊥) → count_by (λ label. label == n) (take (k + 1) labels) ≡ count_by (λ label. label == n) (take k labels)
  counts_same n h = count_by_more_no (λ label. label == n) labels k 0 inside (no_label_of (slice_index labels k) n h)

  module _ (sizes firsts : List ℕ) (is : AreMeasured labels k sizes firsts) where
    pub measured_beyond : length sizes ≤ slice_index labels k → AreMeasured labels (k + 1) sizes firsts
    measured_beyond b = record {
      counts = λ n l. is.counts n l ∙ sym (counts_same n (λ e. absurd (omega (arith, b, e, l))));
      small = λ n. omega (arith, is.small n);
      none = λ n l z j m e. elim (below_or_last j k m) [
        | inl p ↦ is.none n l z j p e
        | inr p ↦ absurd (let f = rw p at e in omega (arith, b, f, l))
      ];
      places = λ n l m. let f = is.places n l m in (omega (arith, f.0), f.1);
    }

    pub measured_on : (v : ℕ) → slice_index labels k ≡ v → v < length sizes → (new : List ℕ) → (slice_index sizes v ≡ 0 → new ≡ slice_set firsts v k) → (1 ≤ slice_index sizes v → new ≡ firsts) → length firsts ≡ length sizes → AreMeasured labels (k + 1) (slice_set sizes v (slice_index sizes v + 1)) new
    measured_on v at_k fits new begun later beside = record {
      counts = λ n l. elim (cases_eq n v) [
        | inl e ↦ rw (e, same) (ap (λ (i : ℕ). i + 1) (is.counts v fits) ∙ sym (counts_more v at_k))
        | inr d ↦ rw (other n d) (is.counts n (shorter n l) ∙ sym (counts_same n (λ e. d (sym e ∙ at_k))))
      ];
      small = λ n. elim (cases_eq n v) [
        | inl e ↦ rw (e, same) (omega (arith, is.small v))
        | inr d ↦ rw (other n d) (omega (arith, is.small n))
      ];
      none = λ n l z j m e. elim (cases_eq n v) [
        | inl f ↦ absurd (let g = rw (f, same) at z in omega (arith, g))
        | inr d ↦ elim (below_or_last j k m) [
          | inl p ↦ is.none n (shorter n l) (rw (other n d) at z) j p e
          | inr p ↦ absurd (d (sym e ∙ (rw p at_k)))
        ]
      ];
      places = λ n l m. elim (cases_eq n v) [
        | inl f ↦ rw f first
        | inr d ↦ (
            let g = is.places n (shorter n l) (rw (other n d) at m) in
            rw (kept n d) (omega (arith, g.0), g.1))
      ];
    }
      where
        same : slice_index (slice_set sizes v (slice_index sizes v + 1)) v ≡ slice_index sizes v + 1
        same = get_or-set_same sizes v (slice_index sizes v + 1) 0 fits

        other : (n : ℕ) → n ≢ v → slice_index (slice_set sizes v (slice_index sizes v + 1)) n ≡ slice_index sizes n
        other n d = get_or-set_other sizes v n (slice_index sizes v + 1) 0 d

        shorter : (n : ℕ) → n < length (slice_set sizes v (slice_index sizes v + 1)) → n < length sizes
        shorter n l = omega (arith, l, length-set sizes v (slice_index sizes v + 1))

        kept : (n : ℕ) → n ≢ v → slice_index new n ≡ slice_index firsts n
        kept n d = elim (below_at_above (slice_index sizes v) 0) [
          | inl l ↦ absurd (omega (arith, l))
          | inr t ↦ elim t [
            | inl z ↦ rw (begun z) (get_or-set_other firsts v n k 0 d)
            | inr l ↦ rw (later (omega (arith, l))) refl
          ]
        ]

        first : (slice_index new v < k + 1) × IsFirstOf labels v (slice_index new v)
        first = elim (below_at_above (slice_index sizes v) 0) [
          | inl l ↦ absurd (omega (arith, l))
          | inr t ↦ elim t [
            | inl z ↦ rw (begun z, get_or-set_same firsts v k 0 (omega (arith, fits, beside))) (omega arith, record { here = at_k; earlier = λ j m e. is.none v fits z j m e })
            | inr l ↦ (let f = is.places v fits (omega (arith, l)) in rw (later (omega (arith, l))) (omega (arith, f.0), f.1))
          ]
        ]

-- a first place is where a search for the label ends
pub first_is : (labels : List ℕ) (n i : ℕ) → i < length labels → IsFirstOf labels n i → i ≡ position_or_len (λ label. label == n) labels
first_is labels n i l is = elim (below_at_above (position_or_len (λ label. label == n) labels) i) [
  | inl m ↦ absurd (
      let p = position_or_len (λ label. label == n) labels in
      let t = passes_at_first (λ label. label == n) labels 0 (omega (arith, m, l)) in
      is.earlier p m (told (slice_index labels p) n t))
  | inr t ↦ elim t [
    | inl e ↦ sym e
    | inr m ↦ absurd (
        let f = fails_before_first (λ label. label == n) labels i 0 m in
        let g = is_label (slice_index labels i) n is.here in
        cc)
  ]
]
  where
    told : (a b : ℕ) → (a == b) ≡ true → a ≡ b
    told a b t = grind (arith, nat_tests)

-- before the first label
pub zeros : (xs : List ℕ) (n : ℕ) → xs ≡ replicate n 0 → (v : ℕ) → slice_index xs v ≡ 0
zeros xs n e v = elim (cases_lt v n) [ inl l ↦ rw e (get_or-replicate n v 0 0 l) | inr l ↦ rw e (get_or_past (replicate n 0) v 0 (rw length-replicate l)) ]
