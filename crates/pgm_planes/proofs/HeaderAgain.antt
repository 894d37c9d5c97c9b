-- A header that is spelled so is read, and one that breaks breaks there.
use Rattle.std.proofs.Common.{◌≡◌, ℕ, Bool, ◌+◌, ◌≤◌, true, false, List, [], ◌∷◌, ◌++◌, length, refl, sym, ap, ◌∙◌, append_assoc, arith, inl, inr}
use Rattle.pgm_planes.proofs.Words.{Reading, length-append, Sought, Form, is_space, is_digit, is_gap, begins, is_number, capped_number, AreNumbers, breaks, field_at, header_break, unless_broken, header_at}
use Rattle.pgm_planes.proofs.HeaderLemmas.{done, seen, seen_begun, seen_then, seen_behind, space_taken}
use Rattle.pgm_planes.proofs.FieldLemmas.{spaced, gap_spaced, IsStuck, field_again, field_break_again, no_space}
use Rattle.pgm_planes.proofs.NumberLemmas.{numbers_begin, header_record}

-- the first of several numbers is read
field_over : (goes : Bool) (at : ℕ) (bytes : List ℕ) (n : ℕ) (ns more : List ℕ) (a : AreNumbers is_gap bytes (n ∷ ns)) → begins is_digit more ≡ false → field_at goes at (bytes ++ more) ≡ seen goes (a.2 ++ more) (done (n, at + length a.0) (at + length (a.0 ++ a.1)) (a.2 ++ more))
field_over goes at bytes n ns more a d =
    let parts : bytes ++ more ≡ a.0 ++ (a.1 ++ (a.2 ++ more)) = ap (λ (t : List ℕ). t ++ more) a.3 ∙ append_assoc a.0 (a.1 ++ a.2) more ∙ ap (λ (t : List ℕ). a.0 ++ t) (append_assoc a.1 a.2 more) in
    ap (field_at goes at) parts
    ∙ field_again goes at a.0 a.1 (a.2 ++ more) a.4 a.5 (numbers_begin is_gap gap_spaced a.2 ns more a.7 d)
    ∙ ap (λ (k : ℕ). seen goes (a.2 ++ more) (done (k, at + length a.0) (at + length (a.0 ++ a.1)) (a.2 ++ more))) (sym a.6)

-- the last of them is read
field_last : (goes : Bool) (at : ℕ) (bytes : List ℕ) (n : ℕ) (more : List ℕ) (a : AreNumbers is_gap bytes (n ∷ [])) → begins is_digit more ≡ false → field_at goes at (bytes ++ more) ≡ seen goes more (done (n, at + length a.0) (at + length bytes) more)
field_last goes at bytes n more a d =
    let long : at + length (a.0 ++ a.1) ≡ at + length bytes = omega (arith, ap length a.3, length-append a.0 (a.1 ++ a.2), length-append a.1 a.2, length-append a.0 a.1, ap length a.7) in
    field_over goes at bytes n [] more a d ∙ ap (λ (t : List ℕ). seen goes (t ++ more) (done (n, at + length a.0) (at + length (a.0 ++ a.1)) (t ++ more))) a.7 ∙ ap (λ (k : ℕ). seen goes more (done (n, at + length a.0) k more)) long

-- where numbers follow, a byte follows
followed : {A : Type 0} (goes : Bool) (bytes : List ℕ) (n : ℕ) (ns more : List ℕ) (r : Reading A) → AreNumbers is_gap bytes (n ∷ ns) → seen goes (bytes ++ more) r ≡ r
followed goes bytes n ns more r a = seen_begun goes is_space (bytes ++ more) r (rw (a.3, append_assoc a.0 (a.1 ++ a.2) more) (gap_spaced a.0 ((a.1 ++ a.2) ++ more) a.4))

-- where the first of several numbers ends
behind_first : (bytes : List ℕ) (n : ℕ) (ns : List ℕ) (a : AreNumbers is_gap bytes (n ∷ ns)) → length (a.0 ++ a.1) + length a.2 ≡ length bytes
behind_first bytes n ns a = omega (arith, ap length a.3, length-append a.0 (a.1 ++ a.2), length-append a.1 a.2, length-append a.0 a.1)

module _ (goes : Bool) (sought : Sought) (at : ℕ) where
  pub header_again : (sizes : List ℕ) (w h : ℕ) (gap digits : List ℕ) (s : ℕ) (more : List ℕ) → AreNumbers is_gap sizes (w ∷ h ∷ []) → is_gap gap ≡ true → is_number digits ≡ true → is_space s ≡ true
      → header_at sought goes at (sizes ++ (gap ++ (digits ++ (s ∷ more)))) ≡ unless_broken (header_break sought w h (capped_number digits) (at + length (sizes ++ gap))) (done (header_record w h (capped_number digits)) ((at + length (sizes ++ (gap ++ digits))) + 1) more)
  unfolding header_at
  header_again sizes w h gap digits s more a g n k =
      let tail : List ℕ = gap ++ (digits ++ (s ∷ more)) in
      let d : begins is_digit tail ≡ false = spaced tail (gap_spaced gap (digits ++ (s ∷ more)) g) in
      let at_2 : ℕ = at + length (a.0 ++ a.1) in
      let at_3 : ℕ = at_2 + length a.2 in
      let one = field_over goes at sizes w (h ∷ []) tail a d ∙ followed goes a.2 h [] tail _ a.7 in
      let two = field_last goes at_2 a.2 h tail a.7 d ∙ seen_begun goes is_space tail _ (gap_spaced gap (digits ++ (s ∷ more)) g) in
      let three = field_again goes at_3 gap digits (s ∷ more) g n (spaced (s ∷ more) k) in
      let four = space_taken goes (at_3 + length (gap ++ digits)) s more k in
      let place : at_3 + length gap ≡ at + length (sizes ++ gap) = omega (arith, behind_first sizes w (h ∷ []) a, length-append sizes gap) in
      let end : at_3 + length (gap ++ digits) ≡ at + length (sizes ++ (gap ++ digits)) = omega (arith, behind_first sizes w (h ∷ []) a, length-append sizes (gap ++ digits)) in
      rw (one, two, three, four, place, end) refl

-- after a number no digit stands where the form breaks
no_digit_stuck : (k : ℕ) (part rest : List ℕ) → 1 ≤ k → IsStuck k part rest → begins is_digit (part ++ rest) ≡ false
no_digit_stuck k part rest one (inl n) = rw n.none (n.no_digit one)
no_digit_stuck k part rest one (inr (inl n)) = spaced (part ++ rest) (gap_spaced part rest n.gap)
no_digit_stuck k part rest one (inr (inr n)) = rw (n.parts, append_assoc n.gap (35 ∷ n.comment) rest) (spaced (n.gap ++ (35 ∷ (n.comment ++ rest))) (gap_spaced n.gap (35 ∷ (n.comment ++ rest)) n.is))

-- after three numbers nothing but the white space is missing
all_numbers : (k : ℕ) (part rest : List ℕ) → 3 ≤ k → IsStuck k part rest → (part ≡ []) × (begins is_space rest ≡ false) × (k ≡ 3)
all_numbers k part rest three (inl n) = (n.none, n.no_space, (let le = n.header in omega arith))
all_numbers k part rest three (inr (inl n)) = absurd (let lt = n.header in omega arith)
all_numbers k part rest three (inr (inr n)) = absurd (let lt = n.header in omega arith)

module _ (goes : Bool) (sought : Sought) (at : ℕ) where
  pub header_breaks_again : (numbers values part rest : List ℕ) → AreNumbers is_gap numbers values → IsStuck (length values) part rest → header_at sought goes at (numbers ++ (part ++ rest)) ≡ seen goes rest (breaks (Form (at + length (numbers ++ part))))
  unfolding header_at
  header_breaks_again numbers [] part rest a s = rw a (rw (field_break_again goes 0 at part rest s) (seen_then goes rest (breaks (Form (at + length part))) _))
  header_breaks_again numbers (v ∷ []) part rest a s =
      let d = no_digit_stuck 1 part rest (omega arith) s in
      let one = field_last goes at numbers v (part ++ rest) a d in
      let two = field_break_again goes 1 (at + length numbers) part rest s in
      let place : (at + length numbers) + length part ≡ at + length (numbers ++ part) = omega (arith, length-append numbers part) in
      rw one (seen_behind goes part rest (done (v, at + length a.0) (at + length numbers) (part ++ rest)) _ (breaks (Form (at + length (numbers ++ part)))) (rw (two, place) (seen_then goes rest (breaks (Form (at + length (numbers ++ part)))) _)))
  header_breaks_again numbers (v ∷ w ∷ []) part rest a s =
      let d = no_digit_stuck 2 part rest (omega arith) s in
      let at_2 : ℕ = at + length (a.0 ++ a.1) in
      let one = field_over goes at numbers v (w ∷ []) (part ++ rest) a d ∙ followed goes a.2 w [] (part ++ rest) _ a.7 in
      let two = field_last goes at_2 a.2 w (part ++ rest) a.7 d in
      let three = field_break_again goes 2 (at_2 + length a.2) part rest s in
      let place : (at_2 + length a.2) + length part ≡ at + length (numbers ++ part) = omega (arith, behind_first numbers v (w ∷ []) a, length-append numbers part) in
      rw (one, two) (seen_behind goes part rest (done (w, at_2 + length a.7.0) (at_2 + length a.2) (part ++ rest)) _ (breaks (Form (at + length (numbers ++ part)))) (rw (three, place) (seen_then goes rest (breaks (Form (at + length (numbers ++ part)))) _)))
  header_breaks_again numbers (v ∷ w ∷ x ∷ []) part rest a s =
      let d = no_digit_stuck 3 part rest (omega arith) s in
      let l = all_numbers 3 part rest (omega arith) s in
      let b = a.7 in
      let at_2 : ℕ = at + length (a.0 ++ a.1) in
      let at_3 : ℕ = at_2 + length (b.0 ++ b.1) in
      let one = field_over goes at numbers v (w ∷ x ∷ []) (part ++ rest) a d ∙ followed goes a.2 w (x ∷ []) (part ++ rest) _ b in
      let two = field_over goes at_2 a.2 w (x ∷ []) (part ++ rest) b d ∙ followed goes b.2 x [] (part ++ rest) _ b.7 in
      let three = field_last goes at_3 b.2 x (part ++ rest) b.7 d in
      let same : part ++ rest ≡ rest = ap (λ (t : List ℕ). t ++ rest) l.0 in
      let four = no_space goes (at_3 + length b.2) rest l.1 in
      let place : at_3 + length b.2 ≡ at + length (numbers ++ part)
      = omega (arith, behind_first numbers v (w ∷ x ∷ []) a, behind_first a.2 w (x ∷ []) b, length-append numbers part, ap length l.0) in
      rw (one, two, three) (seen_behind goes part rest (done (x, at_3 + length b.7.0) (at_3 + length b.2) (part ++ rest)) _ (breaks (Form (at + length (numbers ++ part)))) (rw (same, four, place) (seen_then goes rest (breaks (Form (at + length (numbers ++ part)))) _)))
  header_breaks_again numbers (v ∷ w ∷ x ∷ y ∷ values) part rest a s =
      absurd (let l = all_numbers (length (v ∷ w ∷ x ∷ y ∷ values)) part rest (omega arith) s in omega (arith, l.2))
