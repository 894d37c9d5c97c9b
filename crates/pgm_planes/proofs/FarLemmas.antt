-- What is read of bytes after which more come is read of all of them too, where none was asked for.
use Rattle.std.proofs.Common.{◌≡◌, ℕ, zero, suc, ◌+◌, ◌*◌, ◌-◌, Bool, true, false, ◌⊎◌, List, [], ◌∷◌, ◌++◌, Option, Some, None, Ok, Err, refl, ap, inl, inr, ltb, if◌then◌else◌}
use Rattle.pgm_planes.proofs.Words.{scan_at, Sought, PlaneFault, Magic, Form, Short, Spelling, Raw, Plain, SampleForm, Narrow, Wide, Digits, is_space, is_digit, Reading, Reader, ◌⟫◌, ◌▸◌, pure, here, asks, nothing, SampleAbove, on_step, filling_end, end_or, sight_at, byte_at, octet_at, fails, or_fails, spelling_of, magic_at, space_at, numeral_at, field_at, HeaderOf, header_break, unless_broken, header_at, judged_at, form_of, spelled_sample_at, samples_at, end_at, end_of, raster_at, sought_at}
use Rattle.std.proofs.lemmas.List.{append-nil}
use Rattle.pgm_planes.proofs.HeaderLemmas.{done}

-- a reading with other bytes after those that are left
abbrev pub further : {A : Type 0} → Reading A → List ℕ → Reading A
further (Ok x) others = Ok (x.0, x.1, x.2 ++ others)
further (Err e) others = Err e

pub further_none : {A : Type 0} (r : Reading A) → further r [] ≡ r
further_none (Ok x) = ap (λ (t : List ℕ). done x.0 x.1 t) (append-nil x.2)
further_none (Err e) = refl

-- the one reading asks for more, or the other is the same with these bytes after
abbrev pub Holds : {A : Type 0} → List ℕ → Reading A → Reading A → Type 0
Holds others r q = (r ≡ asks) ⊎ (q ≡ further r others)

bind_far : {A B : Type 0} (h : List ℕ) (r q : Reading A) (f g : A → ℕ → List ℕ → Reading B) → Holds h r q → ((x : A) (at : ℕ) (rest : List ℕ) → Holds h (f x at rest) (g x at (rest ++ h))) → Holds h (r ⟫ f) (q ⟫ g)
bind_far h (Ok x) q f g (inl e) k = absurd cc
bind_far h (Ok x) q f g (inr e) k = rw e (k x.0 x.1 x.2)
bind_far h (Err None) q f g s k = inl refl
bind_far h (Err (Some fault)) q f g (inl e) k = absurd cc
bind_far h (Err (Some fault)) q f g (inr e) k = inr (rw e refl)

-- what a reader reads, where it asks for nothing more, it reads of those bytes with others after too
record Far {A : Type 0} (p : Reader A) : Type 0 where
  far : (h : List ℕ) (at : ℕ) (bytes : List ℕ) → Holds h (p true at bytes) (p false at (bytes ++ h))

far_then : {A B : Type 0} {p : Reader A} {f : A → Reader B} → Far p → ((x : A) → Far (f x)) → Far (p ▸ f)
far_then {p = p} {f = f} a b = record { far = λ h at bytes. bind_far h (p true at bytes) (p false at (bytes ++ h)) (λ x. f x true) (λ x. f x false) (a.far h at bytes) (λ x. (b x).far h) }

far_pure : {A : Type 0} (x : A) → Far (pure x)
far_pure x = record { far = λ h at bytes. inr refl }

far_if : {A : Type 0} {p q : Reader A} (c : Bool) → Far p → Far q → Far (if c then p else q)
far_if true a b = a
far_if false a b = b

far_fails : {A : Type 0} (fault : PlaneFault) → Far (fails {A = A} fault)
far_fails fault = record { far = λ h at bytes. inr refl }

far_or : {A : Type 0} (fault : PlaneFault) (o : Option A) → Far (or_fails fault o)
far_or fault None = far_fails fault
far_or fault (Some x) = far_pure x

far_unless : (o : Option PlaneFault) (x : HeaderOf) → Far (λ more at rest. unless_broken o (done x at rest))
far_unless None x = far_pure x
far_unless (Some fault) x = far_fails fault

far_here : Far here
far_here = record { far = λ h at bytes. inr refl }

module _ (h : List ℕ) where
  byte_far : (at : ℕ) (bytes : List ℕ) → Holds h (byte_at true at bytes) (byte_at false at (bytes ++ h))
  unfolding byte_at
  byte_far at [] = inl refl
  byte_far at (b ∷ bytes) = inr refl

  sight_far : (at : ℕ) (bytes : List ℕ) → Holds h (sight_at true at bytes) (sight_at false at (bytes ++ h))
  unfolding sight_at
  sight_far at [] = inl refl
  sight_far at (b ∷ bytes) = inr refl

step_far : {S A : Type 0} (h : List ℕ) (o : Option S) (r q : Reading A) (f g : S → Reading A) → Holds h r q → ((t : S) → Holds h (f t) (g t)) → Holds h (on_step o r f) (on_step o q g)
step_far h None r q f g a b = a
step_far h (Some t) r q f g a b = b t

scan_far : {S A : Type 0} (step : S → ℕ → Option S) (ends : S → Reader A) → ((s : S) → Far (ends s)) → (h : List ℕ) (s : S) (at : ℕ) (bytes : List ℕ) → Holds h (scan_at step ends s true at bytes) (scan_at step ends s false at (bytes ++ h))
unfolding scan_at
scan_far step ends f h s at [] = inl refl
scan_far step ends f h s at (b ∷ bytes) = step_far h (step s b) _ _ _ _ ((f s).far h at (b ∷ bytes)) (λ t. scan_far step ends f h t (at + 1) bytes)

scan_is_far : {S A : Type 0} (step : S → ℕ → Option S) {ends : S → Reader A} → ((s : S) → Far (ends s)) → (s : S) → Far (scan_at step ends s)
scan_is_far step {ends = ends} f s = record { far = λ h. scan_far step ends f h s }

filling_end_far : (inside : Bool) → Far (filling_end inside)
filling_end_far true = record { far = λ h at bytes. inr refl }
filling_end_far false = record { far = λ h at bytes. inr refl }

end_or_far : (place : ℕ) (seen : Option ℕ) → Far (end_or place seen)
end_or_far place None = far_pure nothing
end_or_far place (Some b) = far_if (is_space b) (scan_is_far _ far_pure nothing) (far_fails (Form place))

octet_is_far : (cut : PlaneFault) → Far (octet_at cut)
unfolding octet_at
octet_is_far cut = far_then (record { far = byte_far }) (far_or cut)

magic_is_far : Far magic_at
unfolding magic_at
magic_is_far = far_then (octet_is_far Magic) (λ a. far_then (octet_is_far Magic) (λ b. far_or Magic (spelling_of a b)))

number_is_far : (cut : PlaneFault) → Far (numeral_at cut)
unfolding numeral_at
number_is_far cut = far_then far_here (λ place. far_then (octet_is_far cut) (λ b. far_if (is_digit b) (scan_is_far _ far_pure (b - 48)) (far_fails (Form place))))

space_is_far : Far space_at
unfolding space_at
space_is_far = far_then far_here (λ place. far_then (octet_is_far (Form place)) (λ b. far_if (is_space b) (far_pure nothing) (far_fails (Form place))))

field_is_far : Far field_at
unfolding field_at
field_is_far = far_then space_is_far (λ _. far_then (scan_is_far _ filling_end_far false) (λ _. far_then far_here (λ place. far_then (number_is_far (Form place)) (λ n. far_pure (n, place)))))

header_is_far : (sought : Sought) → Far (header_at sought)
unfolding header_at
header_is_far sought = far_then field_is_far (λ w. far_then field_is_far (λ k. far_then field_is_far (λ m. far_then space_is_far (λ _. far_unless (header_break sought w.0 k.0 m.0 m.1) (record { width = w.0; height = k.0; maxval = m.0 })))))

judged_is_far : (maxval k v : ℕ) → Far (judged_at maxval k v)
judged_is_far maxval k v = far_if (ltb maxval v) (far_fails (SampleAbove k v)) (far_pure v)

sample_is_far : (form : SampleForm) (maxval k : ℕ) → Far (spelled_sample_at form maxval k)
unfolding spelled_sample_at
sample_is_far Narrow maxval k = far_then (octet_is_far (Short k)) (judged_is_far maxval k)
sample_is_far Wide maxval k = far_then (octet_is_far (Short k)) (λ high. far_then (octet_is_far (Short k)) (λ low. judged_is_far maxval k (256 * high + low)))
sample_is_far Digits maxval k = far_then (scan_is_far _ far_pure nothing) (λ _. far_then (number_is_far (Short k)) (judged_is_far maxval k))

samples_far : (h : List ℕ) (form : SampleForm) (maxval n k at : ℕ) (bytes : List ℕ) → Holds h (samples_at form maxval n k true at bytes) (samples_at form maxval n k false at (bytes ++ h))
unfolding samples_at
samples_far h form maxval zero k at bytes = inr refl
samples_far h form maxval (suc n) k at bytes =
    (far_then (sample_is_far form maxval k) (λ v. far_then {p = samples_at form maxval n (k + 1)} (record { far = λ h. samples_far h form maxval n (k + 1) }) (λ vs. far_pure (v ∷ vs)))).far h at bytes

end_is_far : (spelling : Spelling) (vs : List ℕ) → Far (end_of spelling vs)
unfolding end_at
end_is_far Raw vs = far_pure vs
end_is_far Plain vs = far_then (far_then far_here (λ place. far_then {p = sight_at} (record { far = sight_far }) (end_or_far place))) (λ _. far_pure vs)

plane_is_far : (sought : Sought) → Far (sought_at sought)
unfolding sought_at raster_at
plane_is_far sought = far_then magic_is_far (λ spelling. far_then (header_is_far sought) (λ k. far_then
    (far_then {p = samples_at (form_of spelling k.maxval) k.maxval (k.width * k.height) 0} (record { far = λ h. samples_far h (form_of spelling k.maxval) k.maxval (k.width * k.height) 0 }) (end_is_far spelling))
    (λ vs. far_pure (record { width = k.width; height = k.height; maxval = k.maxval; samples = vs }))))

-- what is read of a plane, where nothing is asked for, is read of all bytes
pub plane_far : (h : List ℕ) (sought : Sought) (at : ℕ) (bytes : List ℕ) → Holds h (sought_at sought true at bytes) (sought_at sought false at (bytes ++ h))
plane_far h sought at bytes = (plane_is_far sought).far h at bytes
