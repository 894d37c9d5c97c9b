-- Parsers one after the other, and the relations that say what they give.
use Rattle.std.proofs.Common.{◌≡◌, ◌≢◌, ℕ, ◌+◌, ◌≤◌, Bool, true, false, ◌⊎◌, inl, inr, List, [], ◌∷◌, ◌++◌, length, Some, None, Ok, Err, refl, sym, ap, subst, ◌∙◌, arith}
use Rattle.std.proofs.lemmas.List.{append-nil}
use Rattle.pgm_planes.specs.declared.fault.InputFault.{InputFault}
use Rattle.pgm_planes.specs.declared.fault.InputFault.TheVariants.{TooLong}
use Rattle.session_script.specs.Parsing.{Parse, Parser, parsed, and_then, chain, peek_parser}

abbrev pub done : {A : Type 0} → A → ℕ → List ℕ → Parse A
done x end rest = Ok (x, end, rest)

abbrev pub broken : {A : Type 0} → InputFault → Parse A
broken fault = Err fault

-- a byte that comes is needed
abbrev pub wants : {A : Type 0} → Parse A
wants = Err TooLong

pub ok_is : {A : Type 0} (x y : A × ℕ × List ℕ) → (let r : Parse A = Ok x in r) ≡ Ok y → x ≡ y
ok_is x y e = cc

pub fault_is : {A : Type 0} (e f : InputFault) → (let r : Parse A = Err e in r) ≡ Err f → e ≡ f
fault_is e f x = cc

pub not_both : {A : Type 0} (x : A × ℕ × List ℕ) (f : InputFault) → (let r : Parse A = Ok x in r) ≡ Err f → ⊥
not_both x f e = cc

-- what a chain gave, its parts gave
and_then_ok : {A B : Type 0} (r : Parse A) (f : A → ℕ → List ℕ → Parse B) (y : B) (end : ℕ) (rest : List ℕ) → and_then r f ≡ done y end rest → (x : A × ℕ × List ℕ) × (r ≡ Ok x) × (f x.0 x.1 x.2 ≡ done y end rest)
and_then_ok (Ok x) f y end rest e = (x, refl, e)
and_then_ok (Err g) f y end rest e = absurd cc

and_then_err : {A B : Type 0} (r : Parse A) (f : A → ℕ → List ℕ → Parse B) (g : InputFault) → and_then r f ≡ broken g → (r ≡ broken g) ⊎ ((x : A × ℕ × List ℕ) × (r ≡ Ok x) × (f x.0 x.1 x.2 ≡ broken g))
and_then_err (Ok x) f g e = inr (x, refl, e)
and_then_err {A = A} {B = B} (Err h) f g e = inl (ap (λ (k : InputFault). broken {A = A} k) (fault_is {A = B} h g e))

-- ---- what is given of bytes after which more come is given of all of them, where none is needed

abbrev pub further : {A : Type 0} → Parse A → List ℕ → Parse A
further (Ok x) more = Ok (x.0, x.1, x.2 ++ more)
further (Err e) more = Err e

further_none : {A : Type 0} (r : Parse A) → further r [] ≡ r
further_none (Ok x) = ap (λ (t : List ℕ). done x.0 x.1 t) (append-nil x.2)
further_none (Err e) = refl

abbrev pub Holds : {A : Type 0} → List ℕ → Parse A → Parse A → Type 0
Holds more r q = (r ≡ wants) ⊎ (q ≡ further r more)

abbrev pub Far : {A : Type 0} → Parser A → Type 0
Far p = (at : ℕ) (bytes more : List ℕ) → Holds more (p true at bytes) (p false at (bytes ++ more))

join_far : {A B : Type 0} (more : List ℕ) (r q : Parse A) (f g : A → ℕ → List ℕ → Parse B) → Holds more r q → ((x : A) (at : ℕ) (rest : List ℕ) → Holds more (f x at rest) (g x at (rest ++ more))) → Holds more (and_then r f) (and_then q g)
join_far more (Ok x) q f g (inl e) k = absurd cc
join_far more (Ok x) q f g (inr e) k = rw e (k x.0 x.1 x.2)
join_far {A = A} {B = B} more (Err h) q f g (inl e) k = inl (ap (λ (k : InputFault). broken {A = B} k) (fault_is {A = A} h TooLong e))
join_far more (Err h) q f g (inr e) k = inr (rw e refl)

pub needed_or_same : {A : Type 0} (p : Parser A) → Far p → (at : ℕ) (bytes : List ℕ) → (p true at bytes ≡ wants) ⊎ (p false at bytes ≡ p true at bytes)
needed_or_same p a at bytes = elim (a at bytes []) [
  | inl w ↦ inl w
  | inr e ↦ inr (ap (p false at) (sym (append-nil bytes)) ∙ e ∙ further_none (p true at bytes))
]

-- ---- how many bytes at least are taken, and how many of those that come where one of them is needed

abbrev pub Steps : {A : Type 0} → ℕ → Parser A → Type 0
Steps {A = A} k p = (at : ℕ) (bytes : List ℕ) (x : A) (end : ℕ) (rest : List ℕ) → p false at bytes ≡ done x end rest → length rest + k ≤ length bytes

abbrev pub Needs : {A : Type 0} → ℕ → Parser A → Type 0
Needs {A = A} k p = (at : ℕ) (bytes more : List ℕ) (x : A) (end : ℕ) (rest : List ℕ) → p true at bytes ≡ wants → p false at (bytes ++ more) ≡ done x end rest → length rest + k ≤ length more

pub record Regular {A : Type 0} (taken needed : ℕ) (p : Parser A) : Type 0 where
  pub far : Far p
  pub steps : Steps taken p
  pub needs : Needs needed p

parsed_steps : {A : Type 0} (x : A) → Steps 0 (parsed x)
parsed_steps {A = A} x at bytes y end rest e = let s = ok_is {A = A} (x, at, bytes) (y, end, rest) e in omega (arith, ap (λ (z : A × ℕ × List ℕ). length z.2) s)

pub parsed_regular : {A : Type 0} (n : ℕ) (x : A) → Regular 0 n (parsed x)
parsed_regular {A = A} n x = record { far = λ at bytes more. inr refl; steps = parsed_steps x; needs = λ at bytes more y end rest w e. absurd (not_both {A = A} (x, at, bytes) TooLong w) }

-- a parser that only refuses, at each place with a fault of its own
abbrev pub refusing : {A : Type 0} → (ℕ → InputFault) → Parser A
refusing fault more at bytes = Err (fault at)

pub refusing_regular : {A : Type 0} (k n : ℕ) (fault : ℕ → InputFault) → ((at : ℕ) → fault at ≢ TooLong) → Regular {A = A} k n (refusing fault)
refusing_regular {A = A} k n fault other = record {
  far = λ at bytes more. inr refl;
  steps = λ at bytes x end rest e. absurd (not_both {A = A} (x, end, rest) (fault at) (sym e));
  needs = λ at bytes more x end rest w e. absurd (other at (fault_is {A = A} (fault at) TooLong w));
}

pub relaxed : {A : Type 0} (j i k n : ℕ) (p : Parser A) → k ≤ j → n ≤ i → Regular j i p → Regular k n p
relaxed j i k n p fewer less r = record {
  far = r.far;
  steps = λ at bytes x end rest e. omega (arith, fewer, r.steps at bytes x end rest e);
  needs = λ at bytes more x end rest w e. omega (arith, less, r.needs at bytes more x end rest w e);
}

module _ {A B : Type 0} (i j k n : ℕ) (p : Parser A) (f : A → Parser B) (le : n ≤ i + k) (a : Regular j i p) (b : (x : A) → Regular k n (f x)) where
  chain_steps : Steps (j + k) (chain p f)
  unfolding chain
  chain_steps at bytes y end rest e =
      let s = and_then_ok (p false at bytes) (λ x. f x false) y end rest e in
      omega (arith, a.steps at bytes s.0.0 s.0.1 s.0.2 s.1, (b s.0.0).steps s.0.1 s.0.2 y end rest s.2)

  chain_needs : Needs n (chain p f)
  unfolding chain
  chain_needs at bytes more y end rest w e =
      let s = and_then_ok (p false at (bytes ++ more)) (λ x. f x false) y end rest e in
      elim (and_then_err (p true at bytes) (λ x. f x true) TooLong w) [
        | inl v ↦ omega (arith, le, a.needs at bytes more s.0.0 s.0.1 s.0.2 v s.1, (b s.0.0).steps s.0.1 s.0.2 y end rest s.2)
        | inr q ↦ elim (a.far at bytes more) [
          | inl v ↦ absurd (not_both {A = A} q.0 TooLong (sym q.1 ∙ v))
          | inr h ↦
              let same = ok_is {A = A} s.0 (q.0.0, q.0.1, q.0.2 ++ more) (sym s.1 ∙ h ∙ ap (λ (r : Parse A). further r more) q.1) in
              (b q.0.0).needs q.0.1 q.0.2 more y end rest q.2 (ap (λ (z : A × ℕ × List ℕ). f z.0 false z.1 z.2) (sym same) ∙ s.2)
        ]
      ]

  pub chain_regular : Regular (j + k) n (chain p f)
  unfolding chain
  chain_regular = record {
    far = λ at bytes more. join_far more (p true at bytes) (p false at (bytes ++ more)) (λ x. f x true) (λ x. f x false) (a.far at bytes more) (λ x place rest. (b x).far place rest more);
    steps = chain_steps;
    needs = chain_needs;
  }

-- a look at the next byte
peek_far : Far peek_parser
peek_far at [] more = inl refl
peek_far at (b ∷ bytes) more = inr refl

peek_steps : Steps 0 peek_parser
peek_steps at [] x end rest e = parsed_steps None at [] x end rest e
peek_steps at (b ∷ bytes) x end rest e = parsed_steps (Some b) at (b ∷ bytes) x end rest e

peek_needs : Needs 0 peek_parser
peek_needs at [] more x end rest w e = peek_steps at more x end rest e
peek_needs at (b ∷ bytes) more x end rest w e = absurd cc

pub peek_regular : Regular 0 0 peek_parser
peek_regular = record { far = peek_far; steps = peek_steps; needs = peek_needs }

-- ---- what a parser gives, as relations: V of what is read, B of the break that is met, W of bytes after which another is needed

-- a value was parsed, and what follows begins at this place
abbrev pub Told : {A : Type 0} → Parser A → ℕ → List ℕ → A → List ℕ → Type 0
Told p at bytes x rest = (end : ℕ) × (end + length rest ≡ at + length bytes) × (p false at bytes ≡ done x end rest)

abbrev pub Says : {A : Type 0} → (List ℕ → A → List ℕ → Type 0) → (ℕ → List ℕ → InputFault → Type 0) → (List ℕ → Type 0) → Bool → ℕ → List ℕ → Parse A → Type 0
Says V B W more at bytes (Ok x) = (x.1 + length x.2 ≡ at + length bytes) × V bytes x.0 x.2
Says V B W more at bytes (Err e) = (more ≡ false → B at bytes e) × (more ≡ true → e ≡ TooLong → W bytes)

pub record Means {A : Type 0} (V : List ℕ → A → List ℕ → Type 0) (B : ℕ → List ℕ → InputFault → Type 0) (W : List ℕ → Type 0) (p : Parser A) : Type 0 where
  pub told : (at : ℕ) (bytes : List ℕ) (x : A) (rest : List ℕ) → V bytes x rest → Told p at bytes x rest
  pub breaks : (at : ℕ) (bytes : List ℕ) (fault : InputFault) → B at bytes fault → p false at bytes ≡ broken fault
  pub asks : (at : ℕ) (bytes : List ℕ) → W bytes → p true at bytes ≡ wants
  pub says : (more : Bool) (at : ℕ) (bytes : List ℕ) → Says V B W more at bytes (p more at bytes)

pub parsed_means : {A : Type 0} (x : A) → Means (λ bytes y rest. (y ≡ x) × (rest ≡ bytes)) (λ at bytes fault. ⊥) (λ bytes. ⊥) (parsed x)
parsed_means x = record {
  told = λ at bytes y rest v. (at, omega (arith, ap length v.1), rw (v.0, v.1) refl);
  breaks = λ at bytes fault b. absurd b;
  asks = λ at bytes w. absurd w;
  says = λ more at bytes. (refl, (refl, refl));
}

-- one after the other
abbrev pub Then : {A B : Type 0} → (List ℕ → A → List ℕ → Type 0) → (A → List ℕ → B → List ℕ → Type 0) → List ℕ → B → List ℕ → Type 0
Then {A = A} V U bytes y rest = (x : A) × (mid : List ℕ) × V bytes x mid × U x mid y rest

abbrev pub BreaksThen : {A : Type 0} → (List ℕ → A → List ℕ → Type 0) → (ℕ → List ℕ → InputFault → Type 0) → (A → ℕ → List ℕ → InputFault → Type 0) → ℕ → List ℕ → InputFault → Type 0
BreaksThen {A = A} V B C at bytes e = B at bytes e ⊎ ((x : A) × (mid : List ℕ) × (place : ℕ) × (place + length mid ≡ at + length bytes) × V bytes x mid × C x place mid e)

abbrev pub AsksThen : {A : Type 0} → (List ℕ → A → List ℕ → Type 0) → (List ℕ → Type 0) → (A → List ℕ → Type 0) → List ℕ → Type 0
AsksThen {A = A} V W X bytes = W bytes ⊎ ((x : A) × (mid : List ℕ) × V bytes x mid × X x mid)

module _ {A B : Type 0} {V : List ℕ → A → List ℕ → Type 0} {C : ℕ → List ℕ → InputFault → Type 0} {W : List ℕ → Type 0} {U : A → List ℕ → B → List ℕ → Type 0} {D : A → ℕ → List ℕ → InputFault → Type 0} {X : A → List ℕ → Type 0} (p : Parser A) (f : A → Parser B) (far : Far p) (a : Means V C W p) (b : (x : A) → Means (U x) (D x) (X x) (f x)) where
  behind_says : (more : Bool) (at : ℕ) (bytes : List ℕ) (x : A) (place : ℕ) (mid : List ℕ) → place + length mid ≡ at + length bytes → V bytes x mid → (r : Parse B) → Says (U x) (D x) (X x) more place mid r → Says (Then V U) (BreaksThen V C D) (AsksThen V W X) more at bytes r
  behind_says more at bytes x place mid e v (Ok y) s = (omega (arith, s.0, e), (x, mid, v, s.1))
  behind_says more at bytes x place mid e v (Err g) s = (λ m. inr (x, mid, place, e, v, s.0 m), λ m t. inr (x, mid, v, s.1 m t))

  chain_says : (more : Bool) (at : ℕ) (bytes : List ℕ) (r : Parse A) → Says V C W more at bytes r → Says (Then V U) (BreaksThen V C D) (AsksThen V W X) more at bytes (and_then r (λ x. f x more))
  chain_says more at bytes (Ok x) s = behind_says more at bytes x.0 x.1 x.2 s.0 s.1 (f x.0 more x.1 x.2) ((b x.0).says more x.1 x.2)
  chain_says more at bytes (Err g) s = (λ m. inl (s.0 m), λ m t. inl (s.1 m t))

  abbrev on : Bool → Parse A → Parse B
  on more r = and_then r (λ x. f x more)

  chain_breaks : (at : ℕ) (bytes : List ℕ) (e : InputFault) → BreaksThen V C D at bytes e → chain p f false at bytes ≡ broken e
  unfolding chain
  chain_breaks at bytes e (inl k) = ap (on false) (a.breaks at bytes e k)
  chain_breaks at bytes e (inr (x, mid, place, is, v, k)) =
      let t = a.told at bytes x mid v in
      let here : t.0 ≡ place = omega (arith, t.1, is) in
      ap (on false) t.2 ∙ ap (λ (n : ℕ). f x false n mid) here ∙ (b x).breaks place mid e k

  chain_asks : (at : ℕ) (bytes : List ℕ) → AsksThen V W X bytes → chain p f true at bytes ≡ wants
  unfolding chain
  chain_asks at bytes (inl w) = ap (on true) (a.asks at bytes w)
  chain_asks at bytes (inr (x, mid, v, w)) = elim (needed_or_same p far at bytes) [
    | inl n ↦ ap (on true) n
    | inr same ↦ let t = a.told at bytes x mid v in ap (on true) (sym same ∙ t.2) ∙ (b x).asks t.0 mid w
  ]

  pub chain_means : Means (Then V U) (BreaksThen V C D) (AsksThen V W X) (chain p f)
  unfolding chain
  chain_means = record {
    told = λ at bytes y rest v. let t = a.told at bytes v.0 v.1 v.2 in let u = (b v.0).told t.0 v.1 y rest v.3 in (u.0, omega (arith, t.1, u.1), ap (on false) t.2 ∙ u.2);
    breaks = chain_breaks;
    asks = chain_asks;
    says = λ more at bytes. chain_says more at bytes (p more at bytes) (a.says more at bytes);
  }

-- the same relations in other words
module _ {A : Type 0} {V U : List ℕ → A → List ℕ → Type 0} {B C : ℕ → List ℕ → InputFault → Type 0} {W X : List ℕ → Type 0} (p : Parser A) (m : Means V B W p) (v : (bytes : List ℕ) (x : A) (rest : List ℕ) → V bytes x rest → U bytes x rest) (b : (at : ℕ) (bytes : List ℕ) (e : InputFault) → B at bytes e → C at bytes e) (w : (bytes : List ℕ) → W bytes → X bytes) where
  said : (more : Bool) (at : ℕ) (bytes : List ℕ) (r : Parse A) → Says V B W more at bytes r → Says U C X more at bytes r
  said more at bytes (Ok x) s = (s.0, v bytes x.0 x.2 s.1)
  said more at bytes (Err e) s = (λ k. b at bytes e (s.0 k), λ k t. w bytes (s.1 k t))

  pub restated : ((bytes : List ℕ) (x : A) (rest : List ℕ) → U bytes x rest → V bytes x rest) → ((at : ℕ) (bytes : List ℕ) (e : InputFault) → C at bytes e → B at bytes e) → ((bytes : List ℕ) → X bytes → W bytes) → Means U C X p
  restated v' b' w' = record {
    told = λ at bytes x rest u. m.told at bytes x rest (v' bytes x rest u);
    breaks = λ at bytes e c. m.breaks at bytes e (b' at bytes e c);
    asks = λ at bytes x. m.asks at bytes (w' bytes x);
    says = λ more at bytes. said more at bytes (p more at bytes) (m.says more at bytes);
  }

-- and what was parsed
module _ {A : Type 0} {V : List ℕ → A → List ℕ → Type 0} {B : ℕ → List ℕ → InputFault → Type 0} {W : List ℕ → Type 0} {p : Parser A} (m : Means V B W p) (at : ℕ) (bytes : List ℕ) where
  pub found : (x : A) (end : ℕ) (rest : List ℕ) → p false at bytes ≡ done x end rest → (end + length rest ≡ at + length bytes) × V bytes x rest
  found x end rest e = subst (Says V B W false at bytes) e (m.says false at bytes)

  pub broke : (fault : InputFault) → p false at bytes ≡ broken fault → B at bytes fault
  broke fault e = let s = subst (Says V B W false at bytes) e (m.says false at bytes) in s.0 refl

  pub asked : p true at bytes ≡ wants → W bytes
  asked e = let s = subst (Says V B W true at bytes) e (m.says true at bytes) in s.1 refl refl
