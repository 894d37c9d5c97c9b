-- What readers of a field, a token or a box say of its parts they say of the whole.
use Rattle.std.proofs.Common.{◌≡◌, ℕ, ◌+◌, ◌<◌, ◌≤◌, ◌^◌, Bool, true, false, eqb, List, ◌∷◌, ◌++◌, length, take, drop, get_or, decimal, Option, Some, None, Result, Ok, Err, inl, inr, sym, ap, subst, ◌∙◌, arith}
use Rattle.std.specs.Prelude.{◌≢◌, MatchOption, MatchResult}
use Rattle.std.specs.Borrow.{Bor}
use Rattle.std.specs.Cmp.Lexicographic.{pointwise}
use Rattle.std.specs.Result.{result_ok}
use Rattle.std.specs.Str.{IsUtf8}
use Rattle.std.specs.Str.Parse.{ParsesUnsigned}
use Rattle.std.proofs.lemmas.Bool.{cases_lt}
use Rattle.std.proofs.lemmas.Bool.Decides.{Decides-eqb}
use Rattle.std.proofs.lemmas.Fmt.{IsAscii-decimal_wide, parse-decimal_wide}
use Rattle.std.proofs.lemmas.List.{append_cancel_left, drop_all, drop_more, get_or-take, get_or_default, length-take-le, take-append-drop}
use Rattle.std.proofs.lemmas.List.Elements.{recursion_from_All}
use Rattle.std.proofs.lemmas.Slice.Eq.{slice_eq-Decides, strip_prefix_is}
use Rattle.std.proofs.lemmas.Str.{IsUtf8-from_ascii}
use Rattle.text_lines.specs.Numbers.{BeginsField, IsToken}
use Rattle.text_lines.specs.Parsing.{IsFieldTaken, IsParsedAs, IsWide, IsWord, IsWordThen, behind, field_then}
use Rattle.text_lines.specs.Text.{field_text}
use Rattle.text_lines.proofs.FieldLemmas.{IsNoSpace, decimal_token, field_unique, is_printed, word_wide}
use Rattle.text_lines.proofs.NumberLemmas.{parts_unique}

-- ---- a word in front

abbrev pub HasNoFront : List ℕ → List ℕ → Type 0
HasNoFront word line = (rest : List ℕ) → line ≢ word ++ rest

-- what taking a word from the front of a line says
pub stripped : (line word : List ℕ) (rest : Bor (List ℕ)) → (pointwise eqb (take (length word) line) word ≡ true) × (rest.now ≡ drop (length word) line) × (length rest.now + length word ≡ length line) → line ≡ word ++ rest.now
stripped line word rest h = strip_prefix_is Decides-eqb line word (Some rest) h

abbrev no_bytes : Option (Bor (List ℕ))
no_bytes = None

pub not_stripped : (line word : List ℕ) → pointwise eqb (take (length word) line) word ≡ false → HasNoFront word line
not_stripped line word h = strip_prefix_is Decides-eqb line word no_bytes h

module _ {A : Type 0} (MayStand : A → Type 0) (text : A → List ℕ) (word line : List ℕ) where
  pub none_in_front : HasNoFront word line → (a : A) → MayStand a → line ≡ word ++ text a → ⊥
  none_in_front n a m e = n (text a) e

  pub none_behind : (rest : List ℕ) → line ≡ word ++ rest → ((a : A) → MayStand a → rest ≡ text a → ⊥) → (a : A) → MayStand a → line ≡ word ++ text a → ⊥
  none_behind rest e f a m g = f a m (append_cancel_left word rest (text a) (sym e ∙ g))

-- ---- a field in front

module _ {B : Type 0} (MayStand : ℕ → Type 0) (small : (n : ℕ) → MayStand n → IsWide n) (MayFollow : B → Type 0) (text : B → List ℕ) (begins : (b : B) → MayFollow b → BeginsField (text b)) (bytes : List ℕ) where
  pub none_taken : ((n : ℕ) (rest : List ℕ) → MayStand n → BeginsField rest → bytes ≡ field_text n ++ rest → ⊥) → (m : ℕ) (b : B) → MayStand m → MayFollow b → bytes ≡ field_text m ++ text b → ⊥
  none_taken f m b v w e = f m (text b) v (begins b w) e

  -- the field is known by the bytes, and what follows it
  pub rest_is : (n : ℕ) (rest : List ℕ) → MayStand n × BeginsField rest × (bytes ≡ field_text n ++ rest) → (m : ℕ) (more : List ℕ) → MayStand m → BeginsField more → bytes ≡ field_text m ++ more → rest ≡ more
  rest_is n rest t m more v b e = (field_unique n m rest more (small n t.0) (small m v) t.1 b (sym t.2 ∙ e)).1

  pub none_after : (n : ℕ) (rest : List ℕ) → MayStand n × BeginsField rest × (bytes ≡ field_text n ++ rest) → ((b : B) → MayFollow b → rest ≡ text b → ⊥) → (m : ℕ) (b : B) → MayStand m → MayFollow b → bytes ≡ field_text m ++ text b → ⊥
  none_after n rest t f m b v w e = f b w (rest_is n rest t m (text b) v (begins b w) e)

pub pair_read : {B : Type 0} (MayFollow : B → Type 0) (text : B → List ℕ) (bytes rest : List ℕ) (n : ℕ) (o : Option B) (r : Option (ℕ × B)) → IsWord n × BeginsField rest × (bytes ≡ field_text n ++ rest) → IsParsedAs MayFollow text rest o
    → MatchOption r (o ≡ None) (λ p. (p.0 ≡ n) × (o ≡ Some p.1)) → ((b : B) → MayFollow b → BeginsField (text b)) → IsParsedAs (IsWordThen MayFollow) (field_then text) bytes r
pair_read {B} MayFollow text bytes rest n o None t p m begins = λ b w e. none_after IsWord word_wide MayFollow text begins bytes n rest t (rw m at p) b.0 b.1 w.0 w.1 e
pair_read {B} MayFollow text bytes rest n o (Some b) t p m begins =
    let found = rw m.1 at p in
    rw m.0 ((t.0, found.0), t.2 ∙ ap (λ (l : List ℕ). field_text n ++ l) found.1)

-- ---- a token

pub is_token : (bytes : List ℕ) (n : ℕ) → n ≤ length bytes → ((k : ℕ) → k < n → get_or bytes k 0 ≢ 32) → IsToken (take n bytes)
is_token bytes n le f k d lt e =
    let below : k < n = omega (arith, lt, le, length-take-le n bytes le) in
    let same : get_or (take n bytes) k d ≡ get_or bytes k 0 = get_or-take n bytes k d below ∙ get_or_default bytes k d 0 (omega (arith, below, le)) in
    f k below (sym same ∙ e)

pub begins_behind : (bytes : List ℕ) (n : ℕ) → n ≤ length bytes → (n < length bytes → get_or bytes n 0 ≡ 32) → BeginsField (drop n bytes)
begins_behind bytes n le f = elim (cases_lt n (length bytes)) [
  | inl lt ↦ inr (drop (n + 1) bytes, drop_more bytes n 0 lt ∙ ap (λ (b : ℕ). b ∷ drop (n + 1) bytes) (f lt))
  | inr ge ↦ inl (drop_all n bytes ge)
]

pub is_split : (bytes rest : List ℕ) (n : ℕ) (token more : List ℕ) → bytes ≡ 32 ∷ rest → n ≤ length rest → ((k : ℕ) → k < n → get_or rest k 0 ≢ 32) → (n < length rest → get_or rest n 0 ≡ 32) → token ≡ take n rest → more ≡ drop n rest → IsToken token × BeginsField more × (bytes ≡ 32 ∷ (token ++ more))
is_split bytes rest n token more e le f g front back =
    rw (front, back) (is_token rest n le f, begins_behind rest n le g, e ∙ ap (λ (t : List ℕ). 32 ∷ t) (sym (take-append-drop n rest)))

-- a field is a space and a token that is a number
pub token_read : (MayStand : ℕ → Type 0) (bytes token rest : List ℕ) (o : Option ℕ) (r : Option (ℕ × Bor (List ℕ))) → IsToken token × BeginsField rest × (bytes ≡ 32 ∷ (token ++ rest)) → IsParsedAs MayStand decimal token o → MatchOption r (o ≡ None) (λ f. (o ≡ Some f.0) × (f.1.now ≡ rest))
    → ((n : ℕ) → MayStand n → IsWide n) → IsFieldTaken MayStand bytes r
unfolding field_text
token_read MayStand bytes token rest o None s p m small = λ n more v b e.
    let same : token ++ rest ≡ decimal n ++ more = ap (λ (t : List ℕ). drop 1 t) (sym s.2 ∙ e) in
    (rw m at p) n v (parts_unique token (decimal n) rest more (recursion_from_All IsNoSpace token s.0) (decimal_token n (small n v)) s.1 b same).0
token_read MayStand bytes token rest o (Some f) s p m small =
    let found = rw m.0 at p in
    (found.0, rw m.1 s.1, s.2 ∙ ap (λ (t : List ℕ). 32 ∷ (t ++ rest)) found.1 ∙ ap (λ (t : List ℕ). 32 ∷ (decimal f.0 ++ t)) (sym m.1))

-- ---- numbers that std reads

pub not_text : {E : Type 0} (F : E → Type 0) (bytes : List ℕ) (r : Result (Bor (List ℕ)) E) → MatchResult r (λ s. (s.now ≡ bytes) × IsUtf8 bytes) (λ e. ¬ (IsUtf8 bytes) × F e) → result_ok r ≡ None → (n : ℕ) → IsWide n → bytes ≡ decimal n → ⊥
not_text F bytes (Ok s) h e n lt t = absurd cc
not_text F bytes (Err x) h e n lt t = h.0 (subst IsUtf8 (sym t) (IsUtf8-from_ascii (decimal n) (IsAscii-decimal_wide n (is_printed n lt))))

pub text_is : {E : Type 0} (F : E → Type 0) (bytes : List ℕ) (r : Result (Bor (List ℕ)) E) (s : Bor (List ℕ)) → MatchResult r (λ s. (s.now ≡ bytes) × IsUtf8 bytes) (λ e. ¬ (IsUtf8 bytes) × F e) → result_ok r ≡ Some s → bytes ≡ s.now
text_is F bytes (Ok x) s h e = let same : x ≡ s = cc in sym h.0 ∙ ap (λ (t : Bor (List ℕ)). t.now) same
text_is F bytes (Err x) s h e = absurd cc

-- what std reads of a decimal is its number
pub number_read : {E : Type 0} (k n : ℕ) (bytes : List ℕ) (r : Result ℕ E) → n < 2 ^ k → IsWide n → bytes ≡ decimal n → ParsesUnsigned k 10 bytes r → result_ok r ≡ Some n
number_read k n bytes r fits lt e p = ap result_ok (parse-decimal_wide k n bytes r fits (is_printed n lt) e p)

-- ---- equal bytes

pub is_other : (xs ys : List ℕ) (r : Bool) → r ≡ pointwise eqb xs ys → r ≡ false → xs ≡ ys → ⊥
is_other xs ys r e f s = let t = (slice_eq-Decides Decides-eqb xs ys r e).1 s in cc

-- ---- what a reader of the rest says of the whole

pub read_behind : {A : Type 0} (MayStand : A → Type 0) (text : A → List ℕ) (word line rest : List ℕ) (o : Option A) → line ≡ word ++ rest → IsParsedAs MayStand text rest o → IsParsedAs MayStand (behind word text) line o
read_behind MayStand text word line rest None e f = none_behind MayStand text word line rest e f
read_behind MayStand text word line rest (Some a) e f = (f.0, e ∙ ap (λ (t : List ℕ). word ++ t) f.1)
