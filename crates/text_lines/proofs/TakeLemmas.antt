-- The bytes of a line, taken part by part.
use Rattle.std.proofs.Common.{◌≡◌, ℕ, zero, suc, ◌+◌, ◌≤◌, ◌<◌, List, Some, [], ◌∷◌, ◌++◌, ◌⊎◌, length, take, drop, get_or, All, Bool, true, false, inl, inr, refl, sym, ap, subst, ◌∙◌, append_assoc, arith}
use Rattle.std.specs.Prelude.{◌==◌, MatchBool}
use Rattle.std.proofs.lemmas.Bool.{eq-eqb, eqb-true}
use Rattle.std.proofs.lemmas.List.{append-nil, drop_more, get_or-take, length-append, length-take-le, take-append-drop, take_all, take_at}
use Rattle.std.proofs.lemmas.List.Elements.{All-append, All-from_get_or, All-nil, All-same}
use mir.Val.{bool_byte}
use Rattle.insar_ports.specs.Bytes.{HasMore, HasRisen, IsAtEnd, with_front}
use Rattle.insar_ports.specs.declared.feed.FeedFault.{FeedFault}
use Rattle.insar_ports.specs.declared.feed.FeedFault.TheVariants as feed_faults
use Rattle.insar_ports.specs.Calls.{Call, Moves, Takes}
use Rattle.insar_ports.specs.Lines.{IsInLine}
use Rattle.insar_ports.proofs.CallLemmas.{at_told, if_told, risen_before, takes_part}
use Rattle.text_lines.specs.declared.fault.LineFault.{LineFault}
use Rattle.text_lines.specs.declared.fault.LineFault.TheVariants as faults
use Rattle.text_lines.specs.declared.lines.LineEnd.{LineEnd}
use Rattle.text_lines.specs.declared.lines.LineEnd.TheVariants.{Whole, Long, Cut}
use Rattle.text_lines.specs.Faults.{line_fault_of}
use Rattle.text_lines.specs.LineWords.{HasNextCause, IsLineRead, KeepsPart, feed_if}
use Rattle.text_lines.proofs.CauseLemmas.{takes_as}
use Rattle.text_lines.proofs.StepLemmas.{joined, second, takes_join, takes_sized}

take_more : (most : ℕ) (text part : List ℕ) → take most (take most text ++ part) ≡ take most (text ++ part)
take_more zero text part = refl
take_more (suc n) [] part = refl
take_more (suc n) (byte ∷ text) part = ap (λ (l : List ℕ). byte ∷ l) (take_more n text part)

-- where LF stands
pub line_feed_at : (bytes : List ℕ) (count : ℕ) → count < length bytes → (get_or bytes count 0 == 10) ≡ true → bytes ≡ take count bytes ++ 10 ∷ drop (count + 1) bytes
line_feed_at bytes count lt is =
    sym (take-append-drop count bytes)
    ∙ ap (λ (l : List ℕ). take count bytes ++ l) (drop_more bytes count 0 lt ∙ ap (λ (byte : ℕ). byte ∷ drop (count + 1) bytes) (eqb-true (get_or bytes count 0) 10 is))

-- and where it does not
pub no_line_feed : (bytes : List ℕ) → ((k : ℕ) → 0 ≤ k → k < length bytes → (get_or bytes k 0 == 10) ≡ true → ⊥) → All IsInLine bytes
no_line_feed bytes none = All-from_get_or IsInLine bytes 0 (λ k lt e. none k (omega arith) lt (eq-eqb (get_or bytes k 0) 10 e))

pub none_before : (bytes : List ℕ) (count : ℕ) → count < length bytes → ((k : ℕ) → 0 ≤ k → k < count → (get_or bytes k 0 == 10) ≡ true → ⊥) → All IsInLine (take count bytes)
none_before bytes count lt none = All-from_get_or IsInLine (take count bytes) 0 (λ k l e.
    let below : k < count = omega (arith, l, lt, length-take-le count bytes (omega (arith, lt))) in
    none k (omega arith) below (eq-eqb (get_or bytes k 0) 10 (sym (get_or-take count bytes k 0 below) ∙ e)))

-- a part, and LF if it ended
taken_front : (ready part : List ℕ) (ended : Bool) (one : ℕ) → MatchBool ended ((rest : List ℕ) × (ready ≡ part ++ 10 ∷ rest)) (ready ≡ part) → one ≡ bool_byte ended → take (length part + one) ready ≡ part ++ feed_if ended
taken_front ready part true one (rest, e) n =
    ap (take (length part + one)) (e ∙ sym (append_assoc part (10 ∷ []) rest)) ∙ take_at (part ++ 10 ∷ []) rest (length part + one) (omega (arith, n, length-append part (10 ∷ [])))
taken_front ready part false one e n = take_all (length part + one) ready (let q = ap length e in omega (arith, q)) ∙ e ∙ sym (append-nil part)

feed_length : (ended : Bool) → length (feed_if ended) ≡ bool_byte ended
feed_length true = refl
feed_length false = refl

pub part_taken : (c : Call) (most : ℕ) (old now ready part : List ℕ) (ended : Bool) (one : ℕ) → MatchBool ended ((rest : List ℕ) × (ready ≡ part ++ 10 ∷ rest)) (ready ≡ part) → one ≡ bool_byte ended
    → c.told ≡ with_front (take (length part + one) ready) c.left → c.end ≡ c.at + (length part + one) → All IsInLine part → now ≡ take most (old ++ part) → Takes c (KeepsPart most old now ended)
part_taken c most old now ready part ended one f n e p inside keeps =
    takes_as c (λ text rest. text ≡ part ++ feed_if ended) (KeepsPart most old now ended) (λ text rest t. (part, (t, (inside, keeps))))
    (takes_part c.told c.at c.left c.end c.limit c.before c.after (part ++ feed_if ended) (e ∙ ap (λ (l : List ℕ). with_front l c.left) (taken_front ready part ended one f n)) (omega (arith, p, n, feed_length ended, length-append part (feed_if ended))))

-- a part of a line after others
module _ (a b : Call) (most : ℕ) (kept : List ℕ) (taken : Takes a (KeepsPart most [] kept false)) where
  pub part_more : (now : List ℕ) (ended : Bool) → Takes (second a b) (KeepsPart most kept now ended) → Takes (joined a b) (KeepsPart most [] now ended)
  part_more now ended h = takes_join a b (KeepsPart most [] kept false) (KeepsPart most kept now ended) (KeepsPart most [] now ended)
      (λ p m q r (x, (s, (inside, e))) n (y, (t, (within, f))). (
        x ++ y,
        (
          ap (λ (l : List ℕ). l ++ q) (s ∙ append-nil x) ∙ ap (λ (l : List ℕ). x ++ l) t ∙ sym (append_assoc x y (feed_if ended)),
          (All-append IsInLine x y inside within, f ∙ ap (λ (l : List ℕ). take most (l ++ y)) e ∙ take_more most x y),
        ),
      ))
      taken h

  in_both : (p q : List ℕ) → (rest : List ℕ) → KeepsPart most [] kept false p rest → All IsInLine q → All IsInLine (p ++ q)
  in_both p q rest (x, (s, (inside, e))) a = All-append IsInLine p q (All-same IsInLine p x (s ∙ append-nil x) inside) a

  pub line_cut : Takes (second a b) (λ text rest. (text ≡ []) × (rest ≡ [])) → IsLineRead most kept (joined a b) Cut
  line_cut h = takes_join a b (KeepsPart most [] kept false) (λ text rest. (text ≡ []) × (rest ≡ [])) (λ text rest. All IsInLine text × (rest ≡ [])) (λ p m q r k n t. (in_both p q m k (All-same IsInLine q [] t.0 (All-nil IsInLine)), t.1)) taken h

  pub next_fails : (fault : LineFault) → b.limit ≡ a.limit → Moves a → HasNextCause (second a b) fault → HasNextCause (joined a b) fault
  next_fails (faults.Line n) l m h = h
  next_fails faults.TooLong l m h = (h.0 ∙ l, (h.1.0, takes_join a b (KeepsPart most [] kept false) (λ text rest. All IsInLine text) (λ text rest. All IsInLine text) (λ p m q r k n t. in_both p q m k t) taken h.1.1))
  next_fails faults.ReadFault l m h = risen_before a.before a.after b.after m.grows h
  next_fails faults.Memory l m h = tt

-- a line and its LF, kept whole or not
pub line_ends : (c : Call) (most size : ℕ) (now : List ℕ) (end : LineEnd) → c.end ≡ c.at + size + 1 → ((size ≤ most) × (end ≡ Whole)) ⊎ ((most < size) × (end ≡ Long)) → Takes c (KeepsPart most [] now true) → IsLineRead most now c end
line_ends c most size now end n (inl (few, is)) h = rw is (takes_sized c (KeepsPart most [] now true) (λ text rest. (text ≡ now ++ 10 ∷ []) × All IsInLine now)
    (λ text rest s (line, (t, (inside, f))).
    let q = ap length t in
    let same : now ≡ line = f ∙ take_all most line (omega (arith, q, s, n, few, length-append line (10 ∷ []))) in
    (t ∙ ap (λ (l : List ℕ). l ++ 10 ∷ []) (sym same), All-same IsInLine now line same inside))
    h)
line_ends c most size now end n (inr (many, is)) h = rw is (takes_sized c (KeepsPart most [] now true) (λ text rest. (line : List ℕ) × ((text ≡ line ++ 10 ∷ []) × (All IsInLine line × (most < length line))))
    (λ text rest s (line, (t, (inside, f))). let q = ap length t in (line, (t, (inside, omega (arith, q, s, n, many, length-append line (10 ∷ []))))))
    h)

-- a byte was looked at, and none was taken
module _ (c : Call) (l : c.left ≡ c.told) (e : c.end ≡ c.at) where
  nothing_taken : (P : List ℕ → List ℕ → Type 0) → ((bytes : List ℕ) → c.told ≡ Some bytes → P [] bytes) → Takes c P
  nothing_taken P p = if_told c.told _ (λ bytes t. ([], bytes, (refl, (l ∙ t, (omega (arith, e), p bytes t)))))

  pub none_left : IsAtEnd c.told → Takes c (λ text rest. (text ≡ []) × (rest ≡ []))
  none_left h = nothing_taken _ (λ bytes t. (refl, at_told c.told _ bytes t h))

  pub peek_fails : (fault : FeedFault) → (fault ≡ feed_faults.ReadFault → HasRisen c.before c.after) → (fault ≡ feed_faults.TooLong → c.at ≡ c.limit) → (fault ≡ feed_faults.TooLong → HasMore c.told) → HasNextCause c (line_fault_of fault)
  peek_fails feed_faults.ReadFault risen full more = risen refl
  peek_fails feed_faults.TooLong risen full more = (e ∙ full refl, (subst HasMore (sym l) (more refl), nothing_taken _ (λ bytes t. All-nil IsInLine)))
