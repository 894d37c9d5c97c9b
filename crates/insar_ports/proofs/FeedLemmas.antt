-- One byte of a feed's buffer, and many at once.
use Rattle.std.proofs.Common.{◌≡◌, ℕ, ◌+◌, ◌-◌, ◌<◌, ◌≤◌, ◌∷◌, List, [], ◌++◌, take, drop, length, get_or, Option, Some, None, refl, ap, sym, ◌∙◌, append_assoc, arith, add-one, suc}
use Rattle.std.proofs.Math.Seq.{drop-cons, take-add}
use Rattle.std.proofs.lemmas.List.{drop-drop, length-take, take-take, take_all}
use Rattle.std.specs.Prelude.{slice_range, IfSome}
use Rattle.insar_ports.specs.Bytes.{with_front, after_first, BeginsWith}
use Rattle.insar_ports.proofs.CallerLemmas.{with_front-append}

-- the first item from a place on, `d` being any number
front : (items : List ℕ) (start d : ℕ) → start < length items → drop start items ≡ get_or items start d ∷ drop (start + 1) items
front items start d lt = rw add-one (drop-cons items start d lt)

taken : (rest more : List ℕ) (start end x : ℕ) → start < end → rest ≡ x ∷ more →
    take (end - start) rest ≡ (x ∷ []) ++ take (end - (start + 1)) more
taken rest more start end x lt is =
    let count : end - start ≡ suc (end - (start + 1)) = omega arith in
    rw (is, count) refl

-- what a feed has left once it handed out the first byte of its buffer
pub byte-out : (items : List ℕ) (start stop end byte : ℕ) (left first : Option (List ℕ)) →
    first ≡ with_front (slice_range items start end) left → byte ≡ get_or items start byte →
    start < stop → stop ≤ end → end ≤ length items →
    first ≡ with_front (byte ∷ []) (with_front (slice_range items (start + 1) end) left)
byte-out items start stop end byte left first was is lt le within =
    was
    ∙ ap (λ (front : List ℕ). with_front front left)
    (taken _ _ start end byte (omega arith) (front items start byte (omega arith) ∙ ap (λ (b : ℕ). b ∷ drop (start + 1) items) (sym is)))
    ∙ sym (with_front-append (byte ∷ []) (slice_range items (start + 1) end) left)

-- what begins with a byte
pub begins : (byte : ℕ) (left first : Option (List ℕ)) → first ≡ with_front (byte ∷ []) left → BeginsWith byte first
begins byte None first is = rw is refl
begins byte (Some rest) first is = rw is refl

-- what is left after a front of one byte is gone
rest-of : (byte : ℕ) (rest front : List ℕ) (left : Option (List ℕ)) → front ≡ (byte ∷ []) ++ rest → with_front rest left ≡ after_first (with_front front left)
rest-of byte rest front None is = refl
rest-of byte rest front (Some more) is = rw is refl

-- what a feed has left once the first byte of its buffer is gone
pub step-out : (items : List ℕ) (start stop end : ℕ) (left : Option (List ℕ)) →
    start < stop → stop ≤ end → end ≤ length items →
    with_front (slice_range items (start + 1) end) left ≡ after_first (with_front (slice_range items start end) left)
step-out items start stop end left lt le within =
    rest-of (get_or items start 0) (slice_range items (start + 1) end) (slice_range items start end) left
    (taken _ _ start end (get_or items start 0) (omega arith) (front items start 0 (omega arith)))

-- what stands up to a place is the first so many bytes of what waits, and what stands after these
pub range-parts : (items : List ℕ) (start stop end count : ℕ) → start ≤ stop → stop ≤ end → end ≤ length items →
    count ≤ length (slice_range items start stop) →
    slice_range items start end ≡ take count (slice_range items start stop) ++ slice_range items (start + count) end
range-parts items start stop end count ordered within stored some =
    let few : count ≤ stop - start = omega (arith, some, length-take (stop - start) (drop start items)) in
    let size : end - start ≡ count + (end - (start + count)) = omega arith in
    ap (λ (n : ℕ). take n (drop start items)) size
    ∙ take-add count (end - (start + count)) (drop start items)
    ∙ ap (λ (rest : List ℕ). take count (drop start items) ++ take (end - (start + count)) rest) (drop-drop count start items)
    ∙ ap (λ (front : List ℕ). front ++ slice_range items (start + count) end) (sym (take-take count (stop - start) (drop start items) few))

-- what a feed had left before it handed out the first so many bytes that waited
pub bytes-out : (items : List ℕ) (start stop end count : ℕ) (left : Option (List ℕ)) → start ≤ stop → stop ≤ end → end ≤ length items →
    count ≤ length (slice_range items start stop) →
    with_front (slice_range items start end) left ≡ with_front (take count (slice_range items start stop)) (with_front (slice_range items (start + count) end) left)
bytes-out items start stop end count left ordered within stored some =
    ap (λ (front : List ℕ). with_front front left) (range-parts items start stop end count ordered within stored some)
    ∙ sym (with_front-append (take count (slice_range items start stop)) (slice_range items (start + count) end) left)

begins-so : (front more : List ℕ) (left : Option (List ℕ)) → IfSome (with_front (front ++ more) left) (λ bytes. (rest : List ℕ) × (bytes ≡ front ++ rest))
begins-so front more None = tt
begins-so front more (Some bytes) = (more ++ bytes, append_assoc front more bytes)

-- what waits in a feed is the front of what it has left
pub waits-first : (items : List ℕ) (start stop end : ℕ) (left : Option (List ℕ)) → start ≤ stop → stop ≤ end → end ≤ length items →
    IfSome (with_front (slice_range items start end) left) (λ bytes. (rest : List ℕ) × (bytes ≡ slice_range items start stop ++ rest))
waits-first items start stop end left ordered within stored =
    let count : ℕ = length (slice_range items start stop) in
    let parts : slice_range items start end ≡ slice_range items start stop ++ slice_range items (start + count) end
    = range-parts items start stop end count ordered within stored (omega arith)
    ∙ ap (λ (front : List ℕ). front ++ slice_range items (start + count) end) (take_all count (slice_range items start stop) (omega arith)) in
    rw parts (begins-so (slice_range items start stop) (slice_range items (start + count) end) left)
