-- A whole plane: from what the reader gives to what its callers are promised.
use Rattle.std.proofs.Common.{◌≡◌, ℕ, ◌+◌, ◌-◌, ◌<◌, true, false, List, [], ◌∷◌, ◌++◌, length, take, drop, Some, Result, Ok, Err, refl, sym, ap, subst, ◌∙◌, arith, inl, inr, ltb}
use Rattle.pgm_planes.proofs.Words.{IfSome, IfOk, IfErr, cases_Bool, ltb-false, lt-ltb, length-append, take-append-drop, take_all, with_front, Plane, Sought, PlaneFault, ReadPlaneFault, PlaneOf, plane_of, SpellsSought, IsSoughtIn, SoughtBreak, SoughtAsks, Call, IsCutOff, HasSoughtCause, IsReadAsPlane, IsCutShort, Reading, asks, breaks, goes_beyond, Reads, sought_at}
use Rattle.pgm_planes.specs.declared.fault.ReadPlaneFault.TheVariants as errors
use Rattle.insar_ports.specs.Calls.{Takes as TakesText}
use Rattle.pgm_planes.proofs.HeaderLemmas.{done, ok_is, break_is, done_asks, break_asks, not_both, same_value, same_rest}
use Rattle.pgm_planes.proofs.PlaneAgain.{plane_or_break, break_told, plane_told}
use Rattle.pgm_planes.proofs.FarLemmas.{further, further_none, plane_far}
use Rattle.pgm_planes.proofs.AskLemmas.{told_asks, asks_told}
use Rattle.pgm_planes.proofs.CallLemmas.{told_on}
use Rattle.insar_ports.proofs.CallLemmas.{if_told, some_of, some_is}

-- what the reader read is a plane's text
pub record PlaneRead (sought : Sought) (at : ℕ) (bytes : List ℕ) (p : PlaneOf) (end : ℕ) (rest : List ℕ) : Type 0 where
  pub text : List ℕ
  pub parts : bytes ≡ text ++ rest
  pub place : end ≡ at + length text
  pub spells : SpellsSought sought text p rest

pub found : (sought : Sought) (at : ℕ) (bytes : List ℕ) (p : PlaneOf) (end : ℕ) (rest : List ℕ) → sought_at sought false at bytes ≡ done p end rest → PlaneRead sought at bytes p end rest
found sought at bytes p end rest e = elim (plane_or_break sought at bytes) [
  | inr b ↦ absurd (not_both p end rest b.0 (sym e ∙ break_told sought at bytes b.0 b.1))
  | inl t ↦
      let i = t.2 in
      let same = ok_is (t.0, at + length i.0, t.1) (p, end, rest) (sym (ap (sought_at sought false at) i.1 ∙ plane_told sought at i.0 t.0 t.1 i.2) ∙ e) in
      subst (λ (x : PlaneOf × ℕ × List ℕ). PlaneRead sought at bytes x.0 x.1 x.2) {x = (t.0, at + length i.0, t.1)} {y = (p, end, rest)} same (record { text = i.0; parts = i.1; place = refl; spells = i.2 })
]

-- what the reader refused has this first break
pub broken : (sought : Sought) (at : ℕ) (bytes : List ℕ) (f : PlaneFault) → sought_at sought false at bytes ≡ breaks f → SoughtBreak sought at bytes f
broken sought at bytes f e = elim (plane_or_break sought at bytes) [
  | inr b ↦ subst (SoughtBreak sought at bytes) (break_is {A = PlaneOf} b.0 f (sym (break_told sought at bytes b.0 b.1) ∙ e)) b.1
  | inl t ↦ let i = t.2 in absurd (not_both t.0 (at + length i.0) t.1 f (sym (ap (sought_at sought false at) i.1 ∙ plane_told sought at i.0 t.0 t.1 i.2) ∙ e))
]

-- what was read within the limit, where nothing more was asked for, is read of all bytes
within : (sought : Sought) (limit at : ℕ) (bytes : List ℕ) (r : Reading PlaneOf) → sought_at sought (goes_beyond limit at bytes) at (take (limit - at) bytes) ≡ r → ((r ≡ asks) → ⊥) → (h : List ℕ) × (sought_at sought false at bytes ≡ further r h)
within sought limit at bytes r e n = elim (cases_Bool (ltb limit (at + length bytes))) [
  | inr f ↦
      let all : take (limit - at) bytes ≡ bytes = take_all (limit - at) bytes (omega (arith, ltb-false limit (at + length bytes) f)) in
      ([], ap (sought_at sought false at) (sym all) ∙ (rw f at e) ∙ sym (further_none r))
  | inl t ↦
      let read : sought_at sought true at (take (limit - at) bytes) ≡ r = rw t at e in
      elim (plane_far (drop (limit - at) bytes) sought at (take (limit - at) bytes)) [
        | inl a ↦ absurd (n (sym read ∙ a))
        | inr f ↦ (drop (limit - at) bytes, ap (sought_at sought false at) (sym (take-append-drop (limit - at) bytes)) ∙ f ∙ ap (λ (x : Reading PlaneOf). further x (drop (limit - at) bytes)) read)
      ]
]

same_back : (front back other behind : List ℕ) → front ++ back ≡ other ++ behind → length front ≡ length other → back ≡ behind
same_back [] back [] behind e l = e
same_back [] back (y ∷ other) behind e l = absurd (omega (arith, l))
same_back (x ∷ front) back [] behind e l = absurd (omega (arith, l))
same_back (x ∷ front) back (y ∷ other) behind e l = same_back front back other behind (cc) (omega (arith, l))

module _ (sought : Sought) (c : Call) where
  -- what was read is read of all bytes that were told
  read_all : (plane : Plane) → Reads plane_of (Ok plane) c (sought_at sought) → (bytes : List ℕ) → c.told ≡ Some bytes → (rest : List ℕ) × (c.left ≡ Some rest) × (sought_at sought false c.at bytes ≡ done (plane_of plane) c.end rest)
  read_all plane r bytes t =
      let l = told_on r.moves.front c.told c.left bytes r.moves.parts t in
      let out : List ℕ = take (c.limit - c.end) l.0 in
      let w = within sought c.limit c.at bytes (done (plane_of plane) c.end out) (r.answers bytes l.0 t l.1) (done_asks (plane_of plane) c.end out) in
      let p = found sought c.at bytes (plane_of plane) c.end (out ++ w.0) w.1 in
      let parts : bytes ≡ r.moves.front ++ l.0 = some_is bytes (r.moves.front ++ l.0) (sym t ∙ r.moves.parts ∙ ap (with_front r.moves.front) l.1) in
      let same : out ++ w.0 ≡ l.0 = same_back p.text (out ++ w.0) r.moves.front l.0 (sym p.parts ∙ parts) (omega (arith, p.place, r.moves.place)) in
      (l.0, l.1, w.1 ∙ ap (λ (x : List ℕ). done (plane_of plane) c.end x) same)

  break_all : (fault : PlaneFault) → (let r : Result Plane ReadPlaneFault = Err (errors.Plane fault) in Reads plane_of r c (sought_at sought)) → (bytes : List ℕ) → c.told ≡ Some bytes → sought_at sought false c.at bytes ≡ breaks fault
  break_all fault r bytes t =
      let l = told_on r.moves.front c.told c.left bytes r.moves.parts t in
      (within sought c.limit c.at bytes (breaks fault) (r.answers bytes l.0 t l.1) (break_asks {A = PlaneOf} fault)).1

  is_taken : (plane : Plane) → Reads plane_of (Ok plane) c (sought_at sought) → TakesText c (λ text rest. SpellsSought sought text (plane_of plane) rest)
  is_taken plane r = if_told c.told _ (λ bytes t.
      let l = read_all plane r bytes t in
      let p = found sought c.at bytes (plane_of plane) c.end l.0 l.2 in
      (p.text, l.0, (p.parts, (l.1, (p.place, p.spells)))))

  pub takes_plane : (r : Result Plane ReadPlaneFault) → Reads plane_of r c (sought_at sought) → IfOk r (λ plane. TakesText c (λ text rest. SpellsSought sought text (plane_of plane) rest))
  takes_plane (Ok plane) r = is_taken plane r
  takes_plane (Err e) r = tt

  -- where the limit was handed out and another byte is left, the bytes go beyond it
  is_beyond : (front bytes rest : List ℕ) → bytes ≡ front ++ rest → c.end ≡ c.at + length front → c.end ≡ c.limit → 0 < length rest → c.limit < c.at + length bytes
  is_beyond front bytes rest parts place full more = omega (arith, ap length parts, length-append front rest, place, full, more)

  is_asked : (let r : Result Plane ReadPlaneFault = Err errors.TooLong in Reads plane_of r c (sought_at sought)) → IfSome c.told (IsCutOff (SoughtAsks sought) c)
  is_asked r = if_told c.told _ (λ bytes t.
      let l = told_on r.moves.front c.told c.left bytes r.moves.parts t in
      let parts : bytes ≡ r.moves.front ++ l.0 = some_is bytes (r.moves.front ++ l.0) (sym t ∙ r.moves.parts ∙ ap (with_front r.moves.front) l.1) in
      let more : 0 < length l.0 = (rw l.1 at r.answers.0.1) in
      let beyond = is_beyond r.moves.front bytes l.0 parts r.moves.place r.answers.0.0 more in
      let asked : sought_at sought (goes_beyond c.limit c.at bytes) c.at (take (c.limit - c.at) bytes) ≡ asks = r.answers.1 bytes l.0 t l.1 in
      (beyond, asks_told sought c.at (take (c.limit - c.at) bytes) (rw (lt-ltb c.limit (c.at + length bytes) beyond) at asked)))

  pub has_cause : (r : Result Plane ReadPlaneFault) → Reads plane_of r c (sought_at sought) → IfErr r (HasSoughtCause sought c)
  has_cause (Ok plane) r = tt
  has_cause (Err (errors.Plane fault)) r = if_told c.told _ (λ bytes t. broken sought c.at bytes fault (break_all fault r bytes t))
  has_cause (Err errors.TooLong) r = (r.answers.0.0, r.answers.0.1, is_asked r)
  has_cause (Err errors.ReadFault) r = r.answers
  has_cause (Err errors.Memory) r = tt

  -- bytes that begin with the plane are read as it
  pub read_as : (r : Result Plane ReadPlaneFault) → Reads plane_of r c (sought_at sought) → (bytes : List ℕ) → c.told ≡ Some bytes → (p : PlaneOf) (rest : List ℕ) → IsSoughtIn sought bytes p rest → IsReadAsPlane c p rest r
  read_as (Ok plane) r bytes t p rest i =
      let l = read_all plane r bytes t in
      let both : done (plane_of plane) c.end l.0 ≡ done p (c.at + length i.0) rest = sym l.2 ∙ ap (sought_at sought false c.at) i.1 ∙ plane_told sought c.at i.0 p rest i.2 in
      (same_value (plane_of plane) p c.end (c.at + length i.0) l.0 rest both, l.1 ∙ ap some_of (same_rest (plane_of plane) p c.end (c.at + length i.0) l.0 rest both))
  read_as (Err (errors.Plane fault)) r bytes t p rest i =
      not_both p (c.at + length i.0) rest fault (sym (plane_told sought c.at i.0 p rest i.2) ∙ ap (sought_at sought false c.at) (sym i.1) ∙ break_all fault r bytes t)
  read_as (Err errors.TooLong) r bytes t p rest i = tt
  read_as (Err errors.ReadFault) r bytes t p rest i = tt
  read_as (Err errors.Memory) r bytes t p rest i = tt

  pub accepts_plane : (r : Result Plane ReadPlaneFault) → Reads plane_of r c (sought_at sought) → IfSome c.told (λ bytes. (p : PlaneOf) (rest : List ℕ) → IsSoughtIn sought bytes p rest → IsReadAsPlane c p rest r)
  accepts_plane r h = if_told c.told _ (λ bytes t. read_as r h bytes t)

  -- bytes that are cut off ask for more within the limit
  cut_asks : (bytes : List ℕ) → IsCutOff (SoughtAsks sought) c bytes → sought_at sought (goes_beyond c.limit c.at bytes) c.at (take (c.limit - c.at) bytes) ≡ asks
  cut_asks bytes x = rw (lt-ltb c.limit (c.at + length bytes) x.0) (told_asks sought c.at (take (c.limit - c.at) bytes) x.1)

  cut_short : (r : Result Plane ReadPlaneFault) → Reads plane_of r c (sought_at sought) → (bytes : List ℕ) → c.told ≡ Some bytes → IsCutOff (SoughtAsks sought) c bytes → IsCutShort c r
  cut_short (Ok plane) r bytes t x =
      let l = told_on r.moves.front c.told c.left bytes r.moves.parts t in
      done_asks (plane_of plane) c.end (take (c.limit - c.end) l.0) (sym (r.answers bytes l.0 t l.1) ∙ cut_asks bytes x)
  cut_short (Err (errors.Plane fault)) r bytes t x =
      let l = told_on r.moves.front c.told c.left bytes r.moves.parts t in
      break_asks {A = PlaneOf} fault (sym (r.answers bytes l.0 t l.1) ∙ cut_asks bytes x)
  cut_short (Err errors.TooLong) r bytes t x = tt
  cut_short (Err errors.ReadFault) r bytes t x = r.answers
  cut_short (Err errors.Memory) r bytes t x = tt

  pub cuts_plane : (r : Result Plane ReadPlaneFault) → Reads plane_of r c (sought_at sought) → IfSome c.told (λ bytes. IsCutOff (SoughtAsks sought) c bytes → IsCutShort c r)
  cuts_plane r h = if_told c.told _ (λ bytes t. cut_short r h bytes t)
