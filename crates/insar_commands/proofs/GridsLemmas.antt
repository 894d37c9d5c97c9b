-- Grids that a source gives one after the other: what was read of them, why they were not, and that bytes spell them once.
use Rattle.std.proofs.Common.{◌≡◌, ℕ, ◌+◌, ◌≤◌, List, [], ◌∷◌, ◌++◌, length, Option, Some, sym, ap, subst, ◌∙◌, arith}
use Rattle.std.specs.Prelude.{All}
use Rattle.std.proofs.lemmas.List.{append-nil}
use Rattle.std.proofs.lemmas.List.Elements.{All-head, All-tail}
use Rattle.insar_ports.specs.Bytes.{with_front}
use Rattle.insar_ports.specs.Calls.{Call, Takes}
use Rattle.insar_ports.proofs.CallLemmas.{at_told, if_told}
use Rattle.text_lines.specs.Reading.{room_of}
use Rattle.grid_writer.specs.declared.fault.GridsFault.{GridsFault}
use Rattle.grid_writer.specs.declared.fault.GridsFault.TheVariants.{Line, Long, Sizes, After, ReadFault, Memory}
use Rattle.grid_writer.specs.Grids.{GridOf, IsGrid, IsSameGrid}
use Rattle.grid_writer.specs.ManyGrids.{AreGrids, BreaksGrids, HasGridsCause, text_of_grids}
use Rattle.grid_writer.proofs.GridReads.{grids_cancel}
use Rattle.grid_writer.proofs.ManyLemmas.{texts_do_not_break}
use Rattle.answer_lines.specs.declared.refusal.Refusal.{Refusal}
use Rattle.answer_lines.specs.declared.refusal.Refusal.TheVariants as refusals
use Rattle.insar_commands.specs.Causes.{HasReadCause}
use Rattle.insar_commands.specs.Grids.{AreGridsIn, BreaksMany, BreaksManyAt, max_grids_bytes}
use Rattle.answer_lines.specs.Refusals.{grids_refusal}
use Rattle.insar_commands.specs.Run.{ReadsAll}
use Rattle.insar_commands.proofs.SessionLemmas.{nothing_left}

-- ---- a call on a feed that may give as many bytes more as grids may have

module _ (count : ℕ) (c : Call) (limit : c.limit ≡ c.at + max_grids_bytes) where
  breaks : (bytes : List ℕ) (fault : GridsFault) → BreaksGrids count c.at (room_of c) bytes fault → BreaksGrids count c.at max_grids_bytes bytes fault
  breaks bytes fault b =
      let room : room_of c ≡ max_grids_bytes = omega (arith, limit) in
      subst (λ (room : ℕ). BreaksGrids count c.at room bytes fault) room b

  -- why they were not read
  pub cause_at : (fault : GridsFault) → HasGridsCause count c fault → HasReadCause (BreaksManyAt count c.at) c.told c.before c.after (grids_refusal fault)
  cause_at (Line grid line) h = if_told c.told _ (λ bytes t. breaks bytes (Line grid line) (at_told c.told _ bytes t h))
  cause_at (Long grid) h = if_told c.told _ (λ bytes t. breaks bytes (Long grid) (at_told c.told _ bytes t h))
  cause_at (Sizes grid) h = if_told c.told _ (λ bytes t. breaks bytes (Sizes grid) (at_told c.told _ bytes t h))
  cause_at (After byte) h = if_told c.told _ (λ bytes t. breaks bytes (After byte) (at_told c.told _ bytes t h))
  cause_at ReadFault h = h
  cause_at Memory h = tt

  -- they were read, and nothing is left
  pub read_at : (pending : List ℕ) (left : Option (List ℕ)) (grids : List GridOf) → c.left ≡ with_front pending left → c.end ≤ c.limit → (width : ℕ) × (height : ℕ) × AreGrids count width height grids → Takes c (λ text rest. (text ≡ text_of_grids grids) × (rest ≡ [])) → ReadsAll c.told left (λ bytes. AreGridsIn count bytes grids)
  read_at pending left grids is within are took = if_told c.told _ (λ bytes t.
      let h = at_told c.told _ bytes t took in
      let whole : bytes ≡ h.0 = h.2.0 ∙ ap (λ (l : List ℕ). h.0 ++ l) h.2.1.1.1.1 ∙ append-nil h.0 in
      let place = h.2.1.1.0 in
      let size = ap length whole in (
        record { width = are.0; height = are.1; are = are.2; spelled = whole ∙ h.2.1.1.1.0; within = omega (arith, limit, within, place, size) },
        nothing_left pending left (sym is ∙ h.2.1.0 ∙ ap Some h.2.1.1.1.1),
      ))

-- ---- and at its start

module _ (count : ℕ) (c : Call) (start : c.at ≡ 0) (limit : c.limit ≡ max_grids_bytes) where
  pub grids_cause : (fault : GridsFault) → HasGridsCause count c fault → HasReadCause (BreaksMany count) c.told c.before c.after (grids_refusal fault)
  grids_cause fault h = subst (λ (at : ℕ). HasReadCause (BreaksManyAt count at) c.told c.before c.after (grids_refusal fault)) start (cause_at count c (omega (arith, start, limit)) fault h)

  pub grids_read : (pending : List ℕ) (left : Option (List ℕ)) (grids : List GridOf) → c.left ≡ with_front pending left → c.end ≤ c.limit → (width : ℕ) × (height : ℕ) × AreGrids count width height grids → Takes c (λ text rest. (text ≡ text_of_grids grids) × (rest ≡ [])) → ReadsAll c.told left (λ bytes. AreGridsIn count bytes grids)
  grids_read = read_at count c (omega (arith, start, limit))

-- ---- bytes that have a break are not so many grids

pub no_grids_at : (count at : ℕ) (bytes : List ℕ) (grids : List GridOf) (refusal : Refusal) → AreGridsIn count bytes grids → BreaksManyAt count at bytes refusal → ⊥
no_grids_at count at bytes grids (refusals.GridLine grid line) a b = texts_do_not_break count at max_grids_bytes bytes (Line grid line) (a.width, a.height, grids, (a.are, a.spelled)) a.within b
no_grids_at count at bytes grids (refusals.GridLong grid) a b = texts_do_not_break count at max_grids_bytes bytes (Long grid) (a.width, a.height, grids, (a.are, a.spelled)) a.within b
no_grids_at count at bytes grids (refusals.GridSizes grid) a b = texts_do_not_break count at max_grids_bytes bytes (Sizes grid) (a.width, a.height, grids, (a.are, a.spelled)) a.within b
no_grids_at count at bytes grids (refusals.AfterGrids byte) a b = texts_do_not_break count at max_grids_bytes bytes (After byte) (a.width, a.height, grids, (a.are, a.spelled)) a.within b
no_grids_at count at bytes grids refusal a b = b

pub no_grids : (count : ℕ) (bytes : List ℕ) (grids : List GridOf) (refusal : Refusal) → AreGridsIn count bytes grids → BreaksMany count bytes refusal → ⊥
no_grids count bytes grids refusal a b = no_grids_at count 0 bytes grids refusal a b

-- ---- bytes spell grids once

-- each is the same as the one at its place
abbrev pub AreSame : List GridOf → List GridOf → Type 0
AreSame [] [] = Unit {0}
AreSame (g ∷ gs) (h ∷ hs) = IsSameGrid g h × AreSame gs hs
AreSame gs hs = ⊥

same_texts : (gs hs : List GridOf) → length gs ≡ length hs → All IsGrid gs → All IsGrid hs → text_of_grids gs ≡ text_of_grids hs → AreSame gs hs
same_texts [] [] n p q e = tt
same_texts [] (h ∷ hs) n p q e = absurd (omega (arith, n))
same_texts (g ∷ gs) [] n p q e = absurd (omega (arith, n))
same_texts (g ∷ gs) (h ∷ hs) n p q e =
    let same = grids_cancel g h (text_of_grids gs) (text_of_grids hs) (All-head IsGrid g gs p) (All-head IsGrid h hs q) e in
    (same.0, same_texts gs hs (omega (arith, n)) (All-tail IsGrid g gs p) (All-tail IsGrid h hs q) same.1)

pub same_grids : (count : ℕ) (bytes : List ℕ) (gs hs : List GridOf) → AreGridsIn count bytes gs → AreGridsIn count bytes hs → AreSame gs hs
same_grids count bytes gs hs a b = same_texts gs hs (a.are.count ∙ sym b.are.count) a.are.fit b.are.fit (sym a.spelled ∙ b.spelled)
