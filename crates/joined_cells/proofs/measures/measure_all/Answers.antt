use Rattle.std.proofs.Common.{◌<◌, inl, inr, ◌∙◌, ap, refl, arith, length}
use Rattle.std.specs.Prelude.{◌==◌, slice_index}
use Rattle.std.specs.List.{count_by}
use Rattle.std.proofs.lemmas.List.{take_all}
use Rattle.std.proofs.lemmas.Bool.{cases_lt}
use Rattle.joined_cells.proofs.MeasureLemmas.{first_is, measured_beyond, measured_on}
use Rattle.joined_cells.proofs.measures.measure_all.Goals as goal

pub loop-place-init : goal.loop-place-init
loop-place-init c = record {
  counts = λ n l. c.requires.zeros n;
  small = λ n. omega (arith, c.requires.zeros n);
  none = λ n l z j m. absurd (omega arith);
  places = λ n l m. absurd (omega (arith, m, c.requires.zeros n));
}

pub note_pixel-requires-clause-room : goal.note_pixel-requires-clause-room
note_pixel-requires-clause-room c = omega (arith, c.loop-place.invariant.small (slice_index c.args.labels.now c.loop-place.place), c.requires.few)

pub loop-place-preserved : goal.loop-place-preserved
loop-place-preserved c =
    let ls = c.args.labels.now in
    let k = c.loop-place.place in
    let is = c.loop-place.invariant in
    let inside : k < length ls = omega arith in
    elim (cases_lt (slice_index ls k) (length c.loop-place.sizes)) [
      | inl l ↦ rw (c.note_pixel.ensures.counted l) (measured_on ls k inside c.loop-place.sizes c.loop-place.firsts is (slice_index ls k) refl l c.note_pixel.new.firsts (c.note_pixel.ensures.first l) (c.note_pixel.ensures.later l) (omega (arith, c.requires.beside, c.loop-place.auto.sizes, c.loop-place.auto.firsts)))
      | inr b ↦ (let t = c.note_pixel.ensures.beyond b in rw (t.0, t.1) (measured_beyond ls k inside c.loop-place.sizes c.loop-place.firsts is b))
    ]

pub returns-clause-sizes : goal.returns-clause-sizes
returns-clause-sizes c n l = c.loop-place.invariant.counts n l ∙ ap (count_by (λ label. label == n)) (take_all c.loop-place.place c.args.labels.now (omega arith))

pub returns-clause-firsts : goal.returns-clause-firsts
returns-clause-firsts c n i l m e = elim (cases_lt 0 (slice_index c.loop-place.sizes n)) [
  | inl p ↦ (
      let f = c.loop-place.invariant.places n l (omega (arith, p)) in
      first_is c.args.labels.now n (slice_index c.loop-place.firsts n) (omega (arith, f.0)) f.1)
  | inr z ↦ absurd (c.loop-place.invariant.none n l (omega (arith, z)) i (omega (arith, m)) e)
]
