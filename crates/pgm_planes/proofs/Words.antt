-- The words that the proofs of this crate share: of its own specs, of the crates below and of the library.
pub use Rattle.byteorder.specs.Endian.{big_number, IsRead, big_bytes}
pub use Rattle.insar_ports.specs.Bytes.{with_front, after_first, BeginsWith, HasMore, HasRisen, IsAtEnd, with_end, GainsProperPrefix}
pub use Rattle.insar_ports.specs.Calls.{Call, IsCutOff, Moves, call_of}
pub use Rattle.insar_ports.specs.Feeding.{ready_of, faults_of, handed_of, left_of, limit_of, source_name}
pub use Rattle.insar_ports.specs.declared.feed.FeedFault.{FeedFault}
pub use Rattle.pgm_planes.specs.Asking.{SoughtAsks, EndsAbove, EndsInRaster}
pub use Rattle.pgm_planes.specs.Breaks.{SoughtBreak, HasNoGap, HasNoNumber, EndsInComment, HasSamples, IsAbove, is_in_comment, BreaksInHeader, IsShort, HasNoMagic, HasEnded, IsPartOfSample, is_hash, BreaksAtMaxval, BreaksInRaster, HasOtherMaxval, HasSizeBeyond}
pub use Rattle.pgm_planes.specs.Causes.{HasSoughtCause, IsReadAsPlane, IsCutShort}
pub use Rattle.pgm_planes.specs.Faults.{plane_fault_of_feed}
pub use Rattle.pgm_planes.specs.Gaps.{is_space, is_line_end, is_digit, is_gap, begins, is_number, capped_number, is_blank, is_filling, goes_on_to}
pub use Rattle.pgm_planes.specs.Pieces.{AreTogether, TakesPiece}
pub use Rattle.pgm_planes.specs.Planes.{Sought, sought_within, PlaneOf, plane_of, SpellsSought, IsSoughtIn, AreNumbers, HasMaxval, IsSizeWithin, max_side_within, max_pixels_within, digit_of, HasHeader, AreSamples, IsPlaneEnd, IsSoughtText, IsRaster, IsSoughtPlane, is_wide}
pub use Rattle.pgm_planes.specs.Reading.{Reading, Reader, ◌⟫◌, ◌▸◌, here, breaks, asks, unless_more, nothing, goes_beyond, fails, or_fails, judged_at, on_step, filling_end, filling_at, blanks_at, digits_at, end_or, space_or, number_or, AnswersReader, Reads, spelling_of, inside_after, with_digit, HeaderOf, unless_broken, header_break, header_of, as_refusal, judged, form_of, end_of, is_too_large, maxval_break, Told, pure}
unfoldable pub use Rattle.pgm_planes.specs.Reading.{byte_at, sight_at, octet_at, magic_at, space_at, scan_at, numeral_at, field_at, header_at, spelled_sample_at, samples_at, end_at, raster_at, sought_at}
pub use Rattle.pgm_planes.specs.Text.{raster_text, sample_text}
unfoldable pub use Rattle.pgm_planes.specs.Text.{plane_header_text, plane_text}
pub use Rattle.pgm_planes.specs.declared.extent.Extent.{Extent}
pub use Rattle.pgm_planes.specs.declared.extent.Extent.TheVariants.{Tiled, Whole}
pub use Rattle.pgm_planes.specs.declared.fault.PlaneFault.{PlaneFault}
pub use Rattle.pgm_planes.specs.declared.fault.PlaneFault.TheVariants.{Form, Magic, Short, SampleAbove, Size, PhaseMaxval}
pub use Rattle.pgm_planes.specs.declared.fault.ReadPlaneFault.{ReadPlaneFault}
pub use Rattle.pgm_planes.specs.declared.fault.Role.{Role}
pub use Rattle.pgm_planes.specs.declared.fault.Role.TheVariants.{Phase, Weight, Mask}
pub use Rattle.pgm_planes.specs.declared.header.Header.{Header}
pub use Rattle.pgm_planes.specs.declared.samples.SampleForm.{SampleForm}
pub use Rattle.pgm_planes.specs.declared.samples.SampleForm.TheVariants.{Narrow, Wide, Digits}
pub use Rattle.pgm_planes.specs.declared.spelling.Spelling.{Spelling}
pub use Rattle.pgm_planes.specs.declared.spelling.Spelling.TheVariants.{Raw, Plain}
pub use Rattle.raster_model.specs.declared.plane.Plane.{Plane}
pub use Rattle.std.proofs.Math.Seq.{take-append-add, take-add}
pub use Rattle.std.proofs.lemmas.Bool.{cases_Bool, not-true, ltb-false, lt-ltb, both_ways, eqb-true, eqb-false, le-ltb, ne_eqb, or_parts, and_parts, ltb-true, or_cases, cases_lt}
pub use Rattle.std.proofs.lemmas.Fmt.{decimal_by_steps}
pub use Rattle.std.proofs.lemmas.Grind.{flat_map-append}
pub use Rattle.std.proofs.lemmas.List.{length-append, take-append-drop, take_all, append_cancel_right, length-take, length-take-le, take-take}
pub use Rattle.std.proofs.lemmas.List.Elements.{All-from_recursion, All-nil, recursion_from_All, All-more, All-from_get_or}
pub use Rattle.std.proofs.lemmas.Nat.{mul-le}
pub use Rattle.std.proofs.lemmas.Result.{err_from_is_err_and}
pub use Rattle.std.specs.Global.{Vec}
pub use Rattle.std.specs.List.{list_all, AllByRecursion}
pub use Rattle.std.specs.Prelude.{IfSome, IsErrAnd, IfOk, IfErr, ◌≢◌, ⊤, OnErr, All, flat_map}
