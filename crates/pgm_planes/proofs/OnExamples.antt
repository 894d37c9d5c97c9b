-- Worked examples: a line of four phases, raw, raw with a comment in its header, and plain; and a sample above maxval.
-- What the reader reads of them is computed, and by its proof they are spelled so, or break there.
use Rattle.std.proofs.Common.{◌≡◌, ℕ, false, List, [], ◌∷◌, ◌++◌, get_or, refl, sym, ap, subst, arith}
use Rattle.std.specs.Fmt.{digits}
use Rattle.pgm_planes.proofs.Words.{scan_at, append_cancel_right, Tiled, Sought, sought_within, Phase, SampleAbove, Spelling, Raw, Plain, PlaneOf, digit_of, IsSoughtText, SoughtBreak, sight_at, byte_at, octet_at, magic_at, space_at, numeral_at, field_at, header_at, spelled_sample_at, samples_at, end_at, raster_at, sought_at, plane_header_text, plane_text}
use Rattle.pgm_planes.proofs.HeaderLemmas.{done}
use Rattle.pgm_planes.proofs.AnswerLemmas.{found, broken}

-- a phase plane of a raster with tiles
abbrev phase : Sought
phase = sought_within Tiled Phase

-- the magic says how a plane is spelled
by_magic : (sought : Sought) (spelling other : Spelling) (text : List ℕ) (p : PlaneOf) (rest : List ℕ) → IsSoughtText other sought (80 ∷ digit_of spelling ∷ text) p rest → IsSoughtText spelling sought (80 ∷ digit_of spelling ∷ text) p rest
by_magic sought Raw Raw text p rest t = t
by_magic sought Plain Plain text p rest t = t
by_magic sought Raw Plain text p rest t = absurd (omega (arith, ap (λ (l : List ℕ). get_or l 1 0) t.header.whole))
by_magic sought Plain Raw text p rest t = absurd (omega (arith, ap (λ (l : List ℕ). get_or l 1 0) t.header.whole))

read_so : (sought : Sought) (spelling : Spelling) (text : List ℕ) (p : PlaneOf) (end : ℕ) (rest : List ℕ) → sought_at sought false 0 ((80 ∷ digit_of spelling ∷ text) ++ rest) ≡ done p end rest → IsSoughtText spelling sought (80 ∷ digit_of spelling ∷ text) p rest
read_so sought spelling text p end rest e =
    let whole : List ℕ = 80 ∷ digit_of spelling ∷ text in
    let f = found sought 0 (whole ++ rest) p end rest e in
    by_magic sought spelling f.spells.0 text p rest (subst (λ (t : List ℕ). IsSoughtText f.spells.0 sought t p rest) (append_cancel_right f.text whole rest (sym f.parts)) f.spells.1)

-- 4 by 1 pixels with the phases 0, 20000, 40000 and 60000
abbrev pub line : PlaneOf
line = record { width = 4; height = 1; maxval = 65535; samples = 0 ∷ 20000 ∷ 40000 ∷ 60000 ∷ [] }

-- P5, LF, 4 1, LF, 65535, LF and eight bytes, and then a P
line_is_spelled : IsSoughtText Raw phase (80 ∷ 53 ∷ 10 ∷ 52 ∷ 32 ∷ 49 ∷ 10 ∷ 54 ∷ 53 ∷ 53 ∷ 51 ∷ 53 ∷ 10 ∷ 0 ∷ 0 ∷ 78 ∷ 32 ∷ 156 ∷ 64 ∷ 234 ∷ 96 ∷ []) line (80 ∷ [])
unfolding sought_at byte_at octet_at magic_at header_at field_at space_at scan_at numeral_at raster_at samples_at spelled_sample_at
line_is_spelled = read_so phase Raw (10 ∷ 52 ∷ 32 ∷ 49 ∷ 10 ∷ 54 ∷ 53 ∷ 53 ∷ 51 ∷ 53 ∷ 10 ∷ 0 ∷ 0 ∷ 78 ∷ 32 ∷ 156 ∷ 64 ∷ 234 ∷ 96 ∷ []) line 21 (80 ∷ []) refl

-- P5, LF, the line "# by hand", then as above
line_with_comment_is_spelled : IsSoughtText Raw phase (80 ∷ 53 ∷ 10 ∷ 35 ∷ 32 ∷ 98 ∷ 121 ∷ 32 ∷ 104 ∷ 97 ∷ 110 ∷ 100 ∷ 10 ∷ 52 ∷ 32 ∷ 49 ∷ 10 ∷ 54 ∷ 53 ∷ 53 ∷ 51 ∷ 53 ∷ 10 ∷ 0 ∷ 0 ∷ 78 ∷ 32 ∷ 156 ∷ 64 ∷ 234 ∷ 96 ∷ []) line []
unfolding sought_at byte_at octet_at magic_at header_at field_at space_at scan_at numeral_at raster_at samples_at spelled_sample_at
line_with_comment_is_spelled = read_so phase Raw _ line 31 [] refl

-- 2 by 1 pixels with the phases 0 and 7
abbrev pub pair : PlaneOf
pair = record { width = 2; height = 1; maxval = 65535; samples = 0 ∷ 7 ∷ [] }

-- P2 2 1 65535, two spaces, 0, LF, 007, LF, and then a P
pair_is_spelled : IsSoughtText Plain phase (80 ∷ 50 ∷ 32 ∷ 50 ∷ 32 ∷ 49 ∷ 32 ∷ 54 ∷ 53 ∷ 53 ∷ 51 ∷ 53 ∷ 32 ∷ 32 ∷ 48 ∷ 10 ∷ 48 ∷ 48 ∷ 55 ∷ 10 ∷ []) pair (80 ∷ [])
unfolding sought_at byte_at octet_at magic_at header_at field_at space_at scan_at numeral_at raster_at samples_at spelled_sample_at end_at sight_at
pair_is_spelled = read_so phase Plain _ pair 20 (80 ∷ []) refl

-- P2 2 1 65535 0 70000: the second sample is above maxval, whatever follows
second_is_above : SoughtBreak phase 0 (80 ∷ 50 ∷ 32 ∷ 50 ∷ 32 ∷ 49 ∷ 32 ∷ 54 ∷ 53 ∷ 53 ∷ 51 ∷ 53 ∷ 32 ∷ 48 ∷ 32 ∷ 55 ∷ 48 ∷ 48 ∷ 48 ∷ 48 ∷ 33 ∷ []) (SampleAbove 1 70000)
unfolding sought_at byte_at octet_at magic_at header_at field_at space_at scan_at numeral_at raster_at samples_at spelled_sample_at
second_is_above = broken phase 0 _ (SampleAbove 1 70000) refl

-- P5, LF, 2 1, LF, 65535, LF, and four bytes
pair_is_written : plane_text pair ≡ 80 ∷ 53 ∷ 10 ∷ 50 ∷ 32 ∷ 49 ∷ 10 ∷ 54 ∷ 53 ∷ 53 ∷ 51 ∷ 53 ∷ 10 ∷ 0 ∷ 0 ∷ 0 ∷ 7 ∷ []
unfolding plane_text plane_header_text digits
pair_is_written = refl
