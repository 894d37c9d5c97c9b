-- Samples that are taken at once.
use Rattle.std.specs.Prelude.{◌≡◌, ℕ, ◌+◌, ◌≤◌, true, false, List, [], ◌++◌, length, All}
use Rattle.insar_ports.specs.Bytes.{with_front}
use Rattle.insar_ports.specs.Calls.{Call}
use Rattle.pgm_planes.specs.declared.samples.SampleForm.{SampleForm}
use Rattle.pgm_planes.specs.declared.samples.SampleForm.TheVariants.{Narrow, Wide, Digits}
use Rattle.pgm_planes.specs.Planes.{IsRaster}

-- the bytes are these samples; samples of digits are never taken at once
abbrev pub AreTogether : SampleForm → List ℕ → List ℕ → Type 0
AreTogether Narrow bytes vs = IsRaster false bytes vs
AreTogether Wide bytes vs = IsRaster true bytes vs
AreTogether Digits bytes vs = (bytes ≡ []) × (vs ≡ [])

-- the call took the bytes of at most so many samples, none above maxval, which follow the old ones
pub record TakesPiece (form : SampleForm) (maxval most : ℕ) (old new : List ℕ) (call : Call) : Type 0 where
  pub bytes : List ℕ
  pub added : List ℕ
  pub gains : new ≡ old ++ added
  pub few : length added ≤ most
  pub below : All (λ v. v ≤ maxval) added
  pub are : AreTogether form bytes added
  pub parts : call.told ≡ with_front bytes call.left
  pub place : call.end ≡ call.at + length bytes
  pub within : call.end ≤ call.limit
  pub grows : call.before ≤ call.after
