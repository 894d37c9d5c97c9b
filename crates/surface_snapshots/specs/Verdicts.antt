-- What is said of offsets and flows for a surface: that they are certified, or the first break.
use Rattle.std.specs.Prelude.{◌≡◌, ◌≢◌, ◌⊎◌, length}
use Rattle.certificates.specs.declared.verdicts.SeamVerdict.{SeamVerdict}
use Rattle.certificates.specs.declared.verdicts.SeamVerdict.TheVariants.{Good, Shape, Range}
use Rattle.certificates.specs.SeamVerdicts.{IsSeamVerdict}
use Rattle.seam_regions.specs.Offsets.{AreNear, IsFirstFar}
use Rattle.seam_regions.specs.Regions.{AreRegionsOf, region_label}
use Rattle.surface_snapshots.specs.declared.fault.BuildFault.{BuildFault}
use Rattle.surface_snapshots.specs.declared.fault.BuildFault.TheVariants.{Uncertified, Memory}
use Rattle.surface_snapshots.specs.Parts.{Parts, raster_in, open_in, cycles_in_parts, flows_in}

-- there is an offset for each region
abbrev pub HasOffsets : Parts → Type 0
HasOffsets parts = length parts.seams.offsets ≡ parts.regions.count

-- what the check of the flows says of the surface
abbrev pub IsPartsFlowsVerdict : Parts → SeamVerdict → Type 0
IsPartsFlowsVerdict parts = IsSeamVerdict (raster_in parts) (open_in parts) (region_label parts.regions) parts.regions.count (cycles_in_parts parts) (flows_in parts)

-- the verdict: the number of the offsets, then their range, then what the check of the flows says
abbrev pub IsPartsVerdict : Parts → SeamVerdict → Type 0
IsPartsVerdict parts Shape = (length parts.seams.offsets ≢ parts.regions.count) ⊎ (HasOffsets parts × AreNear parts.seams.offsets × IsPartsFlowsVerdict parts Shape)
IsPartsVerdict parts (Range v) = HasOffsets parts × IsFirstFar parts.seams.offsets v
IsPartsVerdict parts verdict = HasOffsets parts × AreNear parts.seams.offsets × IsPartsFlowsVerdict parts verdict

-- why no snapshot is made of the parts: a verdict other than Good, or lack of memory, which is told only of offsets that are right in number and range
abbrev pub IsFault : Parts → BuildFault → Type 0
IsFault parts (Uncertified verdict) = (verdict ≢ Good) × IsPartsVerdict parts verdict
IsFault parts Memory = HasOffsets parts × AreNear parts.seams.offsets

-- no parts have two verdicts, if the regions are the mask's
abbrev pub PartsHaveOneVerdict : Type 0
PartsHaveOneVerdict = (parts : Parts) (a b : SeamVerdict) → AreRegionsOf parts.session.scene.tiling parts.mask parts.regions → IsPartsVerdict parts a → IsPartsVerdict parts b → a ≡ b
