-- Why nothing is published, if nothing was gathered or built.
use Rattle.surface_snapshots.specs.declared.fault.BuildFault.{BuildFault}
use Rattle.surface_snapshots.specs.declared.fault.BuildFault.TheVariants as build_faults
use Rattle.tile_board.specs.declared.answers.GatherFault.{GatherFault}
use Rattle.tile_board.specs.declared.answers.GatherFault.TheVariants as gather_faults
use Rattle.tile_board.specs.declared.answers.PublishFault.{PublishFault}
use Rattle.tile_board.specs.declared.answers.PublishFault.TheVariants.{Unready, Uncertified, Memory}

abbrev pub gathering_cause : GatherFault → PublishFault
gathering_cause (gather_faults.Unready t) = Unready t
gathering_cause gather_faults.Memory = Memory

abbrev pub building_cause : BuildFault → PublishFault
building_cause (build_faults.Uncertified verdict) = Uncertified verdict
building_cause build_faults.Memory = Memory
