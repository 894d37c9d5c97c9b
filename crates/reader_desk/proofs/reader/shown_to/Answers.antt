use Rattle.std.proofs.Common.{refl}
use Rattle.reader_desk.proofs.Naming.{meets}
use Rattle.reader_desk.proofs.reader.shown_to.Goals as goal

pub enter_as-requires : goal.enter_as-requires
enter_as-requires c x = meets _ _ x x refl
