use Rattle.std.proofs.Common.{codes}
use Rattle.clap.specs.Words.{found_of, rows_of}
use Rattle.insar_words.proofs.RequestLemmas.{has_own}
use Rattle.insar_words.proofs.reading.request_of.Goals as goal

pub solving_settings-requires : goal.solving_settings-requires
solving_settings-requires c = record { options = has_own (codes "unwrap") c.args.name.now (rows_of (found_of c.args.found.now)) c.in-unwrap.is c.requires.named }

pub solving_settings-requires-in-grid : goal.solving_settings-requires-in-grid
solving_settings-requires-in-grid c = record { options = has_own (codes "grid") c.args.name.now (rows_of (found_of c.args.found.now)) c.in-grid.is c.requires.named }

pub checking_settings-requires : goal.checking_settings-requires
checking_settings-requires c = record { options = has_own (codes "check") c.args.name.now (rows_of (found_of c.args.found.now)) c.in-check.is c.requires.named }

pub trial_of-requires-clause-raster : goal.trial_of-requires-clause-raster
trial_of-requires-clause-raster c =
    let has = has_own (codes "trial") c.args.name.now (rows_of (found_of c.args.found.now)) c.in-trial.is c.requires.named in
    (has.0, (has.1.0, (has.1.1.0, tt)))

pub trial_of-requires-clause-options : goal.trial_of-requires-clause-options
trial_of-requires-clause-options c = (has_own (codes "trial") c.args.name.now (rows_of (found_of c.args.found.now)) c.in-trial.is c.requires.named).1.1.1

pub screening_of-requires : goal.screening_of-requires
screening_of-requires c = has_own (codes "screen") c.args.name.now (rows_of (found_of c.args.found.now)) c.in-screen.is c.requires.named

pub displacing_of-requires : goal.displacing_of-requires
displacing_of-requires c = has_own (codes "displacement") c.args.name.now (rows_of (found_of c.args.found.now)) c.in-displacement.is c.requires.named

pub whole_settings-requires : goal.whole_settings-requires
whole_settings-requires c = record { options = has_own (codes "whole") c.args.name.now (rows_of (found_of c.args.found.now)) c.in-whole.is c.requires.named }

pub settings_with-requires-clause-options : goal.settings_with-requires-clause-options
settings_with-requires-clause-options c = has_own (codes "check-whole") c.args.name.now (rows_of (found_of c.args.found.now)) c.in-text.is c.requires.named

pub watching_of-requires : goal.watching_of-requires
watching_of-requires c = has_own (codes "watch") c.args.name.now (rows_of (found_of c.args.found.now)) c.in-watch.is c.requires.named

pub parting_of-requires : goal.parting_of-requires
parting_of-requires c = has_own (codes "parts") c.args.name.now (rows_of (found_of c.args.found.now)) c.in-parts.is c.requires.named
