use Rattle.insar_words.proofs.PlainReads.{plain_check, plain_check_whole, plain_forms, plain_grid, plain_trial, plain_unwrap, plain_whole}
use Rattle.insar_words.proofs.PlainRequests.{plain_closure, plain_displacement, plain_nearest, plain_parts, plain_screen, plain_watch}
use Rattle.insar_words.proofs.laws.plain_forms_are_read.Goals as goal

pub returns : goal.returns
returns c = record { any = plain_forms; unwrap = plain_unwrap; grid = plain_grid; check = plain_check; trial = plain_trial; screen = plain_screen; closure = plain_closure; displacement = plain_displacement; whole = plain_whole; check_whole = plain_check_whole; watch = plain_watch; nearest = plain_nearest; parts = plain_parts }
