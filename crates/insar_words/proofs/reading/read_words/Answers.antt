use Rattle.std.proofs.lemmas.Result.{IfErr-weaker, IfOk-weaker}
use Rattle.clap.specs.Words.{app_of, found_of, rows_of}
use Rattle.insar_words.proofs.RequestLemmas.{asking_cause, failed_by, found_by, reads_as, request_told}
use Rattle.insar_words.proofs.reading.read_words.Goals as goal

pub returns-in_err-matches-clause-refused : goal.returns-in_err-matches-clause-refused
returns-in_err-matches-clause-refused c =
    let command = c.in_ok-stated_command in
    failed_by (app_of command.field-0) command.ensures c.args.words.now c.from_residual-in_err-matches.result c.in_err-matches.field-0.0 c.from_residual-in_err-matches.ensures.1 c.in_err-matches.ensures.kinds

pub request_or_fault-requires : goal.request_or_fault-requires
request_or_fault-requires c =
    let command = c.in_ok-stated_command in
    let m = c.in_ok-matches in
    let s = c.in-Some in
    let found = found_by (app_of command.field-0) command.ensures c.args.words.now m.matches s.name.now (rows_of (found_of s.found.now)) m.ensures.kinds m.ensures.matches s.ensures.name s.ensures.rows in
    record { named = reads_as _ s.name.now _ found.0 found.1 }

pub returns-clause-asked : goal.returns-clause-asked
returns-clause-asked c =
    let command = c.in_ok-stated_command in
    let m = c.in_ok-matches in
    let s = c.in-Some in
    let found = found_by (app_of command.field-0) command.ensures c.args.words.now m.matches s.name.now (rows_of (found_of s.found.now)) m.ensures.kinds m.ensures.matches s.ensures.name s.ensures.rows in
    IfOk-weaker c.request_or_fault.result _ _ (λ request tells. request_told c.args.words.now s.name.now _ request found.0 found.1 tells) c.request_or_fault.ensures.asked

pub returns-clause-refused : goal.returns-clause-refused
returns-clause-refused c =
    let command = c.in_ok-stated_command in
    let m = c.in_ok-matches in
    let s = c.in-Some in
    let found = found_by (app_of command.field-0) command.ensures c.args.words.now m.matches s.name.now (rows_of (found_of s.found.now)) m.ensures.kinds m.ensures.matches s.ensures.name s.ensures.rows in
    IfErr-weaker c.request_or_fault.result _ _ (λ fault tells. asking_cause c.args.words.now s.name.now _ fault found.0 found.1 tells) c.request_or_fault.ensures.refused
