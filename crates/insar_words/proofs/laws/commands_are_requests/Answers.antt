use Rattle.insar_words.proofs.RequestLemmas.{check_is_request, check_whole_is_request, grid_is_request, trial_is_request, unwrap_is_request, watch_is_request, whole_is_request}
use Rattle.insar_words.proofs.laws.commands_are_requests.Goals as goal

pub returns : goal.returns
returns c = record { unwrap = unwrap_is_request; grid = grid_is_request; check = check_is_request; trial = trial_is_request; whole = whole_is_request; check_whole = check_whole_is_request; watch = watch_is_request }
