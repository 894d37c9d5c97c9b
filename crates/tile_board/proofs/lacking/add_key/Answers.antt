use Rattle.std.proofs.Common.{ℕ, ap, List}
use Rattle.std.specs.BTreeMap.{is_at}
use Rattle.std.specs.List.{list_any}
use Rattle.tile_board.specs.Lacking.{key_order}
use Rattle.tile_board.proofs.KeyLemmas.{added_is}
use Rattle.tile_board.proofs.ListLemmas.{on_err}
use Rattle.tile_board.proofs.lacking.add_key.Goals as goal

pub returns-clause-added : goal.returns-clause-added
returns-clause-added c = added_is c.args.keys.now _ c.args.claims c.args.tile c.in_ok-insert.ensures.updates

pub returns-in_err-insert-clause-refused : goal.returns-in_err-insert-clause-refused
returns-in_err-insert-clause-refused c = on_err c.from_residual.result _ (λ a b. ap (λ (ks : List (ℕ × ℕ)). list_any (is_at (key_order (a, b))) ks) c.in_err-insert.ensures.err)
