use Rattle.std.proofs.Common.{◌≡◌, ◌∙◌, ◌+◌, ◌++◌, ◌∷◌, [], ap, arith, map, suc, subst, sym, take}
use Rattle.tile_board.specs.Lacking.{AreDifferent}
use Rattle.tile_board.proofs.ListLemmas.{map_push}
use Rattle.tile_board.proofs.FirstKeys.{firsts_differ, next_key, no_more_keys, so_many_firsts}
use Rattle.tile_board.proofs.lacking.tiles_of_first.Goals as goal

pub loop-place-preserved : goal.loop-place-preserved
loop-place-preserved c =
    let keys = c.args.keys.now.keys in
    let n = c.loop-place._place in
    let next = next_key keys n c.in-Some.key.now c.next.new.self (sym c.loop-place.invariant.left ∙ c.in-Some.ensures.steps) in
    let one : n + 1 ≡ suc n = omega arith in
    rw one (record {
      left = next.0;
      taken = c.in_ok-push.ensures.items ∙ ap (λ ts. ts ++ c.in-Some.key.now.1 ∷ []) c.loop-place.invariant.taken ∙ sym (map_push (λ key. key.1) (take n keys) c.in-Some.key.now) ∙ ap (map (λ key. key.1)) (sym next.1);
    })

pub returns-in_default-clause-count : goal.returns-in_default-clause-count
returns-in_default-clause-count c =
    let keys = c.args.keys.now in
    let all = no_more_keys keys.keys c.loop-place._place c.args.count (sym c.loop-place.invariant.left ∙ c.in_default.ensures.steps.0) (omega (arith, c.loop-place.auto._place-end)) in
    so_many_firsts keys c.args.count c.loop-place.tiles.items (c.loop-place.invariant.taken ∙ ap (map (λ key. key.1)) all)

pub returns-in_default-clause-tiles : goal.returns-in_default-clause-tiles
returns-in_default-clause-tiles c lacks claims are =
    let is = firsts_differ lacks claims c.args.keys.now c.loop-place._place are c.iter-rest.ensures.ordered c.iter-rest.ensures.found in
    subst (AreDifferent lacks) (sym c.loop-place.invariant.taken) is

pub returns-clause-tiles : goal.returns-clause-tiles
returns-clause-tiles c lacks claims are =
    let is = firsts_differ lacks claims c.args.keys.now c.loop-place._place are c.iter-rest.ensures.ordered c.iter-rest.ensures.found in
    subst (AreDifferent lacks) (sym c.loop-place.invariant.taken) is
