use Rattle.session_script.proofs.maker.fn.weighed_beside_mask.join_mut+arg2.Goals as goal

pub returns : goal.returns
returns g c = c.weigh_side_by_side.ensures
