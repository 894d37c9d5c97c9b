use Rattle.std.proofs.Common.{◌≡◌, ◌+◌, ◌++◌, ◌∷◌, ◌∙◌, List, [], ap, subst, sym}
use Rattle.std.specs.List.{All}
use Rattle.board_desk.specs.Passes.{DeskView, HaveAnalysts, IsPassOf, PassView, desk_of, first_pass}
use Rattle.board_desk.proofs.Closing.{first_analysts, first_is, first_more, first_own}
use Rattle.board_desk.proofs.desk.first_passes.Goals as goal

pub loop-before-preserved : goal.loop-before-preserved
loop-before-preserved c =
    let i = c.loop-before.invariant in
    let d : DeskView = desk_of c.args.hall.now.table_id c.args.hall.now.key.value in
    let at = i.own ∙ c.requires.own in
    let now : c.enroll.result ≡ first_pass d (c.loop-before.before + 1) = first_is d c.loop-before.giver.table_id c.loop-before.giver.me.0.session (c.loop-before.before + 1) c.enroll.result at i.session c.enroll.ensures.pass in record {
      own = c.enroll.ensures.own ∙ i.own;
      gives = c.enroll.ensures.gives.0;
      next = c.enroll.ensures.gives.1;
      seen = c.enroll.ensures.gives.2;
      session = c.enroll.ensures.gives.3 ∙ i.session;
      passes = c.in_ok-push.ensures.items ∙ (ap (λ (p : PassView). c.loop-before.passes.items ++ p ∷ []) now ∙ (ap (λ (l : List PassView). l ++ first_pass d (c.loop-before.before + 1) ∷ []) i.passes ∙ sym (first_more d c.loop-before.before)));
    }

pub returns-clause-own : goal.returns-clause-own
returns-clause-own c = (let d : DeskView = desk_of c.args.hall.now.table_id c.args.hall.now.key.value in subst (All (IsPassOf d)) (sym c.loop-before.invariant.passes) (first_own d c.loop-before.before))

pub returns-clause-analysts : goal.returns-clause-analysts
returns-clause-analysts c = (let d : DeskView = desk_of c.args.hall.now.table_id c.args.hall.now.key.value in subst HaveAnalysts (sym c.loop-before.invariant.passes) (first_analysts d c.loop-before.before))
