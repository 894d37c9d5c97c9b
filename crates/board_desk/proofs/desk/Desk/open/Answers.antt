use Rattle.std.proofs.Common.{ap, rules, ◌∙◌, List, ◌++◌, [], ◌∷◌, Some}
use Rattle.board_desk.specs.Rules.{Item}
use Rattle.board_desk.proofs.Closing.{opens_with}
use Rattle.board_desk.proofs.desk.Desk.open.Goals as goal

pub new-requires : goal.new-requires
new-requires c =
    opens_with c.of-session.result.value c.args.board c.deref-3.result.now c.push.new.self.items (c.deref-3.ensures.value ∙ c.in_ok-words.ensures.items_if_clones_equal (λ y h. h))
    (c.in_ok-push.ensures.items ∙ ap (λ (l : List Item). l ++ Some c.args.board ∷ []) c.in_ok-slots.ensures.items) c.requires (search rules)
