-- Several results that are handed in one after another.
use Rattle.std.proofs.Common.{◌≡◌, ◌∙◌, ℕ, Bool, true, false, List, [], ◌∷◌, ◌++◌, Option, Some, Result, Ok, Err, refl, ap, sym, subst, append_assoc}
use Rattle.std.specs.Prelude.{◌||◌, is_err}
use Rattle.std.specs.List.{list_any}
use Rattle.std.proofs.lemmas.List.Folds.{list_any-append}
use Rattle.raster_model.specs.declared.session.Session.{Session}
use Rattle.certificates.specs.declared.results.TileResult.{TileResult}
use Rattle.tile_board.specs.declared.answers.KeepFault.{KeepFault}
use Rattle.tile_board.specs.declared.entry.Entry.{Entry}
use Rattle.tile_board.specs.BoardView.{BoardView}
use Rattle.tile_board.specs.Calls.{WasGood, WasGoodAt}
use Rattle.board_desk.specs.Answers.{KeepAllAnswers, KeepAnswers, KeepsEach, is_starved}
use Rattle.board_desk.specs.Mine.{mine_of}
use Rattle.board_desk.specs.Rules.{Grows}
use Rattle.board_desk.proofs.Calls.{keep_grows, stays}
use Rattle.board_desk.proofs.Histories.{mine_of-append, prefix_trans}

grows_trans : (o : Option ℕ) (b n c : BoardView) → Grows o b n → Grows o n c → Grows o b c
grows_trans o b n c p q = record {
  added = p.added ++ q.added;
  log_is = q.log_is ∙ (ap (λ (l : List Entry). l ++ q.added) p.log_is ∙ append_assoc b.entries p.added q.added);
  session_is = q.session_is ∙ p.session_is;
  others = λ a apart. mine_of-append (Some a) p.added q.added ∙ (ap (λ (l : List Entry). l ++ mine_of (Some a) q.added) (p.others a apart) ∙ q.others a apart);
}

module _ {U : Type 0} where
  one_grows : (o : Option ℕ) (k : TileResult) (b c : BoardView) (answer : Result U KeepFault) → KeepAnswers k answer b c → Grows o b c
  one_grows o k b c (Ok x) told = keep_grows {U = U} o k b c (Ok x) told tt
  one_grows o k b c (Err e) told = keep_grows {U = U} o k b c (Err e) tt told.1

  pub keeps_grow : (o : Option ℕ) (ks : List TileResult) (answers : List (Result U KeepFault)) (b c : BoardView) → KeepsEach ks answers b c → Grows o b c
  keeps_grow o [] [] b c each = stays o b c each
  keeps_grow o [] (a ∷ answers) b c each = absurd each
  keeps_grow o (k ∷ ks) [] b c each = absurd each
  keeps_grow o (k ∷ ks) (a ∷ answers) b c each = grows_trans o b each.0 c (one_grows o k b each.0 a each.1) (keeps_grow o ks answers each.0 c each.2)

  -- one result more
  pub keeps_push : (ks : List TileResult) (answers : List (Result U KeepFault)) (k : TileResult) (a : Result U KeepFault) (b n c : BoardView) → KeepsEach ks answers b n → KeepAnswers k a n c → KeepsEach (ks ++ k ∷ []) (answers ++ a ∷ []) b c
  keeps_push [] [] k a b n c each told = (c, subst (λ (x : BoardView). KeepAnswers k a x c) each told, refl)
  keeps_push [] (d ∷ answers) k a b n c each told = absurd each
  keeps_push (j ∷ ks) [] k a b n c each told = absurd each
  keeps_push (j ∷ ks) (d ∷ answers) k a b n c each told = (each.0, each.1, keeps_push ks answers k a each.0 n c each.2 told)

-- these results were handed in so far, and it is known whether memory was lacking for one of them
pub record SoFar (U : Type 0) (ks : List TileResult) (starved : Bool) (b c : BoardView) : Type 0 where
  pub answers : List (Result U KeepFault)
  pub each : KeepsEach ks answers b c
  pub told : starved ≡ list_any is_starved answers

with_last : (x y : Bool) → (x || (y || false)) ≡ (x || y)
with_last true y = refl
with_last false true = refl
with_last false false = refl

module _ {U : Type 0} where
  pub one_more : (ks : List TileResult) (starved : Bool) (k : TileResult) (a : Result U KeepFault) (lacked : Bool) (b n c : BoardView) → SoFar U ks starved b n → KeepAnswers k a n c → lacked ≡ is_starved a → SoFar U (ks ++ k ∷ []) (starved || lacked) b c
  one_more ks starved k a lacked b n c s told e = record {
    answers = s.answers ++ a ∷ [];
    each = keeps_push ks s.answers k a b n c s.each told;
    told = ap (λ (x : Bool). x || lacked) s.told ∙ (ap (λ (x : Bool). list_any is_starved s.answers || x) e ∙ (sym (with_last (list_any is_starved s.answers) (is_starved a)) ∙ sym (list_any-append is_starved s.answers (a ∷ []))));
  }

  pub told_all : {E : Type 0} (ks items : List TileResult) (starved : Bool) (b c : BoardView) (answer : Result U E) → SoFar U ks starved b c → ks ≡ items → is_err answer ≡ starved → KeepAllAnswers items answer b c
  told_all ks items starved b c answer s same e = record {
    answers = s.answers;
    each = subst (λ (l : List TileResult). KeepsEach l s.answers b c) same s.each;
    starved = e ∙ s.told;
  }

-- what was good at an earlier point of a history was so at an earlier point of the history later
pub good_later : (o : Option ℕ) (b c : BoardView) (k : TileResult) → Grows o b c → WasGood b k → WasGood c k
good_later o b c k g was = record {
  earlier = was.earlier;
  begins = prefix_trans was.earlier b.entries c.entries was.begins (g.added, sym g.log_is);
  was = subst (λ (s : Session). WasGoodAt s was.earlier k) (sym g.session_is) was.was;
}
