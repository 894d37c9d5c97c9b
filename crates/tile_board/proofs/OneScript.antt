-- Where there is one analyst, the script tells which revision is published last.
use Rattle.std.proofs.Common.{◌≡◌, ◌∙◌, ℕ, zero, suc, ◌+◌, List, [], ◌∷◌, ◌++◌, Bool, false, Option, Some, None, length, take, refl, sym, ap, subst, arith}
use Rattle.std.specs.Prelude.{cond, count_by, slice_get, ◌==◌}
use Rattle.std.specs.List.{last_or}
use Rattle.std.proofs.lemmas.List.{append-nil, take_all}
use Rattle.std.proofs.lemmas.List.Sums.{sum_by-cons, sum_by_push}
use Rattle.raster_model.specs.declared.script.Command.{Command}
use Rattle.raster_model.specs.declared.script.Command.TheVariants.{Change, Settle, Show}
use Rattle.raster_model.specs.declared.script.Edit.{Edit}
use Rattle.raster_model.specs.declared.script.Script.{Script}
use Rattle.raster_model.specs.declared.session.Session.{Session}
use Rattle.raster_model.specs.Scripts.{is_change}
use Rattle.tile_board.specs.declared.entry.Entry.{Entry}
use Rattle.tile_board.specs.declared.entry.Entry.TheVariants.{Revised, Kept, Published, Settled, Shown}
use Rattle.tile_board.specs.Histories.{IsComplete, IsLegal, IsStep, commands_of, done_by, edit_of, names, newest_of, next_command, now_of, script_in, script_of}
use Rattle.tile_board.proofs.HistoryLemmas.{by_entries, done_push, edits_same, newest_more, newest_same, now_more}
use Rattle.tile_board.proofs.ListLemmas.{get_below, get_beyond, get_none, take_one}
use Rattle.tile_board.specs.LastSettled.{OneScriptTellsTheRevision, last_settled, settled_revisions}

-- ---- a script with one command more

abbrev one_where : Bool → ℕ
one_where b = cond b 1 0

abbrev changes : List Command → ℕ
changes commands = count_by is_change commands

-- what a command settles after n changes
settled_push : (n : ℕ) (commands : List Command) (c : Command) → settled_revisions n (commands ++ (c ∷ [])) ≡ settled_revisions n commands ++ settled_revisions (n + changes commands) (c ∷ [])
unfolding settled_revisions
settled_push n [] c = (let e : n + 0 ≡ n = omega arith in ap (λ (k : ℕ). settled_revisions k (c ∷ [])) (sym e))
settled_push n (Change edit ∷ commands) c =
    let e : (n + 1) + changes commands ≡ n + changes (Change edit ∷ commands) = omega (arith, sum_by-cons (λ (d : Command). one_where (is_change d)) (Change edit) commands) in
    settled_push (n + 1) commands c ∙ ap (λ (k : ℕ). settled_revisions (n + 1) commands ++ settled_revisions k (c ∷ [])) e
settled_push n (Settle ∷ commands) c =
    let e : n + changes commands ≡ n + changes (Settle ∷ commands) = omega (arith, sum_by-cons (λ (d : Command). one_where (is_change d)) Settle commands) in
    ap (λ (l : List ℕ). n ∷ l) (settled_push n commands c ∙ ap (λ (k : ℕ). settled_revisions n commands ++ settled_revisions k (c ∷ [])) e)
settled_push n (Show ∷ commands) c =
    let e : n + changes commands ≡ n + changes (Show ∷ commands) = omega (arith, sum_by-cons (λ (d : Command). one_where (is_change d)) Show commands) in
    settled_push n commands c ∙ ap (λ (k : ℕ). settled_revisions n commands ++ settled_revisions k (c ∷ [])) e

last_push : {A : Type 0} (o : Option A) (xs : List A) (x : A) → last_or o (xs ++ (x ∷ [])) ≡ Some x
last_push o [] x = refl
last_push o (y ∷ xs) x = last_push (Some y) xs x

changes_push : (commands : List Command) (c : Command) → changes (commands ++ (c ∷ [])) ≡ changes commands + one_where (is_change c)
changes_push commands c = sum_by_push (λ (d : Command). one_where (is_change d)) commands c

-- a command that changes nothing adds no change
none_more : (commands : List Command) (c : Command) → is_change c ≡ false → changes commands ≡ changes (commands ++ (c ∷ []))
none_more commands c e = omega (arith, changes_push commands c, ap one_where e)

settled_change : (commands : List Command) (edit : Edit) → last_settled (commands ++ (Change edit ∷ [])) ≡ last_settled commands
unfolding settled_revisions
settled_change commands edit = ap (last_or None) (settled_push 0 commands (Change edit) ∙ append-nil (settled_revisions 0 commands))

settled_show : (commands : List Command) → last_settled (commands ++ (Show ∷ [])) ≡ last_settled commands
unfolding settled_revisions
settled_show commands = ap (last_or None) (settled_push 0 commands Show ∙ append-nil (settled_revisions 0 commands))

settled_settle : (commands : List Command) → last_settled (commands ++ (Settle ∷ [])) ≡ Some (changes commands)
unfolding settled_revisions
settled_settle commands =
    let e : 0 + changes commands ≡ changes commands = omega arith in
    ap (last_or None) (settled_push 0 commands Settle) ∙ last_push None (settled_revisions 0 commands) (0 + changes commands) ∙ ap Some e

-- ---- one analyst

first_alone : (scripts : List Script) (script : Script) → scripts ≡ script ∷ [] → (a n : ℕ) (c : Command) → slice_get (script_in scripts a) n ≡ Some c → a ≡ 1
first_alone scripts script one zero n c at = absurd (omega (arith, get_below [] n c at))
first_alone scripts script one (suc zero) n c at = omega arith
first_alone scripts script one (suc (suc k)) n c at =
    let none : slice_get scripts (suc k) ≡ None = ap (λ (l : List Script). slice_get l (suc k)) one ∙ get_beyond (script ∷ []) (suc k) (omega arith) in
    absurd (omega (arith, get_below [] n c (ap (λ (o : Option Script). slice_get (commands_of o) n) (sym none) ∙ at)))

module _ (s : Session) (script : Script) (one : s.scripts.items ≡ script ∷ []) where
  abbrev commands : List Command
  commands = script.commands.items

  script_is : script_of s 1 ≡ commands
  script_is = ap (λ (l : List Script). script_in l 1) one

  -- the newest publication is of the last settle command that was done, and the present revision counts the changes that were done
  record IsFollowed (H : List Entry) : Type 0 where
    newest : newest_of H ≡ last_settled (take (done_by 1 H) commands)
    now : now_of H ≡ changes (take (done_by 1 H) commands)

  none_done : IsFollowed []
  unfolding settled_revisions
  none_done = record { newest = get_beyond [] 0 (omega arith); now = refl }

  -- an entry that does a command
  module _ (H : List Entry) (e : Entry) (a : ℕ) (c : Command) (named : names 1 e ≡ (a == 1)) (next : next_command s H a ≡ Some c) where
    who : a ≡ 1
    who = first_alone s.scripts.items script one a (done_by a H) c next

    at_first : slice_get commands (done_by 1 H) ≡ Some c
    at_first = ap (λ (l : List Command). slice_get l (done_by 1 H)) (sym script_is) ∙ subst (λ (b : ℕ). next_command s H b ≡ Some c) who next

    done_more : take (done_by 1 (H ++ (e ∷ []))) commands ≡ take (done_by 1 H) commands ++ (c ∷ [])
    done_more =
        let one_more : one_where (names 1 e) ≡ 1 = ap one_where (named ∙ ap (λ (b : ℕ). b == 1) who) in
        let n : done_by 1 (H ++ (e ∷ [])) ≡ suc (done_by 1 H) = omega (arith, done_push H e 1, one_more) in
        ap (λ (k : ℕ). take k commands) n ∙ take_one commands (done_by 1 H) c at_first

    follows : newest_of (H ++ (e ∷ [])) ≡ last_settled (take (done_by 1 H) commands ++ (c ∷ [])) → now_of (H ++ (e ∷ [])) ≡ changes (take (done_by 1 H) commands ++ (c ∷ [])) → IsFollowed (H ++ (e ∷ []))
    follows p q = record {
      newest = p ∙ ap last_settled (sym done_more);
      now = q ∙ ap changes (sym done_more);
    }

  now_same : (H : List Entry) (e : Entry) → edit_of e ≡ None → now_of (H ++ (e ∷ [])) ≡ now_of H
  now_same H e n = ap (λ (l : List Edit). length l) (edits_same H e n)

  next_followed : (H : List Entry) (e : Entry) → IsLegal s H → IsStep s H e → IsFollowed H → IsFollowed (H ++ (e ∷ []))
  next_followed H (Revised a edit) legal step is = follows H (Revised a edit) a (Change edit) refl step
      (newest_same H (Revised a edit) refl ∙ is.newest ∙ sym (settled_change (take (done_by 1 H) commands) edit))
      (now_more H a edit ∙ ap (λ (n : ℕ). n + 1) is.now ∙ sym (changes_push (take (done_by 1 H) commands) (Change edit)))
  next_followed H (Kept t r) legal step is =
      let n : done_by 1 (H ++ (Kept t r ∷ [])) ≡ done_by 1 H = omega (arith, done_push H (Kept t r) 1) in
      record {
        newest = newest_same H (Kept t r) refl ∙ is.newest ∙ ap (λ (k : ℕ). last_settled (take k commands)) (sym n);
        now = now_same H (Kept t r) refl ∙ is.now ∙ ap (λ (k : ℕ). changes (take k commands)) (sym n);
      }
  next_followed H (Published a r) legal step is = follows H (Published a r) a Settle refl step.0
      (newest_more H a r ∙ ap Some (step.1 ∙ is.now) ∙ sym (settled_settle (take (done_by 1 H) commands)))
      (now_same H (Published a r) refl ∙ is.now ∙ none_more (take (done_by 1 H) commands) Settle refl)
  next_followed H (Settled a r) legal step is = follows H (Settled a r) a Settle refl step.0
      (newest_same H (Settled a r) refl ∙ step.2 ∙ ap Some (step.1 ∙ is.now) ∙ sym (settled_settle (take (done_by 1 H) commands)))
      (now_same H (Settled a r) refl ∙ is.now ∙ none_more (take (done_by 1 H) commands) Settle refl)
  next_followed H (Shown a r) legal step is = follows H (Shown a r) a Show refl step.0
      (newest_same H (Shown a r) refl ∙ is.newest ∙ sym (settled_show (take (done_by 1 H) commands)))
      (now_same H (Shown a r) refl ∙ is.now ∙ none_more (take (done_by 1 H) commands) Show refl)

  pub newest_settled : (H : List Entry) → IsLegal s H → IsComplete s H → newest_of H ≡ last_settled commands
  newest_settled H legal complete =
      let is = by_entries s IsFollowed none_done next_followed H legal in
      let all = get_none commands (done_by 1 H) (ap (λ (l : List Command). slice_get l (done_by 1 H)) (sym script_is) ∙ complete 1) in
      is.newest ∙ ap last_settled (take_all (done_by 1 H) commands all)

pub one_script_tells_the_revision : OneScriptTellsTheRevision
one_script_tells_the_revision s H script one legal complete = newest_settled s script one H legal complete
