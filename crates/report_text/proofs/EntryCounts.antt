-- How many entries of each kind a legal history has.
use Rattle.std.proofs.Common.{◌≡◌, ◌∙◌, ℕ, zero, suc, ◌+◌, ◌*◌, ◌<◌, ◌≤◌, Bool, true, false, List, [], ◌∷◌, ◌++◌, Option, Some, None, length, take, refl, sym, ap, subst, arith}
use Rattle.std.specs.Prelude.{cond, count_by, slice_get, sum_by, ◌||◌, IsFalse}
use Rattle.std.proofs.lemmas.List.{take_all}
use Rattle.std.proofs.lemmas.List.Sums.{sum_by-take-le, sum_by_push}
use Rattle.raster_model.specs.declared.script.Command.{Command}
use Rattle.raster_model.specs.declared.script.Command.TheVariants.{Change, Settle, Show}
use Rattle.raster_model.specs.declared.script.Script.{Script}
use Rattle.raster_model.specs.declared.session.Session.{Session}
use Rattle.raster_model.specs.Scripts.{changes_in, is_change, is_settle, settles_in}
use Rattle.raster_model.specs.Tiles.{tiles_of}
use Rattle.tile_board.specs.declared.entry.Entry.{Entry}
use Rattle.tile_board.specs.declared.entry.Entry.TheVariants.{Revised, Kept, Published, Settled, Shown}
use Rattle.tile_board.specs.Histories.{IsLegal, IsStep, commands_of, done_by, edit_of, is_kept, keeps, names, next_command, script_in, script_of, stamp_in}
use Rattle.tile_board.proofs.HistoryLemmas.{by_entries, done_push, kept_push}
use Rattle.tile_board.proofs.KeptLemmas.{kept_here}
use Rattle.tile_board.proofs.ListLemmas.{get_below, take_none, take_one}
use Rattle.sums_and_lists.specs.Sums.{count_below, one_if}
use Rattle.sums_and_lists.proofs.Lists.{some_at}
use Rattle.sums_and_lists.proofs.Tests.{one_at_most, same_number}
use Rattle.report_text.specs.Length.{LegalHistoriesKeepFew, is_revised, keeps_result}
use Rattle.report_text.specs.Reports.{is_published}
use Rattle.report_text.proofs.CountSums.{count_below-less, count_below-most, count_below-no_more}

abbrev one_where : Bool → ℕ
one_where b = cond b 1 0

-- whether an entry ends a command, as all do that keep no result
abbrev pub ends_command : Entry → Bool
ends_command (Kept tile stamp) = false
ends_command e = true

-- ---- kept results
abbrev kept_now : Session → List Entry → ℕ
kept_now s H = count_below (tiles_of s.scene.tiling) (λ t. one_if (is_kept s H t))

no_fewer : (a b : Bool) → one_if a ≤ one_if (a || b)
no_fewer true b = omega arith
no_fewer false b = omega arith

stays : (s : Session) (H : List Entry) (e : Entry) → edit_of e ≡ None → (t : ℕ) → one_if (is_kept s H t) ≤ one_if (is_kept s (H ++ (e ∷ [])) t)
stays s H e none t = subst (λ (b : Bool). one_if (is_kept s H t) ≤ one_if b) (sym (kept_push s H e t none)) (no_fewer (is_kept s H t) (keeps t (stamp_in s H t) e))

now_kept : (a b : Bool) → IsFalse a → b ≡ true → one_if a + 1 ≤ one_if b
now_kept true b n k = absurd (cc)
now_kept false true n k = omega arith
now_kept false false n k = absurd (cc)

abbrev FewKept : Session → List Entry → Type 0
FewKept s H = count_by keeps_result H ≤ kept_now s H + tiles_of s.scene.tiling * count_by is_revised H

one_more_kept : (s : Session) (H : List Entry) (e : Entry) → IsStep s H e → FewKept s H → count_by keeps_result H + one_where (keeps_result e) ≤ kept_now s (H ++ (e ∷ [])) + tiles_of s.scene.tiling * (count_by is_revised H + one_where (is_revised e))
one_more_kept s H (Revised a c) step few =
    let most : kept_now s H ≤ tiles_of s.scene.tiling * 1 = count_below-most (tiles_of s.scene.tiling) 1 (λ t. one_if (is_kept s H t)) (λ t. one_at_most (is_kept s H t)) in
    omega (arith, few, most)
one_more_kept s H (Kept t r) step few =
    let e = Kept t r in
    let here : is_kept s (H ++ (e ∷ [])) t ≡ true = kept_here s H t r t refl step.1 in
    let more = count_below-less (tiles_of s.scene.tiling) t (λ u. one_if (is_kept s H u)) (λ u. one_if (is_kept s (H ++ (e ∷ [])) u)) step.0 (stays s H e refl) (now_kept (is_kept s H t) (is_kept s (H ++ (e ∷ [])) t) step.2 here) in
    omega (arith, few, more)
one_more_kept s H (Published a r) step few = let e = Published a r in omega (arith, few, count_below-no_more (tiles_of s.scene.tiling) (λ u. one_if (is_kept s H u)) (λ u. one_if (is_kept s (H ++ (e ∷ [])) u)) (stays s H e refl))
one_more_kept s H (Settled a r) step few = let e = Settled a r in omega (arith, few, count_below-no_more (tiles_of s.scene.tiling) (λ u. one_if (is_kept s H u)) (λ u. one_if (is_kept s (H ++ (e ∷ [])) u)) (stays s H e refl))
one_more_kept s H (Shown a r) step few = let e = Shown a r in omega (arith, few, count_below-no_more (tiles_of s.scene.tiling) (λ u. one_if (is_kept s H u)) (λ u. one_if (is_kept s (H ++ (e ∷ [])) u)) (stays s H e refl))

few_kept : (s : Session) (H : List Entry) → IsLegal s H → FewKept s H
few_kept s = by_entries s (FewKept s) (omega arith) (λ H e legal step few.
    let now = one_more_kept s H e step few in
    let kept = sum_by_push (λ (x : Entry). one_where (keeps_result x)) H e in
    let revised = sum_by_push (λ (x : Entry). one_where (is_revised x)) H e in
    rw (kept, revised) now)

pub legal_histories_keep_few : LegalHistoriesKeepFew
legal_histories_keep_few s H legal =
    let most : kept_now s H ≤ tiles_of s.scene.tiling * 1 = count_below-most (tiles_of s.scene.tiling) 1 (λ t. one_if (is_kept s H t)) (λ t. one_at_most (is_kept s H t)) in
    omega (arith, few_kept s H legal, most)

-- ---- entries that end commands

-- the entry ends a command that passes a test
pub record Ends (s : Session) (p : Command → Bool) (H : List Entry) (e : Entry) : Type 0 where
  pub analyst : ℕ
  pub command : Command
  pub named : names analyst e ≡ true
  pub next : next_command s H analyst ≡ Some command
  pub passes : p command ≡ true

grows : (p : Command → Bool) (xs : List Command) (n : ℕ) (o : Option Command) → slice_get xs n ≡ o → count_by p (take n xs) ≤ count_by p (take (suc n) xs)
grows p xs n None g = rw (take_none xs n g) (omega arith)
grows p xs n (Some c) g = rw (take_one xs n c g) (omega (arith, sum_by_push (λ (d : Command). one_where (p d)) (take n xs) c))

grows_by_one : (p : Command → Bool) (xs : List Command) (n : ℕ) (c : Command) → slice_get xs n ≡ Some c → p c ≡ true → count_by p (take n xs) + 1 ≤ count_by p (take (suc n) xs)
grows_by_one p xs n c g t = rw (take_one xs n c g) (omega (arith, sum_by_push (λ (d : Command). one_where (p d)) (take n xs) c, ap one_where t))

no_command : (n : ℕ) (c : Command) → slice_get [] n ≡ Some c → ⊥
no_command n c g = absurd (omega (arith, get_below [] n c g))

-- an analyst who has a command is one of the session's
is_analyst : (scripts : List Script) (a n : ℕ) (c : Command) → slice_get (script_in scripts a) n ≡ Some c → (k : ℕ) × ((a ≡ suc k) × (k < length scripts))
is_analyst scripts zero n c g = absurd (no_command n c g)
is_analyst scripts (suc k) n c g = go (slice_get scripts k) refl
  where
    go : (o : Option Script) → slice_get scripts k ≡ o → (j : ℕ) × ((suc k ≡ suc j) × (j < length scripts))
    go None e = absurd (no_command n c (ap (λ (o : Option Script). slice_get (commands_of o) n) (sym e) ∙ g))
    go (Some script) e = (k, (refl, get_below scripts k script e))

module _ (s : Session) (p : Command → Bool) (q : Entry → Bool) (tells : (H : List Entry) (e : Entry) → IsStep s H e → q e ≡ true → Ends s p H e) where
  -- the commands that an analyst has done and that pass
  passed : List Entry → ℕ → ℕ
  passed H k = count_by p (take (done_by (suc k) H) (script_of s (suc k)))

  no_less : (H : List Entry) (e : Entry) (k : ℕ) (b : Bool) → names (suc k) e ≡ b → passed H k ≤ passed (H ++ (e ∷ [])) k
  unfolding passed
  no_less H e k true n =
      let m : done_by (suc k) (H ++ (e ∷ [])) ≡ suc (done_by (suc k) H) = omega (arith, done_push H e (suc k), ap one_where n) in
      rw m (grows p (script_of s (suc k)) (done_by (suc k) H) (slice_get (script_of s (suc k)) (done_by (suc k) H)) refl)
  no_less H e k false n =
      let m : done_by (suc k) (H ++ (e ∷ [])) ≡ done_by (suc k) H = omega (arith, done_push H e (suc k), ap one_where n) in
      rw m (omega arith)

  one_more : (H : List Entry) (e : Entry) (k : ℕ) (c : Command) → names (suc k) e ≡ true → next_command s H (suc k) ≡ Some c → p c ≡ true → passed H k + 1 ≤ passed (H ++ (e ∷ [])) k
  unfolding passed
  one_more H e k c n g t =
      let m : done_by (suc k) (H ++ (e ∷ [])) ≡ suc (done_by (suc k) H) = omega (arith, done_push H e (suc k), ap one_where n) in
      rw m (grows_by_one p (script_of s (suc k)) (done_by (suc k) H) c g t)

  abbrev AreFew : List Entry → Type 0
  AreFew H = count_by q H ≤ count_below (length s.scripts.items) (passed H)

  push : (H : List Entry) (e : Entry) (b : Bool) → q e ≡ b → IsStep s H e → AreFew H → count_by q H + one_where b ≤ count_below (length s.scripts.items) (passed (H ++ (e ∷ [])))
  push H e false t step few = omega (arith, few, count_below-no_more (length s.scripts.items) (passed H) (passed (H ++ (e ∷ []))) (λ k. no_less H e k (names (suc k) e) refl))
  push H e true t step few =
      let ends = tells H e step t in
      let who = is_analyst s.scripts.items ends.analyst (done_by ends.analyst H) ends.command ends.next in
      let named : names (suc who.0) e ≡ true = subst (λ (a : ℕ). names a e ≡ true) who.1.0 ends.named in
      let next : next_command s H (suc who.0) ≡ Some ends.command = subst (λ (a : ℕ). next_command s H a ≡ Some ends.command) who.1.0 ends.next in
      let more = count_below-less (length s.scripts.items) who.0 (passed H) (passed (H ++ (e ∷ []))) who.1.1 (λ k. no_less H e k (names (suc k) e) refl) (one_more H e who.0 ends.command named next ends.passes) in
      omega (arith, few, more)

  few : (H : List Entry) → IsLegal s H → AreFew H
  few = by_entries s AreFew (omega arith) (λ H e legal step before.
      rw (sum_by_push (λ (x : Entry). one_where (q x)) H e) (push H e (q e) refl step before))

  -- all scripts
  in_scripts : (scripts : List Script) (n : ℕ) → n ≤ length scripts → count_below n (λ k. count_by p (commands_of (slice_get scripts k))) ≡ sum_by (λ (script : Script). count_by p script.commands.items) (take n scripts)
  unfolding count_below
  in_scripts scripts zero le = refl
  in_scripts scripts (suc n) le =
      let last = some_at scripts n (omega (arith, le)) in
      let count : count_by p (commands_of (slice_get scripts n)) ≡ count_by p last.0.commands.items = ap (λ (o : Option Script). count_by p (commands_of o)) last.1 in
      rw (take_one scripts n last.0 last.1) (omega (arith, in_scripts scripts n (omega (arith, le)), count, sum_by_push (λ (script : Script). count_by p script.commands.items) (take n scripts) last.0))

  pub as_commands : (H : List Entry) → IsLegal s H → count_by q H ≤ sum_by (λ (script : Script). count_by p script.commands.items) s.scripts.items
  unfolding passed
  as_commands H legal =
      let scripts = s.scripts.items in
      let n = length scripts in
      let all = in_scripts scripts n (omega arith) in
      let whole : take n scripts ≡ scripts = take_all n scripts (omega arith) in
      let done = count_below-no_more n (passed H) (λ k. count_by p (commands_of (slice_get scripts k))) (λ k. sum_by-take-le (λ (d : Command). one_where (p d)) (commands_of (slice_get scripts k)) (done_by (suc k) H)) in
      omega (arith, few H legal, done, all, ap (sum_by (λ (script : Script). count_by p script.commands.items)) whole)

-- changes of the mask are as many as change commands at most, publications as settle commands, and entries that end commands as commands
pub few_revised : (s : Session) (H : List Entry) → IsLegal s H → count_by is_revised H ≤ changes_in s.scripts.items
few_revised s = as_commands s is_change is_revised told
  where
    told : (H : List Entry) (e : Entry) → IsStep s H e → is_revised e ≡ true → Ends s is_change H e
    told H (Revised a c) step t = record { analyst = a; command = Change c; named = same_number a; next = step; passes = refl }
    told H (Kept u r) step t = absurd (cc)
    told H (Published a r) step t = absurd (cc)
    told H (Settled a r) step t = absurd (cc)
    told H (Shown a r) step t = absurd (cc)

pub few_published : (s : Session) (H : List Entry) → IsLegal s H → count_by is_published H ≤ settles_in s.scripts.items
few_published s = as_commands s is_settle is_published told
  where
    told : (H : List Entry) (e : Entry) → IsStep s H e → is_published e ≡ true → Ends s is_settle H e
    told H (Revised a c) step t = absurd (cc)
    told H (Kept u r) step t = absurd (cc)
    told H (Published a r) step t = record { analyst = a; command = Settle; named = same_number a; next = step.0; passes = refl }
    told H (Settled a r) step t = absurd (cc)
    told H (Shown a r) step t = absurd (cc)

abbrev pub any_command : Command → Bool
any_command c = true

pub few_ended : (s : Session) (H : List Entry) → IsLegal s H → count_by ends_command H ≤ sum_by (λ (script : Script). count_by any_command script.commands.items) s.scripts.items
few_ended s = as_commands s any_command ends_command told
  where
    told : (H : List Entry) (e : Entry) → IsStep s H e → ends_command e ≡ true → Ends s any_command H e
    told H (Revised a c) step t = record { analyst = a; command = Change c; named = same_number a; next = step; passes = refl }
    told H (Kept u r) step t = absurd (cc)
    told H (Published a r) step t = record { analyst = a; command = Settle; named = same_number a; next = step.0; passes = refl }
    told H (Settled a r) step t = record { analyst = a; command = Settle; named = same_number a; next = step.0; passes = refl }
    told H (Shown a r) step t = record { analyst = a; command = Show; named = same_number a; next = step.0; passes = refl }
