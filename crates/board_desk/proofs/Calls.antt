-- From a call of the board to what the desk's call tells.
use Rattle.std.proofs.Common.{◌≡◌, ◌≢◌, ℕ, ◌==◌, Bool, cond, List, [], ◌∷◌, ◌++◌, Option, Some, Result, Ok, Err, refl, ap, sym, ◌∙◌, subst, ne_eqb}
use Rattle.std.specs.Prelude.{option_map}
use Rattle.std.specs.Result.{IfOk, IfErr, OnErr, OnOk}
use Rattle.std.specs.Global.{Vec}
use Rattle.std.proofs.lemmas.List.{append-nil}
use Rattle.std.proofs.lemmas.Result.{IfOk-weaker}
use Rattle.atomic_table.specs.Seated.{TableId}
use Rattle.raster_model.specs.declared.session.Session.{Session}
use Rattle.certificates.specs.declared.results.SeamResult.{SeamResult}
use Rattle.certificates.specs.declared.results.TileResult.{TileResult}
use Rattle.surface_snapshots.specs.Parts.{Parts}
use Rattle.surface_snapshots.specs.Views.{parts_of}
use Rattle.surface_snapshots.specs.declared.snapshot.Snapshot.{Snapshot}
use Rattle.tile_board.specs.declared.answers.Advance.{Advance}
use Rattle.tile_board.specs.declared.answers.Advance.TheVariants as advances
use Rattle.tile_board.specs.declared.answers.AdvanceFault.{AdvanceFault}
use Rattle.tile_board.specs.declared.answers.ClaimFault.{ClaimFault}
use Rattle.tile_board.specs.declared.answers.GatherFault.{GatherFault}
use Rattle.tile_board.specs.declared.answers.KeepFault.{KeepFault}
use Rattle.tile_board.specs.declared.answers.PublishFault.{PublishFault}
use Rattle.tile_board.specs.declared.entry.Entry.{Entry}
use Rattle.tile_board.specs.declared.entry.Entry.TheVariants.{Kept, Published, Revised, Settled, Shown}
use Rattle.tile_board.specs.declared.gathered.Gathered.{Gathered}
use Rattle.tile_board.specs.declared.gathered.PresentMask.{PresentMask}
use Rattle.tile_board.specs.declared.ticket.Ticket.{Ticket}
use Rattle.tile_board.specs.BoardView.{BoardView}
use Rattle.tile_board.specs.Boards.{IsBoard}
use Rattle.tile_board.specs.Calls.{AddsEntry, HasAdvanceFault, HasClaimFault, HasGatherFault, HasKeepFault, HasMadeFault, HasPublishFault, IsAdvance, IsClaim, IsGathering, IsKeep, IsMadePublication, IsPresentMask, IsPublication, AreClaims, WasMaskAt}
use Rattle.tile_board.specs.Surfaces.{IsNewestIn, last_surface}
use Rattle.tile_board.proofs.NewestSurface.{newest_in}
use Rattle.board_desk.specs.declared.law.View.{View}
use Rattle.board_desk.specs.Answers.{AdvanceAnswers, ClaimAnswers, GatherAnswers, IsMaskThere, KeepAnswers, MadeAnswers, NewestAnswers, PublishAnswers, ShareAnswers}
use Rattle.board_desk.specs.Mine.{mine_of}
use Rattle.board_desk.specs.Passes.{Called, PassView}
use Rattle.board_desk.specs.Rules.{Grown, Grows, Held, Place, given, holding_it}
use Rattle.board_desk.specs.Seats.{pass_view}
use Rattle.board_desk.proofs.Histories.{mine_of-append}

-- ---- the seat that called
pub grown : (v : View) (n : Place) (b c : BoardView) (s : Session) → v.session ≡ Some s → Held v b n → Grows v.own.analyst b c → Grown n.0 c
grown v n b c s of held grows =
    let view : n.0 ≡ holding_it v b.entries = ap (λ (p : Place). p.0) held.now in
    subst (λ (w : View). Grown w c) (sym view) record {
      added = grows.added;
      log_is = grows.log_is;
      others = grows.others;
      session = s;
      session_is = of;
      same_session = grows.session_is ∙ sym (held.session_is s of);
    }

pub seen_after : (v : View) (n k : Place) (b c : BoardView) → Held v b n → k ≡ (given n.0 c.entries, []) → k.0.own.seen ≡ c.entries
seen_after v n k b c held back = ap (λ (p : Place). p.0.own.seen) back

module _ (t : TableId) (e f : Bool) (m n k : Place) (b c : BoardView) (s : Session) (answers : BoardView → BoardView → Type 0) where
  called_seat : m.0.session ≡ Some s → Held m.0 b n → k ≡ (given n.0 c.entries, []) → Grows m.0.own.analyst b c → IsBoard b → IsBoard c → answers b c → Called s (pass_view t m e) (pass_view t k f) answers
  called_seat of held back grows found left answer =
      let view : n.0 ≡ holding_it m.0 b.entries = ap (λ (p : Place). p.0) held.now in
      let after : k.0 ≡ given (holding_it m.0 b.entries) c.entries = ap (λ (p : Place). p.0) back ∙ ap (λ (w : View). given w c.entries) view in
      let here : b.session ≡ s = sym (held.session_is s of) in record {
        same = record { table = refl; session = ap (λ (w : View). w.session) after; analyst = ap (λ (w : View). w.own.analyst) after };
        before = b;
        after = c;
        found = found;
        left = left;
        session = here;
        session_after = grows.session_is ∙ here;
        begins = held.begins;
        exact = held.exact;
        added = grows.added;
        grown = grows.log_is;
        seen = ap (λ (w : View). w.own.seen) after;
        mine = ap (λ (w : View). w.own.mine) after
            ∙ (ap (mine_of m.0.own.analyst) grows.log_is ∙ (mine_of-append m.0.own.analyst b.entries grows.added ∙ ap (λ (l : List Entry). l ++ mine_of m.0.own.analyst grows.added) (sym held.exact)));
        answer = answer;
      }

  -- the same, of the pass that contracts see
  pub called : (u : TableId) (p : PassView) → pass_view t m e ≡ p → u ≡ t → p.session ≡ Some s → Held m.0 b n → k ≡ (given n.0 c.entries, []) → Grows m.0.own.analyst b c → IsBoard b → IsBoard c → answers b c → Called s p (pass_view u k f) answers
  called u p before same of held back grows found left answer =
      let one = called_seat (ap (λ (r : PassView). r.session) before ∙ of) held back grows found left answer in
      subst (λ (r : PassView × TableId). Called s r.0 (pass_view r.1 k f) answers) (λ i. (before i, sym same i)) one

-- ---- what each call of the board adds
pub stays : (o : Option ℕ) (b c : BoardView) → c ≡ b → Grows o b c
stays o b c same = record {
  added = [];
  log_is = ap (λ (x : BoardView). x.entries) same ∙ sym (append-nil b.entries);
  session_is = ap (λ (x : BoardView). x.session) same;
  others = λ d apart. refl;
}

some_apart : (a b : ℕ) → (Some a ≡ Some b → ⊥) → a ≢ b
some_apart a b h e = h (ap (λ (x : ℕ). Some x) e)

-- one entry that names the analyst a, or nobody
adds_own : (a : ℕ) (b c : BoardView) (e : Entry) → ((d : ℕ) → a ≢ d → mine_of (Some d) (e ∷ []) ≡ []) → AddsEntry b c e → Grows (Some a) b c
adds_own a b c e others adds = record {
  added = e ∷ [];
  log_is = adds.entries;
  session_is = adds.session;
  others = λ d apart. others d (some_apart a d apart);
}

not_named : (a d : ℕ) (e : Entry) → a ≢ d → cond (a == d) (e ∷ []) [] ≡ []
not_named a d e apart = ap (λ (t : Bool). cond t (e ∷ []) []) (ne_eqb a d apart)

pub keep_grows : {U : Type 0} (o : Option ℕ) (k : TileResult) (b c : BoardView) (answer : Result U KeepFault) → OnOk answer (IsKeep b c k) → OnErr answer (c ≡ b) → Grows o b c
keep_grows o k b c (Ok x) ok err = record {
  added = Kept k.tile k.stamp ∷ [];
  log_is = ok.adds.entries;
  session_is = ok.adds.session;
  others = λ d apart. refl;
}
keep_grows o k b c (Err e) ok err = stays o b c err

pub publish_grows : {U : Type 0} (a : ℕ) (seams : SeamResult) (b c : BoardView) (answer : Result U PublishFault) → OnOk answer (IsPublication b c a seams) → OnErr answer (c ≡ b) → Grows (Some a) b c
publish_grows a seams b c (Ok x) ok err = adds_own a b c (Published a seams.revision) (λ d apart. not_named a d (Published a seams.revision) apart) ok.adds
publish_grows a seams b c (Err e) ok err = stays (Some a) b c err

pub advance_grows : (a : ℕ) (b c : BoardView) (answer : Result Advance AdvanceFault) → IfOk answer (IsAdvance b c a) → OnErr answer (c ≡ b) → Grows (Some a) b c
advance_grows a b c (Ok (advances.Revised r)) ok err = adds_own a b c (Revised a ok.1) (λ d apart. not_named a d (Revised a ok.1) apart) ok.2.adds
advance_grows a b c (Ok (advances.Settled r)) ok err = adds_own a b c (Settled a r) (λ d apart. not_named a d (Settled a r) apart) ok.adds
advance_grows a b c (Ok (advances.Shown r)) ok err = adds_own a b c (Shown a r) (λ d apart. not_named a d (Shown a r) apart) ok.adds
advance_grows a b c (Ok (advances.NotYet r)) ok err = stays (Some a) b c ok.3
advance_grows a b c (Ok advances.Ended) ok err = stays (Some a) b c ok.1
advance_grows a b c (Err e) ok err = stays (Some a) b c err

-- ---- what each call of the board answers
pub claim_answers : (b c : BoardView) (answer : Result Ticket ClaimFault) → IfOk answer (IsClaim b) → IfErr answer (HasClaimFault b) → c ≡ b → ClaimAnswers answer b c
claim_answers b c (Ok x) ok fault same = (ok, same)
claim_answers b c (Err e) ok fault same = (fault, same)

pub share_answers : (parts most : ℕ) (b c : BoardView) (answer : Result (Vec Ticket) ClaimFault) → IfOk answer (λ tickets. AreClaims b parts most tickets.items) → IfErr answer (HasClaimFault b) → c ≡ b → ShareAnswers parts most answer b c
share_answers parts most b c (Ok x) ok fault same = (ok, same)
share_answers parts most b c (Err e) ok fault same = (fault, same)

pub gather_answers : (b : BoardView) (answer : Result Gathered GatherFault) → IfOk answer (IsGathering b) → IfErr answer (HasGatherFault b) → GatherAnswers answer b b
gather_answers b (Ok x) ok fault = (ok, refl)
gather_answers b (Err e) ok fault = (fault, refl)

pub keep_answers : {U : Type 0} (k : TileResult) (b c : BoardView) (answer : Result U KeepFault) → OnOk answer (IsKeep b c k) → IfErr answer (HasKeepFault b k) → OnErr answer (c ≡ b) → KeepAnswers k answer b c
keep_answers k b c (Ok x) ok fault err = ok
keep_answers k b c (Err e) ok fault err = (fault, err)

pub publish_answers : {U : Type 0} (o : Option ℕ) (a : ℕ) (seams : SeamResult) (b c : BoardView) (answer : Result U PublishFault) → Some a ≡ o → OnOk answer (IsPublication b c a seams) → IfErr answer (HasPublishFault b a seams) → OnErr answer (c ≡ b)
    → PublishAnswers o seams answer b c
publish_answers {U} o a seams b c (Ok x) is ok fault err = subst (λ (p : Option ℕ). PublishAnswers {U = U} p seams (Ok x) b c) is ok
publish_answers {U} o a seams b c (Err e) is ok fault err = subst (λ (p : Option ℕ). PublishAnswers {U = U} p seams (Err e) b c) is (fault, err)

pub made_answers : {U : Type 0} (o : Option ℕ) (a : ℕ) (p : Parts) (b c : BoardView) (answer : Result U PublishFault) → Some a ≡ o → OnOk answer (IsMadePublication b c a p) → IfErr answer (HasMadeFault b a p.seams.revision) → OnErr answer (c ≡ b)
    → MadeAnswers o p answer b c
made_answers {U} o a p b c (Ok x) is ok fault err = subst (λ (q : Option ℕ). MadeAnswers {U = U} q p (Ok x) b c) is ok
made_answers {U} o a p b c (Err e) is ok fault err = subst (λ (q : Option ℕ). MadeAnswers {U = U} q p (Err e) b c) is (fault, err)

pub advance_answers : (o : Option ℕ) (a : ℕ) (b c : BoardView) (answer : Result Advance AdvanceFault) → Some a ≡ o → IfOk answer (IsAdvance b c a) → IfErr answer (HasAdvanceFault b a) → OnErr answer (c ≡ b)
    → AdvanceAnswers o answer b c
advance_answers o a b c (Ok x) is ok fault err = subst (λ (p : Option ℕ). AdvanceAnswers p (Ok x) b c) is ok
advance_answers o a b c (Err e) is ok fault err = subst (λ (p : Option ℕ). AdvanceAnswers p (Err e) b c) is (fault, err)

-- ---- the analyst of the pass that called
pub who : (a : ℕ) (p : PassView) (t : TableId) (m : Place) (e : Bool) → pass_view t m e ≡ p → Some a ≡ p.analyst → Some a ≡ m.0.own.analyst
who a p t m e view is = is ∙ sym (ap (λ (q : PassView). q.analyst) view)

pub publish_grows_as : {U : Type 0} (o : Option ℕ) (a : ℕ) (seams : SeamResult) (b c : BoardView) (answer : Result U PublishFault) → Some a ≡ o → OnOk answer (IsPublication b c a seams) → OnErr answer (c ≡ b) → Grows o b c
publish_grows_as o a seams b c answer is ok err = subst (λ (p : Option ℕ). Grows p b c) is (publish_grows a seams b c answer ok err)

pub made_grows_as : {U : Type 0} (o : Option ℕ) (a : ℕ) (p : Parts) (b c : BoardView) (answer : Result U PublishFault) → Some a ≡ o → OnOk answer (IsMadePublication b c a p) → OnErr answer (c ≡ b) → Grows o b c
made_grows_as o a p b c (Ok x) is ok err = subst (λ (q : Option ℕ). Grows q b c) is (adds_own a b c (Published a p.seams.revision) (λ d apart. not_named a d (Published a p.seams.revision) apart) ok.adds)
made_grows_as o a p b c (Err e) is ok err = subst (λ (q : Option ℕ). Grows q b c) is (stays (Some a) b c err)

pub advance_grows_as : (o : Option ℕ) (a : ℕ) (b c : BoardView) (answer : Result Advance AdvanceFault) → Some a ≡ o → IfOk answer (IsAdvance b c a) → OnErr answer (c ≡ b) → Grows o b c
advance_grows_as o a b c answer is ok err = subst (λ (p : Option ℕ). Grows p b c) is (advance_grows a b c answer ok err)

-- the newest surface of the board that was found, in the history that the pass has then seen
pub newest_after : {E : Type 0} (v : View) (n k : Place) (b : BoardView) (s : Session) (answer : Result (Option Snapshot) E) → v.session ≡ Some s → Held v b n → k ≡ (given n.0 b.entries, []) → IsBoard b → NewestAnswers answer b b → IfOk answer (IsNewestIn s k.0.own.seen)
newest_after v n k b s answer of held back board told =
    let here : b.session ≡ s = sym (held.session_is s of) in
    let seen : k.0.own.seen ≡ b.entries = seen_after v n k b b held back in
    IfOk-weaker answer (λ o. option_map parts_of o ≡ last_surface b) (IsNewestIn s k.0.own.seen) (λ o e. subst (λ (x : Session × List Entry). IsNewestIn x.0 x.1 o) (λ i. (here i, sym seen i)) (newest_in b board o e)) told.0

-- the mask of the board that was found, in the history that the pass has then seen
pub mask_after : {E : Type 0} (v : View) (n k : Place) (b : BoardView) (s : Session) (answer : Result PresentMask E) → v.session ≡ Some s → Held v b n → k ≡ (given n.0 b.entries, []) → IfOk answer (IsPresentMask b) → IfOk answer (IsMaskThere s k.0.own.seen)
mask_after v n k b s answer of held back told =
    let here : b.session ≡ s = sym (held.session_is s of) in
    let seen : k.0.own.seen ≡ b.entries = seen_after v n k b b held back in
    IfOk-weaker answer (IsPresentMask b) (IsMaskThere s k.0.own.seen) (λ p is. record {
      session = is.session ∙ here;
      mask = subst (λ (x : Session × List Entry). WasMaskAt x.0 x.1 p.mask p.revision) (λ i. (here i, sym seen i)) (record { revision = sym is.revision; present = is.mask });
    }) told
