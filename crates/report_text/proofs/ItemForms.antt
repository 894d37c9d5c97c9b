-- Items of a report as forms: the line of an entry, after a publication a surface, and so on up to the line `end`.
use Rattle.std.proofs.Common.{◌≡◌, ℕ, Bool, true, false, IsTrue, List, [], ◌∷◌, ◌++◌, Option, Some, None, inr, refl, sym, ap, subst, ◌∙◌, append_assoc, flat_map}
use Rattle.std.specs.Prelude.{codes, is_some}
use Rattle.raster_model.specs.Limits.{is_tiled_size}
use Rattle.text_lines.specs.Forms.{Form, AreWholeLines}
use Rattle.text_lines.specs.Parsing.{IsWide}
use Rattle.text_lines.proofs.FormLemmas.{ComesFirst, ComesAfter, whole_append}
use Rattle.text_lines.proofs.SeqLemmas.{IsCode, SameForms, Seq, after_none, after_then, first_same, seq_after, seq_first}
use Rattle.tile_board.specs.declared.entry.Entry.{Entry}
use Rattle.report_text.specs.Contents.{IsEntryOfWords, IsItemInRange, MayBeInRange}
use Rattle.report_text.specs.Parts.{AreItems, IsItemsText, IsSurfaceText, MayStand, items_text}
use Rattle.report_text.specs.Reports.{ItemOf, SurfaceOf, is_published}
use Rattle.text_parts.specs.Steps.{TextOf}
use Rattle.report_text.specs.Text.{after_text, entry_text, history_line, item_text, surface_block_text}
use Rattle.text_parts.specs.Text.{ended_line}
use Rattle.report_text.proofs.EntryLemmas.{history_unique}
use Rattle.report_text.proofs.PartForms.{entry_kind, surface_part}
use Rattle.text_parts.proofs.ReadsLemmas.{IsPart, One, Then, after_same, line_one, line_part, then_after, then_first}

pub item_is : (width height tiles : ℕ) (i : ItemOf) → item_text width height tiles i ≡ ended_line history_line (Some i.entry) ++ after_text width height tiles i.surface
unfolding item_text
item_is width height tiles i = sym (append_assoc (entry_text i.entry) (10 ∷ []) (after_text width height tiles i.surface))

pub history_part : IsPart MayStand (ended_line history_line)
history_part = line_part entry_kind

pub history_one : One MayStand (ended_line history_line)
history_one = line_one history_unique

module _ (width height tiles : ℕ) where
  abbrev pub F : Form
  F = IsItemsText width height tiles

  abbrev pub texts : List ItemOf → List ℕ
  texts items = flat_map (item_text width height tiles) items

  pub ended_more : (i : ItemOf) (items : List ItemOf) → items_text width height tiles (i ∷ items) ≡ item_text width height tiles i ++ items_text width height tiles items
  ended_more i items = append_assoc (item_text width height tiles i) (texts items) (codes "end\n")

  -- an item's line, and then what comes after it
  pub ended_entry : (i : ItemOf) (items : List ItemOf) → items_text width height tiles (i ∷ items) ≡ ended_line history_line (Some i.entry) ++ (after_text width height tiles i.surface ++ items_text width height tiles items)
  ended_entry i items = ended_more i items ∙ ap (λ (l : List ℕ). l ++ items_text width height tiles items) (item_is width height tiles i) ∙ append_assoc (ended_line history_line (Some i.entry)) (after_text width height tiles i.surface) (items_text width height tiles items)

  -- what comes after the line of an entry that is a publication, or none; after the line `end` nothing
  abbrev pub AfterEntry : Bool → Form
  AfterEntry true = Seq (IsSurfaceText width height tiles) F
  AfterEntry false = F

  abbrev pub AfterLine : Option Entry → Form
  AfterLine None text = text ≡ []
  AfterLine (Some e) text = AfterEntry (is_published e) text

  module _ (z : IsTrue (is_tiled_size width height)) (small : IsWide tiles) where
    pub surface_code : IsCode (IsSurfaceText width height tiles)
    surface_code = let part = surface_part width height z tiles small in part.code

    behind_after : (b : Bool) (s : Option SurfaceOf) → is_some s ≡ b → MayBeInRange width height tiles s → ComesAfter (after_text width height tiles s) F (AfterEntry b)
    behind_after true (Some k) there a = seq_after (IsSurfaceText width height tiles) F surface_code (surface_block_text width height tiles k) (k, (a, refl))
    behind_after false None there a = after_none F
    behind_after b s there a = absurd (cc)

    with_entry : (e : Entry) (b : Bool) → is_published e ≡ b → IsEntryOfWords e → (r : List ℕ) → AfterEntry b r → F (ended_line history_line (Some e) ++ r)
    with_entry e true p a r (q, m, ((k, (s, g)), ((items, (all, h)), f))) =
        let i : ItemOf = record { entry = e; surface = Some k } in
        (i ∷ items, ((record { entry = a; published = sym p; surface = s }, all), ap (λ (l : List ℕ). ended_line history_line (Some e) ++ l) (f ∙ ap (λ (l : List ℕ). l ++ m) g ∙ ap (λ (l : List ℕ). surface_block_text width height tiles k ++ l) h) ∙ sym (ended_entry i items)))
    with_entry e false p a r (items, (all, h)) =
        let i : ItemOf = record { entry = e; surface = None } in
        (i ∷ items, ((record { entry = a; published = sym p; surface = tt }, all), ap (λ (l : List ℕ). ended_line history_line (Some e) ++ l) h ∙ sym (ended_entry i items)))

    items_same : SameForms (Then MayStand (ended_line history_line) AfterLine) F
    items_same = record { to = λ t s. joined s.0 s.1.0 s.1.1.0 t s.1.1.1.0 s.1.1.1.1; «from» = λ t a. apart a.0 a.1.0 t a.1.1 }
      where
        joined : (o : Option Entry) → MayStand o → (r t : List ℕ) → AfterLine o r → t ≡ ended_line history_line o ++ r → F t
        joined None a r t g e = ([], (tt, e ∙ ap (λ (l : List ℕ). codes "end\n" ++ l) g))
        joined (Some d) a r t g e = subst F (sym e) (with_entry d (is_published d) refl a r g)

        apart : (items : List ItemOf) → AreItems width height tiles items → (t : List ℕ) → t ≡ items_text width height tiles items → Then MayStand (ended_line history_line) AfterLine t
        apart [] a t e = (None, (tt, ([], (refl, e))))
        apart (i ∷ items) a t e =
            let first = a.0 in
            (Some i.entry, (first.entry, (after_text width height tiles i.surface ++ items_text width height tiles items, ((behind_after (is_published i.entry) i.surface first.published first.surface).to (items_text width height tiles items) (items, (a.1, refl)), e ∙ ended_entry i items))))

    pub line_after : (o : Option Entry) → MayStand o → ComesAfter (ended_line history_line o) (AfterLine o) F
    line_after o a = after_same items_same (then_after history_part history_one AfterLine o a)

    -- the first line of items
    pub entry_first : ComesFirst (TextOf MayStand (ended_line history_line)) F
    entry_first = first_same _ _ _ items_same (then_first history_part history_one AfterLine some_after)
      where
        some_behind : (b : Bool) → (r : List ℕ) × AfterEntry b r
        some_behind true =
            let part = surface_part width height z tiles small in
            let k = part.some.0 in
            (surface_block_text width height tiles k ++ codes "end\n", (surface_block_text width height tiles k, codes "end\n", ((k, (part.some.1, refl)), (([], (tt, refl)), refl))))
        some_behind false = (codes "end\n", ([], (tt, refl)))

        some_after : (o : Option Entry) → MayStand o → (r : List ℕ) × AfterLine o r
        some_after None a = ([], refl)
        some_after (Some e) a = some_behind (is_published e)

    pub item_after : (i : ItemOf) → IsItemInRange width height tiles i → ComesAfter (item_text width height tiles i) F F
    item_after i a = subst (λ (p : List ℕ). ComesAfter p F F) (sym (item_is width height tiles i)) (after_then (ended_line history_line (Some i.entry)) (after_text width height tiles i.surface) F (AfterEntry (is_published i.entry)) F (line_after (Some i.entry) a.entry) (behind_after (is_published i.entry) i.surface a.published a.surface))

    pub items_after : (items : List ItemOf) → AreItems width height tiles items → ComesAfter (texts items) F F
    items_after [] a = after_none F
    items_after (i ∷ items) a = after_then (item_text width height tiles i) (texts items) F F F (item_after i a.0) (items_after items a.1)

    -- what follows items and the line of a publication
    pub publication_after : (items : List ItemOf) (e : Entry) → AreItems width height tiles items → IsEntryOfWords e → is_published e ≡ true → ComesAfter (texts items ++ ended_line history_line (Some e)) (Seq (IsSurfaceText width height tiles) F) F
    publication_after items e a b p = after_then (texts items) (ended_line history_line (Some e)) (AfterEntry true) F F (items_after items a) (subst (λ (x : Bool). ComesAfter (ended_line history_line (Some e)) (AfterEntry x) F) p (line_after (Some e) b))

    pub surface_first : ComesFirst (IsSurfaceText width height tiles) (Seq (IsSurfaceText width height tiles) F)
    surface_first = seq_first (IsSurfaceText width height tiles) F surface_code (codes "end\n") ([], (tt, refl))

    -- items are a code
    pub items_code : IsCode F
    items_code = record { whole = λ p a. subst AreWholeLines (sym a.1.1) (whole a.0 a.1.0); free = λ p m a b. free a.0 a.1.0 m (subst (λ (t : List ℕ). F (t ++ m)) a.1.1 b) }
      where
        whole : (items : List ItemOf) → AreItems width height tiles items → AreWholeLines (items_text width height tiles items)
        whole items a = whole_append (texts items) (codes "end\n") (items_after items a).whole (inr (codes "end", refl))

        free : (items : List ItemOf) → AreItems width height tiles items → (m : List ℕ) → F (items_text width height tiles items ++ m) → m ≡ []
        free items a m b = (line_after None tt).«from» m ((items_after items a).«from» (codes "end\n" ++ m) (subst F (append_assoc (texts items) (codes "end\n") m) b))
