-- Whole reports as a form, and why one is not read.
use Rattle.std.proofs.Common.{◌≡◌, ℕ, List, [], ◌++◌, refl, sym, ap, ap₂, ◌∙◌, append_assoc}
use Rattle.std.specs.Prelude.{codes}
use Rattle.text_lines.specs.Forms.{Form}
use Rattle.text_lines.proofs.FormLemmas.{ComesFirst, ComesAfter}
use Rattle.text_lines.proofs.SeqLemmas.{IsCode, SameForms, Seq, after_then, first_same, same_code, seq_after, seq_code, seq_first}
use Rattle.report_text.specs.Contents.{IsReportText}
use Rattle.report_text.specs.Parts.{FrontOf, IsItemsText, IsReportFront, IsTermsText, front_text, items_text}
use Rattle.text_parts.specs.Steps.{TextOf}
use Rattle.report_text.specs.Reports.{ReportOf}
use Rattle.report_text.specs.Terms.{AreTermsIn, plain_terms}
use Rattle.text_parts.specs.Terms.{TermsOf}
use Rattle.text_parts.specs.Text.{ended_line, rule_line, size_line}
use Rattle.report_text.specs.Text.{report_text, terms_text, tile_line, tiles_by, tiles_in, version_line}
use Rattle.report_text.proofs.LineLemmas.{tiles_small}
use Rattle.report_text.proofs.PartForms.{front_one, front_part, plain_in, terms_code}
use Rattle.report_text.proofs.ItemForms.{items_code}
use Rattle.text_parts.proofs.ReadsLemmas.{Then, after_same, then_after, then_code, then_first}

abbrev pub front_of : ReportOf → FrontOf
front_of v = (v.version, ((v.width, v.height), (v.side, v.rule)))

abbrev pub tiles_for : FrontOf → ℕ
tiles_for p = tiles_by p.1.0.0 p.1.0.1 p.1.1.0

abbrev pub ItemsOf : FrontOf → Form
ItemsOf p = IsItemsText p.1.0.0 p.1.0.1 (tiles_for p)

-- what comes after the version and the frame: the terms, and then the items
abbrev pub RestOf : FrontOf → Form
RestOf p = Seq (IsTermsText p.0) (ItemsOf p)

regroup : (a b c d t r : List ℕ) → (a ++ (b ++ (c ++ (d ++ t)))) ++ r ≡ (a ++ (b ++ (c ++ d))) ++ (t ++ r)
regroup a b c d t r =
    ap (λ (l : List ℕ). (a ++ l) ++ r) (ap (λ (l : List ℕ). b ++ l) (sym (append_assoc c d t)) ∙ sym (append_assoc b (c ++ d) t))
    ∙ ap (λ (l : List ℕ). l ++ r) (sym (append_assoc a (b ++ (c ++ d)) t))
    ∙ append_assoc (a ++ (b ++ (c ++ d))) t r

pub report_is : (v : ReportOf) → report_text v ≡ front_text (front_of v) ++ (terms_text v.version v.terms ++ items_text v.width v.height (tiles_in v) v.items)
unfolding report_text
report_is v = regroup (ended_line version_line v.version) (ended_line size_line (v.width, v.height)) (ended_line tile_line v.side) (ended_line rule_line v.rule) (terms_text v.version v.terms) (items_text v.width v.height (tiles_in v) v.items)

report_same : SameForms (Then IsReportFront front_text RestOf) IsReportText
report_same = record {
  to = λ t s.
      let p = s.0 in
      let f = s.1.0 in
      let r = s.1.1.1.0 in
      let terms = r.2.0 in
      let items = r.2.1.0 in
      let v : ReportOf = record { version = p.0; width = p.1.0.0; height = p.1.0.1; side = p.1.1.0; rule = p.1.1.1; terms = terms.0; items = items.0 } in
      (v, (record { versioned = f.0; sized = f.1.0; sides = f.1.1.0; terms = terms.1.0; items = items.1.0 }, s.1.1.1.1 ∙ ap (λ (l : List ℕ). front_text p ++ l) (r.2.1.1 ∙ ap₂ (λ (l m : List ℕ). l ++ m) terms.1.1 items.1.1) ∙ sym (report_is v)));
  «from» = λ t a.
      let v = a.0 in
      let i = a.1.0 in
      let terms = terms_text v.version v.terms in
      let items = items_text v.width v.height (tiles_in v) v.items in
      (front_of v, ((i.versioned, (i.sized, (i.sides, tt))), (terms ++ items, ((terms, items, ((v.terms, (i.terms, refl)), ((v.items, (i.items, refl)), refl))), a.1.1 ∙ report_is v))));
}

pub report_first : ComesFirst (TextOf IsReportFront front_text) IsReportText
report_first = first_same _ _ _ report_same (then_first front_part front_one RestOf (λ p f. (terms_text p.0 plain_terms ++ codes "end\n", (terms_text p.0 plain_terms, codes "end\n", ((plain_terms, (plain_in p.0, refl)), (([], (tt, refl)), refl))))))

pub rest_after : (p : FrontOf) → IsReportFront p → ComesAfter (front_text p) (RestOf p) IsReportText
rest_after p f = after_same report_same (then_after front_part front_one RestOf p f)

pub terms_first : (p : FrontOf) → ComesFirst (IsTermsText p.0) (RestOf p)
terms_first p = seq_first (IsTermsText p.0) (ItemsOf p) (terms_code p.0) (codes "end\n") ([], (tt, refl))

pub items_after : (p : FrontOf) → IsReportFront p → (t : TermsOf) → AreTermsIn p.0 t → ComesAfter (front_text p ++ terms_text p.0 t) (ItemsOf p) IsReportText
items_after p f t a = after_then _ _ _ _ _ (rest_after p f) (seq_after (IsTermsText p.0) (ItemsOf p) (terms_code p.0) (terms_text p.0 t) (t, (a, refl)))

pub report_code : IsCode IsReportText
report_code = same_code _ _ report_same (then_code front_part front_one RestOf (λ p f. seq_code (IsTermsText p.0) (ItemsOf p) (terms_code p.0) (items_code p.1.0.0 p.1.0.1 (tiles_for p) f.1.0 (tiles_small p.1.0.0 p.1.0.1 p.1.1.0 f.1.0 f.1.1.0))))
