-- The parser of a script part gives what the relations say: it stands in one way or has one first break.
use Rattle.std.proofs.Common.{◌≡◌, ◌≢◌, ℕ, ◌≤◌, ◌⊎◌, Bool, true, false, inl, inr, List, [], ◌∷◌, length, Option, Some, None, Ok, Err, refl, sym, ap, subst, ◌∙◌, arith}
use Rattle.pgm_planes.specs.declared.fault.InputFault.{InputFault}
use Rattle.pgm_planes.specs.declared.fault.InputFault.TheVariants.{NoEnd, AfterEnd}
use Rattle.session_script.specs.declared.session_use.SessionUse.{SessionUse}
use Rattle.session_script.specs.declared.session_use.SessionUse.TheVariants.{Alone, BeforeReport}
use Rattle.session_script.specs.Parsing.{Parse, Parser, parsed, chain, peek_parser, sections_parser, lines_parser, alone_end, alone_script, script_parser}
use Rattle.session_script.specs.Scripts.{AreSections, usual, meant, IsScriptPart, SectionsBreak, ScriptBreak}
use Rattle.raster_model.specs.declared.script.Command.TheVariants.{Settle, Show}
use Rattle.raster_model.specs.Scripts.{CommandsFit}
use Rattle.raster_model.proofs.ScriptLemmas.{CommandsFit-none, CommandsFit-push}
use Rattle.session_script.specs.Sections.{Sections, Frame, AreWithinLimits, AreComplete}
use Rattle.session_script.proofs.ParseLemmas.{broken, wants, Regular, parsed_regular, refusing_regular, relaxed, chain_regular, peek_regular, Told, Says, Means, Then, BreaksThen, AsksThen, parsed_means, chain_means, restated}
use Rattle.session_script.proofs.SectionsAgain.{lines_means, lines_regular}

abbrev pub closing : Sections → Parser Sections
closing ss = chain peek_parser (alone_end ss)

abbrev pub meaning : Sections → Parser Sections
meaning ss = parsed (meant ss)

-- ---- after the line `end` of a session that stands alone

abbrev Closed : Sections → List ℕ → Sections → List ℕ → Type 0
Closed ss bytes y rest = (bytes ≡ []) × (y ≡ meant ss) × (rest ≡ [])

abbrev Continues : ℕ → List ℕ → InputFault → Type 0
Continues at bytes e = (bytes ≢ []) × (e ≡ AfterEnd at)

abbrev Ends : List ℕ → Type 0
Ends bytes = bytes ≡ []

closing_breaks : (ss : Sections) (at : ℕ) (bytes : List ℕ) (e : InputFault) → Continues at bytes e → closing ss false at bytes ≡ broken e
unfolding chain
closing_breaks ss at [] e b = absurd (b.0 refl)
closing_breaks ss at (x ∷ bytes) e b = ap broken (sym b.1)

closing_says : (ss : Sections) (more : Bool) (at : ℕ) (bytes : List ℕ) → Says (Closed ss) Continues Ends more at bytes (closing ss more at bytes)
unfolding chain
closing_says ss true at [] = (λ m. absurd cc, λ _ _. refl)
closing_says ss false at [] = (refl, (refl, refl, refl))
closing_says ss more at (b ∷ bytes) = (λ _. (λ e. cc, refl), λ _ t. absurd cc)

closing_means : (ss : Sections) → Means (Closed ss) Continues Ends (closing ss)
unfolding chain
closing_means ss = record {
  told = λ at bytes y rest v. (at, omega (arith, ap length v.0, ap length v.2), rw (v.0, v.1, v.2) refl);
  breaks = closing_breaks ss;
  asks = λ at bytes n. rw n refl;
  says = closing_says ss;
}

-- ---- a script part

-- where another byte is needed it is cut off, or ends alone
abbrev pub ScriptAsks : Frame → SessionUse → List ℕ → Type 0
ScriptAsks f usage bytes = (SectionsBreak f bytes NoEnd × (usage ≡ Alone → bytes ≢ [])) ⊎ ((usage ≡ Alone) × (ss : Sections) × IsScriptPart f usage bytes ss [])

not_alone : BeforeReport ≡ Alone → ⊥
not_alone e = cc

module _ (f : Frame) where
  report_means : Means (IsScriptPart f BeforeReport) (ScriptBreak f BeforeReport) (ScriptAsks f BeforeReport) (script_parser f BeforeReport)
  report_means = restated (script_parser f BeforeReport) (chain_means (lines_parser f) meaning (lines_regular f).far (lines_means f) (λ ss. parsed_means (meant ss)))
      (λ bytes y rest v. inr (record { sections = v.0; are = rw v.3.1 v.2; means = v.3.0; ends = λ e. absurd (not_alone e) }))
      (λ at bytes e b. elim b [ inl k ↦ inl (k, λ n. absurd (not_alone n)) | inr k ↦ absurd k.5 ])
      (λ bytes w. elim w [ inl k ↦ inl (k, λ n. absurd (not_alone n)) | inr k ↦ absurd k.3 ])
      (λ bytes y rest i. elim i [ inl h ↦ absurd (not_alone h.0) | inr h ↦ (h.sections, rest, h.are, (h.means, refl)) ])
      (λ at bytes e b. elim b [ inl k ↦ inl k.0 | inr k ↦ absurd (not_alone k.0) ])
      (λ bytes w. elim w [ inl k ↦ inl k.0 | inr k ↦ absurd (not_alone k.0) ])

  -- alone, where some byte stands
  abbrev BehindV : List ℕ → Sections → List ℕ → Type 0
  BehindV = Then (AreSections f) Closed

  abbrev BehindB : ℕ → List ℕ → InputFault → Type 0
  BehindB = BreaksThen (AreSections f) (λ _ bytes. SectionsBreak f bytes) (λ ss. Continues)

  abbrev BehindW : List ℕ → Type 0
  BehindW = AsksThen (AreSections f) (λ bytes. SectionsBreak f bytes NoEnd) (λ ss. Ends)

  behind : Means BehindV BehindB BehindW (chain (lines_parser f) closing)
  behind = chain_means (lines_parser f) closing (lines_regular f).far (lines_means f) closing_means

  no_sections : (ss : Sections) (rest : List ℕ) → AreSections f [] ss rest → ⊥
  no_sections ss rest a = let t = (lines_means f).told 0 [] ss rest a in omega (arith, (lines_regular f).steps 0 [] ss t.0 rest t.2)

  alone_told : (at : ℕ) (bytes : List ℕ) (y : Sections) (rest : List ℕ) → IsScriptPart f Alone bytes y rest → Told (script_parser f Alone) at bytes y rest
  unfolding chain
  alone_told at bytes y rest (inl h) = (at, omega (arith, ap length h.1, ap length h.3), rw (h.1, h.2, h.3) refl)
  alone_told at [] y rest (inr h) = absurd (no_sections h.sections rest h.are)
  alone_told at (b ∷ bytes) y rest (inr h) = behind.told at (b ∷ bytes) y rest (h.sections, rest, h.are, (h.ends refl, h.means, h.ends refl))

  alone_breaks : (at : ℕ) (bytes : List ℕ) (e : InputFault) → ScriptBreak f Alone at bytes e → script_parser f Alone false at bytes ≡ broken e
  unfolding chain
  alone_breaks at [] e (inl k) = absurd (k.1 refl refl)
  alone_breaks at [] e (inr g) = absurd (no_sections g.1.sections g.1.rest g.1.are)
  alone_breaks at (b ∷ bytes) e (inl k) = behind.breaks at (b ∷ bytes) e (inl k.0)
  alone_breaks at (b ∷ bytes) e (inr g) = behind.breaks at (b ∷ bytes) e (inr (g.1.sections, g.1.rest, g.1.place, g.1.place_is, g.1.are, (g.1.some, g.1.told)))

  alone_asks : (at : ℕ) (bytes : List ℕ) → ScriptAsks f Alone bytes → script_parser f Alone true at bytes ≡ wants
  unfolding chain
  alone_asks at [] a = refl
  alone_asks at (b ∷ bytes) (inl k) = behind.asks at (b ∷ bytes) (inl k.0)
  alone_asks at (b ∷ bytes) (inr (alone, ss, inl h)) = absurd (let q = h.1 in cc)
  alone_asks at (b ∷ bytes) (inr (alone, ss, inr h)) = behind.asks at (b ∷ bytes) (inr (h.sections, [], h.are, refl))

  ends_alone : (bytes : List ℕ) (ss y : Sections) (mid rest : List ℕ) → AreSections f bytes ss mid → Closed ss mid y rest → IsScriptPart f Alone bytes y rest
  ends_alone bytes ss y mid rest a c = inr (record { sections = ss; are = subst (AreSections f bytes ss) (c.0 ∙ sym c.2) a; means = c.1; ends = λ _. c.2 })

  said : (more : Bool) (at b : ℕ) (bytes : List ℕ) (r : Parse Sections) → Says BehindV BehindB BehindW more at (b ∷ bytes) r → Says (IsScriptPart f Alone) (ScriptBreak f Alone) (ScriptAsks f Alone) more at (b ∷ bytes) r
  said more at b bytes (Ok x) (place, (ss, mid, a, c)) = (place, ends_alone (b ∷ bytes) ss x.0 mid x.2 a c)
  said more at b bytes (Err e) s = (
    λ m. elim (s.0 m) [
      | inl k ↦ inl (k, λ _ n. cc)
      | inr (ss, mid, place, is, a, c) ↦ inr (refl, record { sections = ss; rest = mid; place = place; are = a; some = c.0; place_is = is; told = c.1 })
    ],
    λ m t. elim (s.1 m t) [
      | inl k ↦ inl (k, λ _ n. cc)
      | inr (ss, mid, a, n) ↦ inr (refl, meant ss, ends_alone (b ∷ bytes) ss (meant ss) mid [] a (n, refl, refl))
    ],
  )

  alone_says : (more : Bool) (at : ℕ) (bytes : List ℕ) → Says (IsScriptPart f Alone) (ScriptBreak f Alone) (ScriptAsks f Alone) more at bytes (script_parser f Alone more at bytes)
  unfolding chain
  alone_says true at [] = (λ m. absurd cc, λ _ _. inr (refl, usual, inl (refl, refl, refl, refl)))
  alone_says false at [] = (refl, inl (refl, refl, refl, refl))
  alone_says more at (b ∷ bytes) = said more at b bytes (chain (lines_parser f) closing more at (b ∷ bytes)) (behind.says more at (b ∷ bytes))

  pub script_means : (usage : SessionUse) → Means (IsScriptPart f usage) (ScriptBreak f usage) (ScriptAsks f usage) (script_parser f usage)
  script_means Alone = record { told = alone_told; breaks = alone_breaks; asks = alone_asks; says = alone_says }
  script_means BeforeReport = report_means

  pub needs_at_end : (usage : SessionUse) (at : ℕ) → script_parser f usage true at [] ≡ wants
  unfolding chain sections_parser
  needs_at_end Alone at = refl
  needs_at_end BeforeReport at = refl

pub alone_ends : (f : Frame) (bytes : List ℕ) (scripts : Sections) (rest : List ℕ) → IsScriptPart f Alone bytes scripts rest → rest ≡ []
alone_ends f bytes scripts rest (inl i) = i.3
alone_ends f bytes scripts rest (inr h) = h.ends refl

-- ---- what is meant is within the limits

no_edits : (w h : ℕ) → CommandsFit w h (Settle ∷ Show ∷ [])
no_edits w h = CommandsFit-push w h (Settle ∷ []) Show (CommandsFit-push w h [] Settle (CommandsFit-none w h) (λ edit e. absurd cc)) (λ edit e. absurd cc)

pub usual_complete : (f : Frame) → f.settled ≤ 67108864 → AreComplete f usual
usual_complete f few = (omega arith, record { analysts = omega arith; short = (omega arith, tt); inside = (no_edits f.width f.height, tt); settles = omega (arith, few); changes = omega arith })

pub meant_complete : (f : Frame) (ss : Sections) → f.settled ≤ 67108864 → AreWithinLimits f ss → AreComplete f (meant ss)
meant_complete f [] few within = usual_complete f few
meant_complete f (first ∷ ss) few within = (omega arith, within)

-- ---- how many bytes it takes

module _ (f : Frame) where
  end_regular : (ss : Sections) (got : Option ℕ) → Regular 0 0 (alone_end ss got)
  end_regular ss None = parsed_regular 0 (meant ss)
  end_regular ss (Some b) = refusing_regular 0 0 AfterEnd (λ at e. cc)

  closing_regular : (ss : Sections) → Regular 0 0 (closing ss)
  closing_regular ss = chain_regular 0 0 0 0 peek_parser (alone_end ss) (omega arith) peek_regular (end_regular ss)

  alone_regular : (got : Option ℕ) → Regular 0 0 (alone_script f got)
  alone_regular None = parsed_regular 0 usual
  alone_regular (Some b) = relaxed 1 0 0 0 (alone_script f (Some b)) (omega arith) (omega arith) (chain_regular 1 1 0 0 (lines_parser f) closing (omega arith) (lines_regular f) closing_regular)

  pub report_regular : Regular 1 1 (script_parser f BeforeReport)
  report_regular = chain_regular 1 1 0 1 (lines_parser f) meaning (omega arith) (lines_regular f) (λ ss. parsed_regular 1 (meant ss))

  pub script_regular : (usage : SessionUse) → Regular 0 0 (script_parser f usage)
  script_regular Alone = chain_regular 0 0 0 0 peek_parser (alone_script f) (omega arith) peek_regular alone_regular
  script_regular BeforeReport = relaxed 1 1 0 0 (script_parser f BeforeReport) (omega arith) (omega arith) report_regular
