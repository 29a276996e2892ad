-- A text has one design or one first fault. Its tokens go wrong, or its statements do, or it reads as modules; these exclude each
-- other, and so do what is wrong with the modules and what is wrong with their design.
use Rattle.std.proofs.Common.{◌≡◌, ◌⊎◌, ℕ, List, Option, Some, refl, sym, ap, ◌∙◌, subst, inl, inr, arith, true≢false}
use Rattle.bb_ast.specs.Syntax.{PlainModule}
use Rattle.std.specs.Prelude.{Result, Ok, Err, IfErr, IsErr, MatchResult}
use Rattle.std.proofs.lemmas.Result.{IfErr-weaker}
use Rattle.bb_design.specs.declared.fault.ElabFault.{ElabFault}
use Rattle.bb_design.specs.declared.fault.ElabFault.TheVariants as elab
use Rattle.bb_net.specs.Flats.{FlatNet}
use Rattle.bb_implements.specs.Implements.{Implements, ImplementsText}
use Rattle.bb_design.specs.Hierarchy.{Design, top_of}
use Rattle.bb_design.specs.Laws.{NotSoundAndRefused, FirstRefusalsAreOne, SoundOrRefused}
use Rattle.bb_design.specs.Refusals.{design_on, IsSoundDesign, IsSoundText, IsFirstDesignRefusal}
use Rattle.bb_names.specs.declared.fault.NameFault.{NameFault}
use Rattle.bb_names.specs.Faults.{IsSound, IsFirstFault}
use Rattle.bb_names.specs.Laws.{SoundOrFault, NotSoundAndFault, FirstFaultsAreOne}
use Rattle.bb_lex.specs.declared.token.Token.{Token as TextToken}
use Rattle.bb_lex.specs.Cut.{AreTokens, IsBadOn}
use Rattle.bb_lex.specs.Laws.{TokensAreOne, BadLinesAreOne, TokensOrBadLine, NotTokensAndBadLine}
use Rattle.bb_parse.specs.declared.fault.ParseFault.{ParseFault}
use Rattle.bb_parse.specs.declared.fault.ParseFault.TheVariants as parse
use Rattle.bb_parse.specs.Laws.{FaultsAreOne, SourceOrFault, NotSourceAndFault, TextsReadOnce}
use Rattle.bb_parse.specs.Sources.{IsParseFault, IsSource, ReadsAs}
use Rattle.bb_frontend.specs.declared.side_fault.SideFault.{SideFault}
use Rattle.bb_frontend.specs.declared.side_fault.SideFault.TheVariants.{Token, Statement, Deep, Unended, Named, Elaborated, NoMemory}
use Rattle.bb_frontend.specs.Refusals.{HasFault}
use Rattle.bb_frontend.specs.Inside.SideFaults.{of_parse, of_elab}
use Rattle.bb_frontend.specs.TextDesigns.{IsDesignOf, IsSideFault, TextsReadAsOne, TextDesignsAreOne, SideFaultsAreOne, NotDesignAndFault, DesignOrFault}

pub texts_read_as_one : TextsReadOnce → TextsReadAsOne
texts_read_as_one once name text d e f g =
    let same : d.text ≡ e.text = once text d.text e.text f.reads g.reads in
    let tops : Some d.top ≡ Some e.top = sym f.top ∙ ap (λ t. top_of t name) same ∙ g.top in
    let top : d.top ≡ e.top = grind (arith, tops) in
    λ k. record { text = same k; top = top k }

pub text_designs_are_one : TextsReadOnce → TextDesignsAreOne
text_designs_are_one once name text d e f g = texts_read_as_one once name text d e (record { reads = f.reads; top = f.top }) (record { reads = g.reads; top = g.top })

-- what is wrong with a text is wrong with its tokens, with its statements, with its names, or with its design
data IsWrong (name : Option (List ℕ)) (text : List ℕ) (fault : SideFault) : Type 0 where
  InTokens : (line : ℕ) → IsBadOn text line → fault ≡ Token line → IsWrong name text fault
  InStatements : (first : ParseFault) → HasFault text first → fault ≡ of_parse first → IsWrong name text fault
  InNames : (modules : List PlainModule) → ReadsAs text modules → (first : NameFault) → IsFirstFault modules first → fault ≡ Named first → IsWrong name text fault
  InDesign : (modules : List PlainModule) → ReadsAs text modules → IsSound modules → (first : ElabFault) → IsFirstDesignRefusal modules name first → fault ≡ Elaborated first → IsWrong name text fault

wrong : (name : Option (List ℕ)) (text : List ℕ) (fault : SideFault) → IsSideFault name text fault → IsWrong name text fault
wrong name text (Token line) h = InTokens line h refl
wrong name text (Statement line) h = InStatements (parse.Statement line) h refl
wrong name text (Deep line) h = InStatements (parse.Deep line) h refl
wrong name text Unended h = InStatements parse.Unended h refl
wrong name text (Named fault) h = InNames h.0 h.1 fault h.2 refl
wrong name text (Elaborated fault) h = InDesign h.0 h.1 h.2 fault h.3 refl
wrong name text NoMemory h = absurd h

module _ (one_list : TokensAreOne) (no_bad_tokens : NotTokensAndBadLine) (no_bad_source : NotSourceAndFault) (once : TextsReadOnce) (no_bad_names : NotSoundAndFault) where
  bad_no_fault : (text : List ℕ) (line : ℕ) (fault : ParseFault) → IsBadOn text line → HasFault text fault → ⊥
  bad_no_fault text line fault bad has = no_bad_tokens text has.0 line has.1 bad

  bad_no_source : (text : List ℕ) (line : ℕ) (modules : List PlainModule) → IsBadOn text line → ReadsAs text modules → ⊥
  bad_no_source text line modules bad reads = no_bad_tokens text reads.0 line reads.1 bad

  fault_no_source : (text : List ℕ) (fault : ParseFault) (modules : List PlainModule) → HasFault text fault → ReadsAs text modules → ⊥
  fault_no_source text fault modules has reads =
      let same : reads.0 ≡ has.0 = one_list text reads.0 has.0 reads.1 has.1 in
      no_bad_source text has.0 modules fault (subst (λ (z : List TextToken). IsSource text z modules) same reads.2) has.2

  named_no_sound : (text : List ℕ) (modules others : List PlainModule) (fault : NameFault) → ReadsAs text modules → ReadsAs text others → IsFirstFault modules fault → IsSound others → ⊥
  named_no_sound text modules others fault reads more first sound = no_bad_names others fault sound (subst (λ ms. IsFirstFault ms fault) (once text modules others reads more) first)

  module _ (one_line : BadLinesAreOne) (one_fault : FaultsAreOne) (one_name : FirstFaultsAreOne) (one_refusal : FirstRefusalsAreOne) where
    same_fault : (text : List ℕ) (fault other : ParseFault) → HasFault text fault → HasFault text other → fault ≡ other
    same_fault text fault other has more =
        let same : more.0 ≡ has.0 = one_list text more.0 has.0 more.1 has.1 in
        one_fault text has.0 fault other has.2 (subst (λ (z : List TextToken). IsParseFault text z other) same more.2)

    both : (name : Option (List ℕ)) (text : List ℕ) (e f : SideFault) → IsWrong name text e → IsWrong name text f → e ≡ f
    both name text e f (InTokens line bad p) (InTokens more worse q) = p ∙ ap Token (one_line text line more bad worse) ∙ sym q
    both name text e f (InTokens line bad p) (InStatements first has q) = absurd (bad_no_fault text line first bad has)
    both name text e f (InTokens line bad p) (InNames modules reads first is q) = absurd (bad_no_source text line modules bad reads)
    both name text e f (InTokens line bad p) (InDesign modules reads sound first is q) = absurd (bad_no_source text line modules bad reads)
    both name text e f (InStatements first has p) (InTokens line bad q) = absurd (bad_no_fault text line first bad has)
    both name text e f (InStatements first has p) (InStatements second more q) = p ∙ ap of_parse (same_fault text first second has more) ∙ sym q
    both name text e f (InStatements first has p) (InNames modules reads second is q) = absurd (fault_no_source text first modules has reads)
    both name text e f (InStatements first has p) (InDesign modules reads sound second is q) = absurd (fault_no_source text first modules has reads)
    both name text e f (InNames modules reads first is p) (InTokens line bad q) = absurd (bad_no_source text line modules bad reads)
    both name text e f (InNames modules reads first is p) (InStatements second has q) = absurd (fault_no_source text second modules has reads)
    both name text e f (InNames modules reads first is p) (InNames others more second be q) =
        p ∙ ap Named (one_name others first second (subst (λ ms. IsFirstFault ms first) (once text modules others reads more) is) be) ∙ sym q
    both name text e f (InNames modules reads first is p) (InDesign others more sound second be q) = absurd (named_no_sound text modules others first reads more is sound)
    both name text e f (InDesign modules reads sound first is p) (InTokens line bad q) = absurd (bad_no_source text line modules bad reads)
    both name text e f (InDesign modules reads sound first is p) (InStatements second has q) = absurd (fault_no_source text second modules has reads)
    both name text e f (InDesign modules reads sound first is p) (InNames others more second be q) = absurd (named_no_sound text others modules second more reads be sound)
    both name text e f (InDesign modules reads sound first is p) (InDesign others more also second be q) =
        p ∙ ap Elaborated (one_refusal others name first second (subst (λ ms. IsFirstDesignRefusal ms name first) (once text modules others reads more) is) be) ∙ sym q

    pub side_faults_are_one : SideFaultsAreOne
    side_faults_are_one name text e f g h = both name text e f (wrong name text e g) (wrong name text f h)

  module _ (no_bad_design : NotSoundAndRefused) where
    neither : (name : Option (List ℕ)) (text : List ℕ) (d : Design) (fault : SideFault) → IsDesignOf name text d → IsWrong name text fault → ⊥
    neither name text d fault design (InTokens line bad p) = bad_no_source text line d.text bad design.reads
    neither name text d fault design (InStatements first has p) = fault_no_source text first d.text has design.reads
    neither name text d fault design (InNames modules reads first is p) = named_no_sound text modules d.text first reads design.reads is design.faultless
    neither name text d fault design (InDesign modules reads sound first is p) =
        no_bad_design d.text name first (d.top, design.top, design.sound) (subst (λ ms. IsFirstDesignRefusal ms name first) (once text modules d.text reads design.reads) is)

    pub not_design_and_fault : NotDesignAndFault
    not_design_and_fault name text d fault design is = neither name text d fault design (wrong name text fault is)

module _ (lexed : TokensOrBadLine) (parsed : SourceOrFault) (named : SoundOrFault) (elaborated : SoundOrRefused) where
  abbrev Answer : Option (List ℕ) → List ℕ → Type 0
  Answer name text = ((d : Design) × IsDesignOf name text d) ⊎ ((fault : SideFault) × IsSideFault name text fault)

  of_modules : (name : Option (List ℕ)) (text : List ℕ) (modules : List PlainModule) → ReadsAs text modules → IsSound modules → IsSoundText modules name ⊎ ((fault : ElabFault) × IsFirstDesignRefusal modules name fault) → Answer name text
  of_modules name text modules reads sound (inl top) = inl (design_on modules top.0, record { reads = reads; faultless = sound; top = top.1; sound = top.2 })
  of_modules name text modules reads sound (inr fault) = inr (Elaborated fault.0, (modules, reads, sound, fault.1))

  of_source : (name : Option (List ℕ)) (text : List ℕ) (modules : List PlainModule) → ReadsAs text modules → IsSound modules ⊎ ((fault : NameFault) × IsFirstFault modules fault) → Answer name text
  of_source name text modules reads (inl sound) = of_modules name text modules reads sound (elaborated modules name sound)
  of_source name text modules reads (inr fault) = inr (Named fault.0, (modules, reads, fault.1))

  of_statements : (name : Option (List ℕ)) (text : List ℕ) (fault : ParseFault) → HasFault text fault → Answer name text
  of_statements name text (parse.Statement line) has = inr (Statement line, has)
  of_statements name text parse.Unended has = inr (Unended, has)
  of_statements name text (parse.Deep line) has = inr (Deep line, has)
  of_statements name text parse.NoMemory (tokens, are, (prefix, after, a, good, never)) = absurd never

  of_tokens : (name : Option (List ℕ)) (text : List ℕ) (tokens : List TextToken) → AreTokens text tokens → ((modules : List PlainModule) × IsSource text tokens modules) ⊎ ((fault : ParseFault) × IsParseFault text tokens fault) → Answer name text
  of_tokens name text tokens are (inl source) = of_source name text source.0 (tokens, are, source.1) (named source.0)
  of_tokens name text tokens are (inr fault) = of_statements name text fault.0 (tokens, are, fault.1)

  of_text : (name : Option (List ℕ)) (text : List ℕ) → ((tokens : List TextToken) × AreTokens text tokens) ⊎ ((line : ℕ) × IsBadOn text line) → Answer name text
  of_text name text (inl tokens) = of_tokens name text tokens.0 tokens.1 (parsed text tokens.0 tokens.1)
  of_text name text (inr bad) = inr (Token bad.0, bad.1)

  pub design_or_fault : DesignOrFault
  design_or_fault name text = of_text name text (lexed text)

-- what elaboration refuses is a fault of the text
pub design_fault : (name : Option (List ℕ)) (text : List ℕ) (modules : List PlainModule) → ReadsAs text modules → IsSound modules → (e : ElabFault) → (e ≡ elab.NoMemory) ⊎ IsFirstDesignRefusal modules name e
    → (of_elab e ≡ NoMemory) ⊎ IsSideFault name text (of_elab e)
design_fault name text modules reads sound e (inl none) = inl (ap of_elab none)
design_fault name text modules reads sound elab.NoTop (inr first) = inr (modules, reads, sound, first)
design_fault name text modules reads sound (elab.Recursive n) (inr first) = inr (modules, reads, sound, first)
design_fault name text modules reads sound (elab.TooDeep n) (inr first) = inr (modules, reads, sound, first)
design_fault name text modules reads sound elab.TooLarge (inr first) = inr (modules, reads, sound, first)
design_fault name text modules reads sound (elab.DrivenTwice n) (inr first) = inr (modules, reads, sound, first)
design_fault name text modules reads sound (elab.Undriven n) (inr first) = inr (modules, reads, sound, first)
design_fault name text modules reads sound (elab.Loop n) (inr first) = inr (modules, reads, sound, first)
design_fault name text modules reads sound (elab.BoxTwice n) (inr first) = inr (modules, reads, sound, first)
design_fault name text modules reads sound (elab.RegTwice n) (inr first) = inr (modules, reads, sound, first)
design_fault name text modules reads sound (elab.PortTwice n) (inr first) = inr (modules, reads, sound, first)
design_fault name text modules reads sound elab.NoMemory (inr first) = inl refl

-- what implements modules that a text reads as implements the design of the text
pub design_occurs : (name : Option (List ℕ)) (text : List ℕ) (modules : List PlainModule) (flat : FlatNet) → ReadsAs text modules → IsSound modules → IsSoundText modules name → ImplementsText modules name flat
    → (d : Design) × IsDesignOf name text d × Implements d flat
design_occurs name text modules flat reads faultless sound occurs =
    let top : sound.0 ≡ occurs.0 = grind (arith, sym sound.1 ∙ occurs.1) in
    (design_on modules occurs.0, record { reads = reads; faultless = faultless; top = occurs.1; sound = subst (λ t. IsSoundDesign (design_on modules t)) top sound.2 }, occurs.2)

abbrev pub Fails : {A : Type 0} → Option (List ℕ) → List ℕ → Result A SideFault → Type 0
Fails name text result = IfErr result (λ fault. (fault ≡ NoMemory) ⊎ IsSideFault name text fault)

module _ {A : Type 0} (name : Option (List ℕ)) (text : List ℕ) where
  -- a text with a design fails for want of memory alone
  pub fails_by_memory : NotDesignAndFault → (result : Result A SideFault) → Fails name text result → (d : Design) → IsDesignOf name text d → IfErr result (λ fault. fault ≡ NoMemory)
  fails_by_memory never result fails d design = IfErr-weaker result (λ fault. (fault ≡ NoMemory) ⊎ IsSideFault name text fault) (λ fault. fault ≡ NoMemory) by fails
    where
      by : (fault : SideFault) → (fault ≡ NoMemory) ⊎ IsSideFault name text fault → fault ≡ NoMemory
      by fault (inl none) = none
      by fault (inr is) = absurd (never name text d fault design is)

  -- one with a fault fails by it, or for want of memory
  pub fails_by_fault : SideFaultsAreOne → (result : Result A SideFault) → IsErr result → Fails name text result → (first : SideFault) → IsSideFault name text first
      → MatchResult result (λ flat. ⊥) (λ fault. (fault ≡ first) ⊎ (fault ≡ NoMemory))
  fails_by_fault once (Ok x) wrong fails first is = absurd (true≢false (sym wrong))
  fails_by_fault once (Err fault) wrong (inl none) first is = inr none
  fails_by_fault once (Err fault) wrong (inr reported) first is = inl (once name text fault first reported is)
