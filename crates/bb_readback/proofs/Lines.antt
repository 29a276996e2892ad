-- The item of each line: no fault is reported of it.
use Rattle.std.proofs.Common.{◌≡◌, ℕ, true, false, None, List, [], ◌∷◌, ◌++◌, append-nil, map, flat_map, All, Contains, refl, sym, subst}
use Rattle.std.proofs.lemmas.List.Elements.{All-append, All-cons, All-head, All-nil, All-tail}
use Rattle.bb_ast.specs.declared.module.Dir.TheVariants as directions
use Rattle.bb_ast.specs.declared.module.Gate.{Gate as AnyGate}
use Rattle.bb_ast.specs.Syntax.{Gates, Net, PlainBody, PlainModule, Regs}
use Rattle.bb_names.specs.Declarations.{Declaration, declarations, declared_by, is_known, kind_of}
use Rattle.bb_names.specs.Faults.{is_reg}
use Rattle.bb_names.specs.Sites.{Clock, Declared, Driven, Read, Site, Stored, Terminal, item_sites, sites_in}
use Rattle.bb_net.specs.Flats.{FlatNet}
use Rattle.bb_fill.specs.Words.{NetWord}
use Rattle.bb_fill.specs.Lines.{Line, Primitive, Not, And, Or, Xor, Buf, Module, Input, Output, Reg, Gate, Assign, Always, End}
use Rattle.bb_readback.specs.Laws.Modules.{bodies_of, expression_of, gate_of, port_body}
use Rattle.bb_readback.proofs.Clashes.{AreOthers, NoClash}
use Rattle.bb_readback.proofs.Forms.{Takes}
use Rattle.bb_readback.proofs.Ports.{declared_silent}
use Rattle.bb_readback.proofs.Meant.{Declares, said_of_input, said_of_output, said_of_register}
use Rattle.bb_readback.proofs.Silent.{AreSilent, IsSilent}
use Rattle.bb_readback.proofs.WordSites.{IsDriven, IsKnown, choice_of, choice_read, clock_silent, input_silent, net_read, net_stored, output_silent, word_driven, word_read}

-- what is asked of a line
abbrev pub IsPlain : PlainModule → List ℕ → Line → Type 0
IsPlain m stem (Gate primitive out ins) = IsDriven m stem out × Takes primitive ins × All (IsKnown m stem) ins
IsPlain m stem (Assign left condition high low) = IsDriven m stem left × IsKnown m stem condition × IsKnown m stem high × IsKnown m stem low
IsPlain m stem (Always falling clock name data_word) =
    (is_known m clock ≡ true) × (is_known m name ≡ true) × (is_reg (kind_of m name) ≡ true) × IsKnown m stem data_word
IsPlain m stem line = Unit {0}

-- a declaration of the module clashes with none of these
abbrev pub IsNew : PlainModule → List Declaration → Declaration → Type 0
IsNew m before d = Contains (declarations m) d × ((e : Declaration) → Contains before e → NoClash m e d)

-- so it is with what a body declares
abbrev pub IsClear : PlainModule → List Declaration → PlainBody → Type 0
IsClear m before body = (d : Declaration) → declared_by body ≡ d ∷ [] → IsNew m before d

-- nothing is reported of a body after such declarations
abbrev pub IsFaultless : List PlainModule → PlainModule → PlainBody → Type 0
IsFaultless text m body = (before : List Declaration) → IsClear m before body → AreSilent text m (item_sites text before body)

module _ (text : List PlainModule) (m : PlainModule) (f : FlatNet) (declares : Declares m f) (others : AreOthers f) (stem : List ℕ) where
  one_silent : (before : List Declaration) (d : Declaration) → IsNew m before d → AreSilent text m (Declared (before ++ []) d ∷ [])
  one_silent before d new =
      All-cons (IsSilent text m) (Declared (before ++ []) d) []
      (declared_silent text m f declares others (before ++ []) d new.0 (λ e has. new.1 e (subst (λ l. Contains l e) (append-nil before) has)))
      (All-nil (IsSilent text m))

  -- the terminals of a gate: its output, then its inputs

  abbrev output_sites : AnyGate → NetWord → List Site
  output_sites gate word = Terminal gate true (expression_of stem word) ∷ sites_in Driven (expression_of stem word)

  abbrev input_sites : AnyGate → NetWord → List Site
  input_sites gate word = Terminal gate false (expression_of stem word) ∷ sites_in Read (expression_of stem word)

  abbrev inputs_sites : AnyGate → List NetWord → List Site
  inputs_sites gate words = flat_map (λ e. Terminal gate false e ∷ sites_in Read e) (map (expression_of stem) words)

  output_none : (gate : AnyGate) (out : NetWord) → IsDriven m stem out → AreSilent text m (output_sites gate out)
  output_none gate out drives =
      All-cons (IsSilent text m) (Terminal gate true (expression_of stem out)) (sites_in Driven (expression_of stem out))
      (output_silent text m f declares gate stem out drives.0) (word_driven text m f declares stem out drives)

  input_none : (gate : AnyGate) (word : NetWord) → IsKnown m stem word → AreSilent text m (input_sites gate word)
  input_none gate word known =
      All-cons (IsSilent text m) (Terminal gate false (expression_of stem word)) (sites_in Read (expression_of stem word))
      (input_silent text m f declares gate stem word) (word_read text m f declares stem word known)

  inputs_none : (gate : AnyGate) (words : List NetWord) → All (IsKnown m stem) words → AreSilent text m (inputs_sites gate words)
  inputs_none gate [] known = All-nil (IsSilent text m)
  inputs_none gate (w ∷ words) known =
      All-append (IsSilent text m) (input_sites gate w) (inputs_sites gate words)
      (input_none gate w (All-head (IsKnown m stem) w words known)) (inputs_none gate words (All-tail (IsKnown m stem) w words known))

  terminals : (gate : AnyGate) (out : NetWord) (words : List NetWord) → IsDriven m stem out → All (IsKnown m stem) words
      → AreSilent text m (((output_sites gate out ++ []) ++ inputs_sites gate words) ++ [])
  terminals gate out words drives known =
      let output = All-append (IsSilent text m) (output_sites gate out) [] (output_none gate out drives) (All-nil (IsSilent text m)) in
      All-append (IsSilent text m) ((output_sites gate out ++ []) ++ inputs_sites gate words) []
      (All-append (IsSilent text m) (output_sites gate out ++ []) (inputs_sites gate words) output (inputs_none gate words known)) (All-nil (IsSilent text m))

  -- with one input or two, so that the first terminal alone is an output
  abbrev IsGateSilent : Primitive → NetWord → List Declaration → List NetWord → Type 0
  IsGateSilent primitive out before words =
      All (IsKnown m stem) words → AreSilent text m (item_sites text before (Gates (gate_of primitive) ((None, map (expression_of stem) (out ∷ words)) ∷ [])))

  gate_silent : (primitive : Primitive) (out : NetWord) (words : List NetWord) → IsDriven m stem out → Takes primitive words
      → (before : List Declaration)
      → IsGateSilent primitive out before words
  gate_silent Not out words drives (v, e) before = subst (IsGateSilent Not out before) (sym e) (terminals (gate_of Not) out (v ∷ []) drives)
  gate_silent Buf out words drives (v, e) before = subst (IsGateSilent Buf out before) (sym e) (terminals (gate_of Buf) out (v ∷ []) drives)
  gate_silent And out words drives (v, w, e) before = subst (IsGateSilent And out before) (sym e) (terminals (gate_of And) out (v ∷ w ∷ []) drives)
  gate_silent Or out words drives (v, w, e) before = subst (IsGateSilent Or out before) (sym e) (terminals (gate_of Or) out (v ∷ w ∷ []) drives)
  gate_silent Xor out words drives (v, w, e) before = subst (IsGateSilent Xor out before) (sym e) (terminals (gate_of Xor) out (v ∷ w ∷ []) drives)

  choice_silent : (left condition high low : NetWord) → IsDriven m stem left → IsKnown m stem condition → IsKnown m stem high
      → IsKnown m stem low
      → AreSilent text m ((sites_in Driven (expression_of stem left) ++ sites_in Read (choice_of stem condition high low)) ++ [])
  choice_silent left condition high low drives a b c =
      let assigned = sites_in Driven (expression_of stem left) in
      let right = sites_in Read (choice_of stem condition high low) in
      All-append (IsSilent text m) (assigned ++ right) []
      (All-append (IsSilent text m) assigned right (word_driven text m f declares stem left drives) (choice_read text m f declares stem condition high low a b c))
      (All-nil (IsSilent text m))

  register_silent : (clock name : List ℕ) (data_word : NetWord) → IsPlain m stem (Always false clock name data_word)
      → AreSilent text m (Clock (Net clock) ∷ sites_in Read (Net clock) ++ sites_in Stored (Net name) ++ sites_in Read (expression_of stem data_word))
  register_silent clock name data_word (clocked, known, reg, data_known) =
      let left = sites_in Read (Net clock) ++ sites_in Stored (Net name) in
      let right = sites_in Read (expression_of stem data_word) in
      All-cons (IsSilent text m) (Clock (Net clock)) (left ++ right) (clock_silent text m f declares clock)
      (All-append (IsSilent text m) left right
      (All-append (IsSilent text m) (sites_in Read (Net clock)) (sites_in Stored (Net name))
      (net_read text m f declares clock clocked) (net_stored text m f declares name known reg))
      (word_read text m f declares stem data_word data_known))

  one_body : (body : PlainBody) → IsFaultless text m body → All (IsFaultless text m) (body ∷ [])
  one_body body faultless = All-cons (IsFaultless text m) body [] faultless (All-nil (IsFaultless text m))

  pub line_faultless : (line : Line) → IsPlain m stem line → All (IsFaultless text m) (bodies_of stem line)
  line_faultless (Module ports) plain = All-nil (IsFaultless text m)
  line_faultless (Input name) plain = one_body (port_body directions.Input name) (λ before clear. let d = said_of_input name in one_silent before d (clear d refl))
  line_faultless (Output name) plain = one_body (port_body directions.Output name) (λ before clear. let d = said_of_output name in one_silent before d (clear d refl))
  line_faultless (Reg name) plain = one_body (Regs None (name ∷ [])) (λ before clear. let d = said_of_register name in one_silent before d (clear d refl))
  line_faultless (Gate primitive out words) plain = one_body _ (λ before clear. gate_silent primitive out words plain.0 plain.1 before plain.2)
  line_faultless (Assign left condition high low) plain = one_body _ (λ before clear. choice_silent left condition high low plain.0 plain.1 plain.2 plain.3)
  line_faultless (Always falling clock name data_word) plain = one_body _ (λ before clear. register_silent clock name data_word plain)
  line_faultless End plain = All-nil (IsFaultless text m)
