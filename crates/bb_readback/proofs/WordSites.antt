-- Words of a line as expressions: no fault is reported of a number or a known name that is read, nor of a name that may be driven or stored to.
use Rattle.std.proofs.Common.{◌≡◌, ◌∙◌, ℕ, true, false, not, ◌||◌, ◌==◌, nat_lt, max, if◌then◌else◌, Some, None, List, [], ◌∷◌, ◌++◌, codes, decimal, refl, ap, ap₂}
use Rattle.std.proofs.lemmas.List.Elements.{All-append, All-cons, All-nil}
use Rattle.bb_ast.specs.declared.module.Gate.{Gate}
use Rattle.bb_ast.specs.Assignable.{is_assignable}
use Rattle.bb_ast.specs.Gates.{gate_bytes}
use Rattle.bb_ast.specs.Syntax.{Expression, Net, Sized, Cond, arm, no_arm, PlainModule}
use Rattle.bb_names.specs.Declarations.{is_instance, is_known, kind_of}
use Rattle.bb_names.specs.Faults.{is_input_port, is_no_copy, is_reg, reported_if, widest, width_in}
use Rattle.bb_names.specs.Ranges.{range_width}
use Rattle.bb_names.specs.Sites.{Clock, Driven, Read, Stored, Terminal, Use, Used, Whole, sites_in}
use Rattle.bb_net.specs.Flats.{FlatNet}
use Rattle.bb_fill.specs.Words.{NetWord, Bit, Named, CellNet, ChoiceNet}
use Rattle.bb_fill.specs.Laws.{identifier}
use Rattle.bb_readback.specs.Laws.Modules.{expression_of}
use Rattle.bb_readback.proofs.Forms.{IsNet}
use Rattle.bb_readback.proofs.Meant.{Declares}
use Rattle.bb_readback.proofs.MeantNames.{no_instance, no_range, no_supply}
use Rattle.bb_readback.proofs.Silent.{AreSilent, IsSilent}

-- a name that may be driven: it is known, and no input port and no register
pub record MayBeDriven (m : PlainModule) (n : List ℕ) : Type 0 where
  pub known : is_known m n ≡ true
  pub no_input : is_input_port m n ≡ false
  pub no_reg : is_reg (kind_of m n) ≡ false

-- a word whose name is known, and one that drives a net by its name
abbrev pub IsKnown : PlainModule → List ℕ → NetWord → Type 0
IsKnown m stem word = (n : List ℕ) → identifier stem word ≡ Some n → is_known m n ≡ true

abbrev pub IsDriven : PlainModule → List ℕ → NetWord → Type 0
IsDriven m stem word = IsNet word × ((n : List ℕ) → identifier stem word ≡ Some n → MayBeDriven m n)

abbrev pub choice_of : List ℕ → NetWord → NetWord → NetWord → Expression
choice_of stem condition high low = Cond (arm (expression_of stem condition) (expression_of stem high) no_arm) (expression_of stem low)

module _ (text : List PlainModule) (m : PlainModule) (f : FlatNet) (declares : Declares m f) where
  -- each word is one bit
  pub net_width : (n : List ℕ) → width_in m (Net n) ≡ 1
  net_width n = ap range_width (no_range m f declares n)

  pub word_width : (stem : List ℕ) (word : NetWord) → width_in m (expression_of stem word) ≡ 1
  word_width stem (Bit b) = refl
  word_width stem (Named name) = net_width name
  word_width stem (CellNet k) = net_width (stem ++ decimal k)
  word_width stem (ChoiceNet k) = net_width (stem ++ codes "t" ++ decimal k)

  -- an expression of one bit
  whole_silent : (e : Expression) → is_no_copy e ≡ false → width_in m e ≡ 1 → IsSilent text m (Whole e)
  whole_silent e copies width = record {
    once = refl;
    known = refl;
    selected = refl;
    wide = ap₂ (λ b n. reported_if b (codes "repeat") ++ reported_if (nat_lt widest n) (codes "wide")) copies width;
    placed = refl;
  }

  net_whole : (n : List ℕ) → IsSilent text m (Whole (Net n))
  net_whole n = whole_silent (Net n) refl (net_width n)

  used_sites : (how : Use) (n : List ℕ) → IsSilent text m (Used how n None) → AreSilent text m (sites_in how (Net n))
  used_sites how n used =
      All-cons (IsSilent text m) (Whole (Net n)) (Used how n None ∷ []) (net_whole n)
      (All-cons (IsSilent text m) (Used how n None) [] used (All-nil (IsSilent text m)))

  -- a net that is read
  pub net_read : (n : List ℕ) → is_known m n ≡ true → AreSilent text m (sites_in Read (Net n))
  net_read n known = used_sites Read n (record {
    once = refl;
    known = ap (λ b. reported_if (not b) n) known;
    selected = refl;
    wide = refl;
    placed = ap (λ b. reported_if b n) (no_instance m f declares n);
  })

  -- a net that is driven
  net_driven : (n : List ℕ) → MayBeDriven m n → AreSilent text m (sites_in Driven (Net n))
  net_driven n may = used_sites Driven n (record {
    once = refl;
    known = ap (λ b. reported_if (not b) n) may.known;
    selected = refl;
    wide = refl;
    placed = ap₂ (λ a b. reported_if (a || b || is_reg (kind_of m n) || is_instance m n) n) may.no_input (no_supply m f declares n)
        ∙ ap₂ (λ a b. reported_if (a || b) n) may.no_reg (no_instance m f declares n);
  })

  -- a register that is stored to
  pub net_stored : (n : List ℕ) → is_known m n ≡ true → is_reg (kind_of m n) ≡ true → AreSilent text m (sites_in Stored (Net n))
  net_stored n known reg = used_sites Stored n (record {
    once = refl;
    known = ap (λ b. reported_if (not b) n) known;
    selected = refl;
    wide = refl;
    placed = ap₂ (λ a b. reported_if (not a || b) n) reg (no_instance m f declares n);
  })

  pub clock_silent : (n : List ℕ) → IsSilent text m (Clock (Net n))
  clock_silent n = record { once = refl; known = refl; selected = refl; wide = clock_width (width_in m (Net n)) (net_width n); placed = refl }
    where
      clock_width : (w : ℕ) → w ≡ 1 → (if w == 1 then [] else n ∷ []) ≡ []
      clock_width w e = ap (λ k. if k == 1 then [] else n ∷ []) e

  -- a word that is read
  pub word_read : (stem : List ℕ) (word : NetWord) → IsKnown m stem word → AreSilent text m (sites_in Read (expression_of stem word))
  word_read stem (Bit b) known =
      let e = Sized (b ∷ []) in
      All-cons (IsSilent text m) (Whole e) [] (whole_silent e refl refl) (All-nil (IsSilent text m))
  word_read stem (Named name) known = net_read name (known name refl)
  word_read stem (CellNet k) known = net_read (stem ++ decimal k) (known (stem ++ decimal k) refl)
  word_read stem (ChoiceNet k) known = net_read (stem ++ codes "t" ++ decimal k) (known (stem ++ codes "t" ++ decimal k) refl)

  -- a word that is driven
  pub word_driven : (stem : List ℕ) (word : NetWord) → IsDriven m stem word → AreSilent text m (sites_in Driven (expression_of stem word))
  word_driven stem (Bit b) drives = absurd drives.0
  word_driven stem (Named name) drives = net_driven name (drives.1 name refl)
  word_driven stem (CellNet k) drives = net_driven (stem ++ decimal k) (drives.1 (stem ++ decimal k) refl)
  word_driven stem (ChoiceNet k) drives = net_driven (stem ++ codes "t" ++ decimal k) (drives.1 (stem ++ codes "t" ++ decimal k) refl)

  word_assignable : (stem : List ℕ) (word : NetWord) → IsNet word → is_assignable (expression_of stem word) ≡ true
  word_assignable stem (Bit b) net = absurd net
  word_assignable stem (Named name) net = refl
  word_assignable stem (CellNet k) net = refl
  word_assignable stem (ChoiceNet k) net = refl

  -- the terminals of a gate
  pub output_silent : (gate : Gate) (stem : List ℕ) (word : NetWord) → IsNet word
      → IsSilent text m (Terminal gate true (expression_of stem word))
  output_silent gate stem word net = record {
    once = refl;
    known = refl;
    selected = refl;
    wide = ap (λ n. reported_if (not (n == 1)) (gate_bytes gate)) (word_width stem word);
    placed = ap (λ b. reported_if (not b) (gate_bytes gate)) (word_assignable stem word net);
  }

  pub input_silent : (gate : Gate) (stem : List ℕ) (word : NetWord) → IsSilent text m (Terminal gate false (expression_of stem word))
  input_silent gate stem word = record {
    once = refl;
    known = refl;
    selected = refl;
    wide = ap (λ n. reported_if (not (n == 1)) (gate_bytes gate)) (word_width stem word);
    placed = refl;
  }

  -- a conditional of three words
  pub choice_read : (stem : List ℕ) (condition high low : NetWord) → IsKnown m stem condition → IsKnown m stem high → IsKnown m stem low
      → AreSilent text m (sites_in Read (choice_of stem condition high low))
  choice_read stem condition high low a b c =
      let read = λ (word : NetWord). sites_in Read (expression_of stem word) in
      let arms = read condition ++ read high in
      let width : width_in m (choice_of stem condition high low) ≡ 1 = ap₂ (λ h l. max (max h 0) l) (word_width stem high) (word_width stem low) in
      let two = All-append (IsSilent text m) (read condition) (read high) (word_read stem condition a) (word_read stem high b) in
      All-cons (IsSilent text m) (Whole (choice_of stem condition high low)) ((arms ++ []) ++ read low) (whole_silent (choice_of stem condition high low) refl width)
      (All-append (IsSilent text m) (arms ++ []) (read low) (All-append (IsSilent text m) arms [] two (All-nil (IsSilent text m))) (word_read stem low c))
