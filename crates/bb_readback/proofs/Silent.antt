-- A site of which no kind of fault is reported, and statements that have only such sites.
use Rattle.std.proofs.Common.{◌≡◌, ◌∙◌, ℕ, List, [], ◌++◌, map, flat_map, All, refl, ap}
use Rattle.std.proofs.lemmas.List.Elements.{All-weaker}
use Rattle.bb_ast.specs.Syntax.{PlainModule}
use Rattle.bb_names.specs.declared.fault.NameFault.{NameFault}
use Rattle.bb_names.specs.declared.fault.NameFault.TheVariants as faults
use Rattle.bb_names.specs.Faults as rows
use Rattle.bb_names.specs.Faults.{Rows, statement_faults}
use Rattle.bb_names.specs.Sites.{Site}
use Rattle.bb_readback.proofs.Lists.{flat_none}

pub record IsSilent (text : List PlainModule) (m : PlainModule) (site : Site) : Type 0 where
  pub once : rows.twice text m site ≡ []
  pub known : rows.unknown text m site ≡ []
  pub selected : rows.wrong_select text m site ≡ []
  pub wide : rows.wrong_width text m site ≡ []
  pub placed : rows.wrong_role text m site ≡ []

abbrev pub AreSilent : List PlainModule → PlainModule → List Site → Type 0
AreSilent text m sites = All (IsSilent text m) sites

module _ (text : List PlainModule) (m : PlainModule) (line : ℕ) (sites : List Site) (silent : AreSilent text m sites) where
  kind_none : (fault : ℕ → List ℕ → NameFault) (row : Rows) (rest : List NameFault)
      → ((site : Site) → IsSilent text m site → row text m site ≡ []) → rest ≡ []
      → map (fault line) (flat_map (row text m) sites) ++ rest ≡ []
  kind_none fault row rest each none =
      ap (λ l. map (fault line) l ++ rest) (flat_none (row text m) sites (All-weaker (IsSilent text m) (λ site. row text m site ≡ []) each sites silent)) ∙ none

  pub statement_silent : statement_faults text m line sites ≡ []
  statement_silent =
      kind_none faults.Twice rows.twice _ (λ site s. s.once)
      (kind_none faults.Unknown rows.unknown _ (λ site s. s.known)
      (kind_none faults.Select rows.wrong_select _ (λ site s. s.selected)
      (kind_none faults.Width rows.wrong_width _ (λ site s. s.wide)
      (kind_none faults.Role rows.wrong_role [] (λ site s. s.placed) refl))))
