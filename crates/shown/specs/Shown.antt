-- The text that show prints for a file. Assumes nothing.
use Rattle.std.specs.Prelude.{◌≡◌, ℕ, List, [], ◌∷◌, ◌++◌, codes, Ok, Err, Result}
use Rattle.formulas.specs.Tree.{numeral}
use Rattle.sheets.specs.declared.fault.Layer.{Layer}
use Rattle.sheets.specs.declared.fault.Layer.TheVariants.{Field, Rule, Formula}
use Rattle.sheets.specs.declared.fault.LoadFault.{LoadFault}
use Rattle.sheets.specs.Faults.{number, layer, offset}
use Rattle.sheets.specs.Sheet.{Sheet}
use Rattle.storage.specs.Outcome.{Outcome}
use Rattle.listing.specs.Listing.{listing_of}

-- the word for a layer
abbrev pub layer_text : Layer → List ℕ
layer_text Field = codes "field"
layer_text Rule = codes "rule"
layer_text Formula = codes "formula"

-- FAULT, the number, the layer and the offset, one blank apart, and a newline
abbrev pub layered_text : LoadFault → List ℕ
layered_text e = codes "FAULT " ++ (numeral (number e) ++ (32 ∷ (layer_text (layer e) ++ (32 ∷ (numeral (offset e) ++ (10 ∷ []))))))

-- the text of a sheet, or of a fault
abbrev pub told_of : Result Sheet LoadFault → List ℕ
told_of (Ok s) = listing_of s
told_of (Err e) = layered_text e

-- the text for a file: that of the sheet that it is, or of its first fault
pub record Shows (file t : List ℕ) : Type 0 where
  pub read : Result Sheet LoadFault
  pub outcome : Outcome file read
  pub told : t ≡ told_of read
