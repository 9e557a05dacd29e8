-- What each fault of a sheet file says: its number, its layer and its offset. Assumes nothing.
use Rattle.std.specs.Prelude.{ℕ}
use Rattle.formulas.specs.Faults.{number as flaw_number}
use Rattle.sheets.specs.declared.fault.Layer.{Layer}
use Rattle.sheets.specs.declared.fault.Layer.TheVariants.{Field as InField, Rule as InRule, Formula as InFormula}
use Rattle.sheets.specs.declared.fault.RuleFault.{RuleFault}
use Rattle.sheets.specs.declared.fault.RuleFault.TheVariants.{List, Rows, Formula}
use Rattle.sheets.specs.declared.fault.LoadFault.{LoadFault}
use Rattle.sheets.specs.declared.fault.LoadFault.TheVariants.{Cut, Tag, Many, Size, Rule}

-- the number of a fault in the content of a field
abbrev pub rule_number : RuleFault → ℕ
rule_number (List k) = 3
rule_number (Rows k) = 5
rule_number (Formula f) = flaw_number f.flaw

-- its layer
abbrev pub rule_layer : RuleFault → Layer
rule_layer (List k) = InRule
rule_layer (Rows k) = InRule
rule_layer (Formula f) = InFormula

-- the byte of the file where it is
abbrev pub rule_offset : RuleFault → ℕ
rule_offset (List k) = k
rule_offset (Rows k) = k
rule_offset (Formula f) = f.offset

-- the number of a fault of a file
abbrev pub number : LoadFault → ℕ
number (Cut k) = 1
number (Tag k) = 2
number (Many k) = 4
number Size = 10
number (Rule f) = rule_number f

-- its layer
abbrev pub layer : LoadFault → Layer
layer (Cut k) = InField
layer (Tag k) = InField
layer (Many k) = InField
layer Size = InField
layer (Rule f) = rule_layer f

-- the byte of the file where it is; 0 for a file too long or a store too small
abbrev pub offset : LoadFault → ℕ
offset (Cut k) = k
offset (Tag k) = k
offset (Many k) = k
offset Size = 0
offset (Rule f) = rule_offset f
