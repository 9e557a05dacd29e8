-- What the content of a field is read as. Assumes nothing.
use Rattle.std.specs.Prelude.{◌≡◌, ℕ, List, ◌++◌, map, length, drop, ℤ, ◌≢◌}
use Rattle.rows.specs.declared.rule.RowsRule.{RowsRule}
use Rattle.sheets.specs.declared.fault.RuleFault.{RuleFault}
use Rattle.sheets.specs.declared.fault.RuleFault.TheVariants.{List as ListFault, Rows as RowsFault}
use Rattle.sheets.specs.Sheet.{RowsField, list_bytes, rows_bytes, GoodList, GoodRows}
use Rattle.sheets.specs.Stored.{places_of, stored_rule_of}

-- the content is a good list of n numbers, which now stand at the front of the cell's places; the others are as before
pub record ReadList (content : List ℕ) (before after : List ℤ) (n : ℕ) : Type 0 where
  pub list : List ℤ
  pub good : GoodList list
  pub said : content ≡ list_bytes list
  pub count : n ≡ length list
  pub stored : after ≡ list ++ drop (length list) before

-- the content is no good list, and the fault says so at the field's tag
pub record NoList (content : List ℕ) (tag : ℕ) (fault : RuleFault) : Type 0 where
  pub fault_is : fault ≡ ListFault tag
  pub none : (zs : List ℤ) → GoodList zs → content ≢ list_bytes zs

-- on any cells whose lists have these lengths, the content is a good rows rule; its places now stand at the front of the given ones, and the others are as before
pub record ReadRows (content lengths : List ℕ) (start : ℕ) (before after : List ℕ) (rule : RowsRule) : Type 0 where
  pub field : RowsField
  pub good : (lists : List (List ℤ)) → map length lists ≡ lengths → GoodRows lists field
  pub said : content ≡ rows_bytes field
  pub rule_is : rule ≡ stored_rule_of start field
  pub stored : after ≡ places_of field ++ drop (length (places_of field)) before

-- on no cells whose lists have these lengths is the content a good rows rule, and the fault says so at the field's tag
pub record NoRows (content lengths : List ℕ) (tag : ℕ) (fault : RuleFault) : Type 0 where
  pub fault_is : fault ≡ RowsFault tag
  pub none : (lists : List (List ℤ)) → map length lists ≡ lengths → (x : RowsField) → GoodRows lists x → content ≢ rows_bytes x
