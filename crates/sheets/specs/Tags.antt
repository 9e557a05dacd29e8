-- The tags of the fields of a file. Assumes nothing.
use Rattle.std.specs.Prelude.{ℕ}
use Rattle.sheets.specs.declared.tag.Tag.{Tag}
use Rattle.sheets.specs.declared.tag.Tag.TheVariants.{Cell, Rows, Formula, End}

-- the byte of a tag
abbrev pub tag_byte : Tag → ℕ
tag_byte Cell = 1
tag_byte Rows = 2
tag_byte Formula = 3
tag_byte End = 4
