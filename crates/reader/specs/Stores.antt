-- Stores of lent nodes. Assumes nothing.
use Rattle.std.specs.Prelude.{◌≡◌, ◌+◌, ◌≤◌, length, take}
use Rattle.reader.specs.declared.cursor.Cursor.{Cursor}
use Rattle.reader.specs.declared.store.Store.{Store}

-- both hold the same lent nodes
abbrev pub SameLoan : Store → Store → Type 0
SameLoan a b = a.nodes.ghost_name ≡ b.nodes.ghost_name

-- the nodes that were taken are as they were
pub record Kept (a b : Store) : Type 0 where
  pub loan : SameLoan a b
  pub long : length b.nodes.now ≡ length a.nodes.now
  pub kept : take a.used b.nodes.now ≡ take a.used a.nodes.now

-- a node for each byte of the text that is to be read
pub record Room (a : Store) (at : Cursor) : Type 0 where
  pub room : a.used + length at.text.now.bytes.now ≤ length a.nodes.now + at.at
