-- What a session's table holds after some calls. Assumes nothing.
use Rattle.std.specs.Prelude.{◌≡◌, ℕ, ◌<◌, false, List, [], ◌∷◌, length, None, slice_index_or}
use Rattle.calls.specs.declared.step.Step.{Step}
use Rattle.calls.specs.History.{Did, standing, is_on, Valid}
use Rattle.calls.specs.Plays.{did}
use Rattle.session.specs.declared.table.Table.{Table}

-- the table holds the pins that stand and the rules that are on after the calls h, and the pins are places of their lists
pub record Holds (lengths : List ℕ) (h : List Did) (t : Table) : Type 0 where
  pub long : length t.pins ≡ 64
  pub wide : length t.switches ≡ 64
  pub pins : (c : ℕ) → c < 64 → slice_index_or t.pins c None ≡ standing h c
  pub switches : (r : ℕ) → r < 64 → slice_index_or t.switches r false ≡ is_on h r
  pub valid : Valid lengths (standing h)

-- the calls that were made, the latest first
abbrev pub latest : List Did → List Step → List Did
latest h [] = h
latest h (a ∷ after) = latest (did a ∷ h) after
