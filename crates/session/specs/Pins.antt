-- The pins that count, and the byte of a set. Assumes nothing.
use Rattle.std.specs.Prelude.{◌≡◌, ℕ, ◌<◌, cond, ◌≢◌, Some, None, Option, nat_lt}
use Rattle.bits.specs.Sets.{Lowest}

-- a pin, if it is a place of a list of that length
abbrev pub held : ℕ → Option ℕ → Option ℕ
held places None = None
held places (Some v) = cond (nat_lt v places) (Some v) None

-- the byte of a set: its lowest place, or 64 where it is empty
pub record LowestByte (s v : ℕ) : Type 0 where
  pub some : s ≢ 0 → Lowest s v × (v < 64)
  pub none : s ≡ 0 → v ≡ 64
