use Rattle.std.proofs.Common.{◌≡◌, ℕ, ◌+◌, List, ◌++◌, length, string_bytes}
use Rattle.sheets.specs.Sheet.{Sheet}
use Rattle.sheets.specs.Stored.{held}
use Rattle.sheet_books.specs.Books.{Holds}
use Rattle.replaying.specs.Replays.{Sessions, no_flags}
use Rattle.replaying.proofs.replay.push_sessions.Given as goal

-- the text so far and that of the sessions that are left are the whole text
abbrev pub invariant-loop-count : goal.invariant-loop-count
invariant-loop-count l =
    record {
      left : l.first + length l.rest ≡ length l.lines + 1;
      text : (s : Sheet) → Holds (held l.stores) l.extent s → (u : List ℕ) → Sessions s l.flags l.first l.rest u
          → (t : List ℕ) × (string_bytes l.out ++ u ≡ string_bytes l.initial.out ++ t) × Sessions s no_flags 1 l.lines t;
    }

abbrev pub decreases-loop-count : goal.decreases-loop-count
decreases-loop-count l = length l.rest
