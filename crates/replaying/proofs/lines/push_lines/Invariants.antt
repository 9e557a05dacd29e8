use Rattle.std.proofs.Common.{◌≡◌, ◌+◌, ◌++◌, drop, string_bytes}
use Rattle.replaying.specs.Sessions.{told}
use Rattle.replaying.proofs.lines.push_lines.Given as goal

-- the text so far and what is told of the lines that are left are the whole text
abbrev pub invariant-loop-place : goal.invariant-loop-place
invariant-loop-place l = string_bytes l.out ++ told l.cells (l.first + l.place) (drop l.place l.lines) l.rest ≡ string_bytes l.initial.out ++ told l.cells l.first l.lines l.steps
