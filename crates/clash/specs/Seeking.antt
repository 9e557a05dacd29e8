-- What a search for a core does to what it was lent. Assumes nothing.
use Rattle.std.specs.Prelude.{◌≡◌, List, length}
use Rattle.runs.specs.declared.line.Line.{Line}
use Rattle.clash.specs.declared.runner.Runner.{Ghosts}
use Rattle.clash.specs.declared.core_search.CoreSearch.{CoreSearch}
use Rattle.clash.specs.Running.{Lasting, lasting}
use Rattle.clash.specs.Logged.{Wrote}

module _ {T C : Type 0} {r : Ghosts T C} where
  -- the same runner, the same loans, and a log as long as it was
  pub record Keeps (before after : CoreSearch T C r) : Type 0 where
    pub runner : after.runner ≡ before.runner
    pub chooser : after.chooser.ghost_name ≡ before.chooser.ghost_name
    pub weights : after.weights.ghost_name ≡ before.weights.ghost_name
    pub work : after.work.ghost_name ≡ before.work.ghost_name
    pub sets : after.sets.ghost_name ≡ before.sets.ghost_name
    pub log : after.log.ghost_name ≡ before.log.ghost_name
    pub long : length after.log.now ≡ length before.log.now

  -- what lasts from run to run
  abbrev pub lasting_of : CoreSearch T C r → Lasting C
  lasting_of s = lasting s.chooser.now s.weights.now

  -- some lines are written after those that were there
  abbrev pub Logs : CoreSearch T C r → List Line → CoreSearch T C r → Type 0
  Logs before ls after = Wrote before.log.now before.lines after.lines ls after.log.now
