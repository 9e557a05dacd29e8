-- A run's progress as the state that settling is defined over, and what stays of it. Assumes nothing.
use Rattle.std.specs.Prelude.{◌≡◌, ℕ, length}
use Rattle.network.specs.declared.book.RuleBook.{Ghosts}
use Rattle.runs.specs.Settle.{State, state, weighed}
use Rattle.settling.specs.declared.progress.Progress.{Progress}

module _ {B : Type 0} {r : Ghosts B} where
  -- the state that a run has come to
  abbrev pub state_of : Progress B r → State
  state_of p = state p.sets.now p.used p.weights.now

  -- the book and the listed rules are the same; the same buffers are lent, and they are as long
  pub record Kept (a b : Progress B r) : Type 0 where
    pub book : b.book ≡ a.book
    pub rules : b.rules ≡ a.rules
    pub sets : a.sets.ghost_name ≡ b.sets.ghost_name
    pub weights : a.weights.ghost_name ≡ b.weights.ghost_name
    pub cells : length b.sets.now ≡ length a.sets.now
    pub weighted : length b.weights.now ≡ length a.weights.now

  -- the rule n weighs more, and nothing else changes
  abbrev pub Weighs : ℕ → Progress B r → Progress B r → Type 0
  Weighs n a b = state_of b ≡ state a.sets.now a.used (weighed n a.weights.now)
