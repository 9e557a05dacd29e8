-- Runs and Fits evaluated: functions that the checker computes. `Sound`, `Searching` and `Fits` prove that what they give, the relations give.
-- Each takes some fuel, and gives nothing where that is used up. A `let` waits until its value is read, so no branch is computed that is not taken. Assumes nothing.
use Rattle.std.specs.Prelude.{ℕ, zero, suc, ◌+◌, ◌-◌, ◌/◌, ◌%◌, ◌^◌, Bool, true, false, cond, ◌&&◌, ◌||◌, List, [], ◌∷◌, ◌++◌, length, Some, None, Option, ◌==◌, nat_lt, get_or}
use Rattle.bits.specs.Sets.{in?, members, size}
use Rattle.network.specs.Book.{Rule, BookMeaning}
use Rattle.choosers.specs.Choice.{Machine}
use Rattle.choosers.specs.declared.chooser.Event.TheVariants.{Start, Failed, Stood}
use Rattle.runs.specs.declared.line.Line.{Line}
use Rattle.runs.specs.declared.line.Verdict.{Verdict}
use Rattle.runs.specs.declared.line.Verdict.TheVariants.{Met, Unmet}
use Rattle.runs.specs.Settle.{State, state, left_at, cell_at, out_of, marked, weighed}
use Rattle.runs.specs.Run.{alone, back, line}
use Rattle.runs.specs.Figures.{figures_of}
use Rattle.cores.specs.Core.{Outcome, Outcome.left, Outcome.core}
use Rattle.cores.specs.Fit.{with_first, with_rule}
use Rattle.clash.specs.Running.{Lasting, lasting}

-- the test holds at some place of the mask
abbrev pub some_place : ℕ → ℕ → ℕ → (ℕ → Bool) → Bool
some_place zero s v p = false
some_place (suc n) s v p =
    let here = p v in
    let rest = some_place n (s / 2) (v + 1) p in
    cond (s == 0) false (cond (s % 2 == 1) (here || rest) rest)

-- the lowest place of the mask
abbrev pub lowest : ℕ → ℕ → ℕ → Option ℕ
lowest zero s v = None
lowest (suc n) s v = let rest = lowest n (s / 2) (v + 1) in cond (s % 2 == 1) (Some v) rest

-- the test holds of some row of remaining places
abbrev pub some_row : List ℕ → (List ℕ → Bool) → List ℕ → Bool
some_row sets p [] = p []
some_row sets p (c ∷ cs) = some_place 64 (left_at sets c) 0 (λ v. some_row sets (λ row. p (v ∷ row)) cs)

-- the rule permits a row with place v at position i whose places all remain
abbrev pub supported? : Rule → ℕ → ℕ → List ℕ → Bool
supported? rule i v sets = some_row sets (λ row. let yes = rule.permits row in cond (get_or row i 64 == v) yes false) rule.cells

-- what turns come to: the state after them, or the turn that failed and the state after it
pub data Out : Type 0 where
  held : State → Out
  fell : ℕ → State → Out

-- a failure inside turn n is one of turn n
abbrev pub numbered : ℕ → Out → Out
numbered n (held t) = held t
numbered n (fell j t) = fell n t

-- turn n, after what the turns before it came to
abbrev pub after_turn : ℕ → (State → Out) → Out → Out
after_turn n f (held t) = numbered n (f t)
after_turn n f (fell j t) = fell j t

-- n turns, numbered from 0
abbrev pub turns : (ℕ → State → Out) → ℕ → State → Out
turns f zero s = held s
turns f (suc n) s = after_turn n (f n) (turns f n s)

-- the lists are equal
abbrev pub same_list : List ℕ → List ℕ → Bool
same_list [] [] = true
same_list [] (y ∷ ys) = false
same_list (x ∷ xs) [] = false
same_list (x ∷ xs) (y ∷ ys) = x == y && same_list xs ys

-- what f gives for what was given, if anything was
abbrev pub then : {A B : Type 0} → Option A → (A → Option B) → Option B
then None f = None
then (Some a) f = f a

-- the end of a search: whether there is a filling, the chooser, and the state
pub record Ended (C : Type 0) : Type 0 where
  pub found : Bool
  pub chooser : C
  pub state : State

-- what one run came to: its line, the sets it left, and what lasts
pub record Once (S O : Type 0) : Type 0 where
  pub line : Line
  pub left : O
  pub state : S

module _ (m : BookMeaning) where
  -- place v at position i of rule r, whose cell is c
  abbrev pub revise : ℕ → ℕ → ℕ → ℕ → State → Out
  revise r c i v s =
      let yes = supported? (m.rule r) i v s.sets in
      let sets = out_of s.sets c v in
      let gone = fell v (state sets (marked s.used r) (weighed r s.weights)) in
      let less = held (state sets (marked s.used r) s.weights) in
      let some = some_place 64 (left_at sets c) 0 (λ _. true) in
      cond (in? (left_at s.sets c) v) (cond yes (held s) (cond some less gone)) (held s)

  -- the positions of a rule
  abbrev pub take_rule : ℕ → State → Out
  take_rule r s = turns (λ i. turns (revise r (cell_at m r i) i) 64) (length (m.rule r).cells) s

  -- a rule's turn in a sweep
  abbrev pub turn : ℕ → ℕ → State → Out
  turn listed r s = let t = take_rule r s in cond (in? listed r) t (held s)

  -- one sweep
  abbrev pub sweep : ℕ → State → Out
  sweep listed s = turns (turn listed) m.count s

  -- after a sweep: it is the last if it removed nothing, and else f settles on
  abbrev pub sweeps_on : (State → Option Out) → State → Out → Option Out
  sweeps_on f s (held t) = let more = f t in cond (same_list t.sets s.sets) (Some (held t)) more
  sweeps_on f s (fell r t) = Some (fell r t)

  -- settling, in less than n sweeps
  abbrev pub settle : ℕ → ℕ → State → Option Out
  settle zero listed s = None
  settle (suc n) listed s = sweeps_on (settle n listed) s (sweep listed s)

module _ {C : Type 0} (k : Machine C) (m : BookMeaning) where
  -- the end of a search
  abbrev pub came : Bool → C → State → Ended C
  came found x s = record { found = found; chooser = x; state = s }

  -- after settling: f explores, or there is no filling
  abbrev pub on_with : (C → State → Option (Ended C)) → C → Out → Option (Ended C)
  on_with f x (held t) = f x t
  on_with f x (fell r t) = Some (came false x t)

  -- the sets are settled, and f explores them
  abbrev pub onward : (C → State → Option (Ended C)) → ℕ → ℕ → C → State → Option (Ended C)
  onward f fuel listed y s = then (settle m fuel listed s) (on_with f y)

  -- after a try that was explored to its end: it stands, or the search goes on without its place
  abbrev pub after_try : (C → State → Option (Ended C)) → ℕ → ℕ → State → ℕ → ℕ → Ended C → Option (Ended C)
  after_try f fuel listed s c v e =
      let more = onward f fuel listed (k.told e.chooser (Failed c)) (back s c v e.state) in
      cond e.found (Some e) more

  -- after the first settling of a try
  abbrev pub tried : (C → State → Option (Ended C)) → ℕ → ℕ → C → State → ℕ → ℕ → Out → Option (Ended C)
  tried f fuel listed x s c v (held t) = then (f (k.told x (Stood c)) t) (after_try f fuel listed s c v)
  tried f fuel listed x s c v (fell r t) = onward f fuel listed (k.told x (Failed c)) (back s c v t)

  -- the try of place v at cell c
  abbrev pub try_at : (C → State → Option (Ended C)) → ℕ → ℕ → C → State → ℕ → ℕ → Option (Ended C)
  try_at f fuel listed x s c v = then (settle m fuel listed (alone s c v)) (tried f fuel listed x s c v)

  -- the cell that is named: its lowest place is tried, or the search has ended
  abbrev pub choose : (C → State → Option (Ended C)) → ℕ → ℕ → C → State → ℕ → Option (Ended C)
  choose f fuel listed x s c =
      let more = then (lowest 64 (left_at s.sets c) 0) (try_at f fuel listed x s c) in
      cond (c == 255) (Some (came true x s)) more

  -- from settled sets to the end, in less than n tries one in another
  abbrev pub explore : ℕ → ℕ → ℕ → C → State → Option (Ended C)
  explore zero fuel listed x s = None
  explore (suc n) fuel listed x s = choose (explore n fuel listed) fuel listed x s (k.names x (figures_of m listed s.sets s.weights))

  -- the line of a run, and what it leaves; only rules that the book has may be listed
  abbrev pub run_end : ℕ → Ended C → Option (Once (Lasting C) (List ℕ))
  run_end listed e =
      let one = Some (record { line = line listed e.found e.state.used; left = e.state.sets; state = lasting e.chooser e.state.weights }) in
      cond (nat_lt listed (2 ^ m.count)) one None

  -- a whole run
  abbrev pub run : List ℕ → ℕ → ℕ → Lasting C → Option (Once (Lasting C) (List ℕ))
  run start fuel listed x = then (onward (explore fuel fuel listed) fuel listed (k.told x.chooser Start) (state start 0 x.weights)) (run_end listed)

-- the first where some filling meets the rules, and else the second
abbrev pub by_verdict : {A : Type 0} → Verdict → A → A → A
by_verdict Met x y = x
by_verdict Unmet x y = y

-- what some runs came to: their lines, a set of rules or a place, and what lasts
pub record Came (S : Type 0) : Type 0 where
  pub lines : List Line
  pub at : ℕ
  pub state : S

-- what a Fit came to
pub record Fitting (S O : Type 0) : Type 0 where
  pub lines : List Line
  pub out : Outcome O
  pub state : S

module _ {S O : Type 0} (run : ℕ → S → Option (Once S O)) where
  -- one line before those of later runs
  abbrev pub with_line : Line → Came S → Option (Came S)
  with_line l c = Some (record { lines = l ∷ c.lines; at = c.at; state = c.state })

  -- after a run of the used rules
  abbrev pub shrunk : (Line → S → Option (Came S)) → Once S O → Option (Came S)
  shrunk f g = let more = then (f g.line g.state) (with_line g.line) in by_verdict g.line.verdict None more

  -- runs of the used rules, until one uses all that it lists
  abbrev pub shrink : ℕ → Line → S → Option (Came S)
  shrink zero l s = None
  shrink (suc n) l s =
      let more = then (run l.used s) (shrunk (shrink n)) in
      cond (l.used == l.listed) (Some (record { lines = []; at = l.listed; state = s })) more

  -- after the run of the middle
  abbrev pub halved : (ℕ → ℕ → S → Option (Came S)) → ℕ → ℕ → Once S O → Option (Came S)
  halved f lo hi g =
      let down = then (f lo ((lo + hi) / 2) g.state) (with_line g.line) in
      let up = then (f ((lo + hi) / 2 + 1) hi g.state) (with_line g.line) in
      by_verdict g.line.verdict up down

  -- the least j at which the rules clash, by halving
  abbrev pub halve : ℕ → ℕ → List ℕ → ℕ → ℕ → S → Option (Came S)
  halve zero found cs lo hi s = None
  halve (suc n) found cs lo hi s =
      let more = then (run (with_first found ((lo + hi) / 2) cs) s) (halved (halve n found cs) lo hi) in
      cond (lo == hi) (Some (record { lines = []; at = lo; state = s })) (cond (nat_lt lo hi) more None)

  -- the lines of a round before those of later rounds
  abbrev pub round_end : Line → List Line → Came S → Option (Came S)
  round_end l ls c = Some (record { lines = l ∷ (ls ++ c.lines); at = c.at; state = c.state })

  -- after the halving of a round
  abbrev pub found_one : (ℕ → ℕ → S → Option (Came S)) → ℕ → List ℕ → Line → Came S → Option (Came S)
  found_one f found cs l h = then (f (with_rule found h.at cs) (h.at - 1) h.state) (round_end l h.lines)

  -- after the run of the found rules alone
  abbrev pub rounded : (ℕ → ℕ → S → Option (Came S)) → ℕ → List ℕ → ℕ → ℕ → Once S O → Option (Came S)
  rounded f fuel cs found n g =
      let more = then (halve fuel found cs 1 n g.state) (found_one f found cs g.line) in
      by_verdict g.line.verdict more (Some (record { lines = g.line ∷ []; at = found; state = g.state }))

  -- rounds, until the found rules clash alone
  abbrev pub rounds : ℕ → ℕ → List ℕ → ℕ → ℕ → S → Option (Came S)
  rounds zero fuel cs found n s = None
  rounds (suc i) fuel cs found n s = then (run found s) (rounded (rounds i fuel cs) fuel cs found n)

  -- the core, and the lines of all runs
  abbrev pub fit_end : Line → List Line → Came S → Option (Fitting S O)
  fit_end l ls c = Some (record { lines = l ∷ (ls ++ c.lines); out = core c.at; state = c.state })

  -- the rounds over the candidates
  abbrev pub from_candidates : ℕ → Line → Came S → Option (Fitting S O)
  from_candidates fuel l c = then (rounds fuel fuel (members c.at) 0 (size c.at) c.state) (fit_end l c.lines)

  -- after the run of all rules that are on
  abbrev pub first_run : ℕ → Once S O → Option (Fitting S O)
  first_run fuel g =
      let more = then (shrink fuel g.line g.state) (from_candidates fuel g.line) in
      by_verdict g.line.verdict (Some (record { lines = g.line ∷ []; out = left g.left; state = g.state })) more

  -- a whole Fit
  abbrev pub fit : ℕ → ℕ → S → Option (Fitting S O)
  fit fuel on s = then (run on s) (first_run fuel)
