-- A Fit's runs, over any relation of runs: R s l o t says that a run from the state s writes the line l, leaves o, and ends in the state t. Assumes nothing.
use Rattle.std.specs.Prelude.{◌≡◌, ℕ, ◌+◌, ◌-◌, ◌/◌, ◌^◌, ◌<◌, ◌≢◌, List, [], ◌∷◌, ◌++◌, take, bit_or, slice_index}
use Rattle.bits.specs.Sets.{Subset, members, size, set_of}
use Rattle.runs.specs.declared.line.Line.{Line}
use Rattle.runs.specs.declared.line.Verdict.{Verdict}
use Rattle.runs.specs.declared.line.Verdict.TheVariants.{Met, Unmet}
use Rattle.runs.specs.Law.{Right}
use Rattle.cores.specs.Core.{Outcome, Outcome.left, Outcome.core}

-- a set with the first j of some rules
abbrev pub with_first : ℕ → ℕ → List ℕ → ℕ
with_first found j rules = bit_or found (set_of (take j rules))

-- a set with the rule at place j, from 1, of some rules
abbrev pub with_rule : ℕ → ℕ → List ℕ → ℕ
with_rule found j rules = bit_or found (2 ^ slice_index rules (j - 1))

-- what is asked of the runs: every line is right, where Fits a says that some filling meets the rules of a, and so meets any fewer
pub record Lawful {S O : Type 0} (R : S → Line → O → S → Type 0) (Fits : ℕ → Type 0) : Type 0 where
  pub right : {s t : S} {l : Line} {o : O} → R s l o t → Right Fits l
  pub less : (a b : ℕ) → Subset a b → Fits b → Fits a

module _ {S O : Type 0} (R : S → Line → O → S → Type 0) where
  -- a run that lists a, with the verdict v
  pub record Gives (a : ℕ) (v : Verdict) (s : S) (l : Line) (o : O) (t : S) : Type 0 where
    pub run : R s l o t
    pub lists : l.listed ≡ a
    pub says : l.verdict ≡ v

  -- from a run that wrote the line l: runs of what the run before used, as long as that was not all that it listed; the rules of the last run are the candidates
  pub data Shrinks : Line → S → List Line → ℕ → S → Type 0 where
    all : {s : S} {l : Line} → l.used ≡ l.listed → Shrinks l s [] l.listed s
    fewer : {c : ℕ} {s t u : S} {o : O} {l m : Line} {ls : List Line} → l.used ≢ l.listed
        → Gives l.used Unmet s m o t → Shrinks m t ls c u → Shrinks l s (m ∷ ls) c u

  -- the smallest j such that the found rules clash together with the candidates up to the j-th, sought by halving between two bounds until they meet: each middle is a run.
  -- Where the rules up to the middle clash, it is the new upper bound (down); otherwise the place after it is the new lower one (up)
  pub data Halves (found : ℕ) (cs : List ℕ) : ℕ → ℕ → S → List Line → ℕ → S → Type 0 where
    met : {lo hi : ℕ} {s : S} → lo ≡ hi → Halves found cs lo hi s [] lo s
    down : {lo hi j : ℕ} {s t u : S} {o : O} {l : Line} {ls : List Line} → lo < hi
        → Gives (with_first found ((lo + hi) / 2) cs) Unmet s l o t → Halves found cs lo ((lo + hi) / 2) t ls j u → Halves found cs lo hi s (l ∷ ls) j u
    up : {lo hi j : ℕ} {s t u : S} {o : O} {l : Line} {ls : List Line} → lo < hi
        → Gives (with_first found ((lo + hi) / 2) cs) Met s l o t → Halves found cs ((lo + hi) / 2 + 1) hi t ls j u → Halves found cs lo hi s (l ∷ ls) j u

  -- rounds, with the first n candidates left: the found rules run alone, and where none meets them they are the core;
  -- otherwise candidate j is found, and only those before it are left
  pub data Rounds (cs : List ℕ) : ℕ → ℕ → S → List Line → ℕ → S → Type 0 where
    alone : {found n : ℕ} {s t : S} {o : O} {l : Line} → Gives found Unmet s l o t → Rounds cs found n s (l ∷ []) found t
    round : {found n j c : ℕ} {s t u w : S} {o : O} {l : Line} {ls ms : List Line} → Gives found Met s l o t
        → Halves found cs 1 n t ls j u → Rounds cs (with_rule found j cs) (j - 1) u ms c w → Rounds cs found n s (l ∷ (ls ++ ms)) c w

  -- a whole Fit: its first run lists the rules that are on, and where some filling meets them it is done;
  -- otherwise the used rules shrink to the candidates, and rounds from no found rule find the core
  pub data Fit (on : ℕ) : S → List Line → Outcome O → S → Type 0 where
    fills : {s t : S} {o : O} {l : Line} → Gives on Met s l o t → Fit on s (l ∷ []) (left o) t
    clashes : {c found : ℕ} {s t u w : S} {o : O} {l : Line} {ls ms : List Line} → Gives on Unmet s l o t → Shrinks l t ls c u
        → Rounds (members c) 0 (size c) u ms found w → Fit on s (l ∷ (ls ++ ms)) (core found) w
