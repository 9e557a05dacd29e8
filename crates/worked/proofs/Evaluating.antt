-- The calls of a session, evaluated. Assumes nothing.
use Rattle.std.proofs.Common.{ℕ, zero, suc, ◌^◌, Bool, true, cond, ◌&&◌, List, [], ◌∷◌, length, get_or, map, Some, None, Option, nat_lt}
use Rattle.network.specs.Book.{BookMeaning}
use Rattle.choosers.specs.Choice.{Machine}
use Rattle.runs.specs.declared.line.Line.{Line}
use Rattle.cores.specs.Core.{Outcome, Outcome.left, Outcome.core}
use Rattle.clash.specs.Running.{Lasting}
use Rattle.calls.specs.declared.call.Call.{Call}
use Rattle.calls.specs.declared.call.Call.TheVariants.{Pin, Free, Switch, Fit}
use Rattle.calls.specs.Sheet.{sheet}
use Rattle.calls.specs.History.{Did, on_after}
use Rattle.calls.specs.Runs.{start_after}
use Rattle.worked.specs.Shows.{Shown, done, filled, clashed, answer_of}
use Rattle.worked.proofs.Evaluation.{then, lowest, same_list, run, fit}

-- the test holds below n
abbrev pub all? : (ℕ → Bool) → ℕ → Bool
all? p zero = true
all? p (suc n) = all? p n && p n

-- the place of the least number of the mask, or 0
abbrev pub or_zero : Option ℕ → ℕ
or_zero None = 0
or_zero (Some v) = v

-- the same of each set
abbrev pub singles : List ℕ → List ℕ
singles sets = map (λ s. or_zero (lowest 64 s 0)) sets

-- what one call shows and leaves
pub record Doing (C : Type 0) : Type 0 where
  pub shown : Shown
  pub after : Lasting C

-- what some calls show and leave
pub record Played (C : Type 0) : Type 0 where
  pub shown : List Shown
  pub after : Lasting C

-- what a Fit shows; its filling is read from sets of one place each
abbrev pub show_fit : List Line → Outcome (List ℕ) → Option Shown
show_fit lines (left sets) = let f = singles sets in cond (same_list sets (map (λ v. 2 ^ v) f)) (Some (filled lines f)) None
show_fit lines (core c) = Some (clashed lines c)

-- the call is not refused, by a session over lists of these lengths and so many rules
abbrev pub allowed? : List ℕ → ℕ → Call → Bool
allowed? lengths rules (Pin c v) = nat_lt c (length lengths) && nat_lt v (get_or lengths c 0)
allowed? lengths rules (Free c) = nat_lt c (length lengths)
allowed? lengths rules (Switch r on) = nat_lt r rules
allowed? lengths rules Fit = true

-- a session over lists of these lengths and the book is open
abbrev pub opens? : List ℕ → BookMeaning → Bool
opens? lengths m =
    nat_lt 0 (length lengths) && nat_lt (length lengths) 65
    && all? (λ c. nat_lt 0 (get_or lengths c 0) && nat_lt (get_or lengths c 0) 65) (length lengths)
    && nat_lt m.count 65
    && all? (λ r. all? (λ i. nat_lt (get_or (m.rule r).cells i 255) (length lengths)) (length (m.rule r).cells)) m.count

-- a call that shows s and leaves x
abbrev pub doing : {C : Type 0} → Lasting C → Shown → Option (Doing C)
doing x s = Some (record { shown = s; after = x })

-- the call with the answer that it shows
abbrev pub made : Call → Shown → Did
made c s = record { call = c; answer = answer_of s }

-- one call before the others
abbrev pub add_shown : {C : Type 0} → Shown → Played C → Option (Played C)
add_shown s p = Some (record { shown = s ∷ p.shown; after = p.after })

module _ {C : Type 0} (k : Machine C) (m : BookMeaning) (lengths : List ℕ) (fuel : ℕ) where
  -- a Fit after the calls h
  abbrev pub do_fit : List Did → Lasting C → Option (Doing C)
  do_fit h x =
      then (fit (run k m (start_after (sheet lengths m) h) fuel) fuel (on_after (sheet lengths m) h) x)
      (λ d. then (show_fit d.lines d.out) (doing d.state))

  -- a call after the calls h
  abbrev pub do_call : List Did → Lasting C → Call → Option (Doing C)
  do_call h x (Pin c v) = doing x done
  do_call h x (Free c) = doing x done
  do_call h x (Switch r on) = doing x done
  do_call h x Fit = do_fit h x

  -- calls one after another, none of them refused
  abbrev pub plays : List Call → List Did → Lasting C → Option (Played C)
  plays [] h x = Some (record { shown = []; after = x })
  plays (c ∷ cs) h x =
      let more = then (do_call h x c) (λ d. then (plays cs (made c d.shown ∷ h) d.after) (add_shown d.shown)) in
      cond (allowed? lengths m.count c) more None
