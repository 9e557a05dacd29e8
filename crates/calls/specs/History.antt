-- Which pins stand and which rules are on after some calls: by the calls and their answers alone. Assumes nothing.
use Rattle.std.specs.Prelude.{◌≡◌, ℕ, ◌<◌, Bool, true, cond, List, [], ◌∷◌, length, Some, None, filter, Option, ◌==◌, slice_index}
use Rattle.std.specs.List.{range_with_len}
use Rattle.bits.specs.Sets.{set_of}
use Rattle.network.specs.Fillings.{MeetsAll}
use Rattle.calls.specs.declared.call.Call.{Call}
use Rattle.calls.specs.declared.call.Call.TheVariants.{Pin, Free, Switch, Fit}
use Rattle.calls.specs.declared.answer.Answer.{Answer}
use Rattle.calls.specs.Answers.{said}
use Rattle.calls.specs.Sheet.{Sheet, cells, places}

-- a call and its answer
pub record Did : Type 0 where
  pub call : Call
  pub answer : Answer

-- the call was not refused
abbrev pub accepted : Did → Bool
accepted d = (said d.answer).number == 0

-- the pin of the cell c after a call that was not refused, where it was `was` before
abbrev pub pinned : Call → ℕ → Option ℕ → Option ℕ
pinned (Pin cell place) c was = cond (cell == c) (Some place) was
pinned (Free cell) c was = cond (cell == c) None was
pinned (Switch rule on) c was = was
pinned Fit c was = was

-- whether the rule r is on after such a call, where `was` says so of before
abbrev pub switched : Call → ℕ → Bool → Bool
switched (Pin cell place) r was = was
switched (Free cell) r was = was
switched (Switch rule on) r was = cond (rule == r) on was
switched Fit r was = was

-- the standing pin of the cell c after some calls, the latest first: an accepted Pin of the cell sets it, an accepted Free takes it off, and all else leaves it
abbrev pub standing : List Did → ℕ → Option ℕ
standing [] c = None
standing (d ∷ h) c = cond (accepted d) (pinned d.call c (standing h c)) (standing h c)

-- the rule r is on before all calls; after some calls, the latest first, it is as the latest accepted Switch of it has set it
abbrev pub is_on : List Did → ℕ → Bool
is_on [] r = true
is_on (d ∷ h) r = cond (accepted d) (switched d.call r (is_on h r)) (is_on h r)

-- each pin is a place of its cell's list
pub record Valid (lengths : List ℕ) (pins : ℕ → Option ℕ) : Type 0 where
  pub listed : (c v : ℕ) → c < length lengths → pins c ≡ Some v → v < slice_index lengths c

-- the set of the first n rules for which a test holds
abbrev pub set_where : (ℕ → Bool) → ℕ → ℕ
set_where on n = set_of (filter on (range_with_len 0 n))

-- the set of the rules that are on
abbrev pub on_after : Sheet → List Did → ℕ
on_after s h = set_where (is_on h) s.book.count

-- a filling under the standing pins: one place of its list for each cell, each standing pin kept
pub record Filling (s : Sheet) (h : List Did) (f : List ℕ) : Type 0 where
  pub long : length f ≡ cells s
  pub listed : (c : ℕ) → c < cells s → slice_index f c < places s c
  pub keeps : (c v : ℕ) → c < cells s → standing h c ≡ Some v → slice_index f c ≡ v

-- some filling under the standing pins meets the rules of the set
pub record Fillable (s : Sheet) (h : List Did) (rules : ℕ) : Type 0 where
  pub filling : List ℕ
  pub under : Filling s h filling
  pub meets : MeetsAll s.book rules filling
