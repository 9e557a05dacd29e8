-- Any sequence of calls on a session, one after another. Assumes nothing.
use Rattle.std.specs.Prelude.{◌≡◌, ℕ, ◌≢◌, List, [], ◌∷◌, vec_items, vec_len}
use Rattle.clash.specs.declared.fitted.Fitted.{Fitted as Values}
use Rattle.calls.specs.declared.call.Call.TheVariants.{Fit}
use Rattle.calls.specs.declared.step.Buffers.{Buffers}
use Rattle.calls.specs.declared.step.Step.{Step}
use Rattle.calls.specs.Answers.{said, plain, returned}
use Rattle.calls.specs.Sheet.{Sheet, Sizes, Judged}
use Rattle.calls.specs.History.{Did}

-- the lengths of the buffers
abbrev pub sizes : Buffers → Sizes
sizes b = record { work = vec_len b.work; log = vec_len b.log; filling = vec_len b.filling }

-- a call that was made, with its answer
abbrev pub did : Step → Did
did s = record { call = s.call; answer = s.answer }

-- the step a makes the same call as b, and its buffers are as those of b
pub record Untouched (b a : Step) : Type 0 where
  pub call : a.call ≡ b.call
  pub work : vec_items a.buffers.work ≡ vec_items b.buffers.work
  pub log : vec_items a.buffers.log ≡ vec_items b.buffers.log
  pub filling : vec_items a.buffers.filling ≡ vec_items b.buffers.filling

-- S is what lasts from Fit to Fit. A step is a call with its buffers and its answer: b as it was before the call, a as it is after it.
-- F h s b a f t says what a Fit does after the calls h, the latest first: from s, and with the step b, it comes to the step a, returns f, and leaves t
module _ {S : Type 0} (sheet : Sheet) (F : List Did → S → Step → Step → Values → S → Type 0) where
  -- one call after the calls h: refused as it is judged, it changes nothing; otherwise it is done, and only a Fit touches its buffers and what lasts
  pub data Makes (h : List Did) : S → Step → Step → S → Type 0 where
    refused : {s : S} {b a : Step} {n : ℕ} → Judged sheet (sizes b.buffers) b.call n → n ≢ 0 → said a.answer ≡ plain n → Untouched b a → Makes h s b a s
    changed : {s : S} {b a : Step} → Judged sheet (sizes b.buffers) b.call 0 → b.call ≢ Fit → said a.answer ≡ plain 0 → Untouched b a → Makes h s b a s
    fitted : {s t : S} {b a : Step} {f : Values} → Judged sheet (sizes b.buffers) b.call 0 → b.call ≡ Fit → said a.answer ≡ returned f → a.call ≡ b.call → F h s b a f t → Makes h s b a t

  -- calls one after another, after the calls h
  pub data Plays : List Did → S → List Step → List Step → S → Type 0 where
    none : {h : List Did} {s : S} → Plays h s [] [] s
    more : {h : List Did} {s t u : S} {b a : Step} {before after : List Step} → Makes h s b a t → Plays (did a ∷ h) t before after u → Plays h s (b ∷ before) (a ∷ after) u
