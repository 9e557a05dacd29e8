-- The number and the values of each answer. Assumes nothing.
use Rattle.std.specs.Prelude.{ℕ, Some, None, Ok, Err, Option, Result}
use Rattle.clash.specs.declared.fitted.Fitted.{Fitted as Values}
use Rattle.calls.specs.declared.refusal.Refusal.{Refusal}
use Rattle.calls.specs.declared.refusal.Refusal.TheVariants.{Lists, TooManyRules, MissingCell, Shut, NoCell, NoPlace, NoRule, ShortBuffer}
use Rattle.calls.specs.declared.answer.Answer.{Answer}
use Rattle.calls.specs.declared.answer.Answer.TheVariants.{Done, Fitted, Refused}

-- the number of a refusal
abbrev pub number_of : Refusal → ℕ
number_of Lists = 11
number_of TooManyRules = 12
number_of MissingCell = 13
number_of Shut = 14
number_of NoCell = 15
number_of NoPlace = 16
number_of NoRule = 17
number_of ShortBuffer = 18

-- what an answer says: its refusal's number, 0 where the call was not refused; and what a Fit returned, its line count and its core, if any
pub record Said : Type 0 where
  pub number : ℕ
  pub values : Option Values

-- an answer without values
abbrev pub plain : ℕ → Said
plain n = record { number = n; values = None }

-- a Fit's answer
abbrev pub returned : Values → Said
returned f = record { number = 0; values = Some f }

-- what each answer says
abbrev pub said : Answer → Said
said Done = plain 0
said (Fitted f) = returned f
said (Refused r) = plain (number_of r)

-- the answer to a Pin, a Free or a Switch, from what the call returns
abbrev pub to_change : Result (Unit {0}) Refusal → Answer
to_change (Ok u) = Done
to_change (Err r) = Refused r

-- the answer to a Fit, from what it returns
abbrev pub to_fit : Result Values Refusal → Answer
to_fit (Ok f) = Fitted f
to_fit (Err r) = Refused r
