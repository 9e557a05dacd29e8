-- What the lines of a script say. Assumes nothing.
use Rattle.std.specs.Prelude.{ℕ, Bool, true, false, List, [], ◌∷◌, replicate, codes, fold, slice_set, Option, MatchOption, ◌==◌}
use Rattle.std.specs.List.{slice_split, AllByRecursion, AllZip}
use Rattle.calls.specs.declared.call.Call.TheVariants.{Pin, Free, Switch, Fit}
use Rattle.script.specs.declared.line.Line.{Line}
use Rattle.script.specs.declared.line.Line.TheVariants.{Blank, Call, Turn, NotUnderstood}
use Rattle.script.specs.Words.{words_of, IsNumber, rule_number, cell_number}

-- the flags of the rules 0 to 63: set for those that are named, and for no others; no later rule has one
abbrev pub flags_of : List (List ℕ) → List Bool
flags_of ws = fold (λ flags w. slice_set flags (rule_number w) true) (replicate 64 false) ws

-- the word for on, and that for off
abbrev pub on_word : Bool → List ℕ
on_word true = codes "on"
on_word false = codes "off"

-- what the words of a line say
pub data Says : List (List ℕ) → Line → Type 0 where
  -- a line without words, and one that begins with #
  blank : Says [] Blank
  comment : {w : List ℕ} {ws : List (List ℕ)} → Says ((35 ∷ w) ∷ ws) Blank
  -- pin CELL PLACE
  pin : {c p : List ℕ} → IsNumber c → IsNumber p → Says (codes "pin" ∷ c ∷ p ∷ []) (Call (Pin (cell_number c) (cell_number p)))
  -- free CELL
  free : {c : List ℕ} → IsNumber c → Says (codes "free" ∷ c ∷ []) (Call (Free (cell_number c)))
  -- switch RULE on, and switch RULE off
  switch : {r : List ℕ} {on : Bool} → IsNumber r → Says (codes "switch" ∷ r ∷ on_word on ∷ []) (Call (Switch (rule_number r) on))
  -- fit
  fit : Says (codes "fit" ∷ []) (Call Fit)
  -- turn RULE RULE ..
  turn : {rs : List (List ℕ)} → AllByRecursion IsNumber rs → Says (codes "turn" ∷ rs) (Turn (flags_of rs))

-- what is said, if anything is
abbrev pub Decided : List (List ℕ) → Option Line → Type 0
Decided ws o = MatchOption o ((l : Line) → Says ws l → ⊥) (λ l. Says ws l)

-- a line is read as what its words say, and is not understood where they say nothing
pub data ReadAs (text : List ℕ) : Line → Type 0 where
  understood : {l : Line} → Says (words_of text) l → ReadAs text l
  nothing : ((l : Line) → Says (words_of text) l → ⊥) → ReadAs text NotUnderstood

-- the lines of a script: what stands between its newline bytes
abbrev pub texts_of : List ℕ → List (List ℕ)
texts_of script = slice_split (λ b. b == 10) script

-- these are the lines of a script, each read as what it says
abbrev pub IsScript : List ℕ → List Line → Type 0
IsScript script ls = AllZip ReadAs (texts_of script) ls
