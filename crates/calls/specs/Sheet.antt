-- What a session is made of, and when its calls are refused. Assumes nothing.
use Rattle.std.specs.Prelude.{ℕ, ◌<◌, ◌≤◌, Bool, List, length, slice_index, slice_index_or}
use Rattle.network.specs.Book.{Rule, BookMeaning}
use Rattle.calls.specs.declared.call.Call.{Call}
use Rattle.calls.specs.declared.call.Call.TheVariants.{Pin, Free, Switch, Fit}

-- the length of each cell's list, and the book's meaning
pub record Sheet : Type 0 where
  pub lengths : List ℕ
  pub book : BookMeaning

-- the sheet of these lengths and this book
abbrev pub sheet : List ℕ → BookMeaning → Sheet
sheet lengths book = record { lengths = lengths; book = book }

-- how many cells there are
abbrev pub cells : Sheet → ℕ
cells s = length s.lengths

-- how many places the list of the cell c has
abbrev pub places : Sheet → ℕ → ℕ
places s c = slice_index s.lengths c

-- 1 to 64 cells, each with a list of 1 to 64 places
pub record Listed (lengths : List ℕ) : Type 0 where
  pub some : 1 ≤ length lengths
  pub few : length lengths ≤ 64
  pub long : (c : ℕ) → c < length lengths → 1 ≤ slice_index lengths c
  pub short : (c : ℕ) → c < length lengths → slice_index lengths c ≤ 64

-- every cell that the rule names is one of the first n
abbrev pub Within : Rule → ℕ → Type 0
Within rule n = (i : ℕ) → i < length rule.cells → slice_index_or rule.cells i 255 < n

-- every cell that a rule names is there
abbrev pub Named : BookMeaning → ℕ → Type 0
Named m n = (r : ℕ) → r < m.count → Within (m.rule r) n

-- what Open's check answers: 0 where it passes, or the number of the first reason to refuse: 11 for the lists, 12 for more than 64 rules,
-- 13 for a rule that names a missing cell
pub data Checked (s : Sheet) : ℕ → Type 0 where
  passes : Listed s.lengths → s.book.count ≤ 64 → Named s.book (cells s) → Checked s 0
  lists : (Listed s.lengths → ⊥) → Checked s 11
  rules : Listed s.lengths → 64 < s.book.count → Checked s 12
  missing : Listed s.lengths → s.book.count ≤ 64 → (Named s.book (cells s) → ⊥) → Checked s 13

-- a session made of what passes is open, and one made of what is refused is shut
abbrev pub Opens : Sheet → Type 0
Opens s = Checked s 0

-- the lengths of the buffers that a call is handed
pub record Sizes : Type 0 where
  pub work : ℕ
  pub log : ℕ
  pub filling : ℕ

-- they are long enough for a Fit
pub record Enough (z : Sizes) : Type 0 where
  pub work : 4096 ≤ z.work
  pub log : 450 ≤ z.log
  pub filling : 64 ≤ z.filling

-- how a call is judged: with 0 where it is done, or with the number of the first reason to refuse it: 14 for a shut session, 15 for a missing cell,
-- 16 for a missing place, 17 for a missing rule, 18 for a buffer that is too short
pub data Judged (s : Sheet) (z : Sizes) : Call → ℕ → Type 0 where
  shut : {call : Call} → (Opens s → ⊥) → Judged s z call 14
  pins : {cell place : ℕ} → Opens s → cell < cells s → place < places s cell → Judged s z (Pin cell place) 0
  pins_no_cell : {cell place : ℕ} → Opens s → cells s ≤ cell → Judged s z (Pin cell place) 15
  pins_no_place : {cell place : ℕ} → Opens s → cell < cells s → places s cell ≤ place → Judged s z (Pin cell place) 16
  frees : {cell : ℕ} → Opens s → cell < cells s → Judged s z (Free cell) 0
  frees_no_cell : {cell : ℕ} → Opens s → cells s ≤ cell → Judged s z (Free cell) 15
  switches : {rule : ℕ} {on : Bool} → Opens s → rule < s.book.count → Judged s z (Switch rule on) 0
  switches_no_rule : {rule : ℕ} {on : Bool} → Opens s → s.book.count ≤ rule → Judged s z (Switch rule on) 17
  fits : Opens s → Enough z → Judged s z Fit 0
  fits_short : Opens s → (Enough z → ⊥) → Judged s z Fit 18
