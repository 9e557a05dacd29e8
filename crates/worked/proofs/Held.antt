-- The files of the worked sheets are read, and what is read is those sheets. Assumes nothing.
use Rattle.std.proofs.Common.{◌≡◌, ℕ, ◌+◌, ◌<◌, List, [], ◌∷◌, ◌++◌, length, map, take, get_or, Err, Ok, Result, sym, refl, ap, ◌∙◌, subst, subst₂, arith}
use Rattle.std.proofs.lemmas.List.{take_more}
use Rattle.calls.specs.declared.call.Call.{Call}
use Rattle.calls.specs.declared.step.Step.{Step}
use Rattle.calls.specs.Sheet.{Enough}
use Rattle.calls.specs.Plays.{sizes}
use Rattle.sheets.specs.declared.fault.LoadFault.{LoadFault}
use Rattle.sheets.specs.declared.stores.Extent.{Extent}
use Rattle.sheets.specs.Sheet.{file_of}
use Rattle.sheets.specs.Stored.{Contents, Enough as Roomy, extent_of}
use Rattle.sheets.proofs.Exact.{read_unique}
use Rattle.load.specs.Load.{ReadSheet, Exact}
use Rattle.sheet_books.specs.Books.{Holds}
use Rattle.storage.proofs.Outcomes.{holds_read}
use Rattle.worked.specs.declared.example.Example.{Example}
use Rattle.worked.specs.declared.example.Example.TheVariants.{Opposed, LoneRule, NothingPermitted, NothingForbidden, Freed}
use Rattle.worked.specs.Shows.{Make}
use Rattle.worked.specs.Examples.{lists, sheet_of}
use Rattle.worked.proofs.Telling.{good, short}

three_lists : (x : Example) → (sheet_of x).lists ≡ lists
three_lists Opposed = refl
three_lists LoneRule = refl
three_lists NothingPermitted = refl
three_lists NothingForbidden = refl
three_lists Freed = refl

-- what stands in the stores after the file of a worked sheet was read, and lists and a book that mean it
pub held_sheet : (x : Example) (file : List ℕ) (before after : Contents) (e : Extent) → file ≡ file_of (sheet_of x) → ReadSheet file before after e → Holds after e (sheet_of x)
held_sheet x file before after e is r =
    subst (Holds after e) (read_unique file r.sheet (sheet_of x) r.read (record { good = good x; said = is })) (holds_read file before after e r)

pub lists_held : (x : Example) (lengths : List ℕ) → lengths ≡ map length (sheet_of x).lists → lengths ≡ map length lists
lists_held x lengths e = e ∙ ap (map length) (three_lists x)

pub not_refused : (x : Example) (file : List ℕ) (before : Contents) (f : LoadFault) → file ≡ file_of (sheet_of x) → Roomy before → Exact file before (Err f) → ⊥
not_refused x file before f is enough e =
    apart (extent_of (sheet_of x)) (e.reads (record { short = let h = short x in omega (arith, ap length is); enough = enough }) (sheet_of x) (record { good = good x; said = is }))
  where
    apart : (x : Extent) → ◌≡◌ {A = Result Extent LoadFault} (Err f) (Ok x) → ⊥
    apart x e = let z : ◌≡◌ {A = ℕ} 0 1 = cc in omega arith

-- one more step
pub make_more : (cs : List Call) (bs : List Step) (c : Call) (b : Step) → Make cs bs → (b.call ≡ c) × Enough (sizes b.buffers) → Make (cs ++ (c ∷ [])) (bs ++ (b ∷ []))
make_more [] [] c b m p = (p, tt)
make_more [] (x ∷ bs) c b m p = absurd m
make_more (d ∷ cs) [] c b m p = absurd m
make_more (d ∷ cs) (x ∷ bs) c b m p = (m.0, make_more cs bs c b m.1 p)

pub make_at : (cs : List Call) (bs all : List Step) (i : ℕ) (d : Call) (b : Step) → i < length cs → Make (take i cs) bs → (b.call ≡ get_or cs i d) × Enough (sizes b.buffers) → all ≡ bs ++ (b ∷ []) → Make (take (i + 1) cs) all
make_at cs bs all i d b l m p e = subst₂ Make (sym (take_more cs i d l)) (sym e) (make_more (take i cs) bs (get_or cs i d) b m p)
