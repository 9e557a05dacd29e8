-- The text of a Fit on a sheet that was read into the stores, and the text for its file. Assumes nothing.
use Rattle.std.proofs.Common.{◌≡◌, ℕ, ◌+◌, ◌-◌, ◌*◌, ◌<◌, ◌≤◌, List, [], map, length, get_or, replicate, ℤ, pos, sym, ap, ◌∙◌, subst, arith}
use lib.ListN.{length-map}
use Rattle.std.proofs.lemmas.Option.{none-some}
use Rattle.network.specs.Book.{BookMeaning}
use Rattle.choosers.specs.Choice.{Machine}
use Rattle.calls.specs.Sheet.{Sheet, sheet, cells, places}
use Rattle.calls.specs.Promise.{filling_of, Ended, filled, clashed}
use Rattle.sheets.specs.declared.stores.Extent.{Extent}
use Rattle.sheets.specs.Sheet.{Sheet as Stated, GoodList}
use Rattle.sheets.specs.Stored.{Contents}
use Rattle.sheets.specs.Meaning.{Means, number_at}
use Rattle.sheet_books.specs.Books.{Holds}
use Rattle.bits.proofs.Lists.{each_map}
use Rattle.sheet_books.proofs.StoredNumbers.{spread, number_there, length_there}
use Rattle.answers.specs.Answers.{usual, usual_start, FitText, unopened, fits, clashes, SheetText}
use Rattle.answers.proofs.Telling.{fits_same}

-- only the numbers at places of the lists are told
fit_same : {C : Type 0} (k : Machine C) (c : C) (s : Sheet) (f g : ℕ → ℕ → ℤ) → ((x v : ℕ) → x < cells s → v < places s x → f x v ≡ g x v) → (t : List ℕ) → FitText k c s f t → FitText k c s g t
fit_same k c s f g h t (unopened j n) = unopened j n
fit_same k c s f g h t (fits {a = a} {f = values} o p r v) =
    subst (FitText k c s g)
    (sym (fits_same values.lines (cells s) (λ x. f x (get_or (filling_of s a) x 0)) (λ x. g x (get_or (filling_of s a) x 0)) (λ x l. h x (get_or (filling_of s a) x 0) l (listed p.ended x l))))
    (fits o p r v)
  where
    listed : Ended s [] a values → (x : ℕ) → x < cells s → get_or (filling_of s a) x 0 < places s x
    listed (filled z) x l = z.filling.listed x l
    listed (clashed z) x l = absurd (none-some z.rules (sym v ∙ z.is))
fit_same k c s f g h t (clashes o p r v) = clashes o p r v

module _ (h : Contents) (e : Extent) (s : Stated) (holds : Holds h e s) where
  -- the number at a place of a list stands in the stores
  number_stored : (c v : ℕ) → c < length s.lists → v < length (get_or s.lists c []) → get_or h.numbers (64 * c + v) (pos 0) ≡ number_at s.lists c v
  number_stored c v l m =
      ap (λ (x : Contents). get_or x.numbers (64 * c + v) (pos 0)) holds.held
      ∙ number_there s.lists (replicate (length holds.before.numbers - length (spread s.lists)) (pos 0)) (each_map GoodList (λ zs. length zs ≤ 64) s.lists (λ zs g. g.few) holds.good.lists) c v l m

  -- the text of one Fit over the sheet's lists and a book that means it
  pub sheet_text : (book : BookMeaning) → Means s book → (lengths t : List ℕ) → lengths ≡ map length s.lists
      → FitText usual usual_start (sheet lengths book) (λ c v. get_or h.numbers (64 * c + v) (pos 0)) t → SheetText s t
  sheet_text book means lengths t is text = record {
    book = book;
    means = means;
    fit =
        fit_same usual usual_start (sheet (map length s.lists) book) (λ c v. get_or h.numbers (64 * c + v) (pos 0)) (number_at s.lists)
        (λ c v l m. number_stored c v (omega (arith, length-map s.lists length)) (omega (arith, length_there s.lists c))) t
        (subst (λ x. FitText usual usual_start (sheet x book) (λ c v. get_or h.numbers (64 * c + v) (pos 0)) t) is text);
  }
