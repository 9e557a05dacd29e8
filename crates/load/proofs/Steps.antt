-- A field that is read leads from the sheet read so far to the next; one that is refused is the fault of the file. Assumes nothing.
use Rattle.std.proofs.Common.{◌≡◌, ℕ, ◌+◌, ◌-◌, ◌*◌, ◌/◌, ◌%◌, ◌<◌, ◌≤◌, ◌≢◌, List, [], ◌∷◌, ◌++◌, length, get_or, take, drop, ℤ, sym, refl, ap, ◌∙◌, subst, inl, inr, append_assoc, arith, length-append, take-append-drop}
use Rattle.std.proofs.lemmas.List.{drop-drop, get_or-drop, length-take-le}
use Rattle.formulas.specs.declared.fault.Flaw.{Flaw}
use Rattle.formulas.specs.Faults.{First}
use Rattle.formulas.specs.Tree.{text}
use Rattle.sheets.specs.declared.fault.RuleFault.TheVariants.{List as ListFault, Rows as RowsFault, Formula as InFormula}
use Rattle.sheets.specs.declared.fault.LoadFault.{LoadFault}
use Rattle.sheets.specs.declared.fault.LoadFault.TheVariants.{Rule}
use Rattle.sheets.specs.declared.stores.Extent.{Extent}
use Rattle.sheets.specs.Sheet.{Sheet, RowsField, Field, field_bytes, bytes_of, list_bytes, rows_bytes, GoodList, GoodRows, GoodFormula, Good, empty, with_list, with_rows, with_formula}
use Rattle.sheets.specs.Reading.{Fits, cell, rows, formula, end, Full, Wrong, bad_list, bad_rows, bad_formula, RefusedWith}
use Rattle.sheets.specs.Stored.{extent_of}
use Rattle.sheets.proofs.Adds.{Adds, adds_list, adds_rows, adds_formula, adds_good, adds_bytes}
use Rattle.sheets.proofs.Storing.{places_within, nodes_within}
use Rattle.load.specs.declared.loading.Loading.{Loading}
use Rattle.sheets.specs.declared.tag.Tag.{Tag}
use Rattle.sheets.specs.declared.tag.Tag.TheVariants.{Cell, Rows, Formula}
use Rattle.load.specs.Fields.{Content, Headed, Begun, Room, Holds, Added, Advanced}

-- what is said of the next field is said of the file
pub refused_at : (file : List ℕ) (at : ℕ) (s : Sheet) (e : LoadFault) → Begun file at s → Wrong s at (drop at file) e → RefusedWith file e
refused_at file at s e b w = record {
  before = s;
  good = b.good;
  rest = drop at file;
  said = b.said;
  wrong = subst (λ k. Wrong s k (drop at file) e) b.here w;
}

-- what a tag that can come says of the fields before
fits_cell : (s : Sheet) (t : ℕ) → t ≡ 1 → Fits s t → (s.rows ≡ []) × (s.formulas ≡ [])
fits_cell s t i (cell p q) = (p, q)
fits_cell s t i (rows q) = absurd (omega (arith, i))
fits_cell s t i formula = absurd (omega (arith, i))
fits_cell s t i end = absurd (omega (arith, i))

fits_rows : (s : Sheet) (t : ℕ) → t ≡ 2 → Fits s t → s.formulas ≡ []
fits_rows s t i (cell p q) = absurd (omega (arith, i))
fits_rows s t i (rows q) = q
fits_rows s t i formula = absurd (omega (arith, i))
fits_rows s t i end = absurd (omega (arith, i))

few_cells : (s : Sheet) → Good s → (Full s 1 → ⊥) → length s.lists < 64
few_cells s g n = let ne : length s.lists ≢ 64 = λ e. n (inl (refl, e)) in omega (arith, g.few_cells)

few_rules : (s : Sheet) (t : ℕ) → Good s → t ≢ 1 → (Full s t → ⊥) → length s.rows + length s.formulas < 64
few_rules s t g i n = let ne : length s.rows + length s.formulas ≢ 64 = λ e. n (inr (i, e)) in omega (arith, g.few_rules)

module _ (file : List ℕ) (at : ℕ) (s : Sheet) (b : Begun file at s) (size : ℕ) (low : get_or file (at + 2) 0 < 256) where
  -- the content, as the file is cut, and what comes after it
  abbrev part : List ℕ
  part = take (at + 3 + size - (at + 3)) (drop (at + 3) file)

  abbrev later : List ℕ
  later = drop (at + 3 + size) file

  part_is : part ≡ take size (drop (at + 3) file)
  part_is = let long : at + 3 + size - (at + 3) ≡ size = omega arith in ap (λ n. take n (drop (at + 3) file)) long

  module _ (tag : ℕ) (h : Content s (drop at file) tag size) where
    rest_is : h.rest ≡ drop (at + 3) file
    rest_is = ap (λ l. drop 3 l) (sym h.is) ∙ drop-drop 3 at file

    low_is : h.low ≡ get_or file (at + 2) 0
    low_is = ap (λ l. get_or l 2 0) (sym h.is) ∙ get_or-drop at file 2 0

    rest_parts : h.rest ≡ part ++ later
    rest_parts =
        rest_is ∙ sym (take-append-drop size (drop (at + 3) file))
        ∙ (λ i. sym part_is i ++ drop-drop size (at + 3) file i)

    pieces : drop at file ≡ tag ∷ h.high ∷ h.low ∷ (part ++ later)
    pieces = h.is ∙ ap (λ l. tag ∷ h.high ∷ h.low ∷ l) rest_parts

    part_long : length part ≡ size
    part_long = ap length part_is ∙ length-take-le size (drop (at + 3) file) (subst (λ l. size ≤ length l) rest_is h.whole)

    part_said : length part ≡ h.high * 256 + h.low
    part_said = part_long ∙ h.long

    refuse : (e : LoadFault) → Wrong s at (tag ∷ h.high ∷ h.low ∷ (part ++ later)) e → RefusedWith file e
    refuse e w = refused_at file at s e b (subst (λ l. Wrong s at l e) (sym pieces) w)

    bytes_are : (f : Field) → f.tag ≡ tag → f.content ≡ part → field_bytes f ≡ tag ∷ h.high ∷ h.low ∷ part
    bytes_are f t c =
        let n : length f.content ≡ h.high * 256 + h.low = ap length c ∙ part_said in
        let hi : length f.content / 256 ≡ h.high = omega (arith, n, low_is, low) in
        let lo : length f.content % 256 ≡ h.low = omega (arith, n, low_is, low) in
        λ i. t i ∷ hi i ∷ lo i ∷ c i

    begun_next : (f : Field) (t : Sheet) → Adds s f t → f.tag ≡ tag → f.content ≡ part → Begun file (at + 3 + size) t
    begun_next f t a i c =
        let bytes : bytes_of t ≡ bytes_of s ++ (tag ∷ h.high ∷ h.low ∷ part) = adds_bytes a ∙ ap (λ l. bytes_of s ++ l) (bytes_are f i c) in
        record {
          good = adds_good b.good a;
          here = omega (arith, b.here, part_long, ap length bytes, length-append (bytes_of s) (tag ∷ h.high ∷ h.low ∷ part));
          said = b.said ∙ ap (λ l. bytes_of s ++ l) pieces ∙ sym (append_assoc (bytes_of s) (tag ∷ h.high ∷ h.low ∷ part) later) ∙ ap (λ l. l ++ later) (sym bytes);
        }

    advance : (f : Field) (t : Sheet) (after : Loading) → Adds s f t → f.tag ≡ tag → f.content ≡ part → Holds after t → Advanced file at after (at + 3 + size)
    advance f t after a i c k = record { sheet = t; begun = begun_next f t a i c; holds = k; further = omega arith }

  -- what comes next, by its tag
  module _ (t : Tag) (next : Headed s (drop at file) t size) where
    module _ (is : t ≡ Cell) where
      list_head : Content s (drop at file) 1 size
      list_head = subst (λ x. Headed s (drop at file) x size) is next

      pub advance_list : (after : Loading) → Added GoodList list_bytes (with_list s) part after → Advanced file at after (at + 3 + size)
      advance_list after k =
          let p = fits_cell s 1 refl list_head.fits in
          advance 1 list_head _ _ after (adds_list k.part p.0 p.1 (few_cells s b.good list_head.room) k.good) refl (sym k.said) k.holds

      pub refuse_list : ((zs : List ℤ) → GoodList zs → part ≡ list_bytes zs → ⊥) → RefusedWith file (Rule (ListFault at))
      refuse_list n = refuse 1 list_head _ (bad_list part later list_head.fits list_head.room (part_said 1 list_head) n)

    module _ (is : t ≡ Rows) where
      rows_head : Content s (drop at file) 2 size
      rows_head = subst (λ x. Headed s (drop at file) x size) is next

      pub advance_rows : (after : Loading) → Added (GoodRows s.lists) rows_bytes (with_rows s) part after → Advanced file at after (at + 3 + size)
      advance_rows after k =
          let few = few_rules s 2 b.good (λ i. omega (arith, i)) rows_head.room in
          advance 2 rows_head _ _ after (adds_rows k.part (fits_rows s 2 refl rows_head.fits) few k.good) refl (sym k.said) k.holds

      pub refuse_rows : ((x : RowsField) → GoodRows s.lists x → part ≡ rows_bytes x → ⊥) → RefusedWith file (Rule (RowsFault at))
      refuse_rows n = refuse 2 rows_head _ (bad_rows part later rows_head.fits rows_head.room (part_said 2 rows_head) n)

    module _ (is : t ≡ Formula) where
      formula_head : Content s (drop at file) 3 size
      formula_head = subst (λ x. Headed s (drop at file) x size) is next

      pub advance_formula : (after : Loading) → Added (GoodFormula s.lists) text (with_formula s) part after → Advanced file at after (at + 3 + size)
      advance_formula after k =
          let few = few_rules s 3 b.good (λ i. omega (arith, i)) formula_head.room in
          advance 3 formula_head _ _ after (adds_formula k.part few k.good) refl (sym k.said) k.holds

      pub refuse_formula : (f : Flaw) (j : ℕ) → First (length s.lists) part f j → RefusedWith file (Rule (InFormula (record { flaw = f; offset = at + 3 + j })))
      refuse_formula f j first = refuse 3 formula_head _ (bad_formula part later formula_head.room (part_said 3 formula_head) first)

pub begun_within : (file : List ℕ) (at : ℕ) (s : Sheet) → Begun file at s → at ≤ length file
begun_within file at s b = omega (arith, b.here, ap length b.said, length-append (bytes_of s) (drop at file))

-- there is always room for the next field
pub room_at : (file : List ℕ) (at : ℕ) (s : Sheet) (e : Extent) → length file ≤ 32768 → Begun file at s → e ≡ extent_of s → Room file at e
room_at file at s e short b i = record {
  short = short;
  within = begun_within file at s b;
  places = omega (arith, ap (λ (x : Extent). x.places) i, places_within s, b.here);
  nodes = omega (arith, ap (λ (x : Extent). x.nodes) i, nodes_within s, b.here);
}

-- before the first field
pub begun_empty : (file : List ℕ) → Begun file 0 empty
begun_empty file = record {
  good = record { few_cells = omega arith; few_rules = omega arith; lists = tt; rows = tt; formulas = tt };
  here = refl;
  said = refl;
}
